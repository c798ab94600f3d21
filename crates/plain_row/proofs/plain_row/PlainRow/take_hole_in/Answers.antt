use Rattle.std.proofs.Common.{◌≡◌, refl, sym, ◌∙◌, ap, ℕ, ◌<◌, inl, get_or}
use Rattle.std.specs.Prelude.{Some, slice_get}
use Rattle.block_regions.specs.declared.block_notes.BlockNote.{BlockNote}
use Rattle.block_regions.specs.declared.block_notes.BlockNote.TheVariants.{Owned, Unowned}
use Rattle.plain_row.specs.declared.plain_row.PlainRow.{PlainRow}
use Rattle.plain_row.specs.Changes as changes
use Rattle.plain_row.specs.Worlds.{MayCall}
use Rattle.block_regions.proofs.Elements.{read-some}
use Rattle.plain_row.proofs.Turns as turns
use Rattle.plain_row.proofs.plain_row.PlainRow.take_hole_in.Goals as goal

-- the note that is read of a block
note-read : (w : PlainRow) → MayCall w → (k : ℕ) (n m : BlockNote) → k < w.row.layout.blocks → n ≡ get_or w.notes.items k n → n ≡ m → slice_get w.notes.items k ≡ Some m
note-read w ready k n m there read is =
    let now = ready.between_calls.some in
    read-some w.notes.items k n (turns.noted now.epoch now.ideal now.log w now.at k there) read ∙ ap (λ (y : BlockNote). Some y) is

pub returns-then-size-least-clause-found : goal.returns-then-size-least-clause-found
returns-then-size-least-clause-found c = λ yes.
    let w = c.args.self.now in
    let found = c.take_unowned.ensures.found yes in
    changes.taken c.in-Unowned.least found.0
    (note-read w c.requires.ready c.args.block c.index.result.now (Unowned c.in-Unowned.least) c.requires.block c.index.ensures c.in-Unowned.is)
    found.1 found.2

pub returns-then-size-least-clause-none : goal.returns-then-size-least-clause-none
returns-then-size-least-clause-none c = c.take_unowned.ensures.none

pub returns-else-size-least-clause-none : goal.returns-else-size-least-clause-none
returns-else-size-least-clause-none c = λ no.
    let w = c.args.self.now in
    changes.known c.in-Unowned.least
    (note-read w c.requires.ready c.args.block c.index.result.now (Unowned c.in-Unowned.least) c.requires.block c.index.ensures c.in-Unowned.is)
    c.if-size-least.false refl

pub returns-else-owner-number-clause-none : goal.returns-else-owner-number-clause-none
returns-else-owner-number-clause-none c = λ no.
    let w = c.args.self.now in
    let owner : ℕ = c.in-Owned.owner in
    let region = c.in-Owned.region in
    changes.foreign owner region (note-read w c.requires.ready c.args.block c.index.result.now (Owned owner region) c.requires.block c.index.ensures c.in-Owned.is)
    (inl (λ same. c.if-owner-number.false (same ∙ sym c.number.ensures))) refl
