use Rattle.std.proofs.Common.{◌≡◌, ◌∙◌, ℕ, ◌<◌, sym, subst, ap, refl, length, IsTrue}
use Rattle.std.specs.Prelude.{Some, slice_get}
use Rattle.object_model.specs.Objects.{state_of}
use Rattle.heap_layout.specs.Blocks.{IsValidWord}
use Rattle.heap_layout.specs.declared.block.Kind.{Kind}
use Rattle.mutator_core.proofs.Fills.{fill-not-free}
use Rattle.block_regions.specs.declared.block_notes.BlockNote.{BlockNote}
use Rattle.block_regions.specs.declared.block_notes.BlockNote.TheVariants.{Unowned, Owned}
use Rattle.plain_row.specs.Rows.{number_at_turn}
use Rattle.block_regions.proofs.Elements.{read-some}
use Rattle.block_regions.proofs.Lists.{one-element}
use Rattle.plain_row.proofs.OwnedLists.{world-room}
use Rattle.plain_row.proofs.Turns as turns
use Rattle.plain_row.proofs.plain_row.PlainRow.take_free_block.Goals as goal
use Rattle.sessions.specs.Plans.{has_holes}

pub is_free-requires-clause-extent : goal.is_free-requires-clause-extent
is_free-requires-clause-extent c = let now = c.requires.ready.between_calls.some in turns.extent now.epoch now.ideal now.log c.args.self.now now.at

pub take-requires-clause-extent : goal.take-requires-clause-extent
take-requires-clause-extent c = let now = c.requires.ready.between_calls.some in turns.extent now.epoch now.ideal now.log c.args.self.now now.at

pub take-requires-clause-valid : goal.take-requires-clause-valid
take-requires-clause-valid c =
    let now = c.requires.ready.between_calls.some in
    subst (λ (n : ℕ). IsValidWord (record { kind = c.args.self.now.fill; class = n; owner = number_at_turn c.args.self.now })) (sym c.class_of-class.ensures.class)
    (turns.own-valid now.epoch now.ideal now.log c.args.self.now now.at c.requires.ready.turn c.args.size)

pub returns-in-Owned-clause-none : goal.returns-in-Owned-clause-none
returns-in-Owned-clause-none c = λ _.
    let w = c.args.self.now in
    let now = c.requires.ready.between_calls.some in
    let there : c.args.block < length w.notes.items = turns.noted now.epoch now.ideal now.log w now.at c.args.block c.requires.block in
    let note : slice_get w.notes.items c.args.block ≡ Some (Owned c.in-Owned.owner c.in-Owned.region)
    = read-some w.notes.items c.args.block c.index.result.now there c.index.ensures ∙ ap (λ (n : BlockNote). Some n) c.in-Owned.is in
    let owned = turns.owned-note now.epoch now.ideal now.log w now.at c.args.block c.in-Owned.owner c.in-Owned.region note in
    let fills : IsTrue (has_holes w.fill) = subst (λ (k : Kind). IsTrue (has_holes k)) (sym now.at.fill) now.at.epoch.ready.fills in
    ((λ free. fill-not-free (state_of w.row) c.args.block w.fill fills owned.kind free), refl)

pub take-requires-clause-room : goal.take-requires-clause-room
take-requires-clause-room c =
    let now = c.requires.ready.between_calls.some in
    let w = c.args.self.now in
    let there : c.args.block < length w.notes.items = turns.noted now.epoch now.ideal now.log w now.at c.args.block c.requires.block in
    let note : slice_get w.notes.items c.args.block ≡ Some (Unowned c.in_default.field-0)
    = read-some w.notes.items c.args.block c.index.result.now there c.index.ensures ∙ ap (λ (n : BlockNote). Some n) c.in_default.is in
    world-room w now c.args.block c.requires.block (λ taken.
    let wrong : Unowned c.in_default.field-0 ≡ Owned taken.owner taken.region
    = one-element (slice_get w.notes.items c.args.block) (Unowned c.in_default.field-0) (Owned taken.owner taken.region) note taken.note in cc)
