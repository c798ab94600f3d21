use Rattle.std.proofs.Common.{◌∙◌, sym, refl, ap, subst, ℕ, ◌<◌, length}
use Rattle.heap_layout.specs.declared.block.Kind.TheVariants as kinds
use Rattle.object_model.proofs.OneKind.{kind-within}
use Rattle.sessions.specs.Grants.{counts_with}
use Rattle.block_regions.specs.Elements.{ChangesAt}
use Rattle.block_regions.proofs.Elements.{set-changes}
use Rattle.block_regions.proofs.PlacedNotes.{after-hole, after-free}
use Rattle.block_regions.proofs.BlockFlags.{covers-in-block}
use Rattle.block_regions.proofs.block_notes.BlockNotes.placed_in.Goals as goal

pub returns-else-was_free-clause-notes : goal.returns-else-was_free-clause-notes
returns-else-was_free-clause-notes c = λ rules old new a refs nums fills are placed.
    after-hole rules fills old new a refs nums c.args.block c.args.was_free c.if-was_free.false c.args.self.now are placed

pub returns-in-Some-clause-notes : goal.returns-in-Some-clause-notes
returns-in-Some-clause-notes c = λ rules old new a refs nums fills are placed.
    let n = c.args.self.now in
    let there : c.args.block < length n.notes.items
    = subst (λ (b : ℕ). c.args.block < b) (sym are.notes.len) (kind-within old c.args.block kinds.Free (sym placed.free ∙ c.if-was_free.true)) in
    after-free rules fills old new a refs nums c.args.block c.args.was_free c.if-was_free.true n _ are placed
    (ap (λ (f : ℕ). counts_with n.counts.blocks f n.counts.large) c.saturating_sub-self.ensures)
    (subst (ChangesAt n.notes.items _ c.args.block) c.nothing_known.ensures (set-changes n.notes.items c.args.block c.nothing_known.result there)) refl

pub returns-else-was_free-clause-flags : goal.returns-else-was_free-clause-flags
returns-else-was_free-clause-flags c = λ rules old new a refs nums.
    covers-in-block rules old new c.args.self.now.flags.items a refs nums c.args.block c.args.was_free

pub returns-in-Some-clause-flags : goal.returns-in-Some-clause-flags
returns-in-Some-clause-flags c = λ rules old new a refs nums.
    covers-in-block rules old new c.args.self.now.flags.items a refs nums c.args.block c.args.was_free

pub returns-in_default-clause-flags : goal.returns-in_default-clause-flags
returns-in_default-clause-flags c = λ rules old new a refs nums.
    covers-in-block rules old new c.args.self.now.flags.items a refs nums c.args.block c.args.was_free
