use Rattle.std.proofs.Common.{◌≡◌, sym, ◌∙◌, ap, subst, ℕ, inl, inr, arith}
use Rattle.std.proofs.lemmas.Bool.{cases_eq}
use denote.Enum.Bare.{same_false}
use Rattle.heap_layout.specs.contracts.block.Kind.{the_type}
use Rattle.heap_layout.specs.declared.block.Kind.TheVariants as kinds
use Rattle.object_model.specs.Objects.{HasKind}
use Rattle.object_model.specs.Heaps.{heap_state}
use Rattle.sessions.specs.Grants.{BlockCounts}
use Rattle.block_regions.proofs.KeptNotes.{no-free}
use Rattle.block_regions.proofs.FilledKinds.{kind-read}
use Rattle.block_regions.proofs.block_notes.BlockNotes.lowest_free.Goals as goal

pub returns-then-self-eq0-clause-none : goal.returns-then-self-eq0-clause-none
returns-then-self-eq0-clause-none c =
    let zero : c.args.self.now.counts.free ≡ 0 = omega arith in
    no-free (heap_state c.args.heap.now) (sym (ap (λ (k : BlockCounts). k.free) c.requires) ∙ zero)

pub loop-block-preserved : goal.loop-block-preserved
loop-block-preserved c = λ k below free.
    let s = heap_state c.args.heap.now in
    elim (cases_eq k c.loop-block.block) as (λ _. ⊥) [
      | inr other ↦ c.loop-block.invariant k (omega arith) free
      | inl here ↦ same_false the_type c.block.result.kind kinds.Free (sym c.if-eq.ensures)
          (kind-read s c.loop-block.block c.block.result kinds.Free c.block.ensures.valid c.block.ensures.code (subst (λ (q : ℕ). HasKind s q kinds.Free) here free))
    ]
