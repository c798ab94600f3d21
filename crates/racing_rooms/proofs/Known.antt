-- What a mutator knows of its own state, of the kind of block that it fills and of places in blocks.
use Rattle.std.proofs.Common.{◌≡◌, ◌≢◌, refl, sym, subst, ℕ, ◌+◌, ◌^◌, ◌<◌, ◌≤◌, ◌⊎◌, inl, inr, arith, length}
use Rattle.std.proofs.lemmas.Bool.{cases_lt}
use Rattle.heap_layout.specs.Zones.{heap_of, block_at, offset_at}
use Rattle.heap_layout.specs.declared.block.Kind.{Kind}
use Rattle.heap_layout.specs.declared.block.Kind.TheVariants as kinds
use Rattle.ideal_heap.specs.Names.{IsName}
use Rattle.object_model.specs.Objects.{size_of}
use Rattle.object_model.specs.Graphs.{IsMutatorState}
use Rattle.mutator_core.specs.declared.state.Local.{Local}
use Rattle.mutator_core.specs.Machine.{Epoch, mutator_of, next_name}
use Rattle.mutator_core.specs.Guards.{MayBegin}
use Rattle.mutator_core.specs.Epochs.{KnowsItsState}
use Rattle.mutator_core.specs.Logs.{heap_after}
use Rattle.mutator_rule.specs.declared.views.MutatorView.{MutatorView}
use Rattle.mutator_rule.specs.Logs.{KnowsLog}
use Rattle.mutator_rule.proofs.Moments as moments

module _ (p : Epoch) (v : MutatorView) (told : KnowsLog p v) where
  mutator-is : IsMutatorState (mutator_of v.local)
  mutator-is = subst (λ (l : Local). IsMutatorState (mutator_of l)) (sym told.now) (moments.state p told.ideal v.seen told.epoch v.local.number told.known)

  -- the name of the next object is one
  pub next-named : v.local.births + 1 < 2 ^ 32 → IsName (next_name v.local)
  next-named few = record { least = mutator-is.least; most = mutator-is.most; born = omega arith; fits = few }

  pub owner-few : v.local.number ≤ 16
  owner-few = mutator-is.most

  -- an object that the mutator may write lies in the row
  pub ends-in-row : (a refs nums : ℕ) → MayBegin p v.local a refs nums → (0 < a) × (a + size_of refs nums ≤ length p.before.words)
  ends-in-row a refs nums may =
      let place = may.available.place in
      let from : heap_of p.before.blocks ≤ a = place.address.from in
      let below = place.address.below in
      let inside : offset_at p.before.blocks a + size_of refs nums ≤ 4096 = place.inside in
      let extent = moments.extent p told.ideal v.seen told.epoch in
      (omega arith, omega arith)

  pub knows : KnowsItsState p (heap_after p v.seen) v.local
  knows = subst (KnowsItsState p (heap_after p v.seen)) (sym told.now) ((moments.epoch p told.ideal v.seen told.epoch).knows v.local.number)

pub cells-or : (f : Kind) → (f ≡ kinds.Cells) ⊎ (f ≢ kinds.Cells)
cells-or kinds.Cells = inl refl
cells-or kinds.Free = inr (λ e. let wrong : kinds.Free ≡ kinds.Cells = e in cc)
cells-or kinds.Bump = inr (λ e. let wrong : kinds.Bump ≡ kinds.Cells = e in cc)
cells-or kinds.Young = inr (λ e. let wrong : kinds.Young ≡ kinds.Cells = e in cc)
cells-or kinds.Mature = inr (λ e. let wrong : kinds.Mature ≡ kinds.Cells = e in cc)
cells-or kinds.Immix = inr (λ e. let wrong : kinds.Immix ≡ kinds.Cells = e in cc)
cells-or kinds.LargeHead = inr (λ e. let wrong : kinds.LargeHead ≡ kinds.Cells = e in cc)
cells-or kinds.LargeTail = inr (λ e. let wrong : kinds.LargeTail ≡ kinds.Cells = e in cc)
cells-or kinds.Kept = inr (λ e. let wrong : kinds.Kept ≡ kinds.Cells = e in cc)

-- an object in a block is beside those of other blocks
pub beside-others : (b a size from n k : ℕ) → heap_of b ≤ from → offset_at b from + n ≤ 4096 → block_at b from ≢ k → heap_of b ≤ a → block_at b a ≡ k → offset_at b a + size ≤ 4096 → (from + n ≤ a) ⊎ (a + size ≤ from)
beside-others b a size from n k low inside other base here room = elim (cases_lt (block_at b from) k) as (λ _. (from + n ≤ a) ⊎ (a + size ≤ from)) [
  | inl under ↦ inl (omega arith)
  | inr past ↦ inr (omega arith)
]
