-- A head and tails make a run.
use Rattle.std.proofs.Common.{◌≡◌, refl, ◌∙◌, ℕ, ◌+◌, ◌*◌, ◌<◌, ◌≤◌, ◌⊎◌, inl, inr, arith, List}
use Rattle.heap_layout.specs.Zones.{BlockWords, first}
use Rattle.heap_layout.specs.declared.block.Kind.TheVariants as kinds
use Rattle.heap_layout.specs.declared.layout.Layout.{Layout}
use Rattle.heap_layout.specs.Blocks.{kind_code}
use Rattle.object_model.specs.Objects.{state_over}
use Rattle.object_model.specs.Births.{MakesRun}
use Rattle.block_sweeps.specs.Stores.{Stores, Fills}

pub makes-run : (old mid new : List ℕ) (l : Layout) (k n number base : ℕ) → 1 ≤ n
    → Stores old mid (first l.blocks BlockWords + k) (kind_code kinds.LargeHead + 256 * n)
    → Fills mid new (first l.blocks BlockWords + (k + 1)) (first l.blocks BlockWords + (k + n)) (λ _. kind_code kinds.LargeTail)
    → MakesRun (state_over old l number base) (state_over new l number base) k n
makes-run old mid new l k n number base some head tails = record {
  blocks = refl;
  number = refl;
  base = refl;
  extent = tails.extent ∙ head.extent;
  head = tails.others (first l.blocks BlockWords + k) (λ inside. let after = inside.0 in omega (arith, after)) ∙ head.own ∙ (omega arith);
  tails = λ j after before. tails.own (first l.blocks BlockWords + (k + j)) (omega (arith, after)) (omega (arith, before));
  others = λ i outside. tails.others i (λ inside. away i outside inside) ∙ head.others i (λ same. apart i outside same);
}
  where
    away : (i : ℕ) → (i < first l.blocks BlockWords + k) ⊎ (first l.blocks BlockWords + k + n ≤ i) → ((first l.blocks BlockWords + (k + 1) ≤ i) × (i < first l.blocks BlockWords + (k + n))) → ⊥
    away i (inl before) inside = (let after = inside.0 in omega (arith, before, after))
    away i (inr past) inside = (let less = inside.1 in omega (arith, past, less))

    apart : (i : ℕ) → (i < first l.blocks BlockWords + k) ⊎ (first l.blocks BlockWords + k + n ≤ i) → i ≡ first l.blocks BlockWords + k → ⊥
    apart i (inl before) same = omega (arith, before, same)
    apart i (inr past) same = omega (arith, past, same, some)
