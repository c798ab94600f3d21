-- Changes of some words of a row, one after another.
use Rattle.std.proofs.Common.{ℕ, ◌∙◌}
use Rattle.object_model.specs.Objects.{HeapState}
use Rattle.block_sweeps.specs.Sweeping.{ChangesOnly}

pub changes-more : (Changing Also : ℕ → Type 0) (s s' : HeapState) → ((i : ℕ) → Changing i → Also i) → ChangesOnly Changing s s' → ChangesOnly Also s s'
changes-more Changing Also s s' more changes = record {
  blocks = changes.blocks;
  extent = changes.extent;
  others = λ i outside. changes.others i (λ changing. outside (more i changing));
  fit = changes.fit;
}

pub changes-both : (Changing : ℕ → Type 0) (s m s' : HeapState) → ChangesOnly Changing s m → ChangesOnly Changing m s' → ChangesOnly Changing s s'
changes-both Changing s m s' one two = record {
  blocks = two.blocks ∙ one.blocks;
  extent = two.extent ∙ one.extent;
  others = λ i outside. two.others i outside ∙ one.others i outside;
  fit = λ fits. two.fit (one.fit fits);
}
