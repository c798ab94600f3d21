-- Rows that tests make: a block that may be released, and a heap in which mutators took a block.
use Rattle.std.proofs.Common.{◌≡◌, refl, inl, ℕ, arith}
use Rattle.heap_layout.specs.Zones.{block_at}
use Rattle.heap_layout.specs.declared.block.Kind.TheVariants as kinds
use Rattle.object_model.specs.Objects.{HeapState, with_words, HasKind, IsHeld}
use Rattle.object_model.specs.Lawful.{IsLawful}
use Rattle.object_model.specs.Releasing.{InSpan, IsReleasable}
use Rattle.object_model.proofs.Blocks as blocks
use Rattle.block_sweeps.specs.Sweeping.{AreApart}

here-in-span : (s : HeapState) (k a : ℕ) → IsHeld s a → block_at s.blocks a ≡ k → InSpan s k a
here-in-span s k a held here = record { address = held.address; block = inl here }

pub released-apart : (s : HeapState) (k : ℕ) → IsReleasable s k → AreApart s k
released-apart s k may = λ a x i held held' here here'. may.apart a x i (here-in-span s k a held here) (here-in-span s k x held' here') held held'

pub taken-lawful : (s : HeapState) (k : ℕ) → IsLawful s → HasKind s k kinds.Free → IsLawful (with_words s (blocks.set_block s k 1))
taken-lawful s k lawful free = blocks.lawful-taken s lawful.but_lines.order k 1 free (lawful.but_lines.free k free) (omega arith) refl refl refl lawful
