-- The lines that an object touches.
use Rattle.std.specs.Prelude.{ℕ, ◌+◌, ◌*◌, ◌<◌}
use Rattle.heap_layout.specs.Zones.{heap_of}
use Rattle.heap_layout.specs.declared.layout.TheConstants.{LINE_WORDS}

-- Line n of the heap is touched by an object of `size` words at address a, on a heap of b blocks:
-- the object has a word in it.
pub record TouchesLine (b a size n : ℕ) : Type 0 where
  pub from : heap_of b + LINE_WORDS * n < a + size
  pub below : a < heap_of b + LINE_WORDS * (n + 1)
