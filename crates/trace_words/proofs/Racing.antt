-- The row of the worked collection.
use Rattle.std.proofs.Common.{◌≡◌, ℕ, List, refl}
use Rattle.std.specs.Prelude.{slice_set, replicate}
use Rattle.trace_core.specs.WorkedTraces.{shared_setup}

-- the words of the worked row, one after the other
abbrev pub worked_words : List ℕ → List ℕ
worked_words ws = slice_set (slice_set (slice_set (slice_set (slice_set (slice_set (slice_set (slice_set (slice_set (slice_set (slice_set (slice_set ws 2 806) 3 810) 18 1) 38 273) 294 1) 806 33) 807 1) 809 814) 810 65) 811 1) 813 814) 814 97

pub built-words : worked_words (replicate 17190 0) ≡ shared_setup.before.words
built-words = refl
