-- The words of the objects that were read are summed.
use Rattle.std.proofs.Common.{◌≡◌, ◌≤◌, ◌*◌, take}
use Rattle.object_model.specs.Heaps.{heap_state}
use Rattle.object_model.specs.Counting.{count_words_at}
use Rattle.driver.proofs.report.words_at.Given as goal

abbrev pub invariant-loop-at : goal.invariant-loop-at
invariant-loop-at l = record {
  words : l.words ≡ count_words_at (heap_state l.heap) (take l.at-index l.live);
  few : l.words ≤ 4294967295 * l.at-index;
}
