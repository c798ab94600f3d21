use Rattle.std.proofs.Common.{◌≡◌, ◌*◌, ◌^◌, ◌++◌, ◌≤◌, List, All, length, vec_capacity}
use Rattle.std.specs.Prelude.{count_by, sum_by}
use Rattle.std.specs.List.Sorted.{IsPermutation}
use Rattle.plain_tracer.specs.declared.tokens.Grey.{Grey}
use Rattle.plain_tracer.specs.declared.tokens.Reached.{Reached}
use Rattle.collector.specs.Items.{tokens_of, IsObject}
use Rattle.collector.specs.Serving.{AreShaped}
use Rattle.collector.specs.Tallies.{has_moved}
use Rattle.collector.proofs.packet_tracer.fill.Given as goal

abbrev pub invariant-loop-won : goal.invariant-loop-won
invariant-loop-won l = record {
  tokens : (handed : List Reached) × (l.fn.won.items ≡ l.won.items ++ handed) × (greys : List Grey) × AreShaped l.tracer handed greys
      × IsPermutation greys (tokens_of l.items.items) × (length l.items.items ≡ length greys) × (l.moved ≡ count_by has_moved greys)
      × (l.words ≡ sum_by (λ (grey : Grey). grey.size) greys);
  objects : All IsObject l.items.items;
  few : length l.items.items ≤ 64;
  moved : l.moved ≤ length l.items.items;
  words : l.words ≤ length l.items.items * 2 ^ 32;
  room : 64 ≤ vec_capacity l.items;
}

abbrev pub decreases-loop-won : goal.decreases-loop-won
decreases-loop-won l = length l.won.items
