use Rattle.std.proofs.Common.{◌≡◌, ◌≤◌}
use Rattle.std.specs.List.{range_with_len, list_any}
use Rattle.object_model.specs.Objects.{state_over}
use Rattle.plan_api.specs.Ages.{begins_young}
use Rattle.plan_api.proofs.Tallies.{count_below}
use Rattle.plan_api.proofs.FirstCollections.{is_counted}
use Rattle.plan_api.proofs.ages.young_blocks.Given as goal

abbrev pub invariant-loop-block : goal.invariant-loop-block
invariant-loop-block g l = record {
  few : l.young ≤ l.block;
  some : l.some ≡ list_any (begins_young (state_over (g.W.Words.words l.words) l.layout 0 l.base)) (range_with_len 0 l.block);
  count : l.young ≡ count_below (is_counted (state_over (g.W.Words.words l.words) l.layout 0 l.base)) l.block;
}
