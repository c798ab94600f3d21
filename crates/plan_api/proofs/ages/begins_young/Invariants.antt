use Rattle.std.proofs.Common.{ℕ, ◌+◌, ◌*◌, ◌<◌}
use Rattle.object_model.specs.Objects.{state_over}
use Rattle.plan_api.specs.Ages.{BeginsYoungIn}
use Rattle.plan_api.proofs.ages.begins_young.Given as goal

abbrev pub invariant-loop-word : goal.invariant-loop-word
invariant-loop-word g l = (i : ℕ) → i < l.word → BeginsYoungIn (state_over (g.W.Words.words l.words) l.layout 0 l.base) (64 * l.block + i) → ⊥
