-- A mutator that is held between the steps of an allocation.
use Rattle.std.proofs.Common.{◌≡◌, ap, ◌∙◌, sym, subst, ℕ, List}
use Rattle.ideal_heap.specs.Runs.{Entry}
use Rattle.sessions.specs.Plans.{Rules}
use Rattle.mutator_rule.specs.declared.racing_row.RacingRow.{RacingRow}
use Rattle.mutator_rule.specs.declared.views.EpochStart.{EpochStart}
use Rattle.mutator_rule.specs.Views.{epoch_with}
use Rattle.racing_rooms.specs.Rooms.{UsesOthers}
use Rattle.racing_mutator.specs.declared.plan_rules.PlanRules.{PlanRules}
use Rattle.racing_mutator.specs.declared.racing.Racing.{Racing}
use Rattle.racing_mutator.specs.RacingSeats.{MayCall, IsAtRest, IsReady, HasFlags, Makes, view, local, Holdings, holdings, epoch_of_racing, UsesItsBlocks, HasRooms}

module _ {P : Type 0} (rules : Rules) (a b : Racing P) (es : List Entry) (made : Makes rules a es b) (row : RacingRow (PlanRules P)) (here : a.row.now ≡ row) where
  pub same-row : b.row.now ≡ row
  same-row = ap (λ r. r.now) made.row ∙ here

  -- it is between two calls again
  pub may-call : HasFlags rules a.seat.now → IsReady rules b → HasRooms rules b.seat.now → UsesItsBlocks (epoch_of_racing rules a) (holdings (local b)) → MayCall rules row b.seat.now
  may-call has ready rooms uses = (
    subst (λ r. IsAtRest rules r b.seat.now) same-row ready,
    made.flags has,
    subst (λ (g : EpochStart). UsesItsBlocks (epoch_with rules g) (holdings (local b))) (sym made.goes.start) uses,
    rooms,
  )

-- what other blocks it uses stays, as its room is found and the words are stored
pub others-kept : {P : Type 0} (rules : Rules) (a c : Racing P) (h : Holdings) (block : ℕ) → (view c).start ≡ (view a).start → holdings (local c) ≡ h → UsesOthers (epoch_of_racing rules a) h block → UsesOthers (epoch_of_racing rules c) (holdings (local c)) block
others-kept rules a c h block start same others = subst (λ (g : EpochStart). UsesOthers (epoch_with rules g) (holdings (local c)) block) (sym start)
    (subst (λ (x : Holdings). UsesOthers (epoch_of_racing rules a) x block) (sym same) others)
