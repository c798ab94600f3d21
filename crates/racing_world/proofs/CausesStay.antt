-- The cause of a need stands after a call that enters nothing and leaves the mutator what it has.
use Rattle.std.proofs.Common.{◌≡◌, sym, ◌∙◌, ap, ℕ}
use Rattle.sessions.specs.Plans.{Rules}
use Rattle.mutator_calls.specs.declared.need.NeedCause.{NeedCause}
use Rattle.mutator_rule.specs.declared.seat.MutatorSeat.{MutatorSeat}
use Rattle.mutator_rule.specs.Seats.{local_of}
use Rattle.racing_mutator.specs.RacingSeats.{MayCall, Holdings, holdings}
use Rattle.racing_rooms.specs.NoRoom.{regions_at, IsCauseFor}
use Rattle.racing_rooms.proofs.RoomLaws.{cause-later}
use Rattle.racing_world.specs.declared.world.World.{World}
use Rattle.racing_world.specs.Calls.{EntersNothing}

pub cause-stays : {P : Type 0} (rules : Rules) (w : World P) (a b : MutatorSeat) → MayCall rules w.row a → EntersNothing rules w a b → holdings (local_of b) ≡ holdings (local_of a) → regions_at b ≡ regions_at a
    → (size : ℕ) (cause : NeedCause) → IsCauseFor rules a size cause → IsCauseFor rules b size cause
cause-stays rules w a b call enters holds regions size cause is =
    cause-later rules a b (enters.sees.call.0.own.1 ∙ sym call.0.own.1) enters.sees.number enters.sees.steps call.0.own.2 enters.sees.call.0.own.2
    (ap (λ (h : Holdings). h.owned) holds) (ap (λ (h : Holdings). h.made) holds) call.3 enters.sees.call.3 regions (ap (λ (h : Holdings). h.ticket) holds) size cause is
