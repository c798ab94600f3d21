-- Why an allocation at a seat stopped.
use Rattle.std.proofs.Common.{◌≡◌, sym, subst, ℕ}
use Rattle.object_model.specs.Objects.{size_of}
use Rattle.mutator_calls.specs.declared.need.Need.{Need}
use Rattle.mutator_calls.specs.Allocating.{IsNeedOf}
use Rattle.mutator_rule.specs.declared.seat.MutatorSeat.{MutatorSeat}
use Rattle.racing_rooms.specs.NoRoom.{IsCauseFor}
use Rattle.sessions.specs.Plans.{Rules}
use Rattle.mm_runtime.specs.SeatParts.{IsCauseAt}

-- the need's size is the call's
pub size-same : (rules : Rules) (seat : MutatorSeat) (d refs nums : ℕ) (need : Need) → IsNeedOf d refs nums need
    → IsCauseFor rules seat (size_of refs nums) need.cause → IsCauseAt rules seat need
size-same rules seat d refs nums need call cause =
    let same : size_of refs nums ≡ size_of need.refs need.nums = (λ k. size_of (sym call.refs k) (sym call.nums k)) in
    subst (λ (n : ℕ). IsCauseFor rules seat n need.cause) same cause
