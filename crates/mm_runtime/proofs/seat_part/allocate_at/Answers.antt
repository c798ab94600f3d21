-- An allocation makes the entry of its `new`; one that stops makes none, and then a stop is raised.
use Rattle.std.proofs.Common.{◌≡◌, refl, [], arith}
use Rattle.mm_runtime.proofs.SeatReplies.{gets-reply, seat-append, seat-nothing}
use Rattle.mm_runtime.proofs.SeatBirths.{seat-births}
use Rattle.object_model.specs.Objects.{size_of}
use Rattle.racing_world.proofs.CausesStay.{cause-stays}
use Rattle.mm_runtime.proofs.SeatCauses.{size-same}
use Rattle.mm_runtime.proofs.seat_part.allocate_at.Goals as goal

pub new_object-requires-clause-births : goal.new_object-requires-clause-births
new_object-requires-clause-births g c =
    let most = seat-births g.P.Plan.rules c.args.world.now c.args.seat.now c.requires.call in
    let births = c.requires.births in
    let few = c.requires.few in
    omega arith

pub returns-in-Made : goal.returns-in-Made
returns-in-Made g c =
    gets-reply g.P.Plan.rules c.args.world.now c.args.seat.now c.new_object.new.seat _ _ _ c.args.replies.now c.push_reserved.new.self refl c.in-Made.ensures.enters
    c.push_reserved.ensures.items c.push_reserved.ensures.capacity

pub returns-in-Stop : goal.returns-in-Stop
returns-in-Stop g c =
    let call = c.in-Stop.ensures in
    let raise = c.raise.ensures in
    let need = c.in-Stop.need in
    let register : need.register ≡ c.args.d = call.call.register in
    let refs : need.refs ≡ c.args.refs = call.call.refs in
    let nums : need.nums ≡ c.args.nums = call.call.nums in record {
      answers = seat-append g.P.Plan.rules c.args.world.now c.args.seat.now c.new_object.new.seat c.raise.new.seat [] []
          (seat-nothing g.P.Plan.rules c.args.world.now c.args.seat.now c.new_object.new.seat call.nothing)
          (seat-nothing g.P.Plan.rules c.args.world.now c.new_object.new.seat c.raise.new.seat raise.nothing);
      replies = refl;
      cause = (
        cc,
        cause-stays g.P.Plan.rules c.args.world.now c.new_object.new.seat c.raise.new.seat call.nothing.sees.call raise.nothing raise.holds raise.regions (size_of need.refs need.nums) need.cause
            (size-same g.P.Plan.rules c.new_object.new.seat c.args.d c.args.refs c.args.nums need call.call call.cause),
      );
      raised = λ calm. raise.raised;
    }
