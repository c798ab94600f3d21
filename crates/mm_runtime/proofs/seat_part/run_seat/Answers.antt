-- Each step gives one reply, or ends the part.
use Rattle.std.proofs.Common.{◌≡◌, refl, sym, ◌∙◌, ap, subst, ◌+◌, length, arith, length-append, ◌∷◌, []}
use Rattle.std.specs.Prelude.{Option, Some}
use Rattle.ideal_heap.specs.declared.command.Command.{Command}
use Rattle.mm_runtime.specs.declared.progress.Progress.{Progress}
use Rattle.mm_runtime.specs.Managers.{next_in_trace}
use Rattle.mm_runtime.specs.SeatParts.{SeatEndsFor}
use Rattle.mm_runtime.proofs.Replying as replying
use Rattle.mm_runtime.proofs.SeatReplies as seats
use Rattle.mm_runtime.proofs.SeatBirths.{few-more, few-same}
use Rattle.mm_runtime.proofs.seat_part.run_seat.Goals as goal

pub loop-stored-init : goal.loop-stored-init
loop-stored-init g c = rw c.prepare_next.ensures (record {
  call = c.requires.call;
  runs = seats.runs-none g.P.Plan.rules c.args.world.now c.args.seat.now c.args.progress.now c.requires.call;
  in_order = c.requires.progress;
  births = c.requires.births;
  calm = c.requires.calm;
})

pub step_at-requires-clause-valid : goal.step_at-requires-clause-valid
step_at-requires-clause-valid g c κs within =
    let is : next_in_trace c.loop-stored.progress ≡ Some c.in-Some.stored = replying.next-read c.loop-stored.progress c.len.result _ c.len.ensures c.in-Some.ensures in
    replying.next-valid c.loop-stored.progress c.in-Some.stored c.loop-stored.invariant.in_order is

pub step_at-requires-clause-few : goal.step_at-requires-clause-few
step_at-requires-clause-few g c κs within =
    let is : next_in_trace c.loop-stored.progress ≡ Some c.in-Some.stored = replying.next-read c.loop-stored.progress c.len.result _ c.len.ensures c.in-Some.ensures in
    let more = replying.next-within c.loop-stored.progress c.in-Some.stored is in
    let few = c.loop-stored.invariant.in_order.few in
    omega arith

pub step_at-requires-clause-room : goal.step_at-requires-clause-room
step_at-requires-clause-room g c κs within =
    let is : next_in_trace c.loop-stored.progress ≡ Some c.in-Some.stored = replying.next-read c.loop-stored.progress c.len.result _ c.len.ensures c.in-Some.ensures in
    let room = c.loop-stored.invariant.in_order.room in
    let more = replying.next-within c.loop-stored.progress c.in-Some.stored is in
    omega arith

pub loop-stored-smaller : goal.loop-stored-smaller
loop-stored-smaller g c =
    let is : next_in_trace c.loop-stored.progress ≡ Some c.in-Some.stored = replying.next-read c.loop-stored.progress c.len.result _ c.len.ensures c.in-Some.ensures in
    let more = replying.next-within c.loop-stored.progress c.in-Some.stored is in
    let gets = seats.gets-of g.P.Plan.rules c.args.world.now c.loop-stored.seat c.step_at.new.seat c.in-Some.stored c.loop-stored.progress.replies c.step_at.new.replies c.in_default-step_at.ensures in
    let count : length c.step_at.new.replies.items ≡ length c.loop-stored.progress.replies.items + 1 =
    ap length gets.items ∙ length-append c.loop-stored.progress.replies.items (gets.reply ∷ []) in
    rw c.prepare_next-in-Some.ensures (omega arith)

pub loop-stored-preserved : goal.loop-stored-preserved
loop-stored-preserved g c =
    let old : Progress = c.loop-stored.progress in
    let new : Progress = record { trace = c.loop-stored.progress.trace; replies = c.step_at.new.replies } in
    let is : next_in_trace old ≡ Some c.in-Some.stored = replying.next-read old c.len.result _ c.len.ensures c.in-Some.ensures in
    let now = c.loop-stored.invariant in
    let gets = seats.gets-of g.P.Plan.rules c.args.world.now c.loop-stored.seat c.step_at.new.seat c.in-Some.stored old.replies new.replies c.in_default-step_at.ensures in
    rw c.prepare_next-in-Some.ensures (record {
      call = gets.answers.call;
      runs = seats.runs-more g.P.Plan.rules c.args.world.now c.args.seat.now c.loop-stored.seat c.step_at.new.seat c.args.progress.now old new c.in-Some.stored
          now.runs c.in_default-step_at.ensures is refl;
      in_order = replying.order-more old new c.in-Some.stored gets.reply now.in_order is refl gets.items gets.capacity;
      births = few-more g.P.Plan.rules c.args.world.now c.loop-stored.seat c.step_at.new.seat c.in-Some.stored gets.reply old.replies.items c.step_at.new.replies.items gets.answers gets.items now.births;
      calm = gets.raised ∙ now.calm;
    })

pub returns-in-Some-step_at-clause-runs : goal.returns-in-Some-step_at-clause-runs
returns-in-Some-step_at-clause-runs g c =
    seats.runs-ended g.P.Plan.rules c.args.world.now c.args.seat.now c.loop-stored.seat c.step_at.new.seat c.in-Some.stored c.args.progress.now c.loop-stored.progress
    (record { trace = c.loop-stored.progress.trace; replies = c.step_at.new.replies }) c.in-Some-step_at.end c.loop-stored.invariant.runs refl c.in-Some-step_at.ensures

pub returns-in-Some-step_at-clause-births : goal.returns-in-Some-step_at-clause-births
returns-in-Some-step_at-clause-births g c =
    few-same g.P.Plan.rules c.args.world.now c.loop-stored.seat c.step_at.new.seat c.loop-stored.progress.replies c.step_at.new.replies c.in-Some-step_at.ensures.answers
    c.in-Some-step_at.ensures.replies c.loop-stored.invariant.births

pub returns-in-Some-step_at-clause-end : goal.returns-in-Some-step_at-clause-end
returns-in-Some-step_at-clause-end g c =
    let old : Progress = c.loop-stored.progress in
    let ended = c.in-Some-step_at.ensures in
    let is : next_in_trace old ≡ Some c.in-Some.stored = replying.next-read old c.len.result _ c.len.ensures c.in-Some.ensures in
    let next : next_in_trace (record { trace = old.trace; replies = c.step_at.new.replies }) ≡ Some c.in-Some.stored =
    ap (λ r. next_in_trace (record { trace = old.trace; replies = r })) ended.replies ∙ is in
    subst (λ (x : Option Command). SeatEndsFor g.P.Plan.rules c.step_at.new.seat x c.in-Some-step_at.end) (sym next) ended.cause

pub returns-in-Some-step_at-clause-raised : goal.returns-in-Some-step_at-clause-raised
returns-in-Some-step_at-clause-raised g c = c.in-Some-step_at.ensures.raised c.loop-stored.invariant.calm
