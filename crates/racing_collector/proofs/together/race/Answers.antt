use denote.Param.Send.{IsSend, sendable, param_send}
use Rattle.std.proofs.Common.{◌≡◌, ◌≤◌, ℕ, List, inr, refl, arith, length}
use Rattle.std.proofs.Crossing.{crosses}
use Rattle.trace_table.specs.Seats.{setup_at}
use Rattle.trace_table.specs.declared.table.WorkerSeat.{WorkerSeat}
use Rattle.work_packets.specs.Steps.{pushed_by_all}
use Rattle.work_packets.specs.declared.packet.Bucket.TheVariants.{Roots}
use Rattle.racing_collector.specs.declared.worker.RacingWorker.{RacingWorker}
use Rattle.racing_collector.specs.declared.racing.Racing.{Racing}
use Rattle.racing_collector.specs.Working.{Worked, worked}
use Rattle.racing_collector.proofs.Bucketed.{scans-left, as-many}
use Rattle.racing_collector.proofs.Crossing.{racer_is_sent}
use Rattle.racing_collector.proofs.RacedTogether.{new-workers-at, as-many-seats, has-raced}
use Rattle.racing_collector.proofs.together.race.Lts.{arg-4-2}
use Rattle.racing_collector.proofs.together.race.Goals as goal

pub run_bucket-requires-clause-some : goal.run_bucket-requires-clause-some
run_bucket-requires-clause-some g c κs within =
    let Worker = RacingWorker g.row.G.Denot in
    let home : Worker → Racing = λ w. w.racing.now in
    let work : Worker → Worked = λ w. worked w.seat.seat.me.0 w.served.items w.tally in
    let n : ℕ = (setup_at c.args.racing.now.table).workers in
    let many : length c.in_ok-workers.workers.items ≡ n = as-many-seats home work (λ w. w.seat) (λ w. refl) (λ w. w.racer) c.args.racing.now n c.in_ok-workers.workers.items c.args.seats.items
    c.in_ok-workers.ensures.seats c.requires.seats in
    let some : 1 ≤ n = c.requires.table.ready.some in omega (arith, many, some)

pub run_bucket-requires-clause-takes : goal.run_bucket-requires-clause-takes
run_bucket-requires-clause-takes g c κs within = (c.args.racing.now, c.in_ok-workers.ensures.home, c.requires.takes)

pub run_bucket-requires-clause-awaits : goal.run_bucket-requires-clause-awaits
run_bucket-requires-clause-awaits g c κs within = inr (λ w ps. (tt, λ qs same. tt))

pub run_bucket-requires-2-clause-some : goal.run_bucket-requires-2-clause-some
run_bucket-requires-2-clause-some g c κs within =
    let Worker = RacingWorker g.row.G.Denot in
    let home : Worker → Racing = λ w. w.racing.now in
    let work : Worker → Worked = λ w. worked w.seat.seat.me.0 w.served.items w.tally in
    let n : ℕ = (setup_at c.args.racing.now.table).workers in
    let once = c.in_ok-workers-2.ensures.once in
    let many : length c.in_ok-workers.workers.items ≡ n = as-many-seats home work (λ w. w.seat) (λ w. refl) (λ w. w.racer) c.args.racing.now n c.in_ok-workers.workers.items c.args.seats.items
    c.in_ok-workers.ensures.seats c.requires.seats in
    let same = as-many home work Roots c.in_ok-workers.workers.items c.args.first.items once.0 c.in_ok-workers-2.workers.items c.in_ok-workers-2.scans.items once.1 in
    let some : 1 ≤ n = c.requires.table.ready.some in omega (arith, many, some, same)

pub run_bucket-requires-2-clause-bucket : goal.run_bucket-requires-2-clause-bucket
run_bucket-requires-2-clause-bucket g c κs within = let once = c.in_ok-workers-2.ensures.once in
    scans-left c.args.racing.now (pushed_by_all once.0) c.in_ok-workers-2.scans.items once.1.left (c.in_ok-workers-2.ensures.takes c.args.racing.now c.in_ok-workers.ensures.home)

pub run_bucket-requires-2-clause-takes : goal.run_bucket-requires-2-clause-takes
run_bucket-requires-2-clause-takes g c κs within = let r : Racing = c.args.racing.now in
    (r, c.in_ok-workers-2.ensures.home r c.in_ok-workers.ensures.home, c.in_ok-workers-2.ensures.takes r c.in_ok-workers.ensures.home)

pub run_bucket-requires-2-clause-awaits : goal.run_bucket-requires-2-clause-awaits
run_bucket-requires-2-clause-awaits g c κs within = inr (λ w ps. (tt, λ qs same. tt))

pub returns : goal.returns
returns g c =
    let Worker = RacingWorker g.row.G.Denot in
    let home : Worker → Racing = λ w. w.racing.now in
    let work : Worker → Worked = λ w. worked w.seat.seat.me.0 w.served.items w.tally in
    let seat : Worker → WorkerSeat = λ w. w.seat in
    let r : Racing = c.args.racing.now in
    let n : ℕ = (setup_at c.args.racing.now.table).workers in
    let ws : List Worker = c.in_ok-workers.workers.items in
    let new = new-workers-at home work seat (λ w. refl) (λ w. w.racer) r n ws c.args.seats.items c.in_ok-workers.ensures.seats c.requires.seats c.in_ok-workers.ensures.home c.in_ok-workers.ensures.served c.in_ok-workers.ensures.tally in
    let many = as-many-seats home work seat (λ w. refl) (λ w. w.racer) r n ws c.args.seats.items c.in_ok-workers.ensures.seats c.requires.seats in
    let once = c.in_ok-workers-2.ensures.once in let again = c.in_ok-workers-3.ensures.once in
    let at-home = c.in_ok-workers-2.ensures.home r c.in_ok-workers.ensures.home in
    has-raced home work seat (λ w. refl) (λ w. w.racer) r ws c.in_ok-workers-2.workers.items c.in_ok-workers-3.workers.items c.args.first.items c.in_ok-workers-2.scans.items c.in_ok-workers-3._none.items new
    once.0 again.0 once.1 again.1 (c.in_ok-workers-3.ensures.takes r at-home) c.in_ok-raced.raced c.in_ok-raced.ensures.seats c.in_ok-raced.ensures.served c.in_ok-raced.ensures.kept c.in_ok-raced.ensures.moved c.in_ok-raced.ensures.words many

ruleset sends = (tt, crosses, sendable, racer_is_sent)

pub run_bucket-requires-send-W : goal.run_bucket-requires-send-W
run_bucket-requires-send-W g c κs within =
    let worker : IsSend (arg-4-2 g.row.Q g.row.G g.row.R g.Q.laws g.G.laws g.R.laws g.Q.Pool-dict g.G.Gate-dict g.R.Threads-dict κs) = search sends depth 40 in
    param_send 2 _ worker

pub run_bucket-requires-2-send-W : goal.run_bucket-requires-2-send-W
run_bucket-requires-2-send-W g c κs within =
    let worker : IsSend (arg-4-2 g.row.Q g.row.G g.row.R g.Q.laws g.G.laws g.R.laws g.Q.Pool-dict g.G.Gate-dict g.R.Threads-dict κs) = search sends depth 40 in
    param_send 2 _ worker
