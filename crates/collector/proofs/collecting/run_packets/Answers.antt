use denote.Param.Send.{IsSend, sendable, param_send}
use Rattle.collector.proofs.collecting.run_packets.Lts.{arg-0-2}
use Rattle.std.proofs.Common.{All, sym, subst}
use Rattle.std.proofs.lemmas.List.Sorted.{IsPermutation-refl}
use Rattle.std.proofs.Crossing.{crosses}
use Rattle.work_packets.specs.Steps.{pushed_by_all}
use Rattle.collector.specs.Working.{TakesPlaces}
use Rattle.collector.specs.declared.worker.TracingWorker.{TracingWorker}
use Rattle.collector.proofs.TwoBuckets.{awaits-all, takes-awaited, scans-left, nothing-awaited}
use Rattle.collector.proofs.Crossing.{packets_are_sent, worker_is_sent}
use Rattle.collector.proofs.collecting.run_packets.Goals as goal

ruleset sends = (tt, crosses, sendable, packets_are_sent, worker_is_sent)

pub run_alone-requires-send-W : goal.run_alone-requires-send-W
run_alone-requires-send-W g c κs within =
    let worker : IsSend (arg-0-2 g.row.Q g.row.G g.Q.laws g.G.laws g.Q.Pool-dict g.G.Gate-dict κs) = search sends depth 40 in
    param_send 2 _ worker

pub run_alone-requires-2-send-W : goal.run_alone-requires-2-send-W
run_alone-requires-2-send-W g c κs within =
    let worker : IsSend (arg-0-2 g.row.Q g.row.G g.Q.laws g.G.laws g.Q.Pool-dict g.G.Gate-dict κs) = search sends depth 40 in
    param_send 2 _ worker

pub run_alone-requires-clause-takes : goal.run_alone-requires-clause-takes
run_alone-requires-clause-takes g c κs within = takes-awaited c.requires.awaits.0 c.args.trace c.args.first.items c.requires.awaits.1

pub run_alone-requires-clause-awaits : goal.run_alone-requires-clause-awaits
run_alone-requires-clause-awaits g c κs within =
    let start = c.requires.awaits.0 in (start, awaits-all start c.args.trace c.args.first.items c.requires.awaits.1)

pub run_alone-requires-2-clause-bucket : goal.run_alone-requires-2-clause-bucket
run_alone-requires-2-clause-bucket g c κs within =
    let start = c.requires.awaits.0 in let once = c.in_ok-worker.ensures.once in
    let next = c.in_ok-worker.ensures.awaits start (awaits-all start c.args.trace c.args.first.items c.requires.awaits.1) in
    scans-left (pushed_by_all once.0) _ once.1.left (next _ (IsPermutation-refl _)).buckets

pub run_alone-requires-2-clause-takes : goal.run_alone-requires-2-clause-takes
run_alone-requires-2-clause-takes g c κs within = subst (λ h. All (TakesPlaces h) c.in_ok-worker.scans.items) (sym c.in_ok-worker.ensures.home) c.in_ok-worker.ensures.takes

pub run_alone-requires-2-clause-awaits : goal.run_alone-requires-2-clause-awaits
run_alone-requires-2-clause-awaits g c κs within =
    let start = c.requires.awaits.0 in (start, c.in_ok-worker.ensures.awaits start (awaits-all start c.args.trace c.args.first.items c.requires.awaits.1))

pub returns : goal.returns
returns g c = λ start aw.
    let next = c.in_ok-worker.ensures.awaits start (awaits-all start c.args.trace c.args.first.items aw) in
    let last = c.in_ok-worker-2.ensures.awaits start next in let once = c.in_ok-worker-2.ensures.once in
    nothing-awaited (λ (w : TracingWorker g.row.G.Denot). w.trace) start c.in_ok-worker-2.worker (pushed_by_all once.0) _ last once.1.left
