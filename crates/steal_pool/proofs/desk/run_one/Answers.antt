use Rattle.std.proofs.Common.{[], ◌∷◌, ◌++◌, All, subst}
use Rattle.work_packets.specs.Buckets.{IsSameOrLater}
use Rattle.work_packets.specs.Packets.{packets_of}
use Rattle.steal_pool.specs.Ends.{puts}
use Rattle.steal_pool.specs.Served.{IsServed}
use Rattle.steal_pool.proofs.Services.{served-run, counts, pushed-fit, refused-fit, few-of}
use Rattle.steal_pool.proofs.desk.run_one.Goals as goal

pub run-requires-clause-takes : goal.run-requires-clause-takes
run-requires-clause-takes g c = c.requires.fitting.taken c.args.p c.requires.packet

pub run-requires-clause-items : goal.run-requires-clause-items
run-requires-clause-items g c = c.requires.fitting.sized c.args.p c.requires.packet

pub run-requires-clause-awaited : goal.run-requires-clause-awaited
run-requires-clause-awaited g c = let a = c.requires.awaits c.args.desk.now.worker (c.args.p ∷ []) in (a.0, [], a.1)

pub hand_out-requires-clause-order : goal.hand_out-requires-clause-order
hand_out-requires-clause-order g c = subst (λ k. All (λ q. IsSameOrLater k q.bucket) c.run.new.pushed.items) (c.requires.fitting.in_bucket c.args.p c.requires.packet) c.in_ok-run.ensures.order

pub hand_out-requires-clause-fit : goal.hand_out-requires-clause-fit
hand_out-requires-clause-fit g c = pushed-fit g.K.Fits.fits c.args.b g.W.PacketWorker.takes _ c.requires.fitting c.run.new.pushed.items c.in_ok-run.ensures.items c.in_ok-run.ensures.takes

pub returns-clause-fit : goal.returns-clause-fit
returns-clause-fit g c =
    let f = c.in_ok-hand_out.ensures.given in let q = c.run.new.pushed.items in
    refused-fit g.K.Fits.fits c.args.desk.now.backlog.items _ (packets_of c.args.b q) f.0 f.1 f.3 f.4 c.requires.fit
    (pushed-fit g.K.Fits.fits c.args.b g.W.PacketWorker.takes _ c.requires.fitting q c.in_ok-run.ensures.items c.in_ok-run.ensures.takes)

pub returns-clause-less : goal.returns-clause-less
returns-clause-less g c =
    let f = c.in_ok-hand_out.ensures.given in let q = c.run.new.pushed.items in
    (counts (puts c.args.desk.now.own) _ f.0 c.args.desk.now.backlog.items _ f.1 (packets_of c.args.b q) q _ _ f.2 f.3 f.4 (few-of c.args.b q) c.in_ok-run.ensures.left).0

pub returns-clause-more : goal.returns-clause-more
returns-clause-more g c =
    let f = c.in_ok-hand_out.ensures.given in let q = c.run.new.pushed.items in
    (counts (puts c.args.desk.now.own) _ f.0 c.args.desk.now.backlog.items _ f.1 (packets_of c.args.b q) q _ _ f.2 f.3 f.4 (few-of c.args.b q) c.in_ok-run.ensures.left).1

pub returns-clause-served : goal.returns-clause-served
returns-clause-served g c = λ w first got s.
    let home = g.W.PacketWorker.home in let takes = g.W.PacketWorker.takes in let steps = g.W.PacketWorker.steps in let b = c.args.b in
    let f = c.in_ok-hand_out.ensures.given in let q = c.run.new.pushed.items in let r = c.in_ok-run.ensures in
    let order : All (λ q. IsSameOrLater b q.bucket) q = subst (λ k. All (λ q. IsSameOrLater k q.bucket) q) (c.requires.fitting.in_bucket c.args.p c.requires.packet) r.order in
    let more : IsServed home takes steps b w first c.run.new.self (puts c.args.desk.now.own ++ f.0) got (c.args.desk.now.backlog.items ++ f.1) c.hand_out.new.later.items =
    served-run home takes steps b w first c.args.desk.now.worker c.run.new.self (puts c.args.desk.now.own) f.0 f.1 c.args.desk.now.backlog.items got c.args.desk.now.later.items c.hand_out.new.later.items q c.args.p
    r.step r.home order r.items r.takes f.4 c.in_ok-hand_out.ensures.later s in
    rw f.2 (rw f.3 more)
