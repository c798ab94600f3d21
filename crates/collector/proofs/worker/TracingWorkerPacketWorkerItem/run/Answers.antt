-- Each item is served, and the tokens that were won are handed on.
use Rattle.std.proofs.Common.{length, arith}
use Rattle.std.specs.Prelude.{IfOk}
use Rattle.std.proofs.lemmas.List.{nil_from_length}
use Rattle.std.proofs.lemmas.Result.{IfOk-weaker}
use Rattle.collector.specs.Working.{RunsPacket}
use Rattle.collector.proofs.RunningPackets.{HandsOn, hands-on, served-none, served-more, all-reached, may-serve, may-run, none-won, places-stay, runs-packet, all-take, all-later}
use Rattle.collector.proofs.AwaitedSteps.{left-falls, stays-awaited}
use Rattle.collector.proofs.worker.TracingWorkerPacketWorkerItem.run.Given.{Over}
use Rattle.collector.proofs.worker.TracingWorkerPacketWorkerItem.run.Goals as goal

pub loop-item-init : goal.loop-item-init
loop-item-init g c = served-none c.args.self.now.trace c.args.p.items.items (none-won c.requires.awaited)

pub serve-requires : goal.serve-requires
serve-requires g c = may-serve c.pop.new.self.items c.in-Some.item c.loop-item.invariant c.in-Some.ensures.items
    (may-run c.requires.awaited)

pub loop-item-preserved : goal.loop-item-preserved
loop-item-preserved g c = served-more c.pop.new.self.items c.in-Some.item c.loop-item.invariant c.in-Some.ensures.items
    c.in_ok-serve.ensures.serves c.in_ok-serve.ensures.tally

pub hand_on-requires-clause-tracing : goal.hand_on-requires-clause-tracing
hand_on-requires-clause-tracing g c = all-reached c.loop-item.invariant (may-run c.requires.awaited)

handed : (g : Over) (c : goal.After-hand_on g) → IfOk c.hand_on.result
    (λ _. HandsOn c.loop-item.self.trace c.hand_on.new.self c.hand_on.new.pushed.items)
handed g c = hands-on c.hand_on.result c.loop-item.self.trace c.hand_on.new.self c.hand_on.new.pushed.items
    c.hand_on.ensures.tokens c.hand_on.ensures.objects c.hand_on.ensures.bucket
    c.hand_on.ensures.tracer c.hand_on.ensures.roots
    c.hand_on.ensures.sizes c.hand_on.ensures.none

ran : (g : Over) (c : goal.After-hand_on g)
    → HandsOn c.loop-item.self.trace c.hand_on.new.self c.hand_on.new.pushed.items
    → RunsPacket c.args.self.now.trace c.args.p c.hand_on.new.pushed.items c.hand_on.new.self
ran g c hands = runs-packet c.args.p c.hand_on.new.pushed.items c.loop-item.invariant
    (nil_from_length c.loop-item.items.items
    (omega (arith, c.loop-item.items.ok.0, c.in_default.ensures.cases.0))) hands

pub returns-clause-home : goal.returns-clause-home
returns-clause-home g c = IfOk-weaker c.hand_on.result _ _
    (λ x hands. places-stay c.hand_on.new.self c.loop-item.invariant (may-run c.requires.awaited) hands.roots)
    (handed g c)

pub returns-clause-step : goal.returns-clause-step
returns-clause-step g c = IfOk-weaker c.hand_on.result _ _
    (λ x hands. ran g c hands) (handed g c)

pub returns-clause-left : goal.returns-clause-left
returns-clause-left g c = IfOk-weaker c.hand_on.result _ _
    (λ x hands. left-falls c.requires.awaited.0 c.args.self.now.trace c.hand_on.new.self c.args.p
    c.hand_on.new.pushed.items c.requires.awaited.1 (ran g c hands) hands.objects hands.sizes c.requires.awaited.2) (handed g c)

pub returns-clause-takes : goal.returns-clause-takes
returns-clause-takes g c = IfOk-weaker c.hand_on.result _ _
    (λ x hands. all-take (length c.args.self.now.trace.roots.items) c.hand_on.new.pushed.items hands.objects)
    (handed g c)

pub returns-clause-order : goal.returns-clause-order
returns-clause-order g c = IfOk-weaker c.hand_on.result _ _
    (λ x hands. all-later c.requires.awaited c.hand_on.new.pushed.items hands.closure) (handed g c)

pub returns-clause-awaits : goal.returns-clause-awaits
returns-clause-awaits g c = IfOk-weaker c.hand_on.result _ _
    (λ x hands start rest. stays-awaited start c.args.self.now.trace c.hand_on.new.self c.args.p
    c.hand_on.new.pushed.items rest (ran g c hands) hands.objects hands.none) (handed g c)
