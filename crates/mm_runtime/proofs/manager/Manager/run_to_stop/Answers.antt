-- The parts and the stop make an epoch.
use Rattle.std.proofs.Common.{sym, subst, List}
use Rattle.mm_runtime.specs.declared.progress.PartEnd.{PartEnd}
use Rattle.mm_runtime.specs.Parts.{AreGcs, AreNeeds}
use Rattle.mm_runtime.specs.OpenEpochs.{EndsParts}
use Rattle.mm_runtime.proofs.Advancing.{goes-on-more}
use Rattle.mm_runtime.proofs.Remaining.{fewer, whole}
use Rattle.mm_runtime.proofs.manager.Manager.run_to_stop.Goals as goal

pub run_parts-requires-clause-ready : goal.run_parts-requires-clause-ready
run_parts-requires-clause-ready g c κs within = (c.args.self, c.requires.ready, c.in_ok-epoch.ensures.epoch)

pub close_epoch-requires-clause-ready : goal.close_epoch-requires-clause-ready
close_epoch-requires-clause-ready g c κs within = (c.args.self, c.requires.ready, c.run_parts.ensures.epoch c.args.self c.in_ok-epoch.ensures.epoch)

pub returns-then-on_threads-clause-epoch : goal.returns-then-on_threads-clause-epoch
returns-then-on_threads-clause-epoch g c = c.in_ok-next.ensures.epoch c.args.self (c.run_parts.ensures.epoch c.args.self c.in_ok-epoch.ensures.epoch)

pub returns-then-on_threads-clause-more : goal.returns-then-on_threads-clause-more
returns-then-on_threads-clause-more g c = c.in_ok-next.ensures.more c.args.self c.requires.ready (c.run_parts.ensures.epoch c.args.self c.in_ok-epoch.ensures.epoch)

pub returns-then-on_threads-clause-left : goal.returns-then-on_threads-clause-left
returns-then-on_threads-clause-left g c = c.in_ok-next.ensures.left c.args.self c.requires.ready (c.run_parts.ensures.epoch c.args.self c.in_ok-epoch.ensures.epoch)

pub make_stop-requires-clause-stop : goal.make_stop-requires-clause-stop
make_stop-requires-clause-stop g c κs within =
    let ready = c.requires.ready in
    let part = c.in_ok-manager.ensures.part ready.setting ready.now ready.closes in
    record { order = c.in_ok-manager.ensures.order; setting = ready.setting; now = part.0; stands = part.2 }

pub make_stop-requires-clause-gcs : goal.make_stop-requires-clause-gcs
make_stop-requires-clause-gcs g c κs within =
    subst (λ (es : List PartEnd). AreGcs c.in_ok-manager.manager.progress.items es) (sym c.deref.ensures.value) c.in_ok-manager.ensures.gcs

pub make_stop-requires-clause-needs : goal.make_stop-requires-clause-needs
make_stop-requires-clause-needs g c κs within =
    subst (λ (es : List PartEnd). AreNeeds c.in_ok-manager.manager.progress.items es) (sym c.deref.ensures.value) c.in_ok-manager.ensures.needs

pub returns-clause-epoch : goal.returns-clause-epoch
returns-clause-epoch g c = c.in_ok-manager-2.ensures.epoch c.args.self
    (subst (λ (es : List PartEnd). EndsParts g.P.Plan.rules c.args.self es c.in_ok-manager.manager) (sym c.deref.ensures.value) c.in_ok-manager.ensures.part)

pub returns-clause-ready : goal.returns-clause-ready
returns-clause-ready g c =
    let ready = c.requires.ready in
    let next = returns-clause-epoch g c ready.setting ready.now ready.closes in
    record { order = c.in_ok-manager-2.ensures.order; setting = ready.setting; now = next.0; closes = next.2 }

pub returns-clause-more : goal.returns-clause-more
returns-clause-more g c more =
    let ready = c.requires.ready in
    goes-on-more g.P.Plan.rules c.args.self c.in_ok-manager-2.manager c.in_ok-manager-2.turn (returns-clause-epoch g c) ready.setting ready.now ready.closes c.in_ok-manager-2.ensures.ended.1 more

pub returns-clause-left : goal.returns-clause-left
returns-clause-left g c more =
    let ready = c.requires.ready in
    let next = returns-clause-epoch g c ready.setting ready.now ready.closes in
    fewer g.P.Plan.rules c.args.self c.in_ok-manager-2.manager ready.setting ready.now next.0 ready.closes.stands next.2.stands ready.order.each c.in_ok-manager-2.ensures.order.each
    (returns-clause-more g c more)

pub returns-clause-whole : goal.returns-clause-whole
returns-clause-whole g c ended t now closes = whole g.P.Plan.rules c.in_ok-manager-2.manager t now closes (c.in_ok-manager-2.ensures.ended.0 ended)
