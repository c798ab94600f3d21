-- The part and the steps of the stop make an epoch.
use Rattle.std.proofs.Common.{refl, sym, ◌∙◌}
use Rattle.mm_runtime.proofs.Advancing as advancing
use Rattle.mm_runtime.proofs.MeetStops.{as-many}
use Rattle.mm_runtime.proofs.manager.Manager.make_stop.Goals as goal

pub serve_needs-requires-clause-stop : goal.serve_needs-requires-clause-stop
serve_needs-requires-clause-stop g c κs within =
    let stop = c.requires.stop in
    let first = c.in_ok-manager.ensures.gc stop.setting stop.now stop.stands in
    record { order = c.in_ok-manager.ensures.order; setting = stop.setting; now = first.0; stands = first.2 }

pub serve_needs-requires-clause-count : goal.serve_needs-requires-clause-count
serve_needs-requires-clause-count g c κs within =
    let stop = c.requires.stop in
    let first = c.in_ok-manager.ensures.gc stop.setting stop.now stop.stands in
    c.requires.count ∙ sym (as-many g.P.Plan.rules c.args.self stop.setting stop.now stop.stands) ∙ as-many g.P.Plan.rules c.in_ok-manager.manager stop.setting first.0 first.2

pub serve_needs-requires-clause-needs : goal.serve_needs-requires-clause-needs
serve_needs-requires-clause-needs g c κs within =
    advancing.needs-kept c.args.self.progress.items c.in_ok-manager.manager.progress.items c.args.ends.now c.in_ok-manager.ensures.others c.requires.needs

pub meet-requires : goal.meet-requires
meet-requires g c =
    let stop = c.requires.stop in
    let first = c.in_ok-manager.ensures.gc stop.setting stop.now stop.stands in
    let second = c.in_ok-manager-2.ensures.needs stop.setting first.0 first.2 in
    record { stop = record { order = c.in_ok-manager-2.ensures.order; setting = stop.setting; now = second.0; stands = second.2 } }

pub returns-clause-epoch : goal.returns-clause-epoch
returns-clause-epoch g c old run =
    advancing.epoch g.P.Plan.rules old c.args.self c.in_ok-manager.manager c.in_ok-manager-2.manager c.meet.new.self
    c.args.ends.now c.args.ends.now c.args.ends.now refl refl
    run c.in_ok-manager.ensures.gc c.in_ok-manager-2.ensures.needs c.meet.ensures.meets
