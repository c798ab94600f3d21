use Rattle.managed_heap.proofs.Moments as moments
use Rattle.block_regions.proofs.Relisted.{lines-of-plan}
use Rattle.managed_heap.proofs.stopped_heap.StoppedHeap.place_need.Goals as goal

pub returns-clause-order : goal.returns-clause-order
returns-clause-order g c =
    moments.order-placed g.P.Plan.rules c.args.self c.write_object.result.0 c.args.number c.args.need.now c.args.spot c.write_object.result.1
    c.requires.plan.fill (lines-of-plan g.P.Plan.plan g.P.Plan.rules g.met.P.Plan.rules_are_of_plan) c.requires.stopped c.requires.may c.requires.spot c.write_object.ensures

pub returns-clause-places : goal.returns-clause-places
returns-clause-places g c =
    moments.placed g.P.Plan.rules c.args.self c.write_object.result.0 c.args.number c.args.need.now c.args.spot c.write_object.result.1
    c.requires.plan.fill (lines-of-plan g.P.Plan.plan g.P.Plan.rules g.met.P.Plan.rules_are_of_plan) c.requires.stopped c.requires.may c.requires.spot c.write_object.ensures

pub returns-clause-births : goal.returns-clause-births
returns-clause-births g c =
    moments.births-placed g.P.Plan.rules c.args.self c.write_object.result.0 c.args.number c.args.need.now c.args.spot c.write_object.result.1
    c.requires.plan.fill (lines-of-plan g.P.Plan.plan g.P.Plan.rules g.met.P.Plan.rules_are_of_plan) c.requires.stopped c.requires.may c.requires.spot c.write_object.ensures

pub returns-clause-counts : goal.returns-clause-counts
returns-clause-counts g c =
    moments.counts-placed g.P.Plan.rules c.args.self c.write_object.result.0 c.args.number c.args.need.now c.args.spot c.write_object.result.1
    c.requires.plan.fill (lines-of-plan g.P.Plan.plan g.P.Plan.rules g.met.P.Plan.rules_are_of_plan) c.requires.stopped c.requires.may c.requires.spot c.write_object.ensures
