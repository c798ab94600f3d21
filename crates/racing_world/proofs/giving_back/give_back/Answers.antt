use Rattle.std.proofs.Common.{inl, arith}
use Rattle.object_model.specs.Objects.{state_of}
use Rattle.block_regions.proofs.Relisted.{lines-of-plan}
use Rattle.racing_world.proofs.GivenBack.{gives-none, gives-next, gives-all, order-now, code-now}
use Rattle.racing_world.proofs.giving_back.give_back.Goals as goal

pub loop-block-init : goal.loop-block-init
loop-block-init g c = gives-none (state_of c.args.row.now) c.requires.order

pub give_back_block-requires-clause-order : goal.give_back_block-requires-clause-order
give_back_block-requires-clause-order g c =
    order-now g.P.Plan.rules g.met.P.Plan.fill_has_holes (lines-of-plan g.P.Plan.plan g.P.Plan.rules g.met.P.Plan.rules_are_of_plan) (state_of c.args.row.now) (state_of c.loop-block.row) c.loop-block.block
    c.requires.order c.loop-block.invariant (omega arith)

pub give_back_block-requires-clause-code : goal.give_back_block-requires-clause-code
give_back_block-requires-clause-code g c =
    code-now g.P.Plan.rules g.met.P.Plan.fill_has_holes (lines-of-plan g.P.Plan.plan g.P.Plan.rules g.met.P.Plan.rules_are_of_plan) (state_of c.args.row.now) (state_of c.loop-block.row) c.loop-block.block
    c.requires.order c.loop-block.invariant (omega arith) (c.requires.codes c.loop-block.block (omega arith))

pub loop-block-preserved : goal.loop-block-preserved
loop-block-preserved g c =
    gives-next g.P.Plan.rules g.met.P.Plan.fill_has_holes (lines-of-plan g.P.Plan.plan g.P.Plan.rules g.met.P.Plan.rules_are_of_plan) (state_of c.args.row.now) (state_of c.loop-block.row) c.loop-block.block
    c.requires.order c.loop-block.invariant (omega arith) (c.requires.kinds c.loop-block.block (omega arith)) (state_of c.give_back_block.new.row) c.give_back_block.ensures

pub returns-clause-gives : goal.returns-clause-gives
returns-clause-gives g c = gives-all (state_of c.args.row.now) (state_of c.loop-block.row) c.loop-block.block (omega arith) c.loop-block.invariant

pub returns-clause-front : goal.returns-clause-front
returns-clause-front g c i less = c.loop-block.invariant.sides.rest i (inl less)
