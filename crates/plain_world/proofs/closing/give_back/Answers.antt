use Rattle.std.proofs.Common.{◌≡◌, refl, sym, subst, ℕ, ◌<◌, arith, length, get_or}
use Rattle.object_model.specs.Objects.{state_of}
use Rattle.block_regions.proofs.GivingBack.{IsGivingBack, gives-nothing, gives-next, none-owned, owned-below, order-now, codes-now}
use Rattle.plain_world.proofs.GivenBack.{gives-back-all}
use Rattle.block_regions.proofs.Relisted.{lines-of-plan}
use Rattle.plain_world.proofs.closing.give_back.Goals as goal

pub loop-block-init : goal.loop-block-init
loop-block-init g c = gives-nothing g.P.Plan.rules.fill (state_of c.args.row.now) c.args.notes.now.items c.args.owned.now c.requires.order c.requires.notes

pub give_back_block-requires-clause-block : goal.give_back_block-requires-clause-block
give_back_block-requires-clause-block g c =
    let old = state_of c.args.row.now in
    let n : ℕ = c.loop-block.block-index in
    subst (λ (b : ℕ). get_or c.args.owned.now n 0 < b) (sym c.loop-block.invariant.sides.blocks)
    (owned-below g.P.Plan.rules.fill old c.args.notes.now.items c.args.owned.now c.requires.notes c.requires.owned n (omega arith))

pub give_back_block-requires-clause-order : goal.give_back_block-requires-clause-order
give_back_block-requires-clause-order g c =
    let old = state_of c.args.row.now in
    let n : ℕ = c.loop-block.block-index in
    order-now g.P.Plan.rules g.met.P.Plan.fill_has_holes (lines-of-plan g.P.Plan.plan g.P.Plan.rules g.met.P.Plan.rules_are_of_plan) old (state_of c.loop-block.row)
    c.args.notes.now.items c.loop-block.notes.items c.args.owned.now n (get_or c.args.owned.now n 0) c.requires.order c.loop-block.invariant refl
    (owned-below g.P.Plan.rules.fill old c.args.notes.now.items c.args.owned.now c.requires.notes c.requires.owned n (omega arith))

pub give_back_block-requires-clause-code : goal.give_back_block-requires-clause-code
give_back_block-requires-clause-code g c =
    let old = state_of c.args.row.now in
    let n : ℕ = c.loop-block.block-index in
    codes-now g.P.Plan.rules g.met.P.Plan.fill_has_holes (lines-of-plan g.P.Plan.plan g.P.Plan.rules g.met.P.Plan.rules_are_of_plan) old (state_of c.loop-block.row)
    c.args.notes.now.items c.loop-block.notes.items c.args.owned.now n (get_or c.args.owned.now n 0) c.requires.order c.loop-block.invariant refl
    (owned-below g.P.Plan.rules.fill old c.args.notes.now.items c.args.owned.now c.requires.notes c.requires.owned n (omega arith)) c.requires.codes

pub give_back_block-requires-clause-notes : goal.give_back_block-requires-clause-notes
give_back_block-requires-clause-notes g c = c.loop-block.invariant.noted

pub loop-block-preserved : goal.loop-block-preserved
loop-block-preserved g c =
    let old = state_of c.args.row.now in
    let n : ℕ = c.loop-block.block-index in
    gives-next g.P.Plan.rules g.met.P.Plan.fill_has_holes (lines-of-plan g.P.Plan.plan g.P.Plan.rules g.met.P.Plan.rules_are_of_plan) old (state_of c.loop-block.row)
    c.args.notes.now.items c.loop-block.notes.items c.args.owned.now n (get_or c.args.owned.now n 0) c.requires.order c.loop-block.invariant refl
    (owned-below g.P.Plan.rules.fill old c.args.notes.now.items c.args.owned.now c.requires.notes c.requires.owned n (omega arith))
    (state_of c.give_back_block.new.row) c.give_back_block.new.notes.items c.give_back_block.ensures

pub returns-clause-gives : goal.returns-clause-gives
returns-clause-gives g c =
    let old = state_of c.args.row.now in
    let all : c.loop-block.block-index ≡ length c.args.owned.now = omega arith in
    gives-back-all g.P.Plan.rules.fill old (state_of c.loop-block.row) c.args.notes.now.items c.loop-block.notes.items c.args.owned.now c.requires.notes c.requires.owned
    (subst (IsGivingBack g.P.Plan.rules.fill old (state_of c.loop-block.row) c.args.notes.now.items c.loop-block.notes.items c.args.owned.now) all c.loop-block.invariant)

pub returns-clause-notes : goal.returns-clause-notes
returns-clause-notes g c = c.loop-block.invariant.noted

pub returns-clause-unowned : goal.returns-clause-unowned
returns-clause-unowned g c =
    let old = state_of c.args.row.now in
    let all : c.loop-block.block-index ≡ length c.args.owned.now = omega arith in
    none-owned g.P.Plan.rules.fill old (state_of c.loop-block.row) c.args.notes.now.items c.loop-block.notes.items c.args.owned.now c.requires.notes c.requires.owned
    (subst (IsGivingBack g.P.Plan.rules.fill old (state_of c.loop-block.row) c.args.notes.now.items c.loop-block.notes.items c.args.owned.now) all c.loop-block.invariant)
