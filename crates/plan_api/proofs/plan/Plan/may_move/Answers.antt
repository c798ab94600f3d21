use Rattle.std.proofs.Common.{◌≡◌, ◌&&◌, Bool, false, sym, ap, ◌∙◌}
use Rattle.object_model.specs.Preserving.{may_leave}
use Rattle.object_model.specs.Heaps.{heap_state}
use Rattle.plan_api.specs.declared.flags.PlanFlags.{PlanFlags}
use Rattle.plan_api.specs.Evacuation.{listed}
use Rattle.plan_api.proofs.PlanFlagLaws.{moves-shown}
use Rattle.plan_api.proofs.plan.Plan.may_move.Goals as goal

pub returns-else-contains : goal.returns-else-contains
returns-else-contains g c =
    let plan = g.Self.Plan in
    let shown : c.contains.result ≡ plan.rules.moves = c.contains.ensures tt ∙ moves-shown plan.plan plan.rules g.met.Self.Plan.rules_are_of_plan c.FLAGS.result.0
    (ap (λ (f : PlanFlags). f.0) c.FLAGS.ensures ∙ g.met.Self.Plan.flags_are_of_rules) in
    let stays : plan.rules.moves ≡ false = sym shown ∙ c.if-contains.false in
    c.if-contains.false ∙ sym (ap (λ (moves : Bool). moves && may_leave (listed c.args.from.now) (heap_state c.args.heap.now) c.args.address) stays)
