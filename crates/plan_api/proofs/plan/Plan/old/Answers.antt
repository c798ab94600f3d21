use Rattle.std.proofs.Common.{◌≡◌, ◌&&◌, Bool, true, false, sym, ap, ◌∙◌}
use Rattle.object_model.specs.Ages.{is_old}
use Rattle.object_model.specs.Heaps.{heap_state}
use Rattle.plan_api.specs.declared.flags.PlanFlags.{PlanFlags}
use Rattle.plan_api.proofs.PlanFlagLaws.{young-shown}
use Rattle.plan_api.proofs.plan.Plan.old.Goals as goal

pub returns-then-contains : goal.returns-then-contains
returns-then-contains g c =
    let plan = g.Self.Plan in
    let shown : c.contains.result ≡ plan.rules.young = c.contains.ensures tt ∙ young-shown plan.plan plan.rules g.met.Self.Plan.rules_are_of_plan c.FLAGS.result.0
    (ap (λ (f : PlanFlags). f.0) c.FLAGS.ensures ∙ g.met.Self.Plan.flags_are_of_rules) in
    let is : plan.rules.young ≡ true = sym shown ∙ c.if-contains.true in
    c.is_old.ensures ∙ sym (ap (λ (young : Bool). young && is_old (heap_state c.args.heap.now) c.args.address) is)

pub returns-else-contains : goal.returns-else-contains
returns-else-contains g c =
    let plan = g.Self.Plan in
    let shown : c.contains.result ≡ plan.rules.young = c.contains.ensures tt ∙ young-shown plan.plan plan.rules g.met.Self.Plan.rules_are_of_plan c.FLAGS.result.0
    (ap (λ (f : PlanFlags). f.0) c.FLAGS.ensures ∙ g.met.Self.Plan.flags_are_of_rules) in
    let none : plan.rules.young ≡ false = sym shown ∙ c.if-contains.false in
    c.if-contains.false ∙ sym (ap (λ (young : Bool). young && is_old (heap_state c.args.heap.now) c.args.address) none)
