use Rattle.std.proofs.Common.{◌≡◌, ◌∙◌, refl, ap, arith, ◌+◌}
use Rattle.object_model.specs.Heaps.{heap_state}
use Rattle.plan_api.specs.declared.flags.PlanFlags.{PlanFlags}
use Rattle.collector.proofs.Prepared.{may-trace, traces-under, lines-shown}
use Rattle.collector.proofs.collecting.prepare.Goals as goal

pub logged_for-requires : goal.logged_for-requires
logged_for-requires g c = λ nursery. c.requires.flags (c.requires.offered.young nursery)

pub returns-clause-may : goal.returns-clause-may
returns-clause-may g c =
    let number : c.number.result + 1 ≡ (heap_state c.args.heap.now).number + 1 = ap (λ n. n + 1) c.number.ensures in
    may-trace g.P.Plan.plan g.P.Plan.rules g.met.P.Plan.rules_are_of_plan c.args.collect (heap_state c.args.heap.now) c.requires.offered _ refl c.in_ok-from.ensures c.copy_kind.ensures
    number (omega (arith, number, c.requires.number)) c.base_after.ensures c.in_ok-logged.ensures.nursery c.in_ok-logged.ensures.full (g.met.P.Plan.large_objects_stay c.args.collect (heap_state c.args.heap.now))

pub returns-clause-under : goal.returns-clause-under
returns-clause-under g c =
    traces-under g.P.Plan.plan g.P.Plan.rules g.met.P.Plan.rules_are_of_plan c.args.collect (heap_state c.args.heap.now) c.requires.offered _ refl c.in_ok-from.ensures c.copy_kind.ensures
    (c.contains.ensures tt ∙ lines-shown g.P.Plan.plan g.P.Plan.rules g.met.P.Plan.rules_are_of_plan c.FLAGS.result.0 (ap (λ (f : PlanFlags). f.0) c.FLAGS.ensures ∙ g.met.P.Plan.flags_are_of_rules))
