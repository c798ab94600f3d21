use Rattle.std.proofs.Common.{refl}
use Rattle.sessions.specs.Plans as plans
use Rattle.sessions.specs.Plans.{rules_of}
use Rattle.plan_api.proofs.EvacuationLaws as laws
use Rattle.plan_api.proofs.evacuation_laws.kept_blocks.Goals as goal

pub returns-clause-nogc : goal.returns-clause-nogc
returns-clause-nogc c = λ collect s k. laws.none-from (rules_of plans.NoGc) collect s k refl

pub returns-clause-mark_sweep : goal.returns-clause-mark_sweep
returns-clause-mark_sweep c = λ collect s k. laws.none-from (rules_of plans.MarkSweep) collect s k refl

pub returns-clause-immix : goal.returns-clause-immix
returns-clause-immix c = λ collect s k. laws.no-candidate (rules_of plans.Immix) collect s k refl

pub returns-clause-sticky_immix : goal.returns-clause-sticky_immix
returns-clause-sticky_immix c = λ collect s k. laws.no-candidate (rules_of plans.StickyImmix) collect s k refl

pub returns-clause-semi_space : goal.returns-clause-semi_space
returns-clause-semi_space c = laws.bump-kept

pub returns-clause-kept : goal.returns-clause-kept
returns-clause-kept c = laws.kept-kept

pub returns-clause-copies : goal.returns-clause-copies
returns-clause-copies c = laws.copies-not-kept

pub returns-clause-young : goal.returns-clause-young
returns-clause-young c = laws.young-kept

pub returns-clause-old : goal.returns-clause-old
returns-clause-old c = laws.old-not-kept

pub returns-clause-mature : goal.returns-clause-mature
returns-clause-mature c = laws.mature-kept
