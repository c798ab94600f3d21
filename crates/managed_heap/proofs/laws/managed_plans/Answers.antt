use Rattle.std.proofs.Common.{refl}
use Rattle.sessions.specs.Plans.{NoGc, MarkSweep, SemiSpace, GenCopy, Immix, StickyImmix, rules_of}
use Rattle.managed_heap.proofs.ManagedPlans.{managed, holes}
use Rattle.managed_heap.proofs.laws.managed_plans.Goals as goal

pub returns-clause-nogc : goal.returns-clause-nogc
returns-clause-nogc c = managed (rules_of NoGc) refl

pub returns-clause-marksweep : goal.returns-clause-marksweep
returns-clause-marksweep c = managed (rules_of MarkSweep) refl

pub returns-clause-semispace : goal.returns-clause-semispace
returns-clause-semispace c = managed (rules_of SemiSpace) refl

pub returns-clause-gencopy : goal.returns-clause-gencopy
returns-clause-gencopy c = managed (rules_of GenCopy) refl

pub returns-clause-immix : goal.returns-clause-immix
returns-clause-immix c = managed (rules_of Immix) refl

pub returns-clause-stickyimmix : goal.returns-clause-stickyimmix
returns-clause-stickyimmix c = managed (rules_of StickyImmix) refl

pub returns-clause-holes : goal.returns-clause-holes
returns-clause-holes c = holes
