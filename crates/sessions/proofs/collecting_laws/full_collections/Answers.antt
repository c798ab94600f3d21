use Rattle.std.proofs.Common.{refl}
use Rattle.sessions.proofs.CollectionsOfPlans.{mark-sweep, semi-space, gen-copy, immix, sticky-immix}
use Rattle.sessions.proofs.collecting_laws.full_collections.Goals as goal

pub returns-clause-nogc : goal.returns-clause-nogc
returns-clause-nogc c = record { full = refl; heap = refl; registers = refl }

pub returns-clause-mark_sweep : goal.returns-clause-mark_sweep
returns-clause-mark_sweep c = mark-sweep

pub returns-clause-semi_space : goal.returns-clause-semi_space
returns-clause-semi_space c = semi-space

pub returns-clause-gen_copy : goal.returns-clause-gen_copy
returns-clause-gen_copy c = gen-copy

pub returns-clause-immix : goal.returns-clause-immix
returns-clause-immix c = immix

pub returns-clause-sticky_immix : goal.returns-clause-sticky_immix
returns-clause-sticky_immix c = sticky-immix
