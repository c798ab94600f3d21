use Rattle.std.proofs.Common.{refl, inl, inr, arith, [], ◌∷◌}
use Rattle.std.specs.Fmt.{digits}
use Rattle.ideal_heap.specs.Names.{name}
use Rattle.driver.proofs.LiveNames.{here, not-before-itself}
use Rattle.driver.proofs.WorkedReach.{live, reached-there, dead-not-there, shared-needed, shared-reached}
use Rattle.driver.proofs.report_laws.worked_live_names.Goals as goal

pub returns-clause-live : goal.returns-clause-live
returns-clause-live c = live

pub returns-clause-by_birth : goal.returns-clause-by_birth
returns-clause-by_birth c are = elim (are.rise 1 2 (name 1 1) (omega arith) (omega arith)) as (λ _. ⊥) [ inl h ↦ omega (arith, h) | inr h ↦ omega (arith, h.0) ]

pub returns-clause-twice : goal.returns-clause-twice
returns-clause-twice c are = not-before-itself (name 1 2) (name 1 2) refl (are.rise 0 1 (name 1 1) (omega arith) (omega arith))

pub returns-clause-dead : goal.returns-clause-dead
returns-clause-dead c are = dead-not-there (reached-there (name 1 1) ((are.all (name 1 1)).1 (here (name 1 1) (name 1 2 ∷ name 1 3 ∷ name 2 1 ∷ []) (name 1 1) refl)))

pub returns-clause-missing : goal.returns-clause-missing
returns-clause-missing c are = shared-needed ((are.all (name 1 3)).0 shared-reached)

pub returns-clause-line : goal.returns-clause-line
unfolding digits
returns-clause-line c = refl

pub returns-clause-heap : goal.returns-clause-heap
returns-clause-heap c = (refl, refl, refl)
