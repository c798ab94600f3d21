use Rattle.std.proofs.Common.{◌≡◌, refl, inl, inr, arith, true, false, [], ◌∷◌}
use Rattle.driver.proofs.LiveLists.{any-in}
use Rattle.driver.proofs.WorkedLives.{live, reached-live}
use Rattle.driver.proofs.text_laws.live_objects.Goals as goal

pub returns-clause-live : goal.returns-clause-live
returns-clause-live c = live

pub returns-clause-by_address : goal.returns-clause-by_address
returns-clause-by_address c are = elim (are.rise 0 1 (omega arith) (omega arith)) as (λ _. ⊥) [ inl h ↦ omega (arith, h) | inr h ↦ omega (arith, h.0) ]

pub returns-clause-twice : goal.returns-clause-twice
returns-clause-twice c are = elim (are.rise 0 1 (omega arith) (omega arith)) as (λ _. ⊥) [ inl h ↦ omega (arith, h) | inr h ↦ omega (arith, h.1) ]

pub returns-clause-dead : goal.returns-clause-dead
returns-clause-dead c are =
    let wrong : false ≡ true = reached-live 1003 ((are.all 1003).1 (0, 1003, omega arith, refl, refl)) in cc

pub returns-clause-missing : goal.returns-clause-missing
returns-clause-missing c are =
    let wrong : false ≡ true = any-in (9195 ∷ 1008 ∷ []) 13307 ((are.all 13307).0 ((live.all 13307).1 (1, 13307, omega arith, refl, refl))) in cc
