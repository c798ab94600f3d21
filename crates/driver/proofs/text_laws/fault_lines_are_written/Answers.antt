use Rattle.std.proofs.Common.{◌≡◌, sym, ◌∙◌, ap, subst, ℕ, inl, inr, List, ◌++◌, length, take}
use Rattle.std.specs.Prelude.{Option, Some}
use Rattle.std.proofs.Math.Seq.{take-length}
use Rattle.outside.specs.Outside.{AppendsText, AppendsPrefix}
use Rattle.driver.proofs.text_laws.fault_lines_are_written.Goals as goal

pub returns-clause-whole : goal.returns-clause-whole
returns-clause-whole c before after old line writes written calm = elim writes.reported as (λ _. after.written ≡ Some (old ++ line)) [
  | inl t ↦ subst (λ (o : Option (List ℕ)). AppendsText o after.written line) written t
  | inr h ↦ absurd (calm h.0)
]

pub returns-clause-front : goal.returns-clause-front
returns-clause-front c before after old line writes written = elim writes.reported as (λ _. (n : ℕ) × (after.written ≡ Some (old ++ take n line))) [
  | inl t ↦ (
      let got : after.written ≡ Some (old ++ line) = subst (λ (o : Option (List ℕ)). AppendsText o after.written line) written t in
      (length line, got ∙ ap (λ x. Some (old ++ x)) (sym (take-length line))))
  | inr h ↦ (
      let got = subst (λ (o : Option (List ℕ)). AppendsPrefix o after.written line) written h.1 in
      (got.0, got.2))
]

pub returns-clause-later : goal.returns-clause-later
returns-clause-later c before after line writes = writes.later
