-- The last values of fields and globals.
use Rattle.std.proofs.Common.{◌≡◌, ◌≢◌, ℕ, not, IsTrue, nat_eq, sym, ap, ◌∙◌, Some}
use Rattle.std.proofs.lemmas.Bool.{cond-true, not_from_false, ne_eqb}
use Rattle.object_model.specs.Objects.{is_reference}
use Rattle.trace_core.specs.Machine.{Stage, target, IsSettled, forward, address_or_nil}

-- a reference to an object, which is no nil
pub reference-of : (x : ℕ) → x ≢ 0 → IsTrue (is_reference x)
reference-of x some = not_from_false (nat_eq x 0) (ne_eqb x 0 some)

-- an object that has its target
pub settled-at : (stage : ℕ → Stage) (x t : ℕ) → target (stage x) ≡ Some t → IsSettled stage x
settled-at stage x t is = λ reference. (t, is)

pub forward-at : (stage : ℕ → Stage) (x t : ℕ) → x ≢ 0 → target (stage x) ≡ Some t → t ≡ forward stage x
forward-at stage x t some is = sym (cond-true (is_reference x) (address_or_nil (target (stage x))) x (reference-of x some) ∙ ap address_or_nil is)

-- nil has no target
pub settled-nil : (stage : ℕ → Stage) (x : ℕ) → x ≡ 0 → IsSettled stage x
settled-nil stage x none reference = absurd (let wrong : not (nat_eq x 0) ≡ not (nat_eq 0 0) = ap (λ y. not (nat_eq y 0)) none in cc)

pub forward-nil : (stage : ℕ → Stage) (x : ℕ) → x ≡ 0 → 0 ≡ forward stage x
forward-nil stage x none = sym (ap (forward stage) none)
