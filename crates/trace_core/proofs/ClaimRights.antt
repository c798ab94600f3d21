-- The rights after an object is claimed, and when one that stays may be.
use Rattle.std.proofs.Common.{◌≡◌, ◌≢◌, ℕ, ◌+◌, ◌<◌, inl, inr, Bool, ◌&&◌, not, IsTrue, nat_eq, List, ◌∷◌, refl, sym, ap, ◌∙◌, arith, Some, None}
use Rattle.std.proofs.lemmas.Bool.{cases_eq, eq-eqb, ne_eqb}
use Rattle.object_model.specs.Objects.{IsHeld}
use Rattle.object_model.specs.Times.{one_if, times}
use Rattle.trace_core.specs.Setups.{Setup, stays_old, keeps_its_words, may_be_moved}
use Rattle.trace_core.specs.Machine.{Stage, Unclaimed, Copying, Scanning, target, Machine, Event, ClaimCause, ByRoot, ByGlobal, ByField, Claim, next, put, asks_after}
use Rattle.trace_core.specs.Traces.{May, NoneIsFree, IsAskedBy, machine_after, stage_of, target_of}
use Rattle.trace_core.specs.Views.{View, Holds, hits, is_copying, is_scanning, is_stage_copied, steps_at_claim, asked_roots, claimed_view}
use Rattle.trace_core.proofs.Puts.{put_here, put_else}
use Rattle.trace_core.proofs.Objects.{None-not-Some}
use Rattle.trace_core.proofs.CountedRights.{hits-cons, hits-from, pair-parts, times-cons}
use Rattle.trace_core.proofs.Idle.{one-if-true}

pub unclaimed-stage : (st : Stage) → target st ≡ None → st ≡ Unclaimed
unclaimed-stage Unclaimed is = refl
unclaimed-stage (Copying t k) is = absurd (None-not-Some t (sym is))
unclaimed-stage (Scanning t k) is = absurd (None-not-Some t (sym is))

-- the view after a claim of the object at x, which goes to u
module _ (p : Setup) (m : Machine) (v : View) (holds : Holds p m v) (x u : ℕ) (cause : ClaimCause) (free : m.stage x ≡ Unclaimed) where
  abbrev steps : ℕ
  steps = steps_at_claim p x u

  abbrev claimed : Machine
  claimed = next p m (Claim x u cause)

  here : claimed.stage x ≡ Copying u steps
  here = put_here m.stage x (Copying u steps)

  there : (y : ℕ) → y ≢ x → claimed.stage y ≡ m.stage y
  there y ne = put_else m.stage x (Copying u steps) y ne

  won-now : (y j : ℕ) → hits y j ((x, steps) ∷ v.won) ≡ one_if (is_copying j (claimed.stage y))
  won-now y j = elim (cases_eq y x) as (λ _. hits y j ((x, steps) ∷ v.won) ≡ one_if (is_copying j (claimed.stage y))) [
    | inl e ↦ (let count : hits y j ((x, steps) ∷ v.won) ≡ one_if (nat_eq x y && nat_eq steps j) + hits y j v.won = hits-cons x steps v.won y j in
        let one : one_if (nat_eq x y && nat_eq steps j) ≡ one_if (nat_eq steps j) = ap (λ b. one_if (b && nat_eq steps j)) (eq-eqb x y (sym e)) in
        let none : hits y j v.won ≡ 0 = holds.won y j ∙ ap (λ st. one_if (is_copying j st)) (ap m.stage e ∙ free) in
        let now : one_if (is_copying j (claimed.stage y)) ≡ one_if (nat_eq steps j) = ap (λ st. one_if (is_copying j st)) (ap claimed.stage e ∙ here) in omega arith)
    | inr ne ↦ (let count : hits y j ((x, steps) ∷ v.won) ≡ one_if (nat_eq x y && nat_eq steps j) + hits y j v.won = hits-cons x steps v.won y j in
        let zero : one_if (nat_eq x y && nat_eq steps j) ≡ 0 = ap (λ b. one_if (b && nat_eq steps j)) (ne_eqb x y (λ e. ne (sym e))) in
        let before : hits y j v.won ≡ one_if (is_copying j (m.stage y)) = holds.won y j in
        let now : one_if (is_copying j (claimed.stage y)) ≡ one_if (is_copying j (m.stage y)) = ap (λ st. one_if (is_copying j st)) (there y ne) in omega arith)
  ]

  -- what is the same of an unclaimed object and of one to copy
  unchanged : (f : Stage → Bool) → f Unclaimed ≡ f (Copying u steps) → (y : ℕ) → f (claimed.stage y) ≡ f (m.stage y)
  unchanged f same y = elim (cases_eq y x) as (λ _. f (claimed.stage y) ≡ f (m.stage y)) [
    | inl e ↦ ap f (ap claimed.stage e ∙ here) ∙ sym same ∙ sym (ap f (ap m.stage e ∙ free))
    | inr ne ↦ ap f (there y ne)
  ]

  asked-now : (c : ClaimCause) (y : ℕ) → times y (asked_roots x c v.asked) ≡ asks_after m (Claim x u c) y
  asked-now ByRoot y = elim (cases_eq y x) as (λ _. times y (x ∷ v.asked) ≡ put m.asked x (m.asked x + 1) y) [
    | inl e ↦ (let count : times y (x ∷ v.asked) ≡ one_if (nat_eq y x) + times y v.asked = times-cons x v.asked y in
        let one : one_if (nat_eq y x) ≡ 1 = one-if-true (nat_eq y x) (eq-eqb y x e) in
        let before : times y v.asked ≡ m.asked x = holds.asked y ∙ ap m.asked e in
        let now : put m.asked x (m.asked x + 1) y ≡ m.asked x + 1 = ap (put m.asked x (m.asked x + 1)) e ∙ put_here m.asked x (m.asked x + 1) in omega arith)
    | inr ne ↦ (let count : times y (x ∷ v.asked) ≡ one_if (nat_eq y x) + times y v.asked = times-cons x v.asked y in
        let zero : one_if (nat_eq y x) ≡ 0 = ap one_if (ne_eqb y x ne) in
        let before : times y v.asked ≡ m.asked y = holds.asked y in
        let now : put m.asked x (m.asked x + 1) y ≡ m.asked y = put_else m.asked x (m.asked x + 1) y ne in omega arith)
  ]
  asked-now (ByGlobal g) y = holds.asked y
  asked-now (ByField z i) y = holds.asked y

  known-now : (y w : ℕ) → 0 < hits y w ((x, u) ∷ v.known) → target (claimed.stage y) ≡ Some w
  known-now y w some = elim (hits-from x u v.known y w some) as (λ _. target (claimed.stage y) ≡ Some w) [
    | inl pair ↦ (let both = pair-parts x u y w pair in ap target (ap claimed.stage (sym both.0) ∙ here) ∙ ap Some both.1)
    | inr before ↦ (let was : target (m.stage y) ≡ Some w = holds.known y w before in
        ap target (there y (λ e. None-not-Some w (ap target (sym free ∙ ap m.stage (sym e)) ∙ was))) ∙ was)
  ]

  pub holds-claimed : Holds p claimed (claimed_view p x u cause v)
  holds-claimed = record {
    won = won-now;
    grey = λ y j. holds.grey y j ∙ sym (ap (λ b. one_if (not (keeps_its_words p y) && b)) (unchanged (is_scanning j) refl y));
    copied = λ y. holds.copied y ∙ sym (ap (λ b. one_if (not (stays_old p y) && b)) (unchanged is_stage_copied refl y));
    unset = holds.unset;
    set = holds.set;
    asked = asked-now cause;
    known = known-now;
    blocks = holds.blocks;
  }

-- the claim may come
pub may-stay : (p : Setup) (es : List Event) (x : ℕ) (cause : ClaimCause) → IsHeld p.before x → target_of p es x ≡ None → IsAskedBy p (machine_after p es) x cause
    → (IsTrue (may_be_moved p x) → NoneIsFree p (machine_after p es).taken) → May p (machine_after p es) (Claim x x cause)
may-stay p es x cause there free asked reason = (there.start, unclaimed-stage (stage_of p es x) free, asked, inl (record { same = refl; reason = reason }))
