-- The rights while an object is copied, and after it is.
use Rattle.std.proofs.Common.{◌≡◌, ℕ, ◌+◌, ◌<◌, inl, inr, Bool, true, false, ◌&&◌, not, nat_eq, ◌∷◌, refl, sym, ap, ◌∙◌, subst, arith, Some}
use Rattle.std.specs.Prelude.{nat_lt}
use Rattle.std.proofs.lemmas.Bool.{cases_eq, eq-eqb, ne_eqb, eqb-true}
use Rattle.object_model.specs.Times.{one_if, times}
use Rattle.trace_core.specs.Setups.{Setup, stays_old, keeps_its_words}
use Rattle.trace_core.specs.Machine.{Stage, Unclaimed, Copying, Scanning, target, Machine}
use Rattle.trace_core.specs.Views.{View, Holds, hits, is_pair, is_copying, is_scanning, is_stage_copied, without}
use Rattle.trace_core.proofs.Objects.{Some-injective}
use Rattle.trace_core.proofs.CountedRights.{hits-cons, hits-without, times-cons}
use Rattle.trace_core.proofs.Idle.{one-if-from, one-if-true}
use Rattle.trace_core.proofs.CopyEvents.{Reaches}

-- the stage of an object with this right
pub won-stage : (p : Setup) (m : Machine) (v : View) → Holds p m v → (x k t : ℕ) → 0 < hits x k v.won → 0 < hits x t v.known → m.stage x ≡ Copying t k
won-stage p m v holds x k t right known = by-stage (m.stage x) refl
  where
    by-stage : (st : Stage) → m.stage x ≡ st → m.stage x ≡ Copying t k
    by-stage Unclaimed is = absurd (let none : hits x k v.won ≡ 0 = holds.won x k ∙ ap (λ z. one_if (is_copying k z)) is in omega arith)
    by-stage (Copying u n) is = is ∙ ap (λ z. Copying z n) (Some-injective u t (ap target (sym is) ∙ holds.known x t known))
        ∙ ap (Copying t) (eqb-true n k (one-if-from (nat_eq n k) (subst (λ c. 0 < c) (holds.won x k ∙ ap (λ z. one_if (is_copying k z)) is) right)))
    by-stage (Scanning u n) is = absurd (let none : hits x k v.won ≡ 0 = holds.won x k ∙ ap (λ z. one_if (is_copying k z)) is in omega arith)

-- the view after the last step of the copying of an object, of which s were made before
module _ (p : Setup) (m m' : Machine) (v : View) (holds : Holds p m v) (x t s : ℕ) (young : stays_old p x ≡ false) (stage : m.stage x ≡ Copying t s)
    (reaches : Reaches m m' x (Scanning t 0)) where
  not-idle : keeps_its_words p x ≡ false
  not-idle = ap (λ b. b && not (p.logged x)) young

  won-here : 0 < hits x s v.won
  won-here = subst (λ c. 0 < c) (sym (holds.won x s ∙ ap (λ z. one_if (is_copying s z)) stage ∙ one-if-true (nat_eq s s) (eq-eqb s s refl))) (omega arith)

  won-now : (y j : ℕ) → hits y j (without (is_pair x s) v.won) ≡ one_if (is_copying j (m'.stage y))
  won-now y j =
      let less : hits y j v.won ≡ hits y j (without (is_pair x s) v.won) + one_if (nat_eq x y && nat_eq s j) = hits-without x s v.won won-here y j in
      let before : hits y j v.won ≡ one_if (is_copying j (m.stage y)) = holds.won y j in
      elim (cases_eq y x) as (λ _. hits y j (without (is_pair x s) v.won) ≡ one_if (is_copying j (m'.stage y))) [
        | inl e ↦ (let was : one_if (is_copying j (m.stage y)) ≡ one_if (nat_eq s j) = ap (λ z. one_if (is_copying j z)) (ap m.stage e ∙ stage) in
            let one : one_if (nat_eq x y && nat_eq s j) ≡ one_if (nat_eq s j) = ap (λ b. one_if (b && nat_eq s j)) (eq-eqb x y (sym e)) in
            let now : one_if (is_copying j (m'.stage y)) ≡ 0 = ap (λ z. one_if (is_copying j z)) (ap m'.stage e ∙ reaches.stage) in omega arith)
        | inr ne ↦ (let zero : one_if (nat_eq x y && nat_eq s j) ≡ 0 = ap (λ b. one_if (b && nat_eq s j)) (ne_eqb x y (λ e. ne (sym e))) in
            let now : one_if (is_copying j (m'.stage y)) ≡ one_if (is_copying j (m.stage y)) = ap (λ z. one_if (is_copying j z)) (reaches.others y ne) in omega arith)
      ]

  grey-now : (y j : ℕ) → hits y j ((x, 0) ∷ v.grey) ≡ one_if (not (keeps_its_words p y) && is_scanning j (m'.stage y))
  grey-now y j =
      let count : hits y j ((x, 0) ∷ v.grey) ≡ one_if (nat_eq x y && nat_eq 0 j) + hits y j v.grey = hits-cons x 0 v.grey y j in
      let before : hits y j v.grey ≡ one_if (not (keeps_its_words p y) && is_scanning j (m.stage y)) = holds.grey y j in
      elim (cases_eq y x) as (λ _. hits y j ((x, 0) ∷ v.grey) ≡ one_if (not (keeps_its_words p y) && is_scanning j (m'.stage y))) [
        | inl e ↦ (let busy : not (keeps_its_words p y) ≡ true = ap not (ap (keeps_its_words p) e ∙ not-idle) in
            let was : one_if (not (keeps_its_words p y) && is_scanning j (m.stage y)) ≡ 0 = ap (λ b. one_if (b && is_scanning j (m.stage y))) busy ∙ ap (λ z. one_if (is_scanning j z)) (ap m.stage e ∙ stage) in
            let one : one_if (nat_eq x y && nat_eq 0 j) ≡ one_if (nat_eq 0 j) = ap (λ b. one_if (b && nat_eq 0 j)) (eq-eqb x y (sym e)) in
            let now : one_if (not (keeps_its_words p y) && is_scanning j (m'.stage y)) ≡ one_if (nat_eq 0 j) = ap (λ b. one_if (b && is_scanning j (m'.stage y))) busy ∙ ap (λ z. one_if (is_scanning j z)) (ap m'.stage e ∙ reaches.stage) in omega arith)
        | inr ne ↦ (let zero : one_if (nat_eq x y && nat_eq 0 j) ≡ 0 = ap (λ b. one_if (b && nat_eq 0 j)) (ne_eqb x y (λ e. ne (sym e))) in
            let now : one_if (not (keeps_its_words p y) && is_scanning j (m'.stage y)) ≡ one_if (not (keeps_its_words p y) && is_scanning j (m.stage y)) = ap (λ z. one_if (not (keeps_its_words p y) && is_scanning j z)) (reaches.others y ne) in omega arith)
      ]

  copied-now : (y : ℕ) → times y (x ∷ v.copied) ≡ one_if (not (stays_old p y) && is_stage_copied (m'.stage y))
  copied-now y =
      let count : times y (x ∷ v.copied) ≡ one_if (nat_eq y x) + times y v.copied = times-cons x v.copied y in
      let before : times y v.copied ≡ one_if (not (stays_old p y) && is_stage_copied (m.stage y)) = holds.copied y in
      elim (cases_eq y x) as (λ _. times y (x ∷ v.copied) ≡ one_if (not (stays_old p y) && is_stage_copied (m'.stage y))) [
        | inl e ↦ (let new : not (stays_old p y) ≡ true = ap not (ap (stays_old p) e ∙ young) in
            let was : one_if (not (stays_old p y) && is_stage_copied (m.stage y)) ≡ 0 = ap (λ b. one_if (b && is_stage_copied (m.stage y))) new ∙ ap (λ z. one_if (is_stage_copied z)) (ap m.stage e ∙ stage) in
            let one : one_if (nat_eq y x) ≡ 1 = one-if-true (nat_eq y x) (eq-eqb y x e) in
            let now : one_if (not (stays_old p y) && is_stage_copied (m'.stage y)) ≡ 1 = ap (λ b. one_if (b && is_stage_copied (m'.stage y))) new ∙ ap (λ z. one_if (is_stage_copied z)) (ap m'.stage e ∙ reaches.stage) in omega arith)
        | inr ne ↦ (let zero : one_if (nat_eq y x) ≡ 0 = ap one_if (ne_eqb y x ne) in
            let now : one_if (not (stays_old p y) && is_stage_copied (m'.stage y)) ≡ one_if (not (stays_old p y) && is_stage_copied (m.stage y)) = ap (λ z. one_if (not (stays_old p y) && is_stage_copied z)) (reaches.others y ne) in omega arith)
      ]

  known-now : (y u : ℕ) → 0 < hits y u v.known → target (m'.stage y) ≡ Some u
  known-now y u some = let was : target (m.stage y) ≡ Some u = holds.known y u some in
      elim (cases_eq y x) as (λ _. target (m'.stage y) ≡ Some u) [
        | inl e ↦ ap target (ap m'.stage e ∙ reaches.stage) ∙ sym (ap target (ap m.stage e ∙ stage)) ∙ was
        | inr ne ↦ ap target (reaches.others y ne) ∙ was
      ]

  pub holds-copied : Holds p m' (record v { won = without (is_pair x s) v.won; grey = (x, 0) ∷ v.grey; copied = x ∷ v.copied })
  holds-copied = record {
    won = won-now;
    grey = grey-now;
    copied = copied-now;
    unset = λ g. holds.unset g ∙ ap (λ f. one_if (nat_lt g 16 && not (f g))) (sym reaches.set);
    set = λ g. holds.set g ∙ ap (λ f. one_if (f g)) (sym reaches.set);
    asked = λ y. holds.asked y ∙ ap (λ f. f y) (sym reaches.asked);
    known = known-now;
    blocks = λ b. holds.blocks b ∙ ap (λ f. one_if (nat_lt 0 (f b))) (sym reaches.taken);
  }

-- the view after one more step, which is not the last one
module _ (p : Setup) (m m' : Machine) (v : View) (holds : Holds p m v) (x t s : ℕ) (stage : m.stage x ≡ Copying t s) (reaches : Reaches m m' x (Copying t (s + 1))) where
  right-here : 0 < hits x s v.won
  right-here = subst (λ c. 0 < c) (sym (holds.won x s ∙ ap (λ z. one_if (is_copying s z)) stage ∙ one-if-true (nat_eq s s) (eq-eqb s s refl))) (omega arith)

  right-moves : (y j : ℕ) → hits y j ((x, s + 1) ∷ without (is_pair x s) v.won) ≡ one_if (is_copying j (m'.stage y))
  right-moves y j =
      let more : hits y j ((x, s + 1) ∷ without (is_pair x s) v.won) ≡ one_if (nat_eq x y && nat_eq (s + 1) j) + hits y j (without (is_pair x s) v.won) = hits-cons x (s + 1) (without (is_pair x s) v.won) y j in
      let less : hits y j v.won ≡ hits y j (without (is_pair x s) v.won) + one_if (nat_eq x y && nat_eq s j) = hits-without x s v.won right-here y j in
      let before : hits y j v.won ≡ one_if (is_copying j (m.stage y)) = holds.won y j in
      elim (cases_eq y x) as (λ _. hits y j ((x, s + 1) ∷ without (is_pair x s) v.won) ≡ one_if (is_copying j (m'.stage y))) [
        | inl e ↦ (let was : one_if (is_copying j (m.stage y)) ≡ one_if (nat_eq s j) = ap (λ z. one_if (is_copying j z)) (ap m.stage e ∙ stage) in
            let gone : one_if (nat_eq x y && nat_eq s j) ≡ one_if (nat_eq s j) = ap (λ b. one_if (b && nat_eq s j)) (eq-eqb x y (sym e)) in
            let new : one_if (nat_eq x y && nat_eq (s + 1) j) ≡ one_if (nat_eq (s + 1) j) = ap (λ b. one_if (b && nat_eq (s + 1) j)) (eq-eqb x y (sym e)) in
            let now : one_if (is_copying j (m'.stage y)) ≡ one_if (nat_eq (s + 1) j) = ap (λ z. one_if (is_copying j z)) (ap m'.stage e ∙ reaches.stage) in omega arith)
        | inr ne ↦ (let gone : one_if (nat_eq x y && nat_eq s j) ≡ 0 = ap (λ b. one_if (b && nat_eq s j)) (ne_eqb x y (λ e. ne (sym e))) in
            let new : one_if (nat_eq x y && nat_eq (s + 1) j) ≡ 0 = ap (λ b. one_if (b && nat_eq (s + 1) j)) (ne_eqb x y (λ e. ne (sym e))) in
            let now : one_if (is_copying j (m'.stage y)) ≡ one_if (is_copying j (m.stage y)) = ap (λ z. one_if (is_copying j z)) (reaches.others y ne) in omega arith)
      ]

  same-stage : (f : Stage → Bool) → f (Copying t s) ≡ f (Copying t (s + 1)) → (y : ℕ) → f (m'.stage y) ≡ f (m.stage y)
  same-stage f same y = elim (cases_eq y x) as (λ _. f (m'.stage y) ≡ f (m.stage y)) [
    | inl e ↦ ap f (ap m'.stage e ∙ reaches.stage) ∙ sym same ∙ sym (ap f (ap m.stage e ∙ stage))
    | inr ne ↦ ap f (reaches.others y ne)
  ]

  known-still : (y u : ℕ) → 0 < hits y u v.known → target (m'.stage y) ≡ Some u
  known-still y u some = elim (cases_eq y x) as (λ _. target (m'.stage y) ≡ Some u) [
    | inl e ↦ ap target (ap m'.stage e ∙ reaches.stage) ∙ sym (ap target (ap m.stage e ∙ stage)) ∙ holds.known y u some
    | inr ne ↦ ap target (reaches.others y ne) ∙ holds.known y u some
  ]

  pub holds-step : Holds p m' (record v { won = (x, s + 1) ∷ without (is_pair x s) v.won })
  holds-step = record {
    won = right-moves;
    grey = λ y j. holds.grey y j ∙ sym (ap (λ b. one_if (not (keeps_its_words p y) && b)) (same-stage (is_scanning j) refl y));
    copied = λ y. holds.copied y ∙ sym (ap (λ b. one_if (not (stays_old p y) && b)) (same-stage is_stage_copied refl y));
    unset = λ g. holds.unset g ∙ ap (λ f. one_if (nat_lt g 16 && not (f g))) (sym reaches.set);
    set = λ g. holds.set g ∙ ap (λ f. one_if (f g)) (sym reaches.set);
    asked = λ y. holds.asked y ∙ ap (λ f. f y) (sym reaches.asked);
    known = known-still;
    blocks = λ b. holds.blocks b ∙ ap (λ f. one_if (nat_lt 0 (f b))) (sym reaches.taken);
  }
