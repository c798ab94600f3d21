-- The first view of a trace has all rights of the machine as it begins.
use Rattle.std.proofs.Common.{◌≡◌, ℕ, zero, suc, ◌+◌, ◌<◌, ◌≤◌, inl, inr, true, false, true≢false, ◌&&◌, not, IsTrue, nat_eq, nat_lt, List, [], ◌∷◌, ◌++◌, Some, refl, sym, ap, ◌∙◌, subst, arith, eq-eqb, ne_eqb, add-zero}
use Rattle.std.specs.Prelude.{map, if◌then◌else◌}
use Rattle.std.specs.List.{range_with_len}
use Rattle.std.proofs.lemmas.Bool.{cases_Bool, cases_eq, cond-true, and_from, and_left, and_parts, and_right, lt-ltb, le-ltb, not_from_false}
use Rattle.trace_core.specs.Setups.{Setup, TraceMayBegin, refs, stays_old, keeps_its_words, was_logged}
use Rattle.trace_core.specs.Machine.{Stage, Unclaimed, Scanning, target, first_machine, first_stage}
use Rattle.trace_core.specs.Views.{Holds, hits, is_pair, is_copying, is_scanning, is_stage_copied, first_view}
use Rattle.object_model.specs.Times.{one_if, times}
use Rattle.trace_core.specs.Rights.{HoldsLogged}
use Rattle.trace_core.specs.declared.run.TraceRun.{TraceRun}
use Rattle.trace_core.proofs.FirstInvariant.{first-old, first-young, kept-words}
use Rattle.trace_core.proofs.CountedRights.{hits-cons, hits-from, pair-parts, times-cons}
use Rattle.trace_core.proofs.Idle.{one-if-from, one-if-true}

-- a range with one number more
more : (a n j : ℕ) → a + n ≡ j → range_with_len a (suc n) ≡ range_with_len a n ++ j ∷ []
more a zero j end = ap (λ z. z ∷ []) (sym (add-zero a) ∙ end)
more a (suc n) j end = ap (λ l. a ∷ l) (more (a + 1) n j (omega arith))

pub range-more : (a n j : ℕ) → a + n ≡ j → range_with_len a (n + 1) ≡ range_with_len a n ++ j ∷ []
range-more a n j end = let one : n + 1 ≡ suc n = omega arith in ap (range_with_len a) one ∙ more a n j end

-- how often a number is in a range
times-past : (a n g : ℕ) → g < a → times g (range_with_len a n) ≡ 0
times-past a zero g before = refl
times-past a (suc n) g before =
    let d : times g (a ∷ range_with_len (a + 1) n) ≡ one_if (nat_eq g a) + times g (range_with_len (a + 1) n) = times-cons a (range_with_len (a + 1) n) g in
    let other : one_if (nat_eq g a) ≡ 0 = ap one_if (ne_eqb g a (λ e. omega arith)) in
    let rest : times g (range_with_len (a + 1) n) ≡ 0 = times-past (a + 1) n g (omega arith) in
    omega arith

pub times-range : (a n g : ℕ) → a ≤ g → times g (range_with_len a n) ≡ one_if (nat_lt g (a + n))
times-range a zero g from = sym (ap one_if (le-ltb g (a + 0) (omega arith)))
times-range a (suc n) g from =
    let d : times g (a ∷ range_with_len (a + 1) n) ≡ one_if (nat_eq g a) + times g (range_with_len (a + 1) n) = times-cons a (range_with_len (a + 1) n) g in
    elim (cases_eq g a) as (λ _. times g (range_with_len a (suc n)) ≡ one_if (nat_lt g (a + suc n))) [
      | inl same ↦ (let here : one_if (nat_eq g a) ≡ 1 = one-if-true (nat_eq g a) (eq-eqb g a same) in
          let rest : times g (range_with_len (a + 1) n) ≡ 0 = times-past (a + 1) n g (omega arith) in
          let one : one_if (nat_lt g (a + suc n)) ≡ 1 = one-if-true (nat_lt g (a + suc n)) (lt-ltb g (a + suc n) (omega arith)) in
          omega arith)
      | inr other ↦ (let none : one_if (nat_eq g a) ≡ 0 = ap one_if (ne_eqb g a other) in
          let rest : times g (range_with_len (a + 1) n) ≡ one_if (nat_lt g (a + 1 + n)) = times-range (a + 1) n g (omega arith) in
          let end : a + 1 + n ≡ a + suc n = omega arith in
          let at : one_if (nat_lt g (a + 1 + n)) ≡ one_if (nat_lt g (a + suc n)) = ap (λ e. one_if (nat_lt g e)) end in
          omega arith)
    ]

-- how often an object is in a list of objects with their first fields
pub hits-first : (x : ℕ) (l : List ℕ) → hits x 0 (map (λ y. (y, 0)) l) ≡ times x l
hits-first x [] = refl
hits-first x (y ∷ l) =
    let d : hits x 0 ((y, 0) ∷ map (λ z. (z, 0)) l) ≡ one_if (is_pair x 0 (y, 0)) + hits x 0 (map (λ z. (z, 0)) l) = hits-cons y 0 (map (λ z. (z, 0)) l) x 0 in
    let c : times x (y ∷ l) ≡ one_if (nat_eq x y) + times x l = times-cons y l x in
    let rest : hits x 0 (map (λ z. (z, 0)) l) ≡ times x l = hits-first x l in
    let here : one_if (is_pair x 0 (y, 0)) ≡ one_if (nat_eq x y) = ap one_if (elim (cases_eq x y) as (λ _. is_pair x 0 (y, 0) ≡ nat_eq x y) [
      | inl e ↦ and_from (nat_eq y x) (nat_eq 0 0) (eq-eqb y x (sym e)) refl ∙ sym (eq-eqb x y e)
      | inr ne ↦ and_left (nat_eq y x) (nat_eq 0 0) (ne_eqb y x (λ e. ne (sym e))) ∙ sym (ne_eqb x y ne)
    ]) in
    omega arith

hits-later : (x k : ℕ) (l : List ℕ) → 0 < k → hits x k (map (λ y. (y, 0)) l) ≡ 0
hits-later x k [] some = refl
hits-later x k (y ∷ l) some =
    let d : hits x k ((y, 0) ∷ map (λ z. (z, 0)) l) ≡ one_if (is_pair x k (y, 0)) + hits x k (map (λ z. (z, 0)) l) = hits-cons y 0 (map (λ z. (z, 0)) l) x k in
    let rest : hits x k (map (λ z. (z, 0)) l) ≡ 0 = hits-later x k l some in
    let here : one_if (is_pair x k (y, 0)) ≡ 0 = ap one_if (and_right (nat_eq y x) (nat_eq 0 k) (ne_eqb 0 k (λ e. omega arith))) in
    omega arith

hits-none : (x k : ℕ) (l : List ℕ) → times x l ≡ 0 → hits x k (map (λ y. (y, 0)) l) ≡ 0
hits-none x zero l none = hits-first x l ∙ none
hits-none x (suc k) l none = hits-later x (suc k) l (omega arith)

-- an object is known by itself, and is in the list
known-logged : (x t : ℕ) (l : List ℕ) → 0 < hits x t (map (λ y. (y, y)) l) → (x ≡ t) × (0 < times x l)
known-logged x t [] some = absurd (omega (arith, some))
known-logged x t (y ∷ l) some =
    let c : times x (y ∷ l) ≡ one_if (nat_eq x y) + times x l = times-cons y l x in
    elim (hits-from y y (map (λ z. (z, z)) l) x t some) as (λ _. (x ≡ t) × (0 < times x (y ∷ l))) [
      | inl here ↦ (let both = pair-parts y y x t here in
          let one : one_if (nat_eq x y) ≡ 1 = one-if-true (nat_eq x y) (eq-eqb x y (sym both.0)) in (sym both.0 ∙ both.1, omega arith))
      | inr more ↦ (let rest = known-logged x t l more in let there : 0 < times x l = rest.1 in (rest.0, omega arith))
    ]

-- and each object of the list is
itself : (x : ℕ) (l : List ℕ) → 0 < times x l → 0 < hits x x (map (λ y. (y, y)) l)
itself x [] some = absurd (omega (arith, some))
itself x (y ∷ l) some =
    let c : times x (y ∷ l) ≡ one_if (nat_eq x y) + times x l = times-cons y l x in
    let d : hits x x ((y, y) ∷ map (λ z. (z, z)) l) ≡ one_if (is_pair x x (y, y)) + hits x x (map (λ z. (z, z)) l) = hits-cons y y (map (λ z. (z, z)) l) x x in
    elim (cases_eq x y) as (λ _. 0 < hits x x (map (λ z. (z, z)) (y ∷ l))) [
      | inl e ↦ (let here : one_if (is_pair x x (y, y)) ≡ 1 = one-if-true (is_pair x x (y, y)) (and_from (nat_eq y x) (nat_eq y x) (eq-eqb y x (sym e)) (eq-eqb y x (sym e))) in omega arith)
      | inr ne ↦ (let none : one_if (nat_eq x y) ≡ 0 = ap one_if (ne_eqb x y ne) in
          let rest : 0 < hits x x (map (λ z. (z, z)) l) = itself x l (omega arith) in omega arith)
    ]

module _ (p : Setup) (ready : TraceMayBegin p) (run : TraceRun) (logged : (x : ℕ) → times x run.logged.items ≡ one_if (was_logged p x)) where
  abbrev l : List ℕ
  l = run.logged.items

  old-of : (x : ℕ) → IsTrue (was_logged p x) → IsTrue (stays_old p x)
  old-of x is = elim (cases_Bool (stays_old p x)) as (λ _. IsTrue (stays_old p x)) [
    | inl aged ↦ aged
    | inr young ↦ absurd (true≢false (sym is ∙ and_left (stays_old p x) (p.logged x) young))
  ]

  -- what is so of each young object, and of each old one, as the trace begins
  by-age : (P : Stage → ℕ → Type 0) (x : ℕ) → (stays_old p x ≡ false → times x l ≡ 0 → P Unclaimed 0)
      → ((k : ℕ) → IsTrue (stays_old p x) → P (Scanning x k) (times x l)) → P (first_stage p x) (times x l)
  by-age P x young old = elim (cases_Bool (stays_old p x)) as (λ _. P (first_stage p x) (times x l)) [
    | inl aged ↦ subst (λ st. P st (times x l)) (sym (first-old p ready x aged)) (old (if was_logged p x then 0 else refs p x) aged)
    | inr not-aged ↦ (let none : times x l ≡ 0 = logged x ∙ ap one_if (and_left (stays_old p x) (p.logged x) not-aged) in
        subst (λ st. P st (times x l)) (sym (first-young p ready x not-aged)) (subst (P Unclaimed) (sym none) (young not-aged none)))
  ]

  won : (x k : ℕ) → 0 ≡ one_if (is_copying k (first_stage p x))
  won x k = by-age (λ st n. 0 ≡ one_if (is_copying k st)) x (λ young none. refl) (λ j aged. refl)

  copied : (x : ℕ) → 0 ≡ one_if (not (stays_old p x) && is_stage_copied (first_stage p x))
  copied x = by-age (λ st n. 0 ≡ one_if (not (stays_old p x) && is_stage_copied st)) x
      (λ young none. sym (ap one_if (and_right (not (stays_old p x)) false refl)))
      (λ j aged. sym (ap one_if (and_left (not (stays_old p x)) true (ap not aged))))

  grey-logged : (x k : ℕ) → IsTrue (was_logged p x) → hits x k (map (λ y. (y, 0)) l) ≡ one_if (not (keeps_its_words p x) && is_scanning k (first_stage p x))
  grey-logged x k is =
      let aged = old-of x is in
      let stage : first_stage p x ≡ Scanning x 0 = first-old p ready x aged ∙ ap (Scanning x) (cond-true (was_logged p x) 0 (refs p x) is) in
      let listed : IsTrue (p.logged x) = (and_parts (stays_old p x) (p.logged x) is).1 in
      let busy : IsTrue (not (keeps_its_words p x)) = not_from_false (keeps_its_words p x) (and_right (stays_old p x) (not (p.logged x)) (ap not listed)) in grey-from k
      (sym (ap (λ b. one_if (b && is_scanning k (first_stage p x))) busy ∙ ap (λ st. one_if (is_scanning k st)) stage))
    where
      grey-from : (k : ℕ) → one_if (nat_eq 0 k) ≡ one_if (not (keeps_its_words p x) && is_scanning k (first_stage p x))
          → hits x k (map (λ y. (y, 0)) l) ≡ one_if (not (keeps_its_words p x) && is_scanning k (first_stage p x))
      grey-from zero same = hits-first x l ∙ logged x ∙ one-if-true (was_logged p x) is ∙ same
      grey-from (suc k) same = hits-later x (suc k) l (omega arith) ∙ sym (ap one_if (ne_eqb 0 (suc k) (λ e. omega arith))) ∙ same

  no-grey : (x k : ℕ) → was_logged p x ≡ false → (not (keeps_its_words p x) && is_scanning k (first_stage p x)) ≡ false
  no-grey x k other = elim (cases_Bool (stays_old p x)) as (λ _. (not (keeps_its_words p x) && is_scanning k (first_stage p x)) ≡ false) [
    | inl aged ↦ and_left (not (keeps_its_words p x)) (is_scanning k (first_stage p x))
        (ap not (kept-words p ready x aged other))
    | inr young ↦ and_right (not (keeps_its_words p x)) (is_scanning k (first_stage p x)) (ap (is_scanning k) (first-young p ready x young))
  ]

  grey : (x k : ℕ) → hits x k (map (λ y. (y, 0)) l) ≡ one_if (not (keeps_its_words p x) && is_scanning k (first_stage p x))
  grey x k = elim (cases_Bool (was_logged p x)) as (λ _. hits x k (map (λ y. (y, 0)) l) ≡ one_if (not (keeps_its_words p x) && is_scanning k (first_stage p x))) [
    | inl is ↦ grey-logged x k is
    | inr other ↦ hits-none x k l (logged x ∙ ap one_if other) ∙ sym (ap one_if (no-grey x k other))
  ]

  known : (x t : ℕ) → 0 < hits x t (map (λ y. (y, y)) l) → target (first_stage p x) ≡ Some t
  known x t some =
      let d = known-logged x t l some in
      let is : IsTrue (was_logged p x) = one-if-from (was_logged p x) (subst (λ n. 0 < n) (logged x) d.1) in
      ap target (first-old p ready x (old-of x is)) ∙ ap (λ z. Some z) d.0

  -- the right to scan each logged object
  pub first-logged : HoldsLogged p (first_view run)
  first-logged = record {
    right = λ x is. (let one : hits x 0 (map (λ y. (y, 0)) l) ≡ 1 = hits-first x l ∙ logged x ∙ one-if-true (was_logged p x) is in omega arith);
    target = λ x is. itself x l (let one : times x l ≡ 1 = logged x ∙ one-if-true (was_logged p x) is in omega arith);
  }

  pub first-holds : Holds p (first_machine p) (first_view run)
  first-holds = record {
    won = won;
    grey = grey;
    copied = copied;
    unset = λ g. times-range 0 16 g (omega arith) ∙ elim (cases_Bool (nat_lt g 16)) as (λ _. one_if (nat_lt g 16) ≡ one_if (nat_lt g 16 && true)) [
      | inl is ↦ ap one_if is ∙ sym (ap (λ b. one_if (b && true)) is)
      | inr past ↦ ap one_if past ∙ sym (ap (λ b. one_if (b && true)) past)
    ];
    set = λ g. refl;
    asked = λ x. refl;
    known = known;
    blocks = λ b. refl;
  }
