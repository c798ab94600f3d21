-- The rights of a tracer that scans a field or sets a global.
use Rattle.std.proofs.Common.{◌≡◌, ◌≢◌, ℕ, ◌+◌, ◌<◌, inl, inr, Bool, true, false, ◌&&◌, not, IsTrue, nat_eq, nat_lt, ◌∷◌, refl, sym, ap, ◌∙◌, subst, arith, Some}
use Rattle.std.proofs.lemmas.Bool.{cases_eq, and_parts, and_left, and_right, eqb-true, eq-eqb, ne_eqb, ltb-true, not-true, not_from_false}
use Rattle.heap_layout.specs.declared.layout.TheConstants.{GLOBALS}
use Rattle.trace_core.specs.Setups.{Setup, stays_old, keeps_its_words}
use Rattle.trace_core.specs.Machine.{Stage, Unclaimed, Copying, Scanning, target, Machine, Scan, SetGlobal, next, put, scan_stage}
use Rattle.trace_core.specs.Views.{View, Holds, without, is_pair, hits, is_copying, is_scanning, is_stage_copied, scanned_view, set_view}
use Rattle.object_model.specs.Times.{one_if, times}
use Rattle.trace_core.proofs.Puts.{put_here, put_else}
use Rattle.trace_core.proofs.CountedRights.{hits-cons, hits-without, times-cons, times-without}
use Rattle.trace_core.proofs.Idle.{one-if-from, one-if-true}
use Rattle.trace_core.proofs.Objects.{Some-injective, None-not-Some}

-- an object with a right to scan is not idle
pub busy : (p : Setup) (m : Machine) (v : View) → Holds p m v → (x k : ℕ) → 0 < hits x k v.grey → keeps_its_words p x ≡ false
busy p m v holds x k some = let right : IsTrue (not (keeps_its_words p x) && is_scanning k (m.stage x)) = one-if-from _ (subst (λ n. 0 < n) (holds.grey x k) some) in
    not-true (keeps_its_words p x) (and_parts (not (keeps_its_words p x)) (is_scanning k (m.stage x)) right).0

scanning-by : (st : Stage) (t k : ℕ) → IsTrue (is_scanning k st) → target st ≡ Some t → st ≡ Scanning t k
scanning-by Unclaimed t k is at = absurd (None-not-Some t at)
scanning-by (Copying u n) t k is at = absurd (let wrong : false ≡ true = is in cc)
scanning-by (Scanning u n) t k is at = ap (λ z. Scanning z n) (Some-injective u t at) ∙ ap (Scanning t) (eqb-true n k is)

pub scanning-at : (p : Setup) (m : Machine) (v : View) → Holds p m v → (x t k : ℕ) → 0 < hits x k v.grey → 0 < hits x t v.known → m.stage x ≡ Scanning t k
scanning-at p m v holds x t k some known =
    let right : IsTrue (not (keeps_its_words p x) && is_scanning k (m.stage x)) = one-if-from _ (subst (λ n. 0 < n) (holds.grey x k) some) in
    scanning-by (m.stage x) t k (and_parts (not (keeps_its_words p x)) (is_scanning k (m.stage x)) right).1 (holds.known x t known)

pub unset-at : (p : Setup) (m : Machine) (v : View) → Holds p m v → (g : ℕ) → 0 < times g v.unset → (g < 16) × (m.set g ≡ false)
unset-at p m v holds g some =
    let right : IsTrue (nat_lt g GLOBALS && not (m.set g)) = one-if-from _ (subst (λ n. 0 < n) (holds.unset g) some) in
    let both = and_parts (nat_lt g GLOBALS) (not (m.set g)) right in
    (ltb-true g 16 both.0, not-true (m.set g) both.1)

-- the next field of an object is scanned
module _ (p : Setup) (m : Machine) (v : View) (holds : Holds p m v) (x t k : ℕ) (some : 0 < hits x k v.grey) (now : m.stage x ≡ Scanning t k) where
  abbrev stage' : ℕ → Stage
  stage' = put m.stage x (scan_stage (m.stage x))

  here : stage' x ≡ Scanning t (k + 1)
  here = put_here m.stage x (scan_stage (m.stage x)) ∙ ap scan_stage now

  -- what is the same of both stages of x is the same of each object
  stays : {B : Type 0} (f : ℕ → Stage → B) → f x (Scanning t (k + 1)) ≡ f x (Scanning t k) → (y : ℕ) → f y (m.stage y) ≡ f y (stage' y)
  stays f same y = elim (cases_eq y x) as (λ _. f y (m.stage y) ≡ f y (stage' y)) [
    | inl e ↦ subst (λ z. f z (m.stage z) ≡ f z (stage' z)) (sym e) (ap (f x) now ∙ sym same ∙ sym (ap (f x) here))
    | inr ne ↦ sym (ap (f y) (put_else m.stage x (scan_stage (m.stage x)) y ne))
  ]

  pair-here : (n j : ℕ) → is_pair x j (x, n) ≡ nat_eq n j
  pair-here n j = ap (λ b. b && nat_eq n j) (eq-eqb x x refl)

  pair-else : (n y j : ℕ) → y ≢ x → is_pair y j (x, n) ≡ false
  pair-else n y j ne = and_left (nat_eq x y) (nat_eq n j) (ne_eqb x y (λ e. ne (sym e)))

  abbrev right : ℕ → ℕ → Stage → ℕ
  right j y st = one_if (not (keeps_its_words p y) && is_scanning j st)

  right-here : (n j : ℕ) → right j x (Scanning t n) ≡ one_if (nat_eq n j)
  right-here n j = ap (λ b. one_if (b && nat_eq n j)) (not_from_false (keeps_its_words p x) (busy p m v holds x k some))

  grey-after : (y j : ℕ) → hits y j (scanned_view x k v).grey ≡ right j y (stage' y)
  grey-after y j =
      let more : hits y j ((x, k + 1) ∷ without (is_pair x k) v.grey) ≡ one_if (is_pair y j (x, k + 1)) + hits y j (without (is_pair x k) v.grey) =
      hits-cons x (k + 1) (without (is_pair x k) v.grey) y j in
      let less : hits y j v.grey ≡ hits y j (without (is_pair x k) v.grey) + one_if (is_pair y j (x, k)) = hits-without x k v.grey some y j in
      let was : hits y j v.grey ≡ one_if (not (keeps_its_words p y) && is_scanning j (m.stage y)) = holds.grey y j in
      elim (cases_eq y x) as (λ _. hits y j (scanned_view x k v).grey ≡ right j y (stage' y)) [
        | inl e ↦ (
            let a : one_if (is_pair y j (x, k + 1)) ≡ one_if (nat_eq (k + 1) j) =
            ap (λ z. one_if (is_pair z j (x, k + 1))) e ∙ ap one_if (pair-here (k + 1) j) in
            let b : one_if (is_pair y j (x, k)) ≡ one_if (nat_eq k j) = ap (λ z. one_if (is_pair z j (x, k))) e ∙ ap one_if (pair-here k j) in
            let c : one_if (not (keeps_its_words p y) && is_scanning j (m.stage y)) ≡ one_if (nat_eq k j) =
            ap (λ (z : ℕ). right j z (m.stage z)) e ∙ ap (right j x) now ∙ right-here k j in
            let d : one_if (not (keeps_its_words p y) && is_scanning j (stage' y)) ≡ one_if (nat_eq (k + 1) j) =
            ap (λ (z : ℕ). right j z (stage' z)) e ∙ ap (right j x) here ∙ right-here (k + 1) j in
            omega arith)
        | inr ne ↦ (
            let a : one_if (is_pair y j (x, k + 1)) ≡ 0 = ap one_if (pair-else (k + 1) y j ne) in
            let b : one_if (is_pair y j (x, k)) ≡ 0 = ap one_if (pair-else k y j ne) in
            let d : one_if (not (keeps_its_words p y) && is_scanning j (stage' y)) ≡ one_if (not (keeps_its_words p y) && is_scanning j (m.stage y)) =
            ap (right j y) (put_else m.stage x (scan_stage (m.stage x)) y ne) in
            omega arith)
      ]

  pub holds-scanned : Holds p (next p m (Scan x)) (scanned_view x k v)
  holds-scanned = record {
    won = λ y j. holds.won y j ∙ stays (λ z st. one_if (is_copying j st)) refl y;
    grey = grey-after;
    copied = λ y. holds.copied y ∙ stays (λ z st. one_if (not (stays_old p z) && is_stage_copied st)) refl y;
    unset = holds.unset;
    set = holds.set;
    asked = holds.asked;
    known = λ y u known. sym (stays (λ z st. target st) refl y) ∙ holds.known y u known;
    blocks = holds.blocks;
  }

-- a global is set
module _ (p : Setup) (m : Machine) (v : View) (holds : Holds p m v) (g : ℕ) (some : 0 < times g v.unset) where
  abbrev set' : ℕ → Bool
  set' = put m.set g true

  unset-after : (h : ℕ) → times h (set_view g v).unset ≡ one_if (nat_lt h GLOBALS && not (set' h))
  unset-after h =
      let less : times h v.unset ≡ times h (without (nat_eq g) v.unset) + one_if (nat_eq h g) = times-without g v.unset some h in
      let was : times h v.unset ≡ one_if (nat_lt h 16 && not (m.set h)) = holds.unset h in
      elim (cases_eq h g) as (λ _. times h (set_view g v).unset ≡ one_if (nat_lt h GLOBALS && not (set' h))) [
        | inl e ↦ (
            let one : one_if (nat_eq h g) ≡ 1 = ap one_if (eq-eqb h g e) in
            let full : one_if (nat_lt h 16 && not (m.set h)) ≡ 1 = ap (λ z. one_if (nat_lt z 16 && not (m.set z))) e
            ∙ one-if-true _ (one-if-from _ (subst (λ n. 0 < n) (holds.unset g) some)) in
            let none : one_if (nat_lt h 16 && not (set' h)) ≡ 0 =
            ap one_if (and_right (nat_lt h 16) (not (set' h)) (ap not (ap set' e ∙ put_here m.set g true))) in
            omega arith)
        | inr ne ↦ (
            let zero : one_if (nat_eq h g) ≡ 0 = ap one_if (ne_eqb h g ne) in
            let same : one_if (nat_lt h 16 && not (set' h)) ≡ one_if (nat_lt h 16 && not (m.set h)) =
            ap (λ b. one_if (nat_lt h 16 && not b)) (put_else m.set g true h ne) in
            omega arith)
      ]

  set-after : (h : ℕ) → times h (set_view g v).set ≡ one_if (set' h)
  set-after h =
      let more : times h (g ∷ v.set) ≡ one_if (nat_eq h g) + times h v.set = times-cons g v.set h in
      let was : times h v.set ≡ one_if (m.set h) = holds.set h in
      elim (cases_eq h g) as (λ _. times h (set_view g v).set ≡ one_if (set' h)) [
        | inl e ↦ (
            let one : one_if (nat_eq h g) ≡ 1 = ap one_if (eq-eqb h g e) in
            let none : one_if (m.set h) ≡ 0 = ap (λ z. one_if (m.set z)) e ∙ ap one_if (unset-at p m v holds g some).1 in
            let full : one_if (set' h) ≡ 1 = ap one_if (ap set' e ∙ put_here m.set g true) in
            omega arith)
        | inr ne ↦ (
            let zero : one_if (nat_eq h g) ≡ 0 = ap one_if (ne_eqb h g ne) in
            let same : one_if (set' h) ≡ one_if (m.set h) = ap one_if (put_else m.set g true h ne) in
            omega arith)
      ]

  pub holds-set : Holds p (next p m (SetGlobal g)) (set_view g v)
  holds-set = record {
    won = holds.won;
    grey = holds.grey;
    copied = holds.copied;
    unset = unset-after;
    set = set-after;
    asked = holds.asked;
    known = holds.known;
    blocks = holds.blocks;
  }
