-- Each object is claimed once, and each of its fields is scanned once.
use Rattle.std.proofs.Common.{◌≡◌, ℕ, ◌+◌, inl, inr, Bool, if◌then◌else◌, ◌&&◌, not, nat_eq, nat_lt, List, [], ◌∷◌, refl, sym, ap, ◌∙◌, arith, count_by}
use Rattle.std.specs.Prelude.{is_some}
use Rattle.std.proofs.lemmas.Bool.{cases_eq, cases_Bool, cond-true, cond-false, eq-eqb, ne_eqb}
use Rattle.std.proofs.lemmas.List.Sums.{sum_by-cons}
use Rattle.trace_core.specs.Setups.{Setup, size}
use Rattle.trace_core.specs.Machine.{Stage, Copying, Scanning, target, Machine, Event, Claim, Ask, Copy, Scan, SetGlobal, MarkLines, TakeBlock, put, copy_stage, scan_stage, next}
use Rattle.trace_core.specs.Traces.{May, after, AreNext, fields_scanned, is_claim_of, is_scan_of}
use Rattle.trace_core.proofs.Puts.{put_here, put_else}

abbrev pub one_if : Bool → ℕ
one_if b = if b then 1 else 0

abbrev pub targets-in : Stage → ℕ
targets-in st = one_if (is_some (target st))

-- a step of the object at y, seen from x
module _ (f : Stage → ℕ) (stage : ℕ → Stage) (x y : ℕ) (new : Stage) where
  put-count : (y ≡ x → f new ≡ f (stage x) + one_if (nat_eq y x)) → f (put stage y new x) ≡ f (stage x) + one_if (nat_eq y x)
  put-count mine = elim (cases_eq y x) as (λ _. f (put stage y new x) ≡ f (stage x) + one_if (nat_eq y x)) [
    | inl e ↦ ap (λ z. f (put stage y new z)) (sym e) ∙ ap f (put_here stage y new) ∙ mine e
    | inr ne ↦ (let none : one_if (nat_eq y x) ≡ 0 = ap one_if (ne_eqb y x ne) in
        let same : f (put stage y new x) ≡ f (stage x) = ap f (put_else stage y new x (λ e. ne (sym e))) in omega arith)
  ]

  put-same : (y ≡ x → f new ≡ f (stage x)) → f (put stage y new x) ≡ f (stage x) + 0
  put-same mine = elim (cases_eq y x) as (λ _. f (put stage y new x) ≡ f (stage x) + 0) [
    | inl e ↦ (let same : f (put stage y new x) ≡ f (stage x) = ap (λ z. f (put stage y new z)) (sym e) ∙ ap f (put_here stage y new) ∙ mine e in omega arith)
    | inr ne ↦ (let same : f (put stage y new x) ≡ f (stage x) = ap f (put_else stage y new x (λ e. ne (sym e))) in omega arith)
  ]

-- what the steps of copying leave as it is
module _ (f : Stage → ℕ) (p : Setup) (x t k : ℕ) (to : f (Copying t (k + 1)) ≡ f (Copying t k)) (end : f (Scanning t 0) ≡ f (Copying t k)) where
  copied-count : f (copy_stage p x (Copying t k)) ≡ f (Copying t k)
  copied-count = elim (cases_Bool (nat_lt k (size p x))) as (λ _. f (copy_stage p x (Copying t k)) ≡ f (Copying t k)) [
    | inl e ↦ ap f (cond-true (nat_lt k (size p x)) (Copying t (k + 1)) _ e) ∙ to
    | inr e ↦ ap f (cond-false (nat_lt k (size p x)) (Copying t (k + 1)) _ e) ∙ elim (cases_Bool (nat_eq k (size p x) && not (nat_eq t x))) as (λ _. f (if nat_eq k (size p x) && not (nat_eq t x) then Copying t (k + 1) else Scanning t 0) ≡ f (Copying t k)) [
      | inl d ↦ ap f (cond-true (nat_eq k (size p x) && not (nat_eq t x)) (Copying t (k + 1)) (Scanning t 0) d) ∙ to
      | inr d ↦ ap f (cond-false (nat_eq k (size p x) && not (nat_eq t x)) (Copying t (k + 1)) (Scanning t 0) d) ∙ end
    ]
  ]

module _ (p : Setup) (x : ℕ) where
  plus-none : (n : ℕ) → n ≡ n + 0
  plus-none n = omega arith

  claim-count : (m : Machine) (e : Event) → May p m e → targets-in ((next p m e).stage x) ≡ targets-in (m.stage x) + one_if (is_claim_of x e)
  claim-count m (Claim y t cause) may = put-count targets-in m.stage x y (Copying t (if nat_eq t y then size p y else 0))
      (λ e. (let one : one_if (nat_eq y x) ≡ 1 = ap one_if (eq-eqb y x e) in let none : targets-in (m.stage x) ≡ 0 = ap (λ z. targets-in (m.stage z)) (sym e) ∙ ap targets-in may.1 in omega arith))
  claim-count m (Ask y) may = plus-none (targets-in (m.stage x))
  claim-count m (Copy y) may = put-same targets-in m.stage x y (copy_stage p y (m.stage y))
      (λ e. ap (λ st. targets-in (copy_stage p y st)) may.2 ∙ copied-count targets-in p y may.0 may.1 refl refl ∙ sym (ap targets-in may.2) ∙ ap (λ z. targets-in (m.stage z)) e)
  claim-count m (Scan y) may = put-same targets-in m.stage x y (scan_stage (m.stage y))
      (λ e. ap (λ st. targets-in (scan_stage st)) may.2 ∙ sym (ap targets-in may.2) ∙ ap (λ z. targets-in (m.stage z)) e)
  claim-count m (SetGlobal g) may = plus-none (targets-in (m.stage x))
  claim-count m (MarkLines y word mask) may = plus-none (targets-in (m.stage x))
  claim-count m (TakeBlock b w) may = plus-none (targets-in (m.stage x))

  scan-count : (m : Machine) (e : Event) → May p m e → fields_scanned ((next p m e).stage x) ≡ fields_scanned (m.stage x) + one_if (is_scan_of x e)
  scan-count m (Claim y t cause) may = put-same fields_scanned m.stage x y (Copying t (if nat_eq t y then size p y else 0))
      (λ e. sym (ap (λ z. fields_scanned (m.stage z)) (sym e) ∙ ap fields_scanned may.1))
  scan-count m (Ask y) may = plus-none (fields_scanned (m.stage x))
  scan-count m (Copy y) may = put-same fields_scanned m.stage x y (copy_stage p y (m.stage y))
      (λ e. ap (λ st. fields_scanned (copy_stage p y st)) may.2 ∙ copied-count fields_scanned p y may.0 may.1 refl refl ∙ sym (ap fields_scanned may.2) ∙ ap (λ z. fields_scanned (m.stage z)) e)
  scan-count m (Scan y) may = put-count fields_scanned m.stage x y (scan_stage (m.stage y))
      (λ e. (let one : one_if (nat_eq y x) ≡ 1 = ap one_if (eq-eqb y x e) in
      let now : fields_scanned (scan_stage (m.stage y)) ≡ may.1 + 1 = ap (λ st. fields_scanned (scan_stage st)) may.2 in
      let was : fields_scanned (m.stage x) ≡ may.1 = ap (λ z. fields_scanned (m.stage z)) (sym e) ∙ ap fields_scanned may.2 in omega arith))
  scan-count m (SetGlobal g) may = plus-none (fields_scanned (m.stage x))
  scan-count m (MarkLines y word mask) may = plus-none (fields_scanned (m.stage x))
  scan-count m (TakeBlock b w) may = plus-none (fields_scanned (m.stage x))

  -- over a list of events
  module _ (f : Stage → ℕ) (test : Event → Bool) (step : (m : Machine) (e : Event) → May p m e → f ((next p m e).stage x) ≡ f (m.stage x) + one_if (test e)) where
    counts : (m : Machine) (es : List Event) → AreNext p m es → f ((after p m es).stage x) ≡ f (m.stage x) + count_by test es
    counts m [] are = plus-none (f (m.stage x))
    counts m (e ∷ es) are =
        let rest = counts (next p m e) es are.1 in let here = step m e are.0 in
        let more : count_by test (e ∷ es) ≡ one_if (test e) + count_by test es = sum_by-cons (λ x. one_if (test x)) e es in
        omega arith

  pub claims : (m : Machine) (es : List Event) → AreNext p m es → targets-in ((after p m es).stage x) ≡ targets-in (m.stage x) + count_by (is_claim_of x) es
  claims = counts targets-in (is_claim_of x) claim-count

  pub scans : (m : Machine) (es : List Event) → AreNext p m es → fields_scanned ((after p m es).stage x) ≡ fields_scanned (m.stage x) + count_by (is_scan_of x) es
  scans = counts fields_scanned (is_scan_of x) scan-count
