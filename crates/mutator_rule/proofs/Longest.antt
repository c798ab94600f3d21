-- If one seat has all parts, the log is what one of them saw.
use Rattle.std.proofs.Common.{◌≡◌, ◌≢◌, ◌⊎◌, inl, inr, ⊎_elim, ℕ, zero, suc, ◌+◌, ◌<◌, ◌==◌, Bool, cond, eq-eqb, ne_eqb, List, [], ◌∷◌, ◌++◌, length, refl, ap, sym, ◌∙◌, subst, arith, append_assoc, length-append}
use Rattle.std.specs.List.{Contains}
use Rattle.std.proofs.lemmas.Bool.{cases_eq}
use Rattle.std.proofs.lemmas.List.{append-nil}
use Rattle.std.proofs.lemmas.List.Sums.{sum_by-cons}
use mathlib.Core.Option.{some}
use lib.ListN.{get_elem?}
use Rattle.atomic_table.specs.Table.{State}
use Rattle.object_model.specs.Graphs.{numbers_of}
use Rattle.sessions.specs.Plans.{Rules}
use Rattle.mutator_core.specs.declared.state.LogEntry.{LogEntry}
use Rattle.mutator_core.specs.Machine.{Epoch, Machine, first_machine, next}
use Rattle.mutator_core.specs.Histories.{IsLog}
use Rattle.mutator_rule.specs.declared.views.EpochStart.{EpochStart}
use Rattle.mutator_rule.specs.declared.views.MutatorView.{MutatorView}
use Rattle.mutator_rule.specs.Views.{epoch_with, views_of, times_in, steps_by}
use Rattle.mutator_rule.specs.Logs.{AgreesWithLog, HasOneLog}
use Rattle.mutator_rule.proofs.Pushes.{own-push, steps-append}

module _ {A : Type 0} where
  last : (xs : List A) → (xs ≡ []) ⊎ ((ys : List A) × (y : A) × (xs ≡ ys ++ y ∷ []))
  last [] = inl refl
  last (x ∷ xs) = ⊎_elim
      (λ (e : xs ≡ []). inr ([], x, ap (λ l. x ∷ l) e))
      (λ (t : (ys : List A) × (y : A) × (xs ≡ ys ++ y ∷ [])). inr (x ∷ t.0, t.1, ap (λ l. x ∷ l) t.2))
      (last xs)

  not_empty : (ys : List A) (y : A) → [] ≢ ys ++ y ∷ []
  not_empty ys y e = let n = ap length e in omega (arith, n, length-append ys (y ∷ []))

  last_same : (xs ys : List A) (x y : A) → xs ++ x ∷ [] ≡ ys ++ y ∷ [] → x ≡ y
  last_same [] [] x y e = cc e
  last_same [] (b ∷ ys) x y e = let t : [] ≡ ys ++ y ∷ [] = cc e in absurd (not_empty ys y t)
  last_same (a ∷ xs) [] x y e = let t : xs ++ x ∷ [] ≡ [] = cc e in absurd (not_empty xs x (sym t))
  last_same (a ∷ xs) (b ∷ ys) x y e = let t : xs ++ x ∷ [] ≡ ys ++ y ∷ [] = cc e in last_same xs ys x y t

parts_find : (m : ℕ) (ps : List MutatorView) → 0 < views_of m ps → (k : ℕ) × (p : MutatorView) × (get_elem? ps k ≡ some p) × (p.local.number ≡ m)
parts_find m [] has = absurd (omega (arith, has))
parts_find m (p ∷ ps) has = elim (cases_eq p.local.number m) as (λ _. (k : ℕ) × (q : MutatorView) × (get_elem? (p ∷ ps) k ≡ some q) × (q.local.number ≡ m)) [
  | inl e ↦ (0, p, refl, e)
  | inr ne ↦ (let no : cond {A = ℕ} (p.local.number == m) 1 0 ≡ 0 = ap (λ (b : Bool). cond {A = ℕ} b 1 0) (ne_eqb p.local.number m ne) in
      let rest = parts_find m ps (omega (arith, has, no, sum_by-cons (λ (x : MutatorView). cond {A = ℕ} (x.local.number == m) 1 0) p ps)) in
      (suc rest.0, rest.1, rest.2, rest.3))
]

-- the last step is made by one of the mutators
last-known : (p : Epoch) (h : Machine) (ys : List LogEntry) (e : LogEntry) → IsLog p h (ys ++ e ∷ []) → Contains (numbers_of p.mutators) e.mutator
last-known p h [] e is = is.0
last-known p h (y ∷ ys) e is = last-known p (next p h y.mutator y.event) ys e is.3

contained-counts : (m : ℕ) (ms : List ℕ) → Contains ms m → 0 < times_in m ms
contained-counts m [] known = absurd (let n : known.0 < 0 = known.1 in omega arith)
contained-counts m (x ∷ xs) (zero, within, is) = let one : cond {A = ℕ} (x == m) 1 0 ≡ 1 = ap (λ (b : Bool). cond {A = ℕ} b 1 0) (eq-eqb x m is) in omega (arith, one, sum_by-cons (λ (y : ℕ). cond {A = ℕ} (y == m) 1 0) x xs)
contained-counts m (x ∷ xs) (suc k, within, is) = let rest = contained-counts m xs (k, (let n : suc k < suc (length xs) = within in omega arith), is) in omega (arith, rest, sum_by-cons (λ (y : ℕ). cond {A = ℕ} (y == m) 1 0) x xs)

-- a part that has all steps of the mutator of the last step has seen all
sees_all : (p : Epoch) (log ys : List LogEntry) (e : LogEntry) (q : MutatorView) → log ≡ ys ++ e ∷ [] → AgreesWithLog p log q → q.local.number ≡ e.mutator → q.seen ≡ log
sees_all p log ys e q is fit mine = ⊎_elim
    (λ (none : fit.prefix.0 ≡ []). sym (append-nil q.seen) ∙ ap (λ r. q.seen ++ r) (sym none) ∙ fit.prefix.1)
    (λ (t : (zs : List LogEntry) × (z : LogEntry) × (fit.prefix.0 ≡ zs ++ z ∷ [])).
    let m : ℕ = q.local.number in
    let whole : (q.seen ++ t.0) ++ t.1 ∷ [] ≡ ys ++ e ∷ [] = append_assoc q.seen t.0 (t.1 ∷ []) ∙ ap (λ r. q.seen ++ r) (sym t.2) ∙ fit.prefix.1 ∙ is in
    let same : t.1 ≡ e = last_same (q.seen ++ t.0) ys t.1 e whole in
    let by : t.1.mutator ≡ m = ap (λ (x : LogEntry). x.mutator) same ∙ sym mine in
    let split : steps_by m log ≡ steps_by m q.seen ++ steps_by m fit.prefix.0 = ap (steps_by m) (sym fit.prefix.1) ∙ steps-append m q.seen fit.prefix.0 in
    let end : steps_by m fit.prefix.0 ≡ steps_by m t.0 ++ t.1 ∷ [] = ap (steps_by m) t.2 ∙ own-push m t.0 t.1 by in
    let a = ap length (sym fit.own ∙ split) in
    let b = ap length end in
    absurd (omega (arith, a, b, length-append (steps_by m q.seen) (steps_by m fit.prefix.0), length-append (steps_by m t.0) (t.1 ∷ []))))
    (last fit.prefix.0)

pub longest : (rules : Rules) (g : EpochStart) (s : State (Unit {0}) (List MutatorView)) (id : ℕ) (v : List MutatorView) (kept : HasOneLog rules g s) → get_elem? s.views id ≡ some v
    → ((m : ℕ) → views_of m v ≡ times_in m (numbers_of (epoch_with rules g).mutators))
    → (kept.log ≡ []) ⊎ ((k : ℕ) × (q : MutatorView) × (get_elem? v k ≡ some q) × (q.seen ≡ kept.log))
longest rules g s id v kept at whole = ⊎_elim
    (λ e. inl e)
    (λ (t : (ys : List LogEntry) × (e : LogEntry) × (kept.log ≡ ys ++ e ∷ [])).
    let p : Epoch = epoch_with rules g in
    let known : Contains (numbers_of p.mutators) t.1.mutator = last-known p (first_machine p) t.0 t.1 (subst (IsLog p (first_machine p)) t.2 kept.epoch.steps) in
    let some = contained-counts t.1.mutator (numbers_of p.mutators) known in
    let all = whole t.1.mutator in
    let f = parts_find t.1.mutator v (omega (arith, some, all)) in
    inr (f.0, f.1, f.2, sees_all p kept.log t.0 t.1 f.1 t.2 (kept.agree id v at f.0 f.1 f.2).1 f.3))
    (last kept.log)
