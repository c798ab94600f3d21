-- A hole of lines begins where `is_hole_start` says so.
use Rattle.std.proofs.Common.{◌≡◌, refl, sym, ◌∙◌, ap, ℕ, zero, suc, ◌+◌, ◌-◌, ◌<◌, ◌≤◌, inl, inr, arith, Bool, not, IsTrue}
use Rattle.std.specs.Prelude.{nat_eq}
use Rattle.std.proofs.lemmas.Bool.{cases_Bool, cases_lt, and_parts, and_from, or_cases, or_right, false≢true, false_from_ne_true, eqb-true}
use Rattle.object_model.specs.Objects.{HeapState, line_marked}
use Rattle.sessions.specs.Fitting.{IsLineHole}
use Rattle.sessions.specs.Collecting.{is_hole_start}

-- what `not` refuses is false
is-clear : (b : Bool) → IsTrue (not b) → IsTrue b → ⊥
is-clear b clear marked = false≢true (sym (ap not marked) ∙ clear)

module _ (s : HeapState) (k from : ℕ) (before : 0 < from → IsTrue (line_marked s k (from - 1))) where
  -- a run of clear lines grows up to a marked line or the block's end
  grown : (rest len : ℕ) → 1 ≤ len → from + len + rest ≡ 256
      → ((line : ℕ) → from ≤ line → line < from + len → IsTrue (line_marked s k line) → ⊥)
      → (n : ℕ) × IsLineHole s k from n
  grown zero len some end clear = (len, record { some = some; inside = omega arith; clear = clear; before = before; after = λ less. absurd (omega arith) })
  grown (suc rest) len some end clear = elim (cases_Bool (line_marked s k (from + len))) as (λ _. (n : ℕ) × IsLineHole s k from n) [
    | inl marked ↦ (len, record { some = some; inside = omega arith; clear = clear; before = before; after = λ less. marked })
    | inr unmarked ↦ grown rest (len + 1) (omega arith) (omega arith)
        (λ line past below marked. elim (cases_lt line (from + len)) as (λ _. ⊥) [
          | inl less ↦ clear line past less marked
          | inr last ↦ (let e : line ≡ from + len = omega arith in
              false≢true (sym (ap (line_marked s k) e ∙ unmarked) ∙ marked))
        ])
  ]

pub hole-from-start : (s : HeapState) (k line : ℕ) → line < 256 → IsTrue (is_hole_start s k line) → (n : ℕ) × IsLineHole s k line n
hole-from-start s k line inside start =
    let parts = and_parts (not (line_marked s k line)) _ start in
    grown s k line
    (λ more. elim (or_cases (nat_eq line 0) (line_marked s k (line - 1)) parts.1) as (λ _. IsTrue (line_marked s k (line - 1))) [
      | inl zero_line ↦ (let e : line ≡ 0 = eqb-true line 0 zero_line in absurd (omega arith))
      | inr marked ↦ marked
    ])
    (255 - line) 1 (omega arith) (omega arith)
    (λ l past below marked. let e : l ≡ line = omega arith in is-clear (line_marked s k line) parts.0 (sym (ap (line_marked s k) e) ∙ marked))

pub start-of-hole : (s : HeapState) (k line n : ℕ) → IsLineHole s k line n → IsTrue (is_hole_start s k line)
start-of-hole s k zero n hole = and_from (not (line_marked s k 0)) _
    (ap not (false_from_ne_true (line_marked s k 0) (hole.clear 0 (omega arith) (let some : 1 ≤ n = hole.some in omega arith)))) refl
start-of-hole s k (suc line) n hole = and_from (not (line_marked s k (suc line))) _
    (ap not (false_from_ne_true (line_marked s k (suc line)) (hole.clear (suc line) (omega arith) (let some : 1 ≤ n = hole.some in omega arith))))
    (or_right (nat_eq (suc line) 0) (line_marked s k (suc line - 1)) (hole.before (omega arith)))
