-- Taken blocks stay taken, and words of targets stay theirs.
use Rattle.std.proofs.Common.{◌≡◌, ℕ, ◌+◌, ◌<◌, inl, inr, refl, sym, ap, ◌∙◌, arith, nat_eq, Option, Some}
use Rattle.std.proofs.lemmas.Bool.{cases_eq, cases_lt, cond-true, cond-false, eq-eqb, ne_eqb}
use Rattle.trace_core.specs.Setups.{Setup, size}
use Rattle.trace_core.specs.Machine.{Machine, Event, ClaimCause, Claim, Ask, Copy, Scan, SetGlobal, MarkLines, TakeBlock, next, put, put_all}
use Rattle.trace_core.specs.Traces.{May}
use Rattle.trace_core.proofs.Puts.{put_else, all_else}
use Rattle.trace_core.proofs.Objects.{None-not-Some}

pub taken-stays : (p : Setup) (m : Machine) (e : Event) → May p m e → (b : ℕ) → 0 < m.taken b → (next p m e).taken b ≡ m.taken b
taken-stays p m (Claim x t cause) may b some = refl
taken-stays p m (Ask x) may b some = refl
taken-stays p m (Copy x) may b some = refl
taken-stays p m (Scan x) may b some = refl
taken-stays p m (SetGlobal g) may b some = refl
taken-stays p m (MarkLines x word mask) may b some = refl
taken-stays p m (TakeBlock c w) may b some = elim (cases_eq b c) as (λ _. put m.taken c w b ≡ m.taken b) [
  | inl e ↦ absurd (let none : m.taken c ≡ 0 = may.1 in let same : m.taken b ≡ m.taken c = ap m.taken e in omega arith)
  | inr ne ↦ put_else m.taken c w b ne
]

-- a word of a target stays that object's
pub claim-keeps : (p : Setup) (m : Machine) (x u : ℕ) (cause : ClaimCause) → May p m (Claim x u cause) → (a y : ℕ) → m.owner a ≡ Some y → (next p m (Claim x u cause)).owner a ≡ Some y
claim-keeps p m x u cause may a y own = elim (cases_eq u x) as (λ _. (next p m (Claim x u cause)).owner a ≡ Some y) [
  | inl e ↦ ap (λ (f : ℕ → Option ℕ). f a) (cond-true (nat_eq u x) m.owner _ (eq-eqb u x e)) ∙ own
  | inr ne ↦ ap (λ (f : ℕ → Option ℕ). f a) (cond-false (nat_eq u x) m.owner _ (ne_eqb u x ne))
      ∙ (elim (cases_lt a u) as (λ _. put_all m.owner u (size p x) (Some x) a ≡ Some y) [
        | inl low ↦ all_else m.owner u (Some x) (size p x) a (inl low) ∙ own
        | inr from ↦ elim (cases_lt a (u + size p x)) as (λ _. put_all m.owner u (size p x) (Some x) a ≡ Some y) [
          | inl below ↦ absurd (elim may.3 as (λ _. ⊥) [
            | inl stays ↦ ne stays.same
            | inr moves ↦ None-not-Some y (sym (moves.unowned a (record { from = from; below = below })) ∙ own)
          ])
          | inr beyond ↦ all_else m.owner u (Some x) (size p x) a (inr beyond) ∙ own
        ]
      ])
]

pub owners-stay : (p : Setup) (m : Machine) (e : Event) → May p m e → (a y : ℕ) → m.owner a ≡ Some y → (next p m e).owner a ≡ Some y
owners-stay p m (Claim x t cause) may a y own = claim-keeps p m x t cause may a y own
owners-stay p m (Ask x) may a y own = own
owners-stay p m (Copy x) may a y own = own
owners-stay p m (Scan x) may a y own = own
owners-stay p m (SetGlobal g) may a y own = own
owners-stay p m (MarkLines x word mask) may a y own = own
owners-stay p m (TakeBlock b w) may a y own = own
