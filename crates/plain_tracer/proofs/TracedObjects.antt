-- Targets of objects stay while a tracer goes on, and what is copied or has a token has one.
use Rattle.std.proofs.Common.{◌≡◌, refl, sym, ◌∙◌, ap, subst, ℕ, ◌+◌, ◌<◌, ◌≤◌, inl, inr, arith, Bool, true, false, ◌&&◌, not, IsTrue, nat_eq, nat_lt, if◌then◌else◌, Option, Some, None, List, [], ◌∷◌, ◌++◌}
use Rattle.std.proofs.lemmas.Bool.{cases_eq, cond-true, cond-false, eq-eqb, ne_eqb, and_parts}
use Rattle.heap_layout.specs.Zones.{row_words}
use Rattle.object_model.specs.Objects.{IsHeld}
use Rattle.object_model.proofs.Marks as marks
use Rattle.trace_core.specs.Setups.{Setup, blocks, size, stays_old}
use Rattle.trace_core.specs.Machine.{Stage, Unclaimed, Copying, Scanning, target, Machine, Event, Claim, Ask, Copy, Scan, SetGlobal, MarkLines, TakeBlock, put, copy_stage, scan_stage, next, first_machine}
use Rattle.trace_core.specs.Traces.{May, after, AreNext, IsTracing, machine_after, stage_of, target_of}
use Rattle.trace_core.specs.Views.{View, Holds, is_stage_copied}
use Rattle.object_model.specs.Times.{one_if, times}
use Rattle.plain_tracer.specs.TokenRights.{IsGrey}
use Rattle.plain_tracer.specs.declared.tokens.Grey.{Grey}
use Rattle.trace_core.proofs.Clauses.{held-of}

pub one-if-few : (b : Bool) → one_if b ≤ 1
one-if-few true = omega arith
one-if-few false = omega arith

one-if-from : (b : Bool) → 0 < one_if b → IsTrue b
one-if-from true some = refl
one-if-from false some = absurd (omega arith)

-- a target stays through an event
either : (b : Bool) (x y : Stage) (o : Option ℕ) → target x ≡ o → target y ≡ o → target (if b then x else y) ≡ o
either true x y o left right = left
either false x y o left right = right

copy-target : (p : Setup) (x : ℕ) (st : Stage) → target (copy_stage p x st) ≡ target st
copy-target p x Unclaimed = refl
copy-target p x (Copying t k) = either (nat_lt k (size p x)) (Copying t (k + 1)) (if nat_eq k (size p x) && not (nat_eq t x) then Copying t (k + 1) else Scanning t 0) (Some t) refl
    (either (nat_eq k (size p x) && not (nat_eq t x)) (Copying t (k + 1)) (Scanning t 0) (Some t) refl refl)
copy-target p x (Scanning t k) = refl

scan-target : (st : Stage) → target (scan_stage st) ≡ target st
scan-target Unclaimed = refl
scan-target (Copying t k) = refl
scan-target (Scanning t k) = refl

put-target : (stage : ℕ → Stage) (x : ℕ) (new : Stage) → ((t : ℕ) → target (stage x) ≡ Some t → target new ≡ Some t)
    → (z t : ℕ) → target (stage z) ≡ Some t → target (put stage x new z) ≡ Some t
put-target stage x new keep z t is = elim (cases_eq z x) as (λ _. target (put stage x new z) ≡ Some t) [
  | inl e ↦ ap target (cond-true (nat_eq z x) new (stage z) (eq-eqb z x e)) ∙ keep t (ap (λ y. target (stage y)) (sym e) ∙ is)
  | inr ne ↦ ap target (cond-false (nat_eq z x) new (stage z) (ne_eqb z x ne)) ∙ is
]

next-target : (p : Setup) (m : Machine) (e : Event) → May p m e → (z t : ℕ) → target (m.stage z) ≡ Some t → target ((next p m e).stage z) ≡ Some t
next-target p m (Claim x u cause) may z t is = put-target m.stage x (Copying u (if nat_eq u x then size p x else 0))
    (λ s has. absurd (let wrong : None ≡ Some s = sym (ap target may.1) ∙ has in cc)) z t is
next-target p m (Ask x) may z t is = is
next-target p m (Copy x) may z t is = put-target m.stage x (copy_stage p x (m.stage x)) (λ s has. copy-target p x (m.stage x) ∙ has) z t is
next-target p m (Scan x) may z t is = put-target m.stage x (scan_stage (m.stage x)) (λ s has. scan-target (m.stage x) ∙ has) z t is
next-target p m (SetGlobal g) may z t is = is
next-target p m (MarkLines x word mask) may z t is = is
next-target p m (TakeBlock b w) may z t is = is

onward : (p : Setup) (m : Machine) (ds : List Event) → AreNext p m ds → (z t : ℕ) → target (m.stage z) ≡ Some t → target ((after p m ds).stage z) ≡ Some t
onward p m [] are z t is = is
onward p m (e ∷ ds) are z t is = onward p (next p m e) ds are.1 z t (next-target p m e are.0 z t is)

later : (p : Setup) (m : Machine) (es ds : List Event) → AreNext p m (es ++ ds) → (z t : ℕ) → target ((after p m es).stage z) ≡ Some t → target ((after p m (es ++ ds)).stage z) ≡ Some t
later p m [] ds are z t is = onward p m ds are z t is
later p m (e ∷ es) ds are z t is = later p (next p m e) es ds are.1 z t is

pub target-grows : (p : Setup) (es ds : List Event) → IsTracing p (es ++ ds) → (z t : ℕ) → target_of p es z ≡ Some t → target_of p (es ++ ds) z ≡ Some t
target-grows p es ds trace z t is = later p (first_machine p) es ds trace.events z t is

copied-stage : (st : Stage) → IsTrue (is_stage_copied st) → (t : ℕ) × (target st ≡ Some t)
copied-stage Unclaimed copied = absurd (let wrong : false ≡ true = copied in cc)
copied-stage (Copying t k) copied = absurd (let wrong : false ≡ true = copied in cc)
copied-stage (Scanning t k) copied = (t, refl)

module _ (p : Setup) (es : List Event) (trace : IsTracing p es) (v : View) (holds : Holds p (machine_after p es) v) where
  pub copied-target : (x : ℕ) → 0 < times x v.copied → (t : ℕ) × (target_of p es x ≡ Some t)
  copied-target x some = copied-stage (stage_of p es x)
      (and_parts (not (stays_old p x)) (is_stage_copied (stage_of p es x)) (one-if-from (not (stays_old p x) && is_stage_copied (stage_of p es x)) (subst (λ n. 0 < n) (holds.copied x) some))).1

  pub copied-held : (x : ℕ) → 0 < times x v.copied → IsHeld p.before x
  copied-held x some = let has = copied-target x some in marks.held p.before x (held-of p es trace x has.0 has.1)

  pub copied-once : (x : ℕ) → times x v.copied ≤ 1
  copied-once x = subst (λ n. n ≤ 1) (sym (holds.copied x)) (one-if-few (not (stays_old p x) && is_stage_copied (stage_of p es x)))

  pub token-held : (grey : Grey) → IsGrey p v grey → IsHeld p.before grey.object
  token-held grey is = marks.held p.before grey.object (held-of p es trace grey.object grey.target (holds.known grey.object grey.target is.target))

  pub token-below : (grey : Grey) → IsGrey p v grey → grey.object < row_words (blocks p)
  token-below grey is = (token-held grey is).address.below
