-- What holds after every trace.
use Rattle.std.proofs.Common.{◌≡◌, ℕ, ◌⊎◌, inl, inr, false, true≢false, if◌then◌else◌, IsTrue, List, [], ◌∷◌, refl, sym, ◌∙◌, subst, arith}
use Rattle.std.proofs.lemmas.Bool.{cases_Bool}
use Rattle.heap_layout.specs.Zones.{StartBits, address_bit}
use Rattle.trace_core.specs.Setups.{Setup, TraceMayBegin, blocks, held, refs, stays_old, was_logged}
use Rattle.trace_core.specs.Machine.{Stage, Unclaimed, Scanning, Machine, Event, next, first_stage, first_machine}
use Rattle.trace_core.specs.Traces.{May, after, AreNext, IsTracing, machine_after}
use Rattle.trace_core.proofs.ObjectEvents.{Keeps}
use Rattle.trace_core.proofs.ObjectLaw.{object-event}
use Rattle.trace_core.proofs.FirstInvariant.{first-keeps, first-old, first-young, held-of-old}
use Rattle.trace_core.proofs.Sides.{StartsAt, UnlogsAt}
use Rattle.trace_core.proofs.SideEvents.{Sides}
use Rattle.trace_core.proofs.SideLaw.{side-event}
use Rattle.trace_core.proofs.Reasons.{Reasons, reason-event, first-reasons}

-- the invariants together
pub record Sound (p : Setup) (m : Machine) : Type 0 where
  pub objects : Keeps p m
  pub sides : Sides p m
  pub reasons : Reasons p m

first-sides : (p : Setup) → TraceMayBegin p → Sides p (first_machine p)
first-sides p ready = record {
  starts = record {
    from = λ a set. inl set;
    kept = λ a set. set;
    done = λ a now. old-start now.0 a (first_stage p now.0) refl now.1;
  };
  unlogs = record {
    from = λ a set. inl set;
    kept = λ a set. set;
    done = λ a now. absurd (no-unlog now.0 a (first_stage p now.0) refl now.1);
  };
  lines = record { from = λ n l set. inl set; kept = λ n l set. set };
  blocks = record { word = λ b l. refl; worker = λ b. omega arith; copies = λ b some. absurd (omega arith) };
  globals = record { value = λ g l. refl; settled = λ g l is. absurd (true≢false (sym is)) };
  rest = record { stop = λ i there. refl; budget = λ i there. refl; pins = λ i there. refl };
}
  where
    stage-of : (x : ℕ) (st : Stage) → first_stage p x ≡ st → (IsTrue (stays_old p x) × (st ≡ Scanning x (if was_logged p x then 0 else refs p x))) ⊎ (st ≡ Unclaimed)
    stage-of x st is = elim (cases_Bool (stays_old p x)) as (λ _. (IsTrue (stays_old p x) × (st ≡ Scanning x (if was_logged p x then 0 else refs p x))) ⊎ (st ≡ Unclaimed)) [
      | inl aged ↦ inl (aged, sym is ∙ first-old p ready x aged)
      | inr young ↦ inr (sym is ∙ first-young p ready x young)
    ]

    old-start : (x a : ℕ) (st : Stage) → first_stage p x ≡ st → StartsAt p x st a → IsTrue (address_bit (blocks p) StartBits p.before.words a)
    old-start x a st is now = elim (stage-of x st is) as (λ _. IsTrue (address_bit (blocks p) StartBits p.before.words a)) [
      | inl d ↦ (let at : x ≡ a = subst (λ z. StartsAt p x z a) d.1 now in subst (λ z. IsTrue (held p z)) at (held-of-old p ready x d.0))
      | inr none ↦ absurd (subst (λ z. StartsAt p x z a) none now)
    ]

    no-unlog : (x a : ℕ) (st : Stage) → first_stage p x ≡ st → UnlogsAt p x st a → ⊥
    no-unlog x a st is now = elim (stage-of x st is) as (λ _. ⊥) [
      | inl d ↦ (let both : (x ≡ a) × (stays_old p x ≡ false) = subst (λ z. UnlogsAt p x z a) d.1 now in true≢false (sym d.0 ∙ both.1))
      | inr none ↦ subst (λ z. UnlogsAt p x z a) none now
    ]

pub first-sound : (p : Setup) → TraceMayBegin p → Sound p (first_machine p)
first-sound p ready = record { objects = first-keeps p ready; sides = first-sides p ready; reasons = first-reasons p ready }

module _ (p : Setup) (ready : TraceMayBegin p) where
  pub sound-event : (m : Machine) → Sound p m → (e : Event) → May p m e → Sound p (next p m e)
  sound-event m s e may = record {
    objects = object-event p ready m s.objects e may;
    sides = side-event p ready m s.objects s.sides e may;
    reasons = reason-event p ready m s.objects s.reasons e may;
  }

  sound-after : (m : Machine) (es : List Event) → Sound p m → AreNext p m es → Sound p (after p m es)
  sound-after m [] s are = s
  sound-after m (e ∷ es) s are = sound-after (next p m e) es (sound-event m s e are.0) are.1

pub sound : (p : Setup) (es : List Event) → IsTracing p es → Sound p (machine_after p es)
sound p es t = sound-after p t.ready (first_machine p) es (first-sound p t.ready) t.events
