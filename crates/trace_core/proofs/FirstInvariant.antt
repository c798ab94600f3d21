-- The invariant for objects holds as a trace begins.
use Rattle.std.proofs.Common.{◌≡◌, ℕ, ◌+◌, ◌<◌, ◌≤◌, inl, inr, false, true≢false, if◌then◌else◌, ◌&&◌, not, IsTrue, refl, sym, ap, ◌∙◌, subst, arith, None, slice_index}
use Rattle.std.proofs.lemmas.Bool.{cases_Bool, cond-true, cond-false, and_parts, and_from, not_from_false}
use Rattle.object_model.specs.Objects.{word_at, ref_at, is_reference}
use Rattle.object_model.specs.Ages as ages
use Rattle.trace_core.specs.Setups.{Setup, TraceMayBegin, held, refs, stays_old, was_logged, keeps_its_words}
use Rattle.trace_core.specs.Machine.{Unclaimed, Scanning, target, first_machine, first_stage, copied_word, forward, IsSettled, address_or_nil}
use Rattle.trace_core.proofs.Steps.{copied-plain, copied-collector}
use Rattle.trace_core.proofs.Objects.{ScanningObject, ObjectIs, None-not-Some}
use Rattle.trace_core.proofs.ObjectEvents.{Keeps}
use Rattle.std.proofs.lemmas.Bool.{cases_eq}

module _ (p : Setup) (ready : TraceMayBegin p) where
  pub nursery-of : (x : ℕ) → IsTrue (stays_old p x) → IsTrue p.nursery
  nursery-of x aged = (and_parts p.nursery (held p x && ages.is_old p.before x) aged).0

  pub held-of-old : (x : ℕ) → IsTrue (stays_old p x) → IsTrue (held p x)
  held-of-old x aged = (and_parts (held p x) (ages.is_old p.before x) (and_parts p.nursery (held p x && ages.is_old p.before x) aged).1).0

  pub age-of : (x : ℕ) → IsTrue (stays_old p x) → IsTrue (ages.is_old p.before x)
  age-of x aged = (and_parts (held p x) (ages.is_old p.before x) (and_parts p.nursery (held p x && ages.is_old p.before x) aged).1).1

  pub first-old : (x : ℕ) → IsTrue (stays_old p x) → first_stage p x ≡ Scanning x (if was_logged p x then 0 else refs p x)
  first-old x aged = cond-true (stays_old p x) (Scanning x (if was_logged p x then 0 else refs p x)) Unclaimed aged

  pub first-young : (x : ℕ) → stays_old p x ≡ false → first_stage p x ≡ Unclaimed
  first-young x young = cond-false (stays_old p x) (Scanning x (if was_logged p x then 0 else refs p x)) Unclaimed young

  -- an old object that was not logged keeps its words
  pub kept-words : (x : ℕ) → IsTrue (stays_old p x) → was_logged p x ≡ false → IsTrue (keeps_its_words p x)
  kept-words x aged idle = elim (cases_Bool (p.logged x)) as (λ _. IsTrue (keeps_its_words p x)) [
    | inl logged ↦ absurd (true≢false (sym (and_from (stays_old p x) (p.logged x) aged logged) ∙ idle))
    | inr other ↦ and_from (stays_old p x) (not (p.logged x)) aged (not_from_false (p.logged x) other)
  ]

  -- each reference of an old object that was not logged is to an old object
  pub remembered : (x i : ℕ) → IsTrue (stays_old p x) → was_logged p x ≡ false → i < refs p x → IsTrue (is_reference (ref_at p.before x i)) → IsTrue (stays_old p (ref_at p.before x i))
  remembered x i aged idle more reference =
      ready.remembers x i (kept-words x aged idle) more reference

  old-settled : (x i : ℕ) → IsTrue (stays_old p x) → was_logged p x ≡ false → i < refs p x → IsSettled (first_stage p) (ref_at p.before x i)
  old-settled x i aged idle more reference = let v : ℕ = ref_at p.before x i in (v, ap target (first-old v (remembered x i aged idle more reference)))

  old-forward : (x i : ℕ) → IsTrue (stays_old p x) → was_logged p x ≡ false → i < refs p x → ref_at p.before x i ≡ forward (first_stage p) (ref_at p.before x i)
  old-forward x i aged idle more =
      let v : ℕ = ref_at p.before x i in
      elim (cases_Bool (is_reference v)) as (λ _. ref_at p.before x i ≡ forward (first_stage p) (ref_at p.before x i)) [
        | inl reference ↦ sym (cond-true (is_reference v) (address_or_nil (target (first_stage p v))) v reference
            ∙ ap address_or_nil (ap target (first-old v (remembered x i aged idle more reference))))
        | inr plain ↦ sym (cond-false (is_reference v) (address_or_nil (target (first_stage p v))) v plain)
      ]

  -- an old object is in place, and its words are as they were
  old-words : (x : ℕ) → IsTrue (stays_old p x) → (o : ℕ) → word_at p.before (x + o) ≡ copied_word p x x o
  old-words x aged o = elim (cases_eq o 2) as (λ _. word_at p.before (x + o) ≡ copied_word p x x o) [
    | inl e ↦ ap (λ z. word_at p.before (x + z)) e ∙ sym (cond-true (stays_old p x) (word_at p.before (x + 2)) _ aged) ∙ sym (copied-collector p x x o e)
    | inr ne ↦ sym (copied-plain p x x o ne)
  ]

  first-scanning : (x k : ℕ) → IsTrue (stays_old p x) → k ≤ refs p x → (0 < k → was_logged p x ≡ false)
      → ScanningObject p (slice_index p.before.words) (first_stage p) (λ a. None) (λ b. 0) x x k
  first-scanning x k aged most idle = record {
    collector = sym (cond-true (stays_old p x) (word_at p.before (x + 2)) _ aged);
    placed = inl refl;
    old = λ same. refl;
    header = λ o l. refl;
    source = inl refl;
    fields = most;
    rest = λ o l any. old-words x aged o;
    settled = λ o l. old-settled x o aged (idle (omega arith)) (omega arith);
    scanned = λ o l. old-forward x o aged (idle (omega arith)) (omega arith);
  }

  first-object : (x : ℕ) → IsTrue (held p x) → ObjectIs p (slice_index p.before.words) (first_stage p) (λ a. None) (λ b. 0) x (first_stage p x)
  first-object x here = elim (cases_Bool (stays_old p x)) as (λ _. ObjectIs p (slice_index p.before.words) (first_stage p) (λ a. None) (λ b. 0) x (first_stage p x)) [
    | inl aged ↦ subst (ObjectIs p (slice_index p.before.words) (first_stage p) (λ a. None) (λ b. 0) x) (sym (first-old x aged))
        (elim (cases_Bool (was_logged p x)) as (λ _. ScanningObject p (slice_index p.before.words) (first_stage p) (λ a. None) (λ b. 0) x x (if was_logged p x then 0 else refs p x)) [
          | inl logged ↦ subst (ScanningObject p (slice_index p.before.words) (first_stage p) (λ a. None) (λ b. 0) x x) (sym (cond-true (was_logged p x) 0 (refs p x) logged))
              (first-scanning x 0 aged (omega arith) (λ some. absurd (omega arith)))
          | inr idle ↦ subst (ScanningObject p (slice_index p.before.words) (first_stage p) (λ a. None) (λ b. 0) x x) (sym (cond-false (was_logged p x) 0 (refs p x) idle))
              (first-scanning x (refs p x) aged (omega arith) (λ some. idle))
        ])
    | inr young ↦ subst (ObjectIs p (slice_index p.before.words) (first_stage p) (λ a. None) (λ b. 0) x) (sym (first-young x young))
        (record { collector = refl; intact = λ o l ne. refl })
  ]

  pub first-keeps : Keeps p (first_machine p)
  first-keeps = record {
    long = ready.lawful.order.row.extent;
    objects = first-object;
    outside = λ x none. first-young x (and-held x none);
    old = λ x aged. record { fields = if was_logged p x then 0 else refs p x; same = first-old x aged; not_logged = λ idle. cond-false (was_logged p x) 0 (refs p x) idle };
    owned = λ a x own. absurd (None-not-Some x own);
    free = λ b some. absurd (omega arith);
  }
    where
      and-held : (x : ℕ) → held p x ≡ false → stays_old p x ≡ false
      and-held x none = elim (cases_Bool (stays_old p x)) as (λ _. stays_old p x ≡ false) [
        | inl aged ↦ absurd (true≢false (sym (held-of-old x aged) ∙ none))
        | inr young ↦ young
      ]
