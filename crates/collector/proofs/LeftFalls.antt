-- How many objects a trace has still to claim: each address of a held object waits for its claim, is copied, or is old.
use Rattle.std.proofs.Common.{◌≡◌, ◌≢◌, refl, sym, ◌∙◌, ap, ap₂, subst, ℕ, ◌+◌, ◌<◌, ◌≤◌, inl, inr, arith, true≢false, Bool, true, false, ◌&&◌, not, IsTrue, nat_eq, Some, List, []}
use Rattle.std.proofs.lemmas.Bool.{cases_Bool, cases_lt, cond-true, cond-false, eq-eqb, ne_eqb, and_from, and_right, not_from_true, not_from_false}
use Rattle.heap_layout.specs.Zones.{row_words}
use Rattle.forward_word.specs.CollectorWords.{collector_word, number_in}
use Rattle.object_model.specs.Objects.{HeapState, state_of, word_at, is_start, IsHeld, number_at}
use Rattle.object_model.proofs.Marks as marks
use Rattle.trace_core.specs.Setups.{Setup, blocks, collection, held, stays_old}
use Rattle.trace_core.specs.Machine.{Stage, Unclaimed, Copying, Scanning, target, Event, claimed_word}
use Rattle.trace_core.specs.Traces.{IsTracing, machine_after, heap_after, stage_of, target_of}
use Rattle.trace_core.specs.Views.{View, Holds, hits, is_copying, is_stage_copied}
use Rattle.object_model.specs.Times.{one_if, times}
use Rattle.plain_tracer.specs.Tracers.{Tracks}
use Rattle.plain_tracer.specs.declared.plain_trace.PlainTrace.{PlainTrace}
use Rattle.trace_core.proofs.Clauses.{held-of, targets-inside, collector, unclaimed, whole, starts-from, starts-kept, old-target}
use Rattle.trace_core.proofs.Finished.{parts-of}
use Rattle.collector.specs.Tallies as tallies
use Rattle.racing_collector.specs.Together.{total}
use Rattle.collector.proofs.TallySums.{total-same, total-both}
use Rattle.plain_tracer.proofs.TracedObjects.{copied-held}

module _ (p : Setup) (es : List Event) (trace : IsTracing p es) (v : View) (holds : Holds p (machine_after p es) v) (idle : v.won ≡ []) where
  abbrev now : HeapState
  now = heap_after p es

  -- an object is held at a, and the collection has not claimed it
  abbrev waits : ℕ → Bool
  waits a = is_start now a && not (nat_eq (number_at now a) (collection p))

  waits-unless : (a : ℕ) → is_start now a ≡ true → number_at now a ≢ collection p → one_if (waits a) ≡ 1
  waits-unless a start ne = ap one_if (and_from (is_start now a) (not (nat_eq (number_at now a) (collection p))) start
      (not_from_false (nat_eq (number_at now a) (collection p)) (ne_eqb (number_at now a) (collection p) ne)))

  claimed-waits : (a : ℕ) → number_at now a ≡ collection p → one_if (waits a) ≡ 0
  claimed-waits a e = ap one_if (and_right (is_start now a) (not (nat_eq (number_at now a) (collection p)))
      (not_from_true (nat_eq (number_at now a) (collection p)) (eq-eqb (number_at now a) (collection p) e)))

  -- the number that a claim wrote
  claimed-number : (x t word : ℕ) → target_of p es x ≡ Some t → stays_old p x ≡ false → word ≡ claimed_word p x t → number_in word ≡ collection p
  claimed-number x t word is young written =
      let most : p.before.blocks ≤ 1024 = trace.ready.lawful.order.row.most in
      let inside = targets-inside p es trace x t t is (record { from = omega arith; below = omega arith }) in
      let below : t < row_words (blocks p) = inside.below in
      (parts-of (collection p) t word (omega arith) (written ∙ cond-false (stays_old p x) (word_at p.before (x + 2)) (collector_word (collection p) t) young)).0

  -- the number that an object had before is no number of the collection
  past : (a : ℕ) → IsHeld p.before a → word_at now (a + 2) ≡ word_at p.before (a + 2) → number_at now a ≢ collection p
  past a there same e =
      let before : number_at p.before a ≤ p.before.number = (trace.ready.lawful.order.objects.headers a there).number in
      let is : number_at now a ≡ number_at p.before a = ap number_in same in omega arith

  module _ (a : ℕ) where
    abbrev Counted : ℕ → Type 0
    Counted n = one_if (waits a) + times a v.copied ≡ n

    module _ (there : IsHeld p.before a) where
      start-now : is_start now a ≡ true
      start-now = (starts-kept p es trace a there).start

      young-by : (st : Stage) → stage_of p es a ≡ st → stays_old p a ≡ false → Counted 1
      young-by Unclaimed is young =
          let waiting : one_if (waits a) ≡ 1 = waits-unless a start-now (past a there (unclaimed p es trace a there (ap target is))) in
          let none : times a v.copied ≡ 0 = holds.copied a ∙ ap one_if (and_right (not (stays_old p a)) (is_stage_copied (stage_of p es a)) (ap is_stage_copied is)) in omega arith
      young-by (Copying t k) is young =
          let none : hits a k v.won ≡ 0 = ap (hits a k) idle in
          let one : hits a k v.won ≡ 1 = holds.won a k ∙ ap (λ z. one_if (is_copying k z)) is ∙ ap one_if (eq-eqb k k refl) in absurd (omega arith)
      young-by (Scanning t k) is young =
          let claimed : one_if (waits a) ≡ 0 = claimed-waits a (claimed-number a t (word_at now (a + 2)) (ap target is) young (collector p es trace a t (ap target is))) in
          let one : times a v.copied ≡ 1 = holds.copied a ∙ ap one_if (and_from (not (stays_old p a)) (is_stage_copied (stage_of p es a)) (not_from_false (stays_old p a) young) (ap is_stage_copied is)) in omega arith

      of-held : Counted 1
      of-held = elim (cases_Bool (stays_old p a)) as (λ _. Counted 1) [
        | inl aged ↦ (let same : word_at now (a + 2) ≡ word_at p.before (a + 2) = old-word aged in
            let waiting : one_if (waits a) ≡ 1 = waits-unless a start-now (past a there same) in
            let none : times a v.copied ≡ 0 = holds.copied a ∙ ap (λ b. one_if (not b && is_stage_copied (stage_of p es a))) aged in omega arith)
        | inr young ↦ young-by (stage_of p es a) refl young
      ]
        where
          old-word : IsTrue (stays_old p a) → word_at now (a + 2) ≡ word_at p.before (a + 2)
          old-word aged = collector p es trace a a (old-target p es trace a aged) ∙ cond-true (stays_old p a) (word_at p.before (a + 2)) (collector_word (collection p) a) aged

    module _ (none : held p a ≡ false) where
      not-held : IsTrue (held p a) → ⊥
      not-held is = true≢false (sym is ∙ none)

      uncopied : times a v.copied ≡ 0
      uncopied = elim (cases_lt 0 (times a v.copied)) as (λ _. times a v.copied ≡ 0) [
        | inl some ↦ absurd (not-held (copied-held p es trace v holds a some).start)
        | inr few ↦ omega arith
      ]

      -- what begins here now is a copy
      copy-here : (x k : ℕ) → stage_of p es x ≡ Scanning a k → one_if (waits a) ≡ 0
      copy-here x k is = elim (cases_Bool (stays_old p x)) as (λ _. one_if (waits a) ≡ 0) [
        | inl aged ↦ absurd (let same : Some a ≡ Some x = sym (ap target is) ∙ old-target p es trace x aged in
            not-held (subst (λ y. IsTrue (held p y)) (let e : x ≡ a = cc in e) (held-of p es trace x a (ap target is))))
        | inr young ↦ claimed-waits a (claimed-number x a (word_at now (a + 2)) (ap target is) young (whole p es trace x a k 2 is (omega arith) (inl (omega arith))))
      ]

      nothing-waits : one_if (waits a) ≡ 0
      nothing-waits = elim (cases_Bool (is_start now a)) as (λ _. one_if (waits a) ≡ 0) [
        | inl start ↦ elim (starts-from p es trace a (marks.held now a start)) as (λ _. one_if (waits a) ≡ 0) [
          | inl before ↦ absurd (not-held before.start)
          | inr copy ↦ copy-here copy.0 copy.1 copy.2
        ]
        | inr empty ↦ ap (λ b. one_if (b && not (nat_eq (number_at now a) (collection p)))) empty
      ]

    each : Counted (one_if (held p a))
    each = elim (cases_Bool (held p a)) as (λ _. Counted (one_if (held p a))) [
      | inl is ↦ of-held (marks.held p.before a is) ∙ sym (ap one_if is)
      | inr none ↦ (let left : one_if (waits a) ≡ 0 = nothing-waits none in let right : times a v.copied ≡ 0 = uncopied none in
          let zero : one_if (held p a) ≡ 0 = ap one_if none in omega arith)
    ]

  all-counted : tallies.unclaimed now (collection p) + total (blocks p) (λ a. times a v.copied) ≡ total (blocks p) (λ a. one_if (held p a))
  all-counted = sym (total-both (blocks p) (λ a. one_if (waits a)) (λ a. times a v.copied))
      ∙ total-same (blocks p) (λ a. one_if (waits a) + times a v.copied) (λ a. one_if (held p a)) (λ a _. each a)

-- what is left and what is copied are as many as the objects that were held
pub left-is : (p : Setup) (es : List Event) (t : PlainTrace) (v : View) → Tracks p es t v → v.won ≡ []
    → tallies.unclaimed (state_of t.row) t.run.number + total (blocks p) (λ a. times a v.copied) ≡ total (blocks p) (λ a. one_if (held p a))
left-is p es t v tracks idle =
    ap (λ n. n + total (blocks p) (λ a. times a v.copied)) (ap₂ tallies.unclaimed tracks.row tracks.run.number)
    ∙ all-counted p es tracks.trace v tracks.holds idle
