-- What a tracer knows by the collector word of an object, and by its unlog bit.
use Rattle.std.proofs.Common.{◌≡◌, ◌≢◌, ℕ, ◌+◌, ◌<◌, ◌≤◌, inl, inr, false, true≢false, ◌&&◌, IsTrue, nat_lt, nat_le, List, refl, sym, ap, ◌∙◌, subst, arith, Some, None}
use Rattle.std.proofs.lemmas.Bool.{cases_Bool, cases_eq, eq-eqb, cond-true, cond-false, and_parts, and_from, leb-true}
use Rattle.forward_word.specs.CollectorWords.{collector_word, number_in, target_in, is_old_word}
use Rattle.heap_layout.specs.Zones.{row_words}
use Rattle.object_model.specs.Objects.{IsHeld, word_at, is_unlogged}
use Rattle.object_model.specs.Ages as ages
use Rattle.trace_core.specs.Setups.{Setup, blocks, collection, held, size, stays_old}
use Rattle.trace_core.specs.Machine.{Stage, Unclaimed, Copying, Scanning, target, Event}
use Rattle.trace_core.specs.Traces.{IsTracing, machine_after, heap_after, stage_of, target_of}
use Rattle.trace_core.specs.Outcomes.{base_after_trace}
use Rattle.trace_core.specs.Views.{View, Holds, hits, is_copying}
use Rattle.object_model.specs.Times.{one_if}
use Rattle.trace_core.specs.Rights.{StaysHere}
use Rattle.trace_core.proofs.FirstInvariant.{nursery-of, age-of}
use Rattle.trace_core.proofs.Clauses.{collector, unclaimed, targets-inside, extents-apart, has-room, old-target, unlogs-from, unlogs-kept, unlogs-done}
use Rattle.trace_core.proofs.Finished.{parts-of, option-cases}

module _ (p : Setup) (es : List Event) (trace : IsTracing p es) (x : ℕ) (there : IsHeld p.before x) where
  abbrev word : ℕ
  word = word_at (heap_after p es) (x + 2)

  abbrev before : ℕ
  before = word_at p.before (x + 2)

  pub past : number_in before ≤ p.before.number
  past = (trace.ready.lawful.order.objects.headers x there).number

  -- the word of a claimed object that is not old
  pub claimed-parts : (t : ℕ) → target_of p es x ≡ Some t → stays_old p x ≡ false → (number_in word ≡ collection p) × (target_in word ≡ t)
  claimed-parts t is young =
      let inside = targets-inside p es trace x t t is (record { from = omega arith; below = omega arith }) in
      let below : t < row_words (blocks p) = inside.below in
      let most : blocks p ≤ 1024 = trace.ready.lawful.order.row.most in
      parts-of (collection p) t word (omega arith) (collector p es trace x t is ∙ cond-false (stays_old p x) before (collector_word (collection p) t) young)

  -- the word of an old object, and of an unclaimed one
  pub old-word : (t : ℕ) → target_of p es x ≡ Some t → IsTrue (stays_old p x) → word ≡ before
  old-word t is aged = collector p es trace x t is ∙ cond-true (stays_old p x) before (collector_word (collection p) t) aged

  -- which words are old for the base after the collection
  pub old-from : IsTrue (is_old_word (base_after_trace p) before) → IsTrue (stays_old p x)
  old-from is = elim (cases_Bool p.nursery) as (λ _. IsTrue (stays_old p x)) [
    | inl nursery ↦ and_from p.nursery (held p x && ages.is_old p.before x) nursery (and_from (held p x) (ages.is_old p.before x) there.start
        (subst (λ n. IsTrue (is_old_word n before)) (cond-true p.nursery p.before.base (collection p) nursery) is))
    | inr full ↦ absurd (let base : base_after_trace p ≡ collection p = cond-false p.nursery p.before.base (collection p) full in
        let least : base_after_trace p ≤ number_in before = leb-true (base_after_trace p) (number_in before) (and_parts (nat_lt 0 (base_after_trace p)) (nat_le (base_after_trace p) (number_in before)) is).1 in
        let low : number_in before ≤ p.before.number = past in omega arith)
  ]

  pub old-to : IsTrue (stays_old p x) → IsTrue (is_old_word (base_after_trace p) before)
  old-to aged = subst (λ n. IsTrue (is_old_word n before)) (sym (cond-true p.nursery p.before.base (collection p) (nursery-of p trace.ready x aged))) (age-of p trace.ready x aged)

  -- the word has the number of this collection
  pub seen : number_in word ≡ collection p → (stays_old p x ≡ false) × (target_of p es x ≡ Some (target_in word))
  seen number = elim (option-cases (target_of p es x)) as (λ _. (stays_old p x ≡ false) × (target_of p es x ≡ Some (target_in word))) [
    | inl none ↦ absurd (let same : number_in word ≡ number_in before = ap number_in (unclaimed p es trace x there none) in let low : number_in before ≤ p.before.number = past in omega arith)
    | inr some ↦ elim (cases_Bool (stays_old p x)) as (λ _. (stays_old p x ≡ false) × (target_of p es x ≡ Some (target_in word))) [
      | inl aged ↦ absurd (let same : number_in word ≡ number_in before = ap number_in (old-word some.0 some.1 aged) in let low : number_in before ≤ p.before.number = past in omega arith)
      | inr young ↦ (young, some.1 ∙ ap Some (sym (claimed-parts some.0 some.1 young).1))
    ]
  ]

  -- it has another number, and is old
  pub aged : number_in word ≢ collection p → IsTrue (is_old_word (base_after_trace p) word) → IsTrue (stays_old p x)
  aged other is = elim (option-cases (target_of p es x)) as (λ _. IsTrue (stays_old p x)) [
    | inl none ↦ old-from (subst (λ w. IsTrue (is_old_word (base_after_trace p) w)) (unclaimed p es trace x there none) is)
    | inr some ↦ elim (cases_Bool (stays_old p x)) as (λ _. IsTrue (stays_old p x)) [
      | inl old ↦ old
      | inr young ↦ absurd (other (claimed-parts some.0 some.1 young).0)
    ]
  ]

  -- it has another number, and is not old
  pub waits-for-claim : number_in word ≢ collection p → is_old_word (base_after_trace p) word ≡ false → target_of p es x ≡ None
  waits-for-claim other young = elim (option-cases (target_of p es x)) as (λ _. target_of p es x ≡ None) [
    | inl none ↦ none
    | inr some ↦ elim (cases_Bool (stays_old p x)) as (λ _. target_of p es x ≡ None) [
      | inl old ↦ absurd (true≢false (sym (old-to old) ∙ ap (is_old_word (base_after_trace p)) (sym (old-word some.0 some.1 old)) ∙ young))
      | inr new ↦ absurd (other (claimed-parts some.0 some.1 new).0)
    ]
  ]

-- An unlog bit that is set means that the object there is old or was claimed, and stays.
pub marked : (p : Setup) (es : List Event) → IsTracing p es → (x : ℕ) → IsHeld p.before x
    → IsTrue (is_unlogged (heap_after p es) x) → target_of p es x ≡ Some x
marked p es trace x there set = elim (unlogs-from p es trace x set) as (λ _. target_of p es x ≡ Some x) [
  | inl was ↦ old-target p es trace x (sym (trace.ready.unlogs x) ∙ was)
  | inr by ↦ (
      let goes : target_of p es by.0 ≡ Some x = elim by.3 as (λ _. target_of p es by.0 ≡ Some x) [ inl scans ↦ ap target scans | inr copies ↦ ap target copies.0 ] in
      let same : by.0 ≡ x = (extents-apart p es trace by.0 x x x goes there (record { from = omega arith; below = (let some : 3 ≤ size p by.0 = omega arith in omega arith) })
      (record { from = omega arith; below = (let some : 3 ≤ size p x = omega arith in omega arith) })).0 in
      subst (λ y. target_of p es y ≡ Some x) same goes)
]

-- A clear one means that nothing claimed the object, if it may not move and nothing waits to be copied.
pub unmarked : (p : Setup) (es : List Event) → IsTracing p es → (v : View) → Holds p (machine_after p es) v → (x : ℕ) → StaysHere p v x
    → is_unlogged (heap_after p es) x ≡ false → target_of p es x ≡ None
unmarked p es trace v holds x stays clear = by-stage (stage_of p es x) refl
  where
    at-home : (t : ℕ) → target_of p es x ≡ Some t → t ≡ x
    at-home t is = elim (cases_eq t x) as (λ _. t ≡ x) [
      | inl same ↦ same
      | inr moved ↦ absurd (true≢false (sym (has-room p es trace x t is moved).moves ∙ stays.fixed))
    ]

    by-stage : (st : Stage) → stage_of p es x ≡ st → target_of p es x ≡ None
    by-stage Unclaimed is = ap target is
    by-stage (Copying t k) is = absurd (
        let none : hits x k v.won ≡ 0 = ap (hits x k) stays.none_won in
        let one : hits x k v.won ≡ 1 = holds.won x k ∙ ap (λ st. one_if (is_copying k st)) is ∙ ap one_if (eq-eqb k k refl) in
        omega arith)
    by-stage (Scanning t k) is = absurd (elim (cases_Bool (stays_old p x)) as (λ _. ⊥) [
      | inl aged ↦ true≢false (sym (unlogs-kept p es trace x (trace.ready.unlogs x ∙ aged)) ∙ clear)
      | inr young ↦ true≢false (sym (subst (λ a. IsTrue (is_unlogged (heap_after p es) a)) (at-home t (ap target is)) (unlogs-done p es trace x t k young is)) ∙ clear)
    ])
