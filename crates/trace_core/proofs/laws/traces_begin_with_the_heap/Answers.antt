use Rattle.std.proofs.Common.{◌≡◌, ℕ, ◌+◌, ◌*◌, ◌<◌, ◌≤◌, ◌⊎◌, inl, inr, sym, ap, ◌∙◌, arith}
use Rattle.std.specs.Prelude.{◌↔◌}
use Rattle.std.proofs.lemmas.Bool.{cases_lt}
use Rattle.heap_layout.specs.Zones.{LineWords, UnlogBits, InZone, first, heap_of}
use Rattle.object_model.specs.Objects.{HeapState, word_at, IsHeld}
use Rattle.object_model.specs.Lawful.{IsLawfulButLines}
use Rattle.object_model.proofs.Frames.{held-kept}
use Rattle.trace_core.specs.Runs.{is_nursery, without_lines, without_unlogs}
use Rattle.trace_core.proofs.WithoutLines as lines
use Rattle.trace_core.proofs.SameObjects.{held-after, held-before}
use Rattle.trace_core.proofs.SetUnlogs.{sets, alike}
use Rattle.trace_core.proofs.Begun.{below-unlogs, above-unlogs, keeps-objects, by-begun, listed-held, begun-unlogs, begun-was, begun-lines}
use Rattle.trace_core.proofs.laws.traces_begin_with_the_heap.Goals as goal

lines-kept : (s : HeapState) → IsLawfulButLines s → (i : ℕ) → (InZone s.blocks LineWords i → ⊥) → word_at (without_lines s) i ≡ word_at s i
lines-kept s lawful i outside = elim (cases_lt i (first s.blocks LineWords)) as (λ _. word_at (without_lines s) i ≡ word_at s i) [
  | inl below ↦ lines.before s lawful i below
  | inr from ↦ elim (cases_lt i (first s.blocks LineWords + 4 * s.blocks)) as (λ _. word_at (without_lines s) i ≡ word_at s i) [
    | inl within ↦ absurd (outside (record { from = omega arith; below = within }))
    | inr above ↦ lines.beyond s lawful i (omega arith)
  ]
]

unlogs-kept : (s : HeapState) → IsLawfulButLines s → (i : ℕ) → (InZone s.blocks UnlogBits i → ⊥) → word_at (without_unlogs s) i ≡ word_at s i
unlogs-kept s lawful i outside = elim (cases_lt i (first s.blocks UnlogBits)) as (λ _. word_at (without_unlogs s) i ≡ word_at s i) [
  | inl below ↦ below-unlogs s lawful i below
  | inr from ↦ elim (cases_lt i (heap_of s.blocks)) as (λ _. word_at (without_unlogs s) i ≡ word_at s i) [
    | inl within ↦ absurd (outside (record { from = omega arith; below = (let end : i < heap_of s.blocks = within in omega arith) }))
    | inr above ↦ above-unlogs s lawful i (omega arith)
  ]
]

lawful-lines : (s : HeapState) → IsLawfulButLines s → IsLawfulButLines (without_lines s)
lawful-lines = lines.without_lines-lawful

pub returns-clause-words : goal.returns-clause-words
returns-clause-words c s run w i lawful lists outside outside-unlogs = by-begun s run (λ h. word_at h i ≡ word_at s i)
    (unlogs-kept (without_lines s) (lawful-lines s lawful) i outside-unlogs ∙ lines-kept s lawful i outside)
    (unlogs-kept s lawful i outside-unlogs)
    (λ young. (sets s lawful run.logged.items (listed-held s run.logged.items (lists young))).rest i (elim (cases_lt i (first s.blocks UnlogBits)) as (λ _. (i < first s.blocks UnlogBits) ⊎ (heap_of s.blocks ≤ i)) [
      | inl below ↦ inl below
      | inr from ↦ elim (cases_lt i (heap_of s.blocks)) as (λ _. (i < first s.blocks UnlogBits) ⊎ (heap_of s.blocks ≤ i)) [
        | inl within ↦ absurd (outside-unlogs (record { from = omega arith; below = (let end : i < heap_of s.blocks = within in omega arith) }))
        | inr above ↦ inr above
      ]
    ]))

held-both : (s : HeapState) → IsLawfulButLines s → (a : ℕ) → IsHeld (without_lines s) a ↔ IsHeld s a
held-both s lawful a = (
  (λ is. record { address = is.address; start = sym ((lines.same s lawful).starts a) ∙ is.start }),
  (λ is. record { address = is.address; start = (lines.same s lawful).starts a ∙ is.start }),
)

held-unlogs : (s : HeapState) → IsLawfulButLines s → (a : ℕ) → IsHeld (without_unlogs s) a ↔ IsHeld s a
held-unlogs s lawful a = let both = held-kept s (without_unlogs s) (keeps-objects s lawful) a in (both.1, both.0)

pub returns-clause-held : goal.returns-clause-held
returns-clause-held c s run w a lawful lists =
    let one = held-unlogs (without_lines s) (lawful-lines s lawful) a in
    let two = held-both s lawful a in
    by-begun s run (λ h. IsHeld h a ↔ IsHeld s a)
    ((λ is. two.0 (one.0 is)), (λ is. one.1 (two.1 is)))
    (held-unlogs s lawful a)
    (λ young. let same = alike s lawful run.logged.items (listed-held s run.logged.items (lists young)) in
    (held-before s _ same a, held-after s _ same a))

pub returns-clause-lines : goal.returns-clause-lines
returns-clause-lines c s run w k line lawful has full there small = begun-lines s run lawful has (ap is_nursery full) k line there small

pub returns-clause-logged : goal.returns-clause-logged
returns-clause-logged c s run w a lawful lists remembers = begun-was s run w lawful lists remembers a

pub returns-clause-unlogs : goal.returns-clause-unlogs
returns-clause-unlogs c s run w a lawful lists remembers = begun-unlogs s run w lawful lists remembers a
