-- A collection of a sound moment's heap leaves a sound moment.
use Rattle.std.proofs.Common.{◌≡◌, ◌≢◌, refl, sym, ◌∙◌, ap, subst, subst₂, ℕ, ◌+◌, ◌<◌, inl, inr, arith, Bool, true, false, IsTrue, List, [], ◌∷◌, length, map}
use Rattle.std.specs.List.{AllByRecursion}
use Rattle.std.proofs.lemmas.Bool.{and_parts, cases_eq}
use Rattle.std.proofs.lemmas.List.{length-map}
use Rattle.ideal_heap.specs.Ideal.{IdealHeap, empty}
use Rattle.ideal_heap.specs.Runs.{Entry, heap_after_run}
use Rattle.object_model.specs.declared.collect.Collect.{Collect}
use Rattle.object_model.specs.Objects.{HeapState, word_at, IsHeld, is_unlogged, refs_at, ref_at, is_reference}
use Rattle.object_model.specs.Ages.{is_old, RemembersYoung}
use Rattle.object_model.specs.Graphs.{MutatorState, IsMutatorState, IsReachable, Represents, numbers_of, roots_of}
use Rattle.object_model.specs.Lawful.{IsLawful}
use Rattle.object_model.proofs.Counts.{counted, held-counted, held-back, models-counted}
use Rattle.object_model.proofs.Preserved as preserved
use Rattle.object_model.proofs.Preserved.{at_targets, roots-moved}
use Rattle.object_model.proofs.Representation as standing
use Rattle.sessions.specs.Plans.{Rules}
use Rattle.sessions.specs.Collecting.{Collects, CollectsIf, IsCollection, Remembers, may_move}
use Rattle.sessions.specs.Sessions.{Setting, Moment, IsSound, MakesCollection, AddsObject, birth_count, counts_after, ideal_at}
use Rattle.sessions.proofs.PlacedObjects as placed
use Rattle.sessions.proofs.SameStates.{HaveRegisters, states-same}

-- the heap with a higher number represents the same
pub represents-counted : (s : HeapState) (ms : List MutatorState) (h : IdealHeap) → IsLawful s → Represents s ms h → Represents (counted s) ms h
represents-counted s ms h lawful represents =
    standing.represents (counted s) ms h (IsReachable s (roots_of ms))
    (models-counted s ms h (IsReachable s (roots_of ms)) (standing.models s ms h lawful.but_lines.order represents))

-- mutators whose registers were set to their targets

counts-moved : (target : ℕ → ℕ) (ms : List MutatorState) → map birth_count (map (at_targets target) ms) ≡ map birth_count ms
counts-moved target [] = refl
counts-moved target (m ∷ ms) = ap (λ (xs : List (ℕ × ℕ)). birth_count m ∷ xs) (counts-moved target ms)

registers-moved : (target : ℕ → ℕ) (ms : List MutatorState) → HaveRegisters ms → HaveRegisters (map (at_targets target) ms)
registers-moved target [] all = tt
registers-moved target (m ∷ ms) all = (length-map m.registers target ∙ all.0, registers-moved target ms all.1)

pub registers-of : (ms : List MutatorState) → AllByRecursion IsMutatorState ms → HaveRegisters ms
registers-of [] all = tt
registers-of (m ∷ ms) all = (all.0.registers, registers-of ms all.1)

numbers-of-counts : (ms : List MutatorState) → map (λ (p : ℕ × ℕ). p.0) (map birth_count ms) ≡ numbers_of ms
numbers-of-counts [] = refl
numbers-of-counts (m ∷ ms) = ap (λ (xs : List ℕ). m.number ∷ xs) (numbers-of-counts ms)

pub numbers-same : (ms ns : List MutatorState) → map birth_count ms ≡ map birth_count ns → numbers_of ms ≡ numbers_of ns
numbers-same ms ns counts = sym (numbers-of-counts ms) ∙ ap (λ (l : List (ℕ × ℕ)). map (λ (p : ℕ × ℕ). p.0) l) counts ∙ numbers-of-counts ns

-- what a collection keeps, by whether the plan reclaims

pub represents-after : (b : Bool) (r : Rules) (workers : ℕ) (kind : Collect) (old new : HeapState) (ms ns : List MutatorState) (h : IdealHeap)
    → CollectsIf b r workers kind old (roots_of ms) new (roots_of ns) → IsLawful old → IsLawful new → map birth_count ns ≡ map birth_count ms → HaveRegisters ns
    → Represents old ms h → Represents new ns h
represents-after false r workers kind old new ms ns h counts lawful lawful' same each represents =
    subst₂ (λ (s : HeapState) (xs : List MutatorState). Represents s xs h) (sym counts.heap)
    (sym (states-same ns ms same counts.registers each (registers-of ms represents.mutators.each)))
    (represents-counted old ms h lawful represents)
represents-after true r workers kind old new ms ns h made lawful lawful' same each represents =
    subst (λ (xs : List MutatorState). Represents new xs h)
    (sym (states-same ns (map (at_targets made.target) ms) (same ∙ sym (counts-moved made.target ms)) (made.kept.registers ∙ roots-moved made.target ms) each
    (registers-moved made.target ms (registers-of ms represents.mutators.each))))
    (preserved.represents (may_move r kind old) old new ms h (roots_of ns) made.target lawful.but_lines.order lawful'.but_lines.order made.kept represents)

remembers-counted : (s : HeapState) → RemembersYoung s → RemembersYoung (counted s)
remembers-counted s remembers = record {
  fields = λ a i holds aged unlogged less some. (
      let there = remembers.fields a i (held-back s a holds) aged unlogged less some in
      (held-counted s (ref_at s a i) there.0, there.1));
  marked = λ a holds. remembers.marked a (held-back s a holds);
}

-- after a collection that reclaims each object is old
pub remembers-collected : (r : Rules) (workers : ℕ) (kind : Collect) (old new : HeapState) (roots heap_after_run : List ℕ)
    → Collects r workers kind old roots new heap_after_run → IsLawful new → Remembers r new
remembers-collected r workers kind old new roots heap_after_run made lawful young = record {
  fields = λ a i holds aged unlogged less some. (
      let there : IsHeld new (ref_at new a i) = lawful.but_lines.order.objects.references a i holds less some in
      (there, aged-now (ref_at new a i) there));
  marked = λ a holds unlogged. aged-now a holds;
}
  where
    aged-now : (a : ℕ) → IsHeld new a → IsTrue (is_old new a)
    aged-now a there = (and_parts r.young (is_old new a) (made.ages a there young)).1

pub remembers-after : (b : Bool) (r : Rules) (workers : ℕ) (kind : Collect) (old new : HeapState) (roots heap_after_run : List ℕ)
    → CollectsIf b r workers kind old roots new heap_after_run → IsLawful new → Remembers r old → Remembers r new
remembers-after false r workers kind old new roots heap_after_run counts lawful remembers young =
    subst RemembersYoung (sym counts.heap) (remembers-counted old (remembers young))
remembers-after true r workers kind old new roots heap_after_run made lawful remembers young =
    remembers-collected r workers kind old new roots heap_after_run made lawful young

pub remembers-after-collection : (b : Bool) (r : Rules) (workers : ℕ) (kind : Collect) (old new : HeapState) (roots heap_after_run : List ℕ)
    → b ≡ true → CollectsIf b r workers kind old roots new heap_after_run → IsLawful new → Remembers r new
remembers-after-collection true r workers kind old new roots heap_after_run is made = remembers-collected r workers kind old new roots heap_after_run made
remembers-after-collection false r workers kind old new roots heap_after_run is made = (let wrong : false ≡ true = is in cc)

pub roots-after : (b : Bool) (r : Rules) (workers : ℕ) (kind : Collect) (old new : HeapState) (roots heap_after_run : List ℕ)
    → CollectsIf b r workers kind old roots new heap_after_run → length heap_after_run ≡ length roots
roots-after false r workers kind old new roots heap_after_run counts = ap length counts.registers
roots-after true r workers kind old new roots heap_after_run made = ap length made.kept.registers ∙ length-map roots made.target

pub roots-kept : (r : Rules) (workers : ℕ) (kind : Collect) (old new : HeapState) (roots heap_after_run : List ℕ)
    → IsCollection r workers kind old roots new heap_after_run → length heap_after_run ≡ length roots
roots-kept r = roots-after r.collects r

module _ (t : Setting) (kind : Collect) (before now : Moment) (sound : IsSound t before)
    (made : IsCollection t.rules t.workers kind before.heap (roots_of before.mutators) now.heap (roots_of now.mutators)) (lawful : IsLawful now.heap)
    (births : map birth_count now.mutators ≡ map birth_count before.mutators) (registers : AllByRecursion (λ m. length m.registers ≡ 16) now.mutators) (done : now.done ≡ before.done) where
  pub sound-after : IsSound t now
  sound-after = record {
    lawful = lawful;
    remembers = remembers-after t.rules.collects t.rules t.workers kind before.heap now.heap (roots_of before.mutators) (roots_of now.mutators) made lawful sound.remembers;
    represents = subst (λ (es : List Entry). Represents now.heap now.mutators (heap_after_run empty es)) (sym done)
        (represents-after t.rules.collects t.rules t.workers kind before.heap now.heap before.mutators now.mutators (ideal_at before) made sound.lawful lawful births registers sound.represents);
    listed = numbers-same now.mutators before.mutators births ∙ sound.listed;
  }

  pub makes-after : (now.nursery, now.full) ≡ counts_after kind before → MakesCollection t kind before now
  makes-after counts = record { collection = made; mutators = births; done = done; counts = counts; sound = sound-after }

-- an object that is placed

-- whether an object with this collector word is old, by the base
abbrev old_by : ℕ → ℕ → Bool
old_by base word = is_old (record { words = 0 ∷ 0 ∷ word ∷ []; blocks = 0; number = 0; base = base }) 0

pub remembers-placed : (r : Rules) (old new : HeapState) (a refs nums : ℕ) → Remembers r old → AddsObject old new a refs nums → new.base ≡ old.base → Remembers r new
remembers-placed r old new a refs nums remembers adds base young = record { fields = fields-placed; marked = marks-placed }
  where
    word-same : (y : ℕ) → IsHeld old y → is_old new y ≡ is_old old y
    word-same y was = ap (λ (b : ℕ). old_by b (word_at new (y + 2))) base ∙ ap (old_by old.base) (adds.words y 2 was (omega arith))

    old-back : (y : ℕ) → IsHeld old y → IsTrue (is_old new y) → IsTrue (is_old old y)
    old-back y was aged = sym (word-same y was) ∙ aged

    old-on : (y : ℕ) → IsHeld old y → IsTrue (is_old old y) → IsTrue (is_old new y)
    old-on y was aged = word-same y was ∙ aged

    fields-placed : (x i : ℕ) → IsHeld new x → IsTrue (is_old new x) → IsTrue (is_unlogged new x) → i < refs_at new x
        → IsTrue (is_reference (ref_at new x i)) → IsHeld new (ref_at new x i) × IsTrue (is_old new (ref_at new x i))
    fields-placed x i holds aged unlogged less some =
        elim (cases_eq x a) as (λ _. IsHeld new (ref_at new x i) × IsTrue (is_old new (ref_at new x i))) [
          | inl same ↦ absurd (adds.unmarked.1 (subst (λ (y : ℕ). IsTrue (is_unlogged new y)) same unlogged))
          | inr other ↦ (
              let was : IsHeld old x = (adds.others x other).1 holds in
              let refs-same : refs_at new x ≡ refs_at old x = (placed.other-shape old new a refs nums adds x was).0 in
              let within : i < refs_at old x = omega (arith, refs-same, less) in
              let field : ref_at new x i ≡ ref_at old x i = placed.other-field old new a refs nums adds x was i within in
              let there = (remembers young).fields x i was (old-back x was aged) (sym (adds.bits x was).1 ∙ unlogged) within (subst (λ (v : ℕ). IsTrue (is_reference v)) field some) in
              let not-new : ref_at old x i ≢ a = (λ e. adds.fresh (subst (IsHeld old) e there.0)) in
              subst (λ (v : ℕ). IsHeld new v × IsTrue (is_old new v)) (sym field)
              ((adds.others (ref_at old x i) not-new).0 there.0, old-on (ref_at old x i) there.0 there.1)
              )
        ]

    marks-placed : (x : ℕ) → IsHeld new x → IsTrue (is_unlogged new x) → IsTrue (is_old new x)
    marks-placed x holds unlogged = elim (cases_eq x a) as (λ _. IsTrue (is_old new x)) [
      | inl same ↦ absurd (adds.unmarked.1 (subst (λ (y : ℕ). IsTrue (is_unlogged new y)) same unlogged))
      | inr other ↦
          let was : IsHeld old x = (adds.others x other).1 holds in
          old-on x was ((remembers young).marked x was (sym (adds.bits x was).1 ∙ unlogged))
    ]
