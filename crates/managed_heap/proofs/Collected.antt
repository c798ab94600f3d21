-- A stopped heap after a collection, which was made and counted.
use Rattle.std.proofs.Common.{◌≡◌, refl, sym, ◌∙◌, ap, subst, ℕ, ◌+◌, ◌≤◌, arith, Bool, true, false, IsTrue, List, [], ◌∷◌, length, map}
use Rattle.std.specs.List.{AllByRecursion}
use Rattle.object_model.specs.declared.collect.Collect.{Collect}
use Rattle.object_model.specs.declared.collect.Collect.TheVariants.{Nursery, Full}
use Rattle.object_model.specs.Heaps.{heap_state}
use Rattle.object_model.specs.Objects.{HeapState}
use Rattle.object_model.specs.Graphs.{MutatorState, roots_of}
use Rattle.sessions.specs.Plans.{Plan, Rules, rules_of, NoGc, MarkSweep, SemiSpace, GenCopy, Immix, StickyImmix}
use Rattle.sessions.specs.Collecting.{IsCollection, CollectsIf}
use Rattle.object_model.specs.Ages.{is_logged}
use Rattle.heap_layout.specs.declared.block.Kind.{Kind}
use Rattle.std.proofs.lemmas.Bool.{and_parts, true≢false}
use Rattle.sessions.specs.Sessions.{Setting, Moment, MakesCollection, birth_count, counts_after}
use Rattle.sessions.proofs.CountedCollections.{counts-one}
use Rattle.sessions.proofs.CollectedMoments as moments
use Rattle.sessions.proofs.SameStates.{HaveRegisters}
use Rattle.collector.specs.Collected.{FillsIf, LeavesFewBlocks}
use Rattle.collector.specs.Tallies.{NotesIf}
use Rattle.collector.specs.declared.outcome.Note.{Note}
use Rattle.mutator_calls.specs.declared.need.Mutator.{Mutator}
use Rattle.heap_users.specs.Users.{mutator_state}
use Rattle.block_regions.specs.Notes.{AreNotes, FlagsCover, NoneIsLogged}
use Rattle.block_regions.specs.declared.block_notes.BlockNotes.{BlockNotes}
use Rattle.managed_heap.specs.declared.stopped_heap.StoppedHeap.{StoppedHeap}
use Rattle.managed_heap.proofs.Noted.{AreKnown, IsFound}
use Rattle.managed_heap.specs.Stopped.{collections_of, registers_of_heap, counted, IsHeapInOrder, IsStopped, HeapStandsAt, HasCollected}
use Rattle.managed_heap.specs.Needs.{AddsBirths}
use Rattle.managed_heap.proofs.BirthCounts.{as-many, none-added}

states-registers : (us : List Mutator) → AllByRecursion (λ u. length u.registers ≡ 16) us → HaveRegisters (map mutator_state us)
states-registers [] all = tt
states-registers (u ∷ us) all = (all.0, states-registers us all.1)

counted-after : (kind : Collect) (n f : ℕ) (now : Moment) → n ≡ now.nursery → f ≡ now.full → counted kind n f ≡ counts_after kind now
counted-after Nursery n f now e g = ap (λ (k : ℕ). (k + 1, f)) e ∙ ap (λ (k : ℕ). (now.nursery + 1, k)) g
counted-after Full n f now e g = ap (λ (k : ℕ). (k, f + 1)) e ∙ ap (λ (k : ℕ). (now.nursery, k + 1)) g

one-more : (kind : Collect) (n f a b : ℕ) → (a, b) ≡ counted kind n f → a + b ≡ n + f + 1
one-more Nursery n f a b is = (let e : a ≡ n + 1 = ap (λ (p : ℕ × ℕ). p.0) is in let g : b ≡ f = ap (λ (p : ℕ × ℕ). p.1) is in omega arith)
one-more Full n f a b is = (let e : a ≡ n = ap (λ (p : ℕ × ℕ). p.0) is in let g : b ≡ f + 1 = ap (λ (p : ℕ × ℕ). p.1) is in omega arith)

module _ {P : Type 0} (rules : Rules) (kind : Collect) (old new : StoppedHeap P) (note : Note) (made : HasCollected rules kind old new note) where
  -- the moment after it
  abbrev pub late : Moment → Moment
  late now = record {
    heap = heap_state new.heap;
    mutators = map mutator_state new.mutators.items;
    done = now.done;
    nursery = new.nursery;
    full = new.full;
  }

  module _ (t : Setting) (now : Moment) (at : HeapStandsAt rules old t now) where
    collection-at : IsCollection t.rules t.workers kind now.heap (roots_of now.mutators) (heap_state new.heap) (registers_of_heap new)
    collection-at =
        subst (λ (r : Rules). IsCollection r t.workers kind now.heap (roots_of now.mutators) (heap_state new.heap) (registers_of_heap new)) (sym at.rules_are)
        (subst (λ (w : ℕ). IsCollection rules w kind now.heap (roots_of now.mutators) (heap_state new.heap) (registers_of_heap new)) (sym at.workers)
        (subst (λ (s : HeapState). IsCollection rules old.workers kind s (roots_of now.mutators) (heap_state new.heap) (registers_of_heap new)) at.heap
        (subst (λ (ms : List MutatorState). IsCollection rules old.workers kind (heap_state old.heap) (roots_of ms) (heap_state new.heap) (registers_of_heap new)) at.mutators made.collection)))

    pub makes : MakesCollection t kind now (late now)
    makes = moments.makes-after t kind now (late now) at.sound collection-at new.heap.lawful (made.births ∙ ap (map birth_count) at.mutators)
        (states-registers new.mutators.items made.registers) refl (made.counts ∙ counted-after kind old.nursery old.full now at.nursery at.full)

    pub stands : HeapStandsAt rules new t (late now)
    stands = record {
      rules_are = at.rules_are;
      workers = at.workers ∙ sym made.workers;
      blocks = at.blocks ∙ ap (λ (s : HeapState). s.blocks) (sym at.heap)
          ∙ sym (counts-one rules old.workers kind (heap_state old.heap) (heap_state new.heap) (registers_of_heap old) (registers_of_heap new) made.collection).1;
      heap = refl;
      mutators = refl;
      nursery = refl;
      full = refl;
      sound = makes.sound;
      run = at.run;
    }

  pub counts : collections_of new ≡ collections_of old + 1
  counts = one-more kind old.nursery old.full new.nursery new.full made.counts

  pub births : (m : ℕ) → AddsBirths old.mutators.items m 0 new.mutators.items
  births m = none-added old.mutators.items new.mutators.items m made.births

  pub in-order : IsHeapInOrder rules old → IsHeapInOrder rules new
  in-order order =
      let few : length old.mutators.items ≤ 16 = order.few in
      let same : length new.mutators.items ≡ length old.mutators.items = as-many new.mutators.items old.mutators.items made.births in
      let number : (heap_state old.heap).number ≡ old.nursery + old.full = order.number in
      let sum : new.nursery + new.full ≡ old.nursery + old.full + 1 = counts in
      let risen : (heap_state new.heap).number ≡ (heap_state old.heap).number + 1 =
      (counts-one rules old.workers kind (heap_state old.heap) (heap_state new.heap) (registers_of_heap old) (registers_of_heap new) made.collection).0 in
      record {
        few = omega arith;
        notes = made.notes;
        flags = made.flags;
        number = omega arith;
        some_worker = subst (λ (w : ℕ). 1 ≤ w) (sym made.workers) order.some_worker;
        few_workers = subst (λ (w : ℕ). w ≤ 16) (sym made.workers) order.few_workers;
      }

  pub stopped-made : IsStopped rules old → IsStopped rules new
  stopped-made stopped = record {
    order = in-order stopped.order;
    setting = stopped.setting;
    now = late stopped.now;
    stands = stands stopped.setting stopped.now stopped.stands;
  }

  pub makes-from : (t : Setting) (now : Moment) → HeapStandsAt rules old t now → (next : Moment) × MakesCollection t kind now next × HeapStandsAt rules new t next
  makes-from t now at = (late now, makes t now at, stands t now at)

-- a plan with young objects reclaims
young-collects : (q : Plan) → IsTrue (rules_of q).young → (rules_of q).collects ≡ true
young-collects NoGc young = absurd (true≢false (sym young))
young-collects MarkSweep young = refl
young-collects SemiSpace young = refl
young-collects GenCopy young = refl
young-collects Immix young = refl
young-collects StickyImmix young = refl

-- after a collection no object is logged
none-if : (b : Bool) (r : Rules) (w : ℕ) (kind : Collect) (s new : HeapState) (from to : List ℕ) → (IsTrue r.young → b ≡ true) → CollectsIf b r w kind s from new to → NoneIsLogged r new
none-if true r w kind s new from to young made a logged = made.logged a logged
none-if false r w kind s new from to young made a logged = true≢false (sym (young (and_parts r.young (is_logged new a) logged).0))

-- what is known of the blocks then
pub known-after : (q : Plan) (r : Rules) → r ≡ rules_of q → (w : ℕ) (kind : Collect) (s new : HeapState) (from to : List ℕ) → IsCollection r w kind s from new to → (n : BlockNotes)
    → ((fill : Kind) → AreNotes fill new n) → ((x : Rules) → NoneIsLogged x new → FlagsCover x new n.flags.items) → AreKnown r new n
known-after q r of w kind s new from to made n notes flags = record {
  notes = notes r.fill;
  flags = flags r (none-if r.collects r w kind s new from to
      (λ young. ap (λ (x : Rules). x.collects) of ∙ young-collects q (subst (λ (x : Rules). IsTrue x.young) of young)) made);
}

-- a search of the notes after it leaves all else
pub collected-found : {P : Type 0} (rules : Rules) (kind : Collect) (old new found : StoppedHeap P) (note : Note) → HasCollected rules kind old new note → IsFound new found
    → AreKnown rules (heap_state found.heap) found.notes → HasCollected rules kind old found note
collected-found {P = P} rules kind old new found note made rest known = subst (λ (x : StoppedHeap P). HasCollected rules kind old x note) (sym rest) (record {
  collection = made.collection;
  noted = made.noted;
  fills = made.fills;
  blocks = made.blocks;
  births = made.births;
  registers = made.registers;
  counts = made.counts;
  notes = own.notes;
  flags = own.flags;
  workers = made.workers;
})
  where
    own : AreKnown rules (heap_state new.heap) found.notes
    own = subst (λ (x : StoppedHeap P). AreKnown rules (heap_state x.heap) found.notes) rest known

-- what a collection of these roots did, with its note
abbrev Made : (rules : Rules) (w : ℕ) (kind : Collect) (s : HeapState) (from : List ℕ) (s' : HeapState) (to : List ℕ) (note : Note) → Type 0
Made rules w kind s from s' to note = (made : IsCollection rules w kind s from s' to) × NotesIf rules.collects rules w kind s from s' to made note
    × FillsIf rules.collects rules w kind s from s' to made

-- a collection of the registers, which are set to the targets of the roots
pub has-collected : {P : Type 0} (rules : Rules) (kind : Collect) (old new : StoppedHeap P) (note : Note) (from to : List ℕ) → from ≡ registers_of_heap old → to ≡ registers_of_heap new
    → Made rules old.workers kind (heap_state old.heap) from (heap_state new.heap) to note → LeavesFewBlocks rules old.workers kind (heap_state old.heap) (heap_state new.heap) note
    → map birth_count (map mutator_state new.mutators.items) ≡ map birth_count (map mutator_state old.mutators.items) → AllByRecursion (λ u. length u.registers ≡ 16) new.mutators.items
    → (new.nursery, new.full) ≡ counted kind old.nursery old.full → AreKnown rules (heap_state new.heap) new.notes → new.workers ≡ old.workers → HasCollected rules kind old new note
has-collected rules kind old new note from to read set whole few births registers counts known workers =
    let all : Made rules old.workers kind (heap_state old.heap) (registers_of_heap old) (heap_state new.heap) (registers_of_heap new) note =
    subst (λ (l : List ℕ). Made rules old.workers kind (heap_state old.heap) l (heap_state new.heap) (registers_of_heap new) note) read
    (subst (λ (l : List ℕ). Made rules old.workers kind (heap_state old.heap) from (heap_state new.heap) l note) set whole) in
    record { collection = all.0; noted = all.1; fills = all.2; blocks = few; births = births; registers = registers; counts = counts; notes = known.notes; flags = known.flags; workers = workers }
