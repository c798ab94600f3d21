-- A collection under a plan that reclaims nothing: the number of the heap rises.
use Rattle.std.proofs.Common.{◌≡◌, refl, sym, ap, subst, ℕ, Bool, false, List, [], ◌∷◌, length, map}
use Rattle.std.specs.List.{AllByRecursion}
use Rattle.heap_layout.specs.declared.block.Kind.{Kind}
use Rattle.heap_layout.specs.declared.block.Kind.TheVariants as kinds
use Rattle.object_model.specs.Objects.{HeapState, block_count, has_kind}
use Rattle.object_model.specs.Counting.{held_in, count_words_at}
use Rattle.object_model.specs.Heaps.{heap_state}
use Rattle.object_model.specs.Graphs.{roots_of}
use Rattle.object_model.specs.declared.collect.Collect.TheVariants.{Full}
use Rattle.object_model.proofs.Counts.{counted}
use Rattle.sessions.specs.Plans.{Plan, Rules, rules_of}
use Rattle.sessions.specs.Collecting.{CollectsIf}
use Rattle.sessions.specs.Sessions.{birth_count}
use Rattle.sessions.proofs.SameStates.{HaveRegisters}
use Rattle.collector.specs.Collected.{FillsIf}
use Rattle.collector.specs.Tallies.{NotesIf}
use Rattle.collector.specs.declared.outcome.Note.{Note}
use Rattle.collector.proofs.CountedNotes.{note-counted}
use Rattle.collector.proofs.WholeNotes.{none-held-back}
use Rattle.mutator_calls.specs.declared.need.Mutator.{Mutator}
use Rattle.heap_users.specs.Users.{mutator_state}
use Rattle.block_regions.specs.Notes.{AreNotes, FlagsCover, NoneIsLogged}
use Rattle.managed_heap.specs.declared.stopped_heap.StoppedHeap.{StoppedHeap}
use Rattle.managed_heap.specs.Stopped.{HasCollected, IsStopped, counted as counted_in, registers_of_heap}
use Rattle.managed_heap.proofs.Collected.{has-collected, known-after}
use Rattle.managed_heap.proofs.RootLists.{sixteen}

-- the note that a count of all objects gives
abbrev pub note-of-all : (s : HeapState) → Note
note-of-all s = record {
  collect = Full;
  kept = length (held_in s);
  moved = 0;
  in_place = length (held_in s);
  kept_words = count_words_at s (held_in s);
  free_blocks = block_count s (λ k. has_kind s k kinds.Free);
}

each-sixteen : (us : List Mutator) → HaveRegisters (map mutator_state us) → AllByRecursion (λ u. length u.registers ≡ 16) us
each-sixteen [] all = tt
each-sixteen (u ∷ us) all = (all.0, each-sixteen us all.1)

-- what a collection of these roots did, by whether the plan reclaims, with its note
abbrev Made : (collects : Bool) (rules : Rules) (w : ℕ) (s new : HeapState) (from to : List ℕ) (note : Note) → Type 0
Made collects rules w s new from to note = (made : CollectsIf collects rules w Full s from new to) × NotesIf collects rules w Full s from new to made note
    × FillsIf collects rules w Full s from new to made

pub made-by-counting : (rules : Rules) (w : ℕ) (s new : HeapState) (from : List ℕ) → rules.collects ≡ false → new ≡ counted s → Made rules.collects rules w s new from from (note-of-all s)
made-by-counting rules w s new from none is = subst (λ (b : Bool). Made b rules w s new from from (note-of-all s)) (sym none)
    (record { full = refl; heap = is; registers = refl }, note-counted Full s new (note-of-all s) _ _ refl is refl refl refl refl refl refl refl refl, tt)

pub counted-collection : {P : Type 0} (q : Plan) (rules : Rules) → rules ≡ rules_of q → (old new : StoppedHeap P) → IsStopped rules old → rules.collects ≡ false
    → heap_state new.heap ≡ counted (heap_state old.heap) → new.mutators ≡ old.mutators → new.workers ≡ old.workers → (new.nursery, new.full) ≡ counted_in Full old.nursery old.full
    → ((fill : Kind) → AreNotes fill (heap_state new.heap) new.notes) → ((x : Rules) → NoneIsLogged x (heap_state new.heap) → FlagsCover x (heap_state new.heap) new.notes.flags.items)
    → (note : Note) × HasCollected rules Full old new note
counted-collection q rules of old new stopped none is same workers counts notes flags =
    let made = made-by-counting rules old.workers (heap_state old.heap) (heap_state new.heap) (registers_of_heap old) none is in (
      note-of-all (heap_state old.heap),
      has-collected rules Full old new (note-of-all (heap_state old.heap)) (registers_of_heap old) (registers_of_heap old) refl
          (ap (λ us. roots_of (map mutator_state us.items)) (sym same)) made
          (none-held-back q rules of none old.workers Full (heap_state old.heap) (heap_state new.heap) (note-of-all (heap_state old.heap))) (ap (λ us. map birth_count (map mutator_state us.items)) same)
          (subst (λ us. AllByRecursion (λ u. length u.registers ≡ 16) us.items) (sym same) (each-sixteen old.mutators.items (sixteen rules old stopped))) counts
          (known-after q rules of old.workers Full (heap_state old.heap) (heap_state new.heap) (registers_of_heap old) (registers_of_heap old) made.0 new.notes notes flags)
          workers,
    )
