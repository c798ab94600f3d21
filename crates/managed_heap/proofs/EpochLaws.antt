-- From a stopped heap to an epoch, and back.
use Rattle.std.proofs.Common.{◌≡◌, refl, sym, ◌∙◌, ap, subst, ℕ, ◌+◌, ◌≤◌, List, ◌++◌, length, map}
use Rattle.std.proofs.lemmas.List.{length-map}
use Rattle.ideal_heap.specs.Ideal.{IdealHeap, empty}
use Rattle.ideal_heap.specs.Runs.{Entry}
use Rattle.ideal_heap.proofs.RunLemmas.{longer, after-append}
use Rattle.object_model.specs.Heaps.{heap_state}
use Rattle.object_model.specs.Objects.{HeapState}
use Rattle.object_model.specs.Graphs.{MutatorState, Represents, numbers_of}
use Rattle.sessions.specs.Plans.{Rules}
use Rattle.sessions.specs.Collecting.{Remembers}
use Rattle.sessions.specs.Sessions.{Setting, Moment, ideal_at}
use Rattle.block_regions.specs.Notes.{AreNotes, FlagsCover}
use Rattle.heap_users.specs.Users.{mutator_state}
use Rattle.heap_users.specs.Beginnings.{MayUse}
use Rattle.plain_world.proofs.Closed.{may-use}
use Rattle.managed_heap.specs.declared.stopped_heap.StoppedHeap.{StoppedHeap}
use Rattle.managed_heap.specs.Stopped.{EndsEpoch, IsHeapInOrder, IsStopped, HeapStandsAt, moment_of}
use Rattle.managed_heap.proofs.NeedsWritten.{stands-represents}

pub remembers : {P : Type 0} (rules : Rules) (h : StoppedHeap P) → IsStopped rules h → Remembers rules (heap_state h.heap)
remembers rules h stopped =
    subst (λ (x : HeapState). Remembers rules x) (sym stopped.stands.heap) (subst (λ (x : Rules). Remembers x stopped.now.heap) stopped.stands.rules_are stopped.stands.sound.remembers)

pub users : {P : Type 0} (rules : Rules) (h : StoppedHeap P) → IsStopped rules h → MayUse (heap_state h.heap) (map mutator_state h.mutators.items)
users rules h stopped = may-use (heap_state h.heap) (map mutator_state h.mutators.items) (ideal_at stopped.now) (stands-represents rules h stopped.setting stopped.now stopped.stands)

-- the end of an epoch that began with a stopped heap
module _ {P : Type 0} (rules : Rules) (old new : StoppedHeap P) (t : Setting) (now : Moment) (part : List Entry) (stands : HeapStandsAt rules old t now)
    (ends : EndsEpoch rules old now part new) where
  pub stands-after : HeapStandsAt rules new t (moment_of new (now.done ++ part))
  stands-after = record {
    rules_are = stands.rules_are;
    workers = stands.workers ∙ sym ends.workers;
    blocks = stands.blocks ∙ sym ends.stopped.blocks;
    heap = refl;
    mutators = refl;
    nursery = refl;
    full = refl;
    sound = record {
      lawful = ends.stopped.lawful;
      remembers = subst (λ (x : Rules). Remembers x (heap_state new.heap)) (sym stands.rules_are) ends.stopped.remembers;
      represents = subst (λ (i : IdealHeap). Represents (heap_state new.heap) (map mutator_state new.mutators.items) i) (sym (after-append empty now.done part)) ends.stopped.represents;
      listed = ends.stopped.listed ∙ stands.sound.listed;
    };
    run = longer empty now.done part stands.run ends.run;
  }

  numbers : numbers_of (map mutator_state new.mutators.items) ≡ numbers_of (map mutator_state old.mutators.items)
  numbers = ends.stopped.listed ∙ ap numbers_of (sym stands.mutators)

  count : length new.mutators.items ≡ length old.mutators.items
  count = sym (length-map new.mutators.items mutator_state)
      ∙ sym (length-map (map mutator_state new.mutators.items) (λ (m : MutatorState). m.number))
      ∙ ap length numbers
      ∙ length-map (map mutator_state old.mutators.items) (λ (m : MutatorState). m.number)
      ∙ length-map old.mutators.items mutator_state

  pub is-stopped : IsHeapInOrder rules old → AreNotes rules.fill (heap_state new.heap) new.notes → FlagsCover rules (heap_state new.heap) new.notes.flags.items → IsStopped rules new
  is-stopped order notes flags = record {
    order = record {
      few = subst (λ (n : ℕ). n ≤ 16) (sym count) order.few;
      notes = notes;
      flags = flags;
      some_worker = subst (λ (w : ℕ). 1 ≤ w) (sym ends.workers) order.some_worker;
      few_workers = subst (λ (w : ℕ). w ≤ 16) (sym ends.workers) order.few_workers;
      number = ends.stopped.number ∙ ap (λ (x : HeapState). x.number) (sym stands.heap) ∙ order.number
          ∙ ap (λ (n : ℕ). n + old.full) (sym ends.nursery) ∙ ap (λ (n : ℕ). new.nursery + n) (sym ends.full);
    };
    setting = t;
    now = moment_of new (now.done ++ part);
    stands = stands-after;
  }
