-- A stop: the world is closed, and the heap stands at the moment after the epoch's entries. The next epoch begins there.
use Rattle.std.proofs.Common.{◌≡◌, refl, sym, ◌∙◌, ap, subst, ℕ, ◌+◌, ◌≤◌, arith, List, [], ◌++◌, length, map, Some}
use Rattle.std.proofs.lemmas.List.{append-nil}
use Rattle.ideal_heap.specs.Ideal.{IdealHeap, empty}
use Rattle.ideal_heap.specs.Runs.{Entry}
use Rattle.ideal_heap.proofs.RunLemmas.{longer, after-append}
use Rattle.object_model.specs.Heaps.{heap_state}
use Rattle.object_model.specs.Objects.{HeapState}
use Rattle.object_model.specs.Graphs.{MutatorState, Represents, numbers_of}
use Rattle.sessions.specs.Plans.{Rules}
use Rattle.sessions.specs.Collecting.{Remembers}
use Rattle.sessions.specs.Sessions.{Setting, Moment, Stopped, ideal_at}
use Rattle.mutator_core.specs.Machine.{Epoch}
use Rattle.mutator_core.specs.Closing.{GivesBack}
use Rattle.block_regions.specs.Notes.{AreNotes, FlagsCover}
use Rattle.heap_users.specs.Users.{mutator_state}
use Rattle.heap_users.specs.Beginnings.{epoch_of, without_stop, MayUse}
use Rattle.managed_heap.specs.Worlds.{PlainWorld, heap_of_world, mutators_of_world, places_of, is_generational, HasHistory, IsOpen}
use Rattle.managed_heap.proofs.Worlds.{may-use}
use Rattle.managed_heap.specs.declared.stopped_heap.StoppedHeap.{StoppedHeap}
use Rattle.managed_heap.specs.Stopped.{HeapStandsAt, IsHeapInOrder, IsStopped}
use Rattle.managed_heap.proofs.NeedsWritten.{stands-represents}
use Rattle.managed_value.specs.declared.managed.ManagedHeap.{ManagedHeap}
use Rattle.managed_value.specs.Histories.{HasEntries, IsSince, IsUsable, places_in, born_to}
use Rattle.managed_value.specs.Epochs.{ClosesWorld, EndsWith, BeginsWith}
use Rattle.managed_value.proofs.Runs.{history-runs}
use Rattle.managed_value.proofs.Places.{since-here, births-same, long-same}

-- the moment of a stopped heap, after these entries
abbrev pub moment_of : {P : Type 0} → StoppedHeap P → List Entry → Moment
moment_of s done = record {
  heap = heap_state s.heap;
  mutators = map mutator_state s.mutators.items;
  done = done;
  nursery = s.nursery;
  full = s.full;
}

pub stopped-stands : {P : Type 0} (rules : Rules) (h : ManagedHeap P) (w : PlainWorld P) (s : StoppedHeap P) (now : Moment) (part : List Entry) (since : IsSince rules h w now part)
    → Stopped rules (numbers_of now.mutators) (without_stop now.heap) (ideal_at now) part (heap_state s.heap) (map mutator_state s.mutators.items) → s.workers ≡ 1
    → HeapStandsAt rules s since.setting (moment_of s (now.done ++ part))
stopped-stands rules h w s now part since stopped one = record {
  rules_are = since.rules_are;
  workers = since.workers ∙ sym one;
  blocks = since.blocks ∙ sym stopped.blocks;
  heap = refl;
  mutators = refl;
  nursery = refl;
  full = refl;
  sound = record {
    lawful = stopped.lawful;
    remembers = subst (λ x. Remembers x (heap_state s.heap)) (sym since.rules_are) stopped.remembers;
    represents = subst (λ i. Represents (heap_state s.heap) (map mutator_state s.mutators.items) i) (sym (after-append empty now.done part)) stopped.represents;
    listed = stopped.listed ∙ since.sound.listed;
  };
  run = longer empty now.done part since.run (history-runs w (epoch_of rules now.heap now.mutators) (ideal_at now) part since.history);
}

pub stopped-remembers : {P : Type 0} (rules : Rules) (s : StoppedHeap P) → IsStopped rules s → Remembers rules (heap_state s.heap)
stopped-remembers rules s stopped =
    subst (λ (x : HeapState). Remembers rules x) (sym stopped.stands.heap) (subst (λ (x : Rules). Remembers x stopped.now.heap) stopped.stands.rules_are stopped.stands.sound.remembers)

-- the mutators of a stopped heap may use it
pub stopped-users : {P : Type 0} (rules : Rules) (s : StoppedHeap P) → IsStopped rules s → MayUse (heap_state s.heap) (map mutator_state s.mutators.items)
stopped-users rules s stopped = may-use (heap_state s.heap) (map mutator_state s.mutators.items) (ideal_at stopped.now) (stands-represents rules s stopped.setting stopped.now stopped.stands)

-- The epoch of a heap ends with a stopped heap.
module _ {P : Type 0} (rules : Rules) (h : ManagedHeap P) (w : PlainWorld P) (s : StoppedHeap P) (here : h.world ≡ Some w) (usable : IsUsable rules h)
    (nursery : s.nursery ≡ h.nursery) (full : s.full ≡ h.full) (one : s.workers ≡ 1)
    (stops : (p : Epoch) (i : IdealHeap) (part : List Entry) → HasHistory w p i part
    → Stopped p.rules (numbers_of p.mutators) p.before i part (heap_state s.heap) (map mutator_state s.mutators.items))
    (states : map mutator_state s.mutators.items ≡ mutators_of_world w)
    (notes : (p : Epoch) (i : IdealHeap) (part : List Entry) → HasHistory w p i part → AreNotes p.rules.fill (heap_state s.heap) s.notes)
    (flags : (x : Rules) → x.young ≡ is_generational w → FlagsCover x (heap_state s.heap) s.notes.flags.items)
    (gives : GivesBack (heap_of_world w) (heap_state s.heap)) where
  stands-at : (es : List Entry) → HasEntries rules h es → (t : Setting) × (now : Moment) × (now.done ≡ es) × HeapStandsAt rules s t now
  stands-at es has =
      let since = since-here rules h w es has here in (
        since.setting,
        moment_of s (has.now.done ++ has.part),
        sym has.entries,
        stopped-stands rules h w s has.now has.part since (stops (epoch_of rules has.now.heap has.now.mutators) (ideal_at has.now) has.part since.history) one,
      )

  count : length s.mutators.items ≡ places_of w
  count = long-same w.row.mutators.items s.mutators.items states

  in-order : IsHeapInOrder rules s
  in-order =
      let has = usable.has in
      let since = since-here rules h w usable.entries has here in
      let p : Epoch = epoch_of rules has.now.heap has.now.mutators in
      let both : Some usable.world ≡ Some w = sym usable.here ∙ here in
      let same : usable.world ≡ w = cc in
      let few : places_of w ≤ 16 = subst (λ (x : PlainWorld P). places_of x ≤ 16) same usable.few in
      let number : (heap_state s.heap).number ≡ has.now.heap.number = (stops p (ideal_at has.now) has.part since.history).number in
      record {
        few = subst (λ (n : ℕ). n ≤ 16) (sym count) few;
        notes = notes p (ideal_at has.now) has.part since.history;
        flags = flags rules (sym since.history.at.young);
        number = number ∙ since.number ∙ ap (λ (n : ℕ). n + h.full) (sym nursery) ∙ ap (λ (n : ℕ). s.nursery + n) (sym full);
        some_worker = subst (λ (k : ℕ). 1 ≤ k) (sym one) (omega arith);
        few_workers = subst (λ (k : ℕ). k ≤ 16) (sym one) (omega arith);
      }

  closes-here : (v : PlainWorld P) → h.world ≡ Some v → ClosesWorld v s
  closes-here v there =
      let both : Some v ≡ Some w = sym there ∙ here in
      let same : w ≡ v = cc in
      subst (λ (x : PlainWorld P). ClosesWorld x s) same (record { stopped = stops; gives = gives; registers = states })

  pub ends-with : EndsWith rules h s
  ends-with =
      let at = stands-at usable.entries usable.has in record {
        stopped = record { order = in-order; setting = at.0; now = at.1; stands = at.3 };
        closes = closes-here;
        stands = stands-at;
        places = count ∙ sym (ap places_in here);
        births = λ m. births-same w.row.mutators.items s.mutators.items states m ∙ sym (ap (λ o. born_to o m) here);
        nursery = nursery;
        full = full;
        workers = one;
      }

-- as many workers as before
pub one-worker : {P : Type 0} (rules : Rules) (s r : StoppedHeap P) → IsStopped rules s → s.workers ≡ 1 → ((t : Setting) (now : Moment) → HeapStandsAt rules s t now → (next : Moment) × HeapStandsAt rules r t next) → r.workers ≡ 1
one-worker rules s r stopped one goes-on = sym (goes-on stopped.setting stopped.now stopped.stands).1.workers ∙ (stopped.stands.workers ∙ one)

-- An epoch begins with a stopped heap.
module _ {P : Type 0} (rules : Rules) (s : StoppedHeap P) (h : ManagedHeap P) (w : PlainWorld P) (stopped : IsStopped rules s) (one : s.workers ≡ 1) (some : 1 ≤ length s.mutators.items)
    (here : h.world ≡ Some w) (nursery : h.nursery ≡ s.nursery) (full : h.full ≡ s.full) (is_open : IsOpen rules w)
    (states : mutators_of_world w ≡ map mutator_state s.mutators.items)
    (cleared : heap_of_world w ≡ without_stop (heap_state s.heap))
    (begins : (i : IdealHeap) → Represents (heap_state s.heap) (map mutator_state s.mutators.items) i
    → HasHistory w (epoch_of rules (heap_state s.heap) (map mutator_state s.mutators.items)) i []) where
  entries : (t : Setting) (now : Moment) → HeapStandsAt rules s t now → HasEntries rules h now.done
  entries t now stands = record {
    world = w;
    here = here;
    now = now;
    part = [];
    since = record {
      setting = t;
      rules_are = stands.rules_are;
      workers = stands.workers ∙ one;
      blocks = stands.blocks;
      sound = stands.sound;
      run = stands.run;
      nursery = nursery ∙ stands.nursery;
      full = full ∙ stands.full;
      number = ap (λ (x : HeapState). x.number) (sym stands.heap) ∙ stopped.order.number ∙ ap (λ (n : ℕ). n + s.full) (sym nursery) ∙ ap (λ (n : ℕ). h.nursery + n) (sym full);
      history = subst (λ (x : HeapState). HasHistory w (epoch_of rules x now.mutators) (ideal_at now) []) stands.heap
          (subst (λ (ms : List MutatorState). HasHistory w (epoch_of rules (heap_state s.heap) ms) (ideal_at now) []) stands.mutators
          (begins (ideal_at now) (stands-represents rules s t now stands)));
    };
    entries = sym (append-nil now.done);
  }

  count-begun : places_of w ≡ length s.mutators.items
  count-begun = long-same s.mutators.items w.row.mutators.items states

  pub begins-with : BeginsWith rules s h
  begins-with = record {
    usable = record {
      world = w;
      here = here;
      between_calls = is_open;
      some = subst (λ (n : ℕ). 1 ≤ n) (sym count-begun) some;
      few = subst (λ (n : ℕ). n ≤ 16) (sym count-begun) stopped.order.few;
      entries = stopped.now.done;
      has = entries stopped.setting stopped.now stopped.stands;
    };
    entries = entries;
    places = ap places_in here ∙ count-begun;
    births = λ m. ap (λ o. born_to o m) here ∙ births-same s.mutators.items w.row.mutators.items states m;
    nursery = nursery;
    full = full;
    heap = λ v there. let both : Some v ≡ Some w = sym there ∙ here in let same : w ≡ v = cc in subst (λ (x : PlainWorld P). heap_of_world x ≡ without_stop (heap_state s.heap)) same cleared;
    registers = λ v there. let both : Some v ≡ Some w = sym there ∙ here in let same : w ≡ v = cc in subst (λ (x : PlainWorld P). mutators_of_world x ≡ map mutator_state s.mutators.items) same states;
  }
