-- The moment after an object was placed.
use Rattle.std.proofs.Common.{◌≡◌, refl, sym, ◌∙◌, ap, subst, ℕ, ◌+◌, ◌-◌, ◌≤◌, inl, arith, List, [], ◌∷◌, ◌++◌, length, map, Some}
use Rattle.std.specs.Prelude.{slice_get}
use Rattle.heap_layout.specs.Zones.{block_at}
use Rattle.ideal_heap.specs.declared.name.Name.{Name}
use Rattle.ideal_heap.specs.declared.command.Command.TheVariants as c
use Rattle.ideal_heap.specs.declared.reply.Reply.TheVariants as r
use Rattle.ideal_heap.specs.Names.{name}
use Rattle.ideal_heap.specs.Ideal.{IdealHeap, empty, step, with_new}
use Rattle.ideal_heap.specs.Runs.{Entry, entry, Answers, heap_after_run, after_entry, IsRun}
use Rattle.ideal_heap.proofs.RunLemmas.{after-append, extended}
use Rattle.object_model.specs.Heaps.{heap_state}
use Rattle.object_model.specs.Objects.{HeapState, size_of, blocks_for}
use Rattle.object_model.specs.Graphs.{MutatorState, Represents, numbers_of, with_birth, add_birth, with_register, set_register_of}
use Rattle.object_model.proofs.Registers.{numbers-changed}
use Rattle.sessions.specs.Plans.{Rules}
use Rattle.sessions.specs.Fitting.{Fits}
use Rattle.sessions.specs.Collecting.{Remembers}
use Rattle.sessions.specs.Sessions.{Setting, Moment, IsSound, Places, PlacesSmall, UsesBlock, UsesRun, ChangesBlocks, ideal_at}
use Rattle.sessions.proofs.CollectedMoments.{remembers-placed}
use Rattle.mutator_calls.specs.declared.need.Need.{Need}
use Rattle.mutator_calls.specs.declared.need.Mutator.{Mutator}
use Rattle.block_regions.specs.Notes.{FillsHoles}
use Rattle.heap_users.specs.Users.{mutator_state}
use Rattle.managed_heap.specs.declared.stopped_heap.StoppedHeap.{StoppedHeap}
use Rattle.managed_heap.specs.declared.spot.Spot.{Spot}
use Rattle.managed_heap.specs.declared.place.Placed.TheVariants as answer
use Rattle.managed_heap.specs.Stopped.{collections_of, IsHeapInOrder, IsStopped, HeapStandsAt}
use Rattle.managed_heap.specs.Spots.{IsSpot}
use Rattle.managed_heap.specs.Needs.{MayAllocate, MutatorAllocatesAt, WritesNeed, AddsBirths, AddsNeed}
use Rattle.managed_heap.proofs.Users.{known-number, births-here, mutators-after}
use Rattle.managed_heap.proofs.Rooms.{FillsByLines}
use Rattle.managed_heap.proofs.Written.{address_of, IsBorn}
use Rattle.managed_heap.proofs.NeedsWritten as putting
use Rattle.managed_heap.proofs.BirthCounts.{one-added}

-- the reply of a step, and the heap after it
new-answers : (h : IdealHeap) (m d refs nums : ℕ) (n : Name) → n ≡ name m (h.births m + 1) → Answers h (entry m (c.New d refs nums) (r.New n))
unfolding step
new-answers h m d refs nums n is = inl (ap (λ q. r.New q) is)

new-heap : (h : IdealHeap) (m d refs nums : ℕ) (n : Name) → after_entry h (entry m (c.New d refs nums) (r.New n)) ≡ with_new h m d refs nums
unfolding step
new-heap h m d refs nums n = refl

module _ {P : Type 0} (rules : Rules) (old new : StoppedHeap P) (m : ℕ) (need : Need) (spot : Spot) (n : Name) (fills : FillsHoles rules.fill) (filled : FillsByLines rules) (stopped : IsStopped rules old)
    (may : MayAllocate old m need) (is : IsSpot rules (heap_state old.heap) (size_of need.refs need.nums) spot) (puts : WritesNeed rules old m need spot n new) where
  abbrev k : ℕ
  k = m - 1

  at : k + 1 ≡ m
  at = putting.at old m need may

  abbrev user : Mutator
  user = (putting.the-user old m need may).0

  user-here : slice_get old.mutators.items k ≡ Some user
  user-here = (putting.the-user old m need may).1

  bears : MutatorAllocatesAt old.mutators.items new.mutators.items k m need.register (address_of (heap_state old.heap) spot) n
  bears = puts.births k at

  name-is : n ≡ name m (user.births + 1)
  name-is = putting.birth-name old m need may new.mutators.items k need.register (address_of (heap_state old.heap) spot) n at bears

  born : IsBorn rules (heap_state old.heap) spot n need.refs need.nums (heap_state new.heap)
  born = putting.born-need rules old m need stopped may fills filled spot n (heap_state new.heap) name-is is.place puts.heap

  pub births-placed : AddsBirths old.mutators.items m 1 new.mutators.items
  births-placed = one-added old.mutators.items new.mutators.items k m need.register (address_of (heap_state old.heap) spot) n at bears

  pub counts-placed : collections_of new ≡ collections_of old
  counts-placed = ap (λ (x : ℕ). x + new.full) puts.nursery ∙ ap (λ (x : ℕ). old.nursery + x) puts.full

  pub order-placed : IsHeapInOrder rules new
  order-placed =
      let few : length old.mutators.items ≤ 16 = stopped.order.few in
      let many : length new.mutators.items ≡ length old.mutators.items = bears.change.len in
      record {
        few = omega arith;
        notes = puts.notes;
        flags = puts.flags;
        number = born.layout.1 ∙ stopped.order.number ∙ sym counts-placed;
        some_worker = subst (λ (w : ℕ). 1 ≤ w) (sym puts.workers) stopped.order.some_worker;
        few_workers = subst (λ (w : ℕ). w ≤ 16) (sym puts.workers) stopped.order.few_workers;
      }

  module _ (t : Setting) (now : Moment) (stands : HeapStandsAt rules old t now) where
    abbrev h : IdealHeap
    h = ideal_at now

    abbrev e : Entry
    e = entry m (c.New need.register need.refs need.nums) (r.New n)

    abbrev pub moment : Moment
    moment = record {
      heap = heap_state new.heap;
      mutators = map mutator_state new.mutators.items;
      done = now.done ++ entry m (c.New need.register need.refs need.nums) (r.New n) ∷ [];
      nursery = now.nursery;
      full = now.full;
    }

    named : n ≡ name m (h.births m + 1)
    named = name-is ∙ ap (λ b. name m (b + 1)) (sym (births-here old.mutators.items (length t.traces) (putting.stands-listed rules old t now stands) k m user at
        user-here (heap_state old.heap) h (putting.stands-represents rules old t now stands)))

    changed-mutators : map mutator_state new.mutators.items ≡ set_register_of (add_birth (map mutator_state old.mutators.items) m) m need.register (address_of (heap_state old.heap) spot)
    changed-mutators = mutators-after old.mutators.items (length t.traces) (putting.stands-listed rules old t now stands) k m bears.mutator at bears.was new.mutators.items need.register
        (address_of (heap_state old.heap) spot) bears.change

    answers : Answers h e
    answers = new-answers h m need.register need.refs need.nums n named

    ideal-after : heap_after_run empty moment.done ≡ with_new h m need.register need.refs need.nums
    ideal-after = after-append empty now.done (e ∷ []) ∙ new-heap h m need.register need.refs need.nums n

    represents-after : Represents (heap_state new.heap) (map mutator_state new.mutators.items) (heap_after_run empty moment.done)
    represents-after = subst (λ (ms : List MutatorState). Represents (heap_state new.heap) ms (heap_after_run empty moment.done)) (sym changed-mutators)
        (subst (λ (x : IdealHeap). Represents (heap_state new.heap) (set_register_of (add_birth (map mutator_state old.mutators.items) m) m need.register (address_of (heap_state old.heap) spot)) x) (sym ideal-after)
        (born.represents (map mutator_state old.mutators.items) h m need.register (putting.stands-represents rules old t now stands) named
        (known-number old.mutators.items (length t.traces) (putting.stands-listed rules old t now stands) k m user at user-here)
        (let few : need.register ≤ 15 = may.valid.0 in omega arith)))

    sound-after : IsSound t moment
    sound-after = record {
      lawful = born.lawful;
      remembers = remembers-placed t.rules (heap_state old.heap) (heap_state new.heap) (address_of (heap_state old.heap) spot) need.refs need.nums
          (subst (Remembers t.rules) (sym stands.heap) stands.sound.remembers) born.object born.layout.2;
      represents = represents-after;
      listed = ap numbers_of changed-mutators
          ∙ numbers-changed m (λ x. with_register x need.register (address_of (heap_state old.heap) spot)) (λ x. refl) (add_birth (map mutator_state old.mutators.items) m)
          ∙ numbers-changed m with_birth (λ x. refl) (map mutator_state old.mutators.items) ∙ putting.stands-listed rules old t now stands;
    }

    run-after : IsRun empty moment.done
    run-after = extended empty now.done e stands.run answers

    pub stands-after : HeapStandsAt rules new t moment
    stands-after = record {
      rules_are = stands.rules_are;
      workers = stands.workers ∙ sym puts.workers;
      blocks = stands.blocks ∙ ap (λ (s : HeapState). s.blocks) (sym stands.heap) ∙ sym born.layout.0;
      heap = refl;
      mutators = refl;
      nursery = puts.nursery ∙ stands.nursery;
      full = puts.full ∙ stands.full;
      sound = sound-after;
      run = run-after;
    }

    -- the placement, from the heap as it stands
    abbrev here : Moment
    here = record now { heap = heap_state old.heap }

    places-here : Places t m need.register need.refs need.nums here moment
    places-here = record {
      fits = subst (λ (x : Rules). Fits x (heap_state old.heap) (size_of need.refs need.nums)) (sym stands.rules_are) is.fits;
      place = address_of (heap_state old.heap) spot;
      object = born.object;
      small = λ small. (let placed = born.small small in (
        subst (λ (x : Rules). PlacesSmall x (heap_state old.heap) (address_of (heap_state old.heap) spot) (size_of need.refs need.nums)) (sym stands.rules_are) placed.0,
        subst (λ (x : Rules). UsesBlock x (heap_state old.heap) (heap_state new.heap) (block_at (heap_state old.heap).blocks (address_of (heap_state old.heap) spot)) (size_of need.refs need.nums)) (sym stands.rules_are)
            (subst (λ (b : ℕ). UsesBlock rules (heap_state old.heap) (heap_state new.heap) b (size_of need.refs need.nums)) (sym born.block) placed.1),
        subst (λ (b : ℕ). ChangesBlocks (heap_state old.heap) (heap_state new.heap) b 1) (sym born.block) placed.2,
      ));
      large = λ large. (let placed = born.large large in (
        placed.0,
        subst (λ (b : ℕ). UsesRun (heap_state old.heap) (heap_state new.heap) b (blocks_for (size_of need.refs need.nums))) (sym born.block) placed.1,
        subst (λ (b : ℕ). ChangesBlocks (heap_state old.heap) (heap_state new.heap) b (blocks_for (size_of need.refs need.nums))) (sym born.block) placed.2,
      ));
      layout = born.layout;
      counts = (refl, refl);
      done = ap (λ q. now.done ++ entry m (c.New need.register need.refs need.nums) (r.New q) ∷ []) (sym born.name);
      runs = run-after;
      sound = sound-after;
    }

    pub places-after : Places t m need.register need.refs need.nums now moment
    places-after = subst (λ (x : HeapState). Places t m need.register need.refs need.nums (record now { heap = x }) moment) stands.heap places-here

  pub placed : (t : Setting) (now : Moment) → HeapStandsAt rules old t now
      → (late : Moment) × Places t m need.register need.refs need.nums now late × AddsNeed m need (answer.Placed n) now late × HeapStandsAt rules new t late
  placed t now stands = (moment t now stands, places-after t now stands, refl, stands-after t now stands)
