-- A need is served: at once, or after the collections that make room, or it is refused after them.
use Rattle.std.proofs.Common.{◌≡◌, refl, sym, ◌∙◌, ap, subst, ℕ, ◌+◌, ◌≤◌, inl, inr, arith, List, [], ◌∷◌, ◌++◌}
use Rattle.ideal_heap.specs.declared.name.Name.{Name}
use Rattle.ideal_heap.specs.Ideal.{IdealHeap, empty}
use Rattle.ideal_heap.specs.Runs.{Entry, Answers}
use Rattle.ideal_heap.proofs.RunLemmas.{after-append, extended}
use Rattle.object_model.specs.declared.collect.Collect.{Collect}
use Rattle.object_model.specs.declared.collect.Collect.TheVariants.{Nursery, Full}
use Rattle.object_model.specs.Heaps.{heap_state}
use Rattle.object_model.specs.Objects.{HeapState, size_of}
use Rattle.object_model.specs.Graphs.{Represents}
use Rattle.sessions.specs.Plans.{Rules}
use Rattle.sessions.specs.Fitting.{Fits}
use Rattle.sessions.specs.Collecting.{first_collection}
use Rattle.sessions.specs.Sessions.{Setting, Moment, Places, OnlyReplies, ServesNeed, FirstTry, refused_entry, ideal_at, at_once, after_nursery, after_full, refused}
use Rattle.collector.specs.declared.outcome.Note.{Note}
use Rattle.mutator_calls.specs.declared.need.Need.{Need}
use Rattle.managed_heap.specs.declared.stopped_heap.StoppedHeap.{StoppedHeap}
use Rattle.managed_heap.specs.declared.place.Placed.{Placed}
use Rattle.managed_heap.specs.declared.place.Placed.TheVariants as answer
use Rattle.managed_heap.proofs.Noted.{AreKnown}
use Rattle.managed_heap.specs.Stopped.{collections_of, IsHeapInOrder, IsStopped, HeapStandsAt, HasCollected}
use Rattle.managed_heap.specs.Needs.{MakesRoomAtStop, Settles, AddsNeed, AddsBirths, IfRefused, born_in}
use Rattle.managed_heap.proofs.Noted as noted
use Rattle.managed_heap.proofs.Noted.{IsFound}
use Rattle.managed_heap.proofs.Collected as collected
use Rattle.managed_heap.proofs.BirthCounts.{added-after, same-added}

-- what a step gives at each moment
abbrev pub PlacesFrom : {P : Type 0} → Rules → StoppedHeap P → ℕ → Need → Placed → StoppedHeap P → Type 0
PlacesFrom rules old m need what new = (t : Setting) (now : Moment) → HeapStandsAt rules old t now
    → (next : Moment) × Places t m need.register need.refs need.nums now next × AddsNeed m need what now next × HeapStandsAt rules new t next

abbrev pub ServesFrom : {P : Type 0} → Rules → StoppedHeap P → ℕ → Need → Placed → StoppedHeap P → Type 0
ServesFrom rules old m need what new = (t : Setting) (now : Moment) → HeapStandsAt rules old t now
    → (next : Moment) × ServesNeed t m need.register need.refs need.nums now next × AddsNeed m need what now next × HeapStandsAt rules new t next

abbrev pub SettlesFrom : {P : Type 0} → Rules → StoppedHeap P → ℕ → Need → Placed → StoppedHeap P → Type 0
SettlesFrom rules old m need what new = (t : Setting) (now : Moment) → HeapStandsAt rules old t now
    → (next : Moment) × Settles t m need what now next × AddsNeed m need what now next × HeapStandsAt rules new t next

abbrev pub RoomFrom : {P : Type 0} → Rules → StoppedHeap P → ℕ → StoppedHeap P → Type 0
RoomFrom rules old size new = (t : Setting) (now : Moment) → HeapStandsAt rules old t now
    → (late : Moment) × MakesRoomAtStop t size now late × HeapStandsAt rules new t late

pub serves-at-once : {P : Type 0} (rules : Rules) (old new last : StoppedHeap P) (m : ℕ) (need : Need) (what : Placed) → IsFound old new → AreKnown rules (heap_state new.heap) new.notes
    → PlacesFrom rules new m need what last → ServesFrom rules old m need what last
serves-at-once rules old new last m need what rest are places t now stands =
    let placed = places t now (noted.stands-found rules old new rest are t now stands) in
    (placed.0, at_once placed.1, placed.2, placed.3)

-- it stands after the need, as it stood before
pub stopped-served : {P : Type 0} (rules : Rules) (old last : StoppedHeap P) (m : ℕ) (need : Need) (what : Placed) → IsStopped rules old → IsHeapInOrder rules last → ServesFrom rules old m need what last → IsStopped rules last
stopped-served rules old last m need what stopped order serves =
    let next = serves stopped.setting stopped.now stopped.stands in
    record { order = order; setting = stopped.setting; now = next.0; stands = next.3 }

-- a fact on the fit of a size, in the terms of the setting
fits-at : {P : Type 0} (rules : Rules) (h : StoppedHeap P) (t : Setting) (now : Moment) (size : ℕ) → HeapStandsAt rules h t now → Fits rules (heap_state h.heap) size → Fits t.rules now.heap size
fits-at rules h t now size at fits =
    subst (λ (x : Rules). Fits x now.heap size) (sym at.rules_are) (subst (λ (s : HeapState). Fits rules s size) at.heap fits)

fits-back : {P : Type 0} (rules : Rules) (h : StoppedHeap P) (t : Setting) (now : Moment) (size : ℕ) → HeapStandsAt rules h t now → Fits t.rules now.heap size → Fits rules (heap_state h.heap) size
fits-back rules h t now size at fits =
    subst (λ (s : HeapState). Fits rules s size) (sym at.heap) (subst (λ (x : Rules). Fits x now.heap size) at.rules_are fits)

-- collections that make room

first-at : {P : Type 0} (rules : Rules) (h : StoppedHeap P) (t : Setting) (now : Moment) (kind : Collect) → HeapStandsAt rules h t now
    → kind ≡ first_collection rules (heap_state h.heap) → first_collection t.rules now.heap ≡ kind
first-at rules h t now kind at is =
    ap (λ (x : Rules). first_collection x now.heap) at.rules_are ∙ ap (first_collection rules) (sym at.heap) ∙ sym is

is-nursery : (kind : Collect) → (kind ≡ Full → ⊥) → kind ≡ Nursery
is-nursery Nursery other = refl
is-nursery Full other = absurd (other refl)

pub room-first : {P : Type 0} (rules : Rules) (old new : StoppedHeap P) (kind : Collect) (note : Note) (size : ℕ) → kind ≡ first_collection rules (heap_state old.heap) → kind ≡ Full
    → HasCollected rules kind old new note → RoomFrom rules old size new
room-first rules old new kind note size is full made t now at =
    let whole : HasCollected rules Full old new note = subst (λ (k : Collect). HasCollected rules k old new note) full made in (
      collected.late rules Full old new note whole now,
      inr (now, subst (λ (k : Collect). FirstTry t size k now now) (sym (first-at rules old t now kind at is ∙ full)) refl, collected.makes rules Full old new note whole t now at),
      collected.stands rules Full old new note whole t now at,
    )

pub room-nursery : {P : Type 0} (rules : Rules) (old new : StoppedHeap P) (kind : Collect) (note : Note) (size : ℕ) → kind ≡ first_collection rules (heap_state old.heap) → (kind ≡ Full → ⊥)
    → HasCollected rules kind old new note → Fits rules (heap_state new.heap) size → RoomFrom rules old size new
room-nursery rules old new kind note size is other made fits t now at =
    let young : kind ≡ Nursery = is-nursery kind other in
    let part : HasCollected rules Nursery old new note = subst (λ (k : Collect). HasCollected rules k old new note) young made in
    let stands = collected.stands rules Nursery old new note part t now at in (
      collected.late rules Nursery old new note part now,
      inl (first-at rules old t now kind at is ∙ young, collected.makes rules Nursery old new note part t now at, fits-at rules new t (collected.late rules Nursery old new note part now) size stands fits),
      stands,
    )

pub room-both : {P : Type 0} (rules : Rules) (old mid new : StoppedHeap P) (kind : Collect) (note more : Note) (size : ℕ) → kind ≡ first_collection rules (heap_state old.heap) → (kind ≡ Full → ⊥)
    → HasCollected rules kind old mid note → (Fits rules (heap_state mid.heap) size → ⊥) → HasCollected rules Full mid new more → RoomFrom rules old size new
room-both rules old mid new kind note more size is other made none whole t now at =
    let young : kind ≡ Nursery = is-nursery kind other in
    let part : HasCollected rules Nursery old mid note = subst (λ (k : Collect). HasCollected rules k old mid note) young made in
    let between : Moment = collected.late rules Nursery old mid note part now in
    let stands = collected.stands rules Nursery old mid note part t now at in (
      collected.late rules Full mid new more whole between,
      inr (
        between,
        subst (λ (k : Collect). FirstTry t size k now between) (sym (first-at rules old t now kind at is ∙ young))
            (collected.makes rules Nursery old mid note part t now at, λ fits. none (fits-back rules mid t between size stands fits)),
        collected.makes rules Full mid new more whole t between stands,
      ),
      collected.stands rules Full mid new more whole t between stands,
    )

pub counts-one : {P : Type 0} (rules : Rules) (old new : StoppedHeap P) (kind : Collect) (note : Note) → HasCollected rules kind old new note → collections_of new ≤ collections_of old + 2
counts-one rules old new kind note made = (let one : collections_of new ≡ collections_of old + 1 = collected.counts rules kind old new note made in omega arith)

pub counts-both : {P : Type 0} (rules : Rules) (old mid new : StoppedHeap P) (kind : Collect) (note more : Note) → HasCollected rules kind old mid note → HasCollected rules Full mid new more
    → collections_of new ≤ collections_of old + 2
counts-both rules old mid new kind note more made whole =
    let one : collections_of mid ≡ collections_of old + 1 = collected.counts rules kind old mid note made in
    let two : collections_of new ≡ collections_of mid + 1 = collected.counts rules Full mid new more whole in
    omega arith

pub births-both : {P : Type 0} (rules : Rules) (old mid new : StoppedHeap P) (kind : Collect) (note more : Note) → HasCollected rules kind old mid note → HasCollected rules Full mid new more
    → (m : ℕ) → AddsBirths old.mutators.items m 0 new.mutators.items
births-both rules old mid new kind note more made whole m =
    added-after old.mutators.items mid.mutators.items new.mutators.items m 0 (collected.births rules kind old mid note made m) (collected.births rules Full mid new more whole m)

-- the number of full collections after one
pub full-more : {P : Type 0} (rules : Rules) (old new : StoppedHeap P) (kind : Collect) (note : Note) → kind ≡ Full → HasCollected rules kind old new note → new.full ≡ old.full + 1
full-more rules old new kind note full made = ap (λ (p : ℕ × ℕ). p.1) (subst (λ (k : Collect). HasCollected rules k old new note) full made).counts

pub full-same : {P : Type 0} (rules : Rules) (old new : StoppedHeap P) (kind : Collect) (note : Note) → (kind ≡ Full → ⊥) → HasCollected rules kind old new note → new.full ≡ old.full
full-same rules old new kind note other made = ap (λ (p : ℕ × ℕ). p.1) (subst (λ (k : Collect). HasCollected rules k old new note) (is-nursery kind other) made).counts

-- a refusal adds its entry, and nothing else changes
refused-at : {P : Type 0} (rules : Rules) (h : StoppedHeap P) (m d refs nums : ℕ) (t : Setting) (now : Moment) → HeapStandsAt rules h t now
    → OnlyReplies (refused_entry m d refs nums ∷ []) now (record now { done = now.done ++ refused_entry m d refs nums ∷ [] })
    × HeapStandsAt rules h t (record now { done = now.done ++ refused_entry m d refs nums ∷ [] })
refused-at rules h m d refs nums t now stands =
    let answers : Answers (ideal_at now) (refused_entry m d refs nums) = inr (refl, refl) in
    let same : ideal_at (record now { done = now.done ++ refused_entry m d refs nums ∷ [] }) ≡ ideal_at now = after-append empty now.done (refused_entry m d refs nums ∷ []) in (
      record { rest = refl; runs = (answers, tt) },
      record {
        rules_are = stands.rules_are;
        workers = stands.workers;
        blocks = stands.blocks;
        heap = stands.heap;
        mutators = stands.mutators;
        nursery = stands.nursery;
        full = stands.full;
        sound = record {
          lawful = stands.sound.lawful;
          remembers = stands.sound.remembers;
          represents = subst (λ (i : IdealHeap). Represents now.heap now.mutators i) (sym same) stands.sound.represents;
          listed = stands.sound.listed;
        };
        run = extended empty now.done (refused_entry m d refs nums) stands.run answers;
      },
    )

-- a need that is settled

module _ {P : Type 0} (rules : Rules) (old found : StoppedHeap P) (m : ℕ) (need : Need) (size : ℕ) (rest : IsFound old found)
    (notes : AreKnown rules (heap_state found.heap) found.notes) (is : size ≡ size_of need.refs need.nums) where
  pub settles-placed : (last : StoppedHeap P) (n : Name) → PlacesFrom rules found m need (answer.Placed n) last → SettlesFrom rules old m need (answer.Placed n) last
  settles-placed last n places t now stands =
      let placed = places t now (noted.stands-found rules old found rest notes t now stands) in
      (placed.0, placed.1, placed.2, placed.3)

  -- it does not fit
  module _ (none : Fits rules (heap_state old.heap) size → ⊥) where
    pub no-fit : Fits rules (heap_state found.heap) size → ⊥
    no-fit fits = none (subst (λ (x : StoppedHeap P). Fits rules (heap_state x.heap) size) rest fits)

    pub settles-refused : (words : ℕ) → SettlesFrom rules old m need (answer.HeapFull words) found
    settles-refused words t now stands =
        let before : HeapStandsAt rules found t now = noted.stands-found rules old found rest notes t now stands in
        let both = refused-at rules found m need.register need.refs need.nums t now before in (
          record now { done = now.done ++ refused_entry m need.register need.refs need.nums ∷ [] },
          ((λ fits. none (subst (Fits rules (heap_state old.heap)) (sym is) (fits-back rules old t now (size_of need.refs need.nums) stands fits))), both.0),
          refl,
          both.1,
        )

    pub refused-here : IfRefused (answer.HeapFull size) (λ words. (words ≡ size_of need.refs need.nums) × (found.full ≡ old.full) × (heap_state found.heap ≡ heap_state old.heap)
        × (Fits rules (heap_state found.heap) words → ⊥))
    refused-here = (is, noted.full-found old found rest, ap (λ (x : StoppedHeap P). heap_state x.heap) rest, no-fit)

-- room was made, and the need is settled

serves-settled : (t : Setting) (m : ℕ) (need : Need) (what : Placed) (now late next : Moment) → (Fits t.rules now.heap (size_of need.refs need.nums) → ⊥) → MakesRoomAtStop t (size_of need.refs need.nums) now late
    → Settles t m need what late next → ServesNeed t m need.register need.refs need.nums now next
serves-settled t m need (answer.Placed n) now late next none (inl part) places = after_nursery late none part.0 part.1 places
serves-settled t m need (answer.HeapFull size) now late next none (inl part) refuses = absurd (refuses.0 part.2)
serves-settled t m need (answer.Placed n) now late next none (inr whole) places = after_full whole.0 late none whole.1 whole.2 places
serves-settled t m need (answer.HeapFull size) now late next none (inr whole) refuses = refused whole.0 late none whole.1 whole.2 refuses.0 refuses.1

-- no collection adds an entry
first-done : (t : Setting) (size : ℕ) (kind : Collect) (now mid : Moment) → FirstTry t size kind now mid → mid.done ≡ now.done
first-done t size Full now mid same = ap (λ (x : Moment). x.done) same
first-done t size Nursery now mid made = made.0.done

room-done : (t : Setting) (size : ℕ) (now late : Moment) → MakesRoomAtStop t size now late → late.done ≡ now.done
room-done t size now late (inl part) = part.1.done
room-done t size now late (inr whole) = whole.2.done ∙ first-done t size (first_collection t.rules now.heap) now whole.0 whole.1

module _ {P : Type 0} (rules : Rules) (old found made last : StoppedHeap P) (m : ℕ) (need : Need) (what : Placed) (size : ℕ) (rest : IsFound old found)
    (notes : AreKnown rules (heap_state found.heap) found.notes) (is : size ≡ size_of need.refs need.nums) where
  pub serves-after : (Fits rules (heap_state old.heap) size → ⊥) → RoomFrom rules found size made → SettlesFrom rules made m need what last → ServesFrom rules old m need what last
  serves-after none room settles t now stands =
      let first = room t now (noted.stands-found rules old found rest notes t now stands) in
      let then = settles t first.0 first.2 in (
        then.0,
        serves-settled t m need what now first.0 then.0
            (λ fits. none (subst (Fits rules (heap_state old.heap)) (sym is) (fits-back rules old t now (size_of need.refs need.nums) stands fits)))
            (subst (λ (n : ℕ). MakesRoomAtStop t n now first.0) is first.1) then.1,
        subst (λ (es : List Entry). AddsNeed m need what (record first.0 { done = es }) then.0) (room-done t size now first.0 first.1) then.2,
        then.3,
      )

  pub stopped-made : IsHeapInOrder rules made → IsStopped rules found → RoomFrom rules found size made → IsStopped rules made
  stopped-made order stopped room = let late = room stopped.setting stopped.now stopped.stands in record { order = order; setting = stopped.setting; now = late.0; stands = late.2 }

  pub births-after : AddsBirths found.mutators.items m 0 made.mutators.items → AddsBirths made.mutators.items m (born_in what) last.mutators.items → AddsBirths old.mutators.items m (born_in what) last.mutators.items
  births-after none some = added-after old.mutators.items made.mutators.items last.mutators.items m (born_in what)
      (added-after old.mutators.items found.mutators.items made.mutators.items m 0 (same-added old.mutators.items found.mutators.items m (noted.users-found old found rest)) none) some

  pub counts-after : collections_of made ≤ collections_of found + 2 → collections_of last ≡ collections_of made → collections_of last ≤ collections_of old + 2
  counts-after most same = (let one : collections_of found ≡ collections_of old = noted.counts-found old found rest in omega arith)

pub refused-after : {P : Type 0} (rules : Rules) (old found made last : StoppedHeap P) (need : Need) (what : Placed) (size : ℕ) → IsFound old found → size ≡ size_of need.refs need.nums
    → ((Fits rules (heap_state made.heap) size → ⊥) → made.full ≡ found.full + 1)
    → IfRefused what (λ n. (n ≡ size_of need.refs need.nums) × (last.full ≡ made.full) × (heap_state last.heap ≡ heap_state made.heap) × (Fits rules (heap_state last.heap) n → ⊥))
    → IfRefused what (λ n. (n ≡ size_of need.refs need.nums) × (last.full ≡ old.full + 1) × (Fits rules (heap_state last.heap) n → ⊥))
refused-after rules old found made last need (answer.Placed n) size rest is full settled = tt
refused-after rules old found made last need (answer.HeapFull n) size rest is full settled = (
  settled.0,
  settled.1 ∙ full (λ fits. settled.3 (subst (λ (k : ℕ). Fits rules (heap_state last.heap) k) (is ∙ sym settled.0) (subst (λ (s : HeapState). Fits rules s size) (sym settled.2) fits)))
      ∙ ap (λ (n : ℕ). n + 1) (noted.full-found old found rest),
  settled.3,
)

-- mutators with notes read, and one placed
module _ {P : Type 0} (old found last : StoppedHeap P) (m : ℕ) (rest : IsFound old found) where
  pub births-found : (more : ℕ) → AddsBirths found.mutators.items m more last.mutators.items → AddsBirths old.mutators.items m more last.mutators.items
  births-found more some = added-after old.mutators.items found.mutators.items last.mutators.items m more (same-added old.mutators.items found.mutators.items m (noted.users-found old found rest)) some

  pub counts-found : collections_of last ≡ collections_of found → collections_of last ≡ collections_of old
  counts-found same = same ∙ noted.counts-found old found rest
