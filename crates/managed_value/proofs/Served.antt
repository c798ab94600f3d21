-- What an allocation and a collection do to a managed heap, over a stop.
use Rattle.std.proofs.Common.{◌≡◌, ◌≢◌, refl, sym, ◌∙◌, ap, subst, ℕ, ◌+◌, ◌-◌, ◌^◌, ◌<◌, ◌≤◌, inl, inr, arith, List, [], ◌∷◌, ◌++◌, length, Bool, true, false, Option, None, Some, Result, Ok, Err}
use Rattle.std.specs.Prelude.{⊤, ◌⊎◌, nat_le, MatchBool, MatchResult, slice_get}
use Rattle.std.proofs.lemmas.Bool.{cases_eq}
use Rattle.ideal_heap.specs.declared.command.Command.TheVariants as c
use Rattle.heap_layout.specs.declared.block.Kind.TheVariants as kinds
use Rattle.ideal_heap.specs.declared.reply.Reply.{Reply}
use Rattle.ideal_heap.specs.declared.reply.Reply.TheVariants as reply
use Rattle.ideal_heap.specs.declared.name.Name.{Name}
use Rattle.ideal_heap.specs.Runs.{Entry, entry}
use Rattle.object_model.specs.declared.collect.Collect.TheVariants.{Full}
use Rattle.object_model.specs.Heaps.{heap_state}
use Rattle.object_model.specs.Objects.{HeapState, size_of, blocks_for}
use Rattle.object_model.specs.Lawful.{IsLawful}
use Rattle.sessions.specs.Plans.{Rules}
use Rattle.sessions.specs.Grants.{BlockCounts, IsGrantable, IsRunGrantable}
use Rattle.sessions.specs.Fitting.{Fits, FitsSmall, FitsLarge}
use Rattle.sessions.specs.Sessions.{Setting, Moment, MakesCollection, ServesNeed}
use Rattle.collector.specs.declared.outcome.Note.{Note}
use Rattle.collector.specs.Tallies.{capped}
use Rattle.mutator_calls.specs.declared.need.Need.{Need}
use Rattle.mutator_calls.specs.Allocating.{IsNeedOf}
use Rattle.block_regions.specs.Notes.{FillsHoles}
use Rattle.block_regions.proofs.NoteLemmas.{hole-before, kind-same}
use Rattle.heap_users.specs.Beginnings.{without_stop}
use Rattle.heap_users.proofs.Cleared as cleared
use Rattle.managed_heap.specs.Worlds.{births_of}
use Rattle.managed_heap.specs.declared.stopped_heap.StoppedHeap.{StoppedHeap}
use Rattle.managed_heap.specs.declared.place.Placed.{Placed}
use Rattle.managed_heap.specs.declared.place.Placed.TheVariants as placed
use Rattle.managed_heap.specs.Stopped.{HeapStandsAt, HasCollected, collections_of as stopped_collections}
use Rattle.managed_heap.specs.Needs.{AddsBirths, AddsNeed, IfRefused, NotesLast, born_in, reply_of, MayAllocate as MayAllocateAt}
use Rattle.managed_heap.proofs.BirthCounts.{as-many}
use Rattle.managed_value.specs.declared.managed.ManagedHeap.{ManagedHeap}
use Rattle.managed_value.specs.declared.allocate.Refused.{Refused}
use Rattle.managed_value.specs.declared.allocate.Refused.TheVariants as refused
use Rattle.managed_value.specs.Histories.{IsAsBefore, IsAsBeforeOrLost, IsUsable, HasEntries, AddsHeapEntry, HeapHasPlace, mutators_of_heap, heap_births_at, words_used, collections_made}
use Rattle.managed_value.specs.Allocations.{HeapMayAllocate, AllocatesInEpoch, CollectsAtStop, FindsNoRoom, Makes, RepliesFull, MatchAnswer, MatchRefused, CollectsAll, RunsOut, RunsOutAtStop, ServesAtStop, StopsFor, kept_by, used_for, used_with}
use Rattle.managed_value.specs.Epochs.{EndsWith, BeginsWith}
use Rattle.managed_value.proofs.Searched.{as-before-twice}
use Rattle.managed_value.proofs.Places.{births-own, births-others, births-kept, some-there}

-- What fits when stop word and budget word are cleared fitted before.
module _ (rules : Rules) (s : HeapState) (lawful : IsLawful s) (fills : FillsHoles rules.fill) (size : ℕ) where
  fits-either : (b : Bool) (n : ℕ) → MatchBool b (FitsSmall rules (without_stop s) size) (FitsLarge rules (without_stop s) n) → MatchBool b (FitsSmall rules s size) (FitsLarge rules s n)
  fits-either true n (inl some) = inl (record {
    block = some.block;
    offset = some.offset;
    hole = hole-before s (without_stop s).words (cleared.keeps-blocks s lawful) rules.fill fills some.block some.offset size some.hole;
  })
  fits-either true n (inr grant) = inr (subst (λ (k : BlockCounts). IsGrantable rules.reserve k) (cleared.counts-cleared s lawful) grant)
  fits-either false n large = record {
    granted = subst (λ (k : BlockCounts). IsRunGrantable rules.reserve k n) (cleared.counts-cleared s lawful) large.granted;
    block = large.block;
    run = record {
      inside = large.run.inside;
      free = λ j less. sym (kind-same s (without_stop s).words (cleared.keeps-blocks s lawful) (large.block + j) kinds.Free) ∙ large.run.free j less;
    };
  }

  pub fits-cleared : Fits rules (without_stop s) size → Fits rules s size
  fits-cleared fits = fits-either (nat_le size 2048) (blocks_for size) fits

-- the words in use by the reply
used-replied : (what : Placed) (size used : ℕ) → used_with what size used ≡ used_for (reply_of what) size used
used-replied (placed.Placed n) size used = refl
used-replied (placed.HeapFull words) size used = refl

-- From a stop to the next epoch.
module _ {P : Type 0} (rules : Rules) (old new : ManagedHeap P) (s r : StoppedHeap P) (ends : EndsWith rules old s) (begins : BeginsWith rules r new) where
  pub counts-after : stopped_collections r ≤ stopped_collections s + 2 → collections_made new ≤ collections_made old + 2
  counts-after most =
      let a : s.nursery ≡ old.nursery = ends.nursery in
      let b : s.full ≡ old.full = ends.full in
      let d : new.nursery ≡ r.nursery = begins.nursery in
      let e : new.full ≡ r.full = begins.full in
      let n : r.nursery + r.full ≤ s.nursery + s.full + 2 = most in
      omega arith

  pub serves-at-stop : (m : ℕ) (need : Need) (what : Placed)
      → ((t : Setting) (now : Moment) → HeapStandsAt rules s t now
      → (next : Moment) × ServesNeed t (m + 1) need.register need.refs need.nums now next × AddsNeed (m + 1) need what now next × HeapStandsAt rules r t next)
      → (note : Option Note) → NotesLast rules s r note → words_used new ≡ used_with what (size_of need.refs need.nums) (kept_by note (words_used old))
      → ServesAtStop rules old m need.register need.refs need.nums (reply_of what) new
  serves-at-stop m need what serves note noted used = record {
    before = s;
    ends = ends;
    after = r;
    serves = serves;
    note = note;
    noted = noted;
    used = used ∙ used-replied what (size_of need.refs need.nums) (kept_by note (words_used old));
    begins = begins;
  }

  -- a full collection
  module _ (note : Note) (made : HasCollected rules Full s r note)
      (makes : (t : Setting) (now : Moment) → HeapStandsAt rules s t now → (late : Moment) × MakesCollection t Full now late × HeapStandsAt rules r t late)
      (used : words_used new ≡ note.kept_words) where
    pub collects-all : CollectsAll rules old note new
    collects-all = record {
      usable = begins.usable;
      history = λ es has.
          let at = ends.stands es has in
          let late = makes at.0 at.1 at.3 in
          subst (HasEntries rules new) (late.1.done ∙ at.2) (begins.entries at.0 late.0 late.2);
      places = begins.places ∙ as-many r.mutators.items s.mutators.items made.births ∙ ends.places;
      births = λ k. begins.births k ∙ births-kept s.mutators.items r.mutators.items made.births k ∙ ends.births k;
      nursery = begins.nursery ∙ ap (λ (p : ℕ × ℕ). p.0) made.counts ∙ ends.nursery;
      full = begins.full ∙ ap (λ (p : ℕ × ℕ). p.1) made.counts ∙ ap (λ (n : ℕ). n + 1) ends.full;
      used = used;
    }

    pub collects-at-stop : CollectsAtStop rules old note new
    collects-at-stop = record { before = s; ends = ends; after = r; collected = made; makes = makes; begins = begins }

  -- a need
  module _ (m : ℕ) (need : Need) (place : m < mutators_of_heap old) (fills : FillsHoles rules.fill) (few : stopped_collections r ≤ stopped_collections s + 2) where
    adds-need : (what : Placed)
        → ((t : Setting) (now : Moment) → HeapStandsAt rules s t now
        → (next : Moment) × ServesNeed t (m + 1) need.register need.refs need.nums now next × AddsNeed (m + 1) need what now next × HeapStandsAt rules r t next)
        → AddsHeapEntry rules old m (c.New need.register need.refs need.nums) (reply_of what) new
    adds-need what serves es has =
        let at = ends.stands es has in
        let then = serves at.0 at.1 at.3 in
        subst (HasEntries rules new) (then.2 ∙ ap (λ (xs : List Entry). xs ++ entry (m + 1) (c.New need.register need.refs need.nums) (reply_of what) ∷ []) at.2) (begins.entries at.0 then.0 then.3)

    below : m < length s.mutators.items
    below = subst (λ (n : ℕ). m < n) (sym ends.places) place

    births-there : (more : ℕ) → AddsBirths s.mutators.items (m + 1) more r.mutators.items → heap_births_at new m ≡ heap_births_at old m + more
    births-there more adds = begins.births m ∙ births-own s.mutators.items r.mutators.items m more adds below ∙ ap (λ (n : ℕ). n + more) (ends.births m)

    births-elsewhere : (more : ℕ) → AddsBirths s.mutators.items (m + 1) more r.mutators.items → (k : ℕ) → k ≢ m → heap_births_at new k ≡ heap_births_at old k
    births-elsewhere more adds k other = begins.births k ∙ births-others s.mutators.items r.mutators.items m more adds k other ∙ ends.births k

    -- no collection was made, so the words are those of before
    kept-same : (note : Option Note) → NotesLast rules s r note → collections_made new ≡ collections_made old → kept_by note (words_used old) ≡ words_used old
    kept-same None noted same = refl
    kept-same (Some note) noted same = absurd (
        let a : s.nursery ≡ old.nursery = ends.nursery in
        let b : s.full ≡ old.full = ends.full in
        let d : new.nursery ≡ r.nursery = begins.nursery in
        let e : new.full ≡ r.full = begins.full in
        let more : s.nursery + s.full < r.nursery + r.full = noted.more in
        let none : new.nursery + new.full ≡ old.nursery + old.full = same in
        omega arith)

    pub serves-need : (note : Option Note) → NotesLast rules s r note → (what : Placed)
        → ((t : Setting) (now : Moment) → HeapStandsAt rules s t now
        → (next : Moment) × ServesNeed t (m + 1) need.register need.refs need.nums now next × AddsNeed (m + 1) need what now next × HeapStandsAt rules r t next)
        → AddsBirths s.mutators.items (m + 1) (born_in what) r.mutators.items
        → IfRefused what (λ size. (size ≡ size_of need.refs need.nums) × (r.full ≡ s.full + 1) × (Fits rules (heap_state r.heap) size → ⊥))
        → words_used new ≡ used_with what (size_of need.refs need.nums) (kept_by note (words_used old))
        → MatchAnswer (λ n. Makes rules old m need.register need.refs need.nums n new) (RepliesFull rules old m need.register need.refs need.nums new) what
    serves-need last noted (placed.Placed n) serves adds none used = record {
      usable = begins.usable;
      history = adds-need (placed.Placed n) serves;
      places = begins.places ∙ adds.count ∙ ends.places;
      births = births-there 1 adds;
      others = births-elsewhere 1 adds;
      collections = counts-after few;
      used = λ same. used ∙ ap (λ (x : ℕ). capped (2 ^ 64 - 1) (x + size_of need.refs need.nums)) (kept-same last noted same);
    }
    serves-need last noted (placed.HeapFull size) serves adds none used = record {
      usable = begins.usable;
      history = adds-need (placed.HeapFull size) serves;
      places = begins.places ∙ adds.count ∙ ends.places;
      births = λ k. elim (cases_eq k m) as (λ _. heap_births_at new k ≡ heap_births_at old k) [
        | inl same ↦ subst (λ (j : ℕ). heap_births_at new j ≡ heap_births_at old j) (sym same) (let e = births-there 0 adds in omega (arith, e))
        | inr away ↦ births-elsewhere 0 adds k away
      ];
      collections = counts-after few;
      full = begins.full ∙ none.1 ∙ ap (λ (n : ℕ). n + 1) ends.full;
      room = λ w here fits. none.2 (subst (λ (n : ℕ). Fits rules (heap_state r.heap) n) (sym none.0)
          (fits-cleared rules (heap_state r.heap) r.heap.lawful fills (size_of need.refs need.nums)
          (subst (λ (x : HeapState). Fits rules x (size_of need.refs need.nums)) (begins.heap w here) fits)));
    }

-- a mutator may allocate at the stop
pub may-at-stop : {P : Type 0} (rules : Rules) (old : ManagedHeap P) (s : StoppedHeap P) (m : ℕ) (need : Need) → EndsWith rules old s → HeapHasPlace old m → HeapMayAllocate old m
    → need.register ≤ 15 → need.refs ≤ 1024 → need.nums ≤ 60000 → MayAllocateAt s (m + 1) need
may-at-stop rules old s m need ends place may register refs nums = record {
  least = omega arith;
  most = (let below : m < length s.mutators.items = subst (λ (n : ℕ). m < n) (sym ends.places) place in omega arith);
  valid = (register, refs, nums);
  births = λ k u at is.
      let here : k ≡ m = omega arith in
      let same : births_of (slice_get s.mutators.items m) ≡ u.births = ap (λ (j : ℕ). births_of (slice_get s.mutators.items j)) (sym here) ∙ ap births_of is in
      let there : births_of (slice_get s.mutators.items m) ≡ heap_births_at old m = ends.births m in
      let few : heap_births_at old m + 1 < 4294967296 = may.births in
      omega arith;
}

-- from a heap that is as it was
module _ {P : Type 0} (rules : Rules) (old mid new : ManagedHeap P) (is : IsAsBefore rules old mid) (m d refs nums : ℕ) where
  few-from : collections_made new ≤ collections_made mid + 2 → collections_made new ≤ collections_made old + 2
  few-from few = (
      let a : mid.nursery ≡ old.nursery = is.nursery in
      let b : mid.full ≡ old.full = is.full in
      let n : new.nursery + new.full ≤ mid.nursery + mid.full + 2 = few in
      omega arith)

  makes-from : (n : Name) → Makes rules mid m d refs nums n new → Makes rules old m d refs nums n new
  makes-from n makes = record {
    usable = makes.usable;
    history = λ es has. makes.history es (is.history es has);
    places = makes.places ∙ is.places;
    births = makes.births ∙ ap (λ (x : ℕ). x + 1) (is.births m);
    others = λ k other. makes.others k other ∙ is.births k;
    collections = few-from makes.collections;
    used = λ same. subst (λ (x : ℕ). words_used new ≡ used_with (placed.Placed n) (size_of refs nums) x) is.used
        (makes.used (same ∙ ap (λ (x : ℕ). x + old.full) (sym is.nursery) ∙ ap (λ (x : ℕ). mid.nursery + x) (sym is.full)));
  }

  full-from : RepliesFull rules mid m d refs nums new → RepliesFull rules old m d refs nums new
  full-from whole = record {
    usable = whole.usable;
    history = λ es has. whole.history es (is.history es has);
    places = whole.places ∙ is.places;
    births = λ k. whole.births k ∙ is.births k;
    collections = few-from whole.collections;
    full = whole.full ∙ ap (λ (x : ℕ). x + 1) is.full;
    room = whole.room;
  }

  -- an allocation after a search, by the numbers of its call
  pub answered : (need : Need) → IsNeedOf d refs nums need → (result : Result Name Refused)
      → MatchResult result (λ n. Makes rules mid m need.register need.refs need.nums n new) (MatchRefused (RepliesFull rules mid m need.register need.refs need.nums new) (RunsOutAtStop rules mid (size_of need.refs need.nums) new))
      → MatchResult result (λ n. Makes rules old m d refs nums n new) (MatchRefused (RepliesFull rules old m d refs nums new) (IsAsBeforeOrLost rules old new))
  answered need of (Ok n) makes = makes-from n
      (subst (λ (x : ℕ). Makes rules mid m x refs nums n new) of.register
      (subst (λ (x : ℕ). Makes rules mid m need.register x nums n new) of.refs
      (subst (λ (x : ℕ). Makes rules mid m need.register need.refs x n new) of.nums makes)))
  answered need of (Err refused.Full) whole = full-from
      (subst (λ (x : ℕ). RepliesFull rules mid m x refs nums new) of.register
      (subst (λ (x : ℕ). RepliesFull rules mid m need.register x nums new) of.refs
      (subst (λ (x : ℕ). RepliesFull rules mid m need.register need.refs x new) of.nums whole)))
  answered need of (Err refused.OutOfMemory) (inl same) = inl (as-before-twice rules old mid new is same)
  answered need of (Err refused.OutOfMemory) (inr gone) = inr gone.lost

  -- and how: a search in the epoch, then a stop
  module _ (search : FindsNoRoom rules old m (size_of refs nums) mid) where
    stops-with : (need : Need) (answer : Reply) → IsNeedOf d refs nums need → ServesAtStop rules mid m need.register need.refs need.nums answer new
        → StopsFor rules old m d refs nums answer new
    stops-with need answer of serves = record {
      searched = mid;
      search = search;
      serves =
          subst (λ (x : ℕ). ServesAtStop rules mid m x refs nums answer new) of.register
          (subst (λ (x : ℕ). ServesAtStop rules mid m need.register x nums answer new) of.refs
          (subst (λ (x : ℕ). ServesAtStop rules mid m need.register need.refs x answer new) of.nums serves));
    }

    pub stopped-for : (need : Need) → IsNeedOf d refs nums need → (result : Result Name Refused)
        → MatchResult result (λ n. ServesAtStop rules mid m need.register need.refs need.nums (reply.New n) new) (MatchRefused (ServesAtStop rules mid m need.register need.refs need.nums reply.Full new) ⊤)
        → MatchResult result (λ n. Makes rules mid m need.register need.refs need.nums n new) (MatchRefused (RepliesFull rules mid m need.register need.refs need.nums new) (RunsOutAtStop rules mid (size_of need.refs need.nums) new))
        → MatchResult result (λ n. AllocatesInEpoch old m d refs nums n new ⊎ StopsFor rules old m d refs nums (reply.New n) new)
        (MatchRefused (StopsFor rules old m d refs nums reply.Full new) (RunsOut rules old m refs nums new))
    stopped-for need of (Ok n) serves makes = inr (stops-with need (reply.New n) of serves)
    stopped-for need of (Err refused.Full) serves whole = stops-with need reply.Full of serves
    stopped-for need of (Err refused.OutOfMemory) serves left = record {
      searched = mid;
      search = search;
      left =
          subst (λ (x : ℕ). RunsOutAtStop rules mid (size_of x nums) new) of.refs
          (subst (λ (x : ℕ). RunsOutAtStop rules mid (size_of need.refs x) new) of.nums left);
    }

-- there are as many mutators after a need, and after a collection
pub as-many-served : {P : Type 0} (rules : Rules) (old : ManagedHeap P) (s r : StoppedHeap P) (m more : ℕ) → EndsWith rules old s
    → AddsBirths s.mutators.items m more r.mutators.items → length r.mutators.items ≡ mutators_of_heap old
as-many-served rules old s r m more ends adds = adds.count ∙ ends.places

pub as-many-collected : {P : Type 0} (rules : Rules) (old : ManagedHeap P) (s r : StoppedHeap P) (note : Note) → EndsWith rules old s
    → HasCollected rules Full s r note → length r.mutators.items ≡ mutators_of_heap old
as-many-collected rules old s r note ends made = as-many r.mutators.items s.mutators.items made.births ∙ ends.places

-- so there are some
pub some-served : {P : Type 0} (rules : Rules) (old : ManagedHeap P) (s r : StoppedHeap P) (m more : ℕ) → IsUsable rules old → EndsWith rules old s
    → AddsBirths s.mutators.items m more r.mutators.items → 1 ≤ length r.mutators.items
some-served rules old s r m more usable ends adds = subst (λ (n : ℕ). 1 ≤ n) (sym (as-many-served rules old s r m more ends adds)) (some-there rules old usable)

pub some-collected : {P : Type 0} (rules : Rules) (old : ManagedHeap P) (s r : StoppedHeap P) (note : Note) → IsUsable rules old → EndsWith rules old s
    → HasCollected rules Full s r note → 1 ≤ length r.mutators.items
some-collected rules old s r note usable ends made = subst (λ (n : ℕ). 1 ≤ n) (sym (as-many-collected rules old s r note ends made)) (some-there rules old usable)
