-- An allocation in the epoch, and a search for room that finds none.
use Rattle.std.proofs.Common.{◌≡◌, refl, sym, ◌∙◌, subst, ℕ, ◌+◌, ◌<◌, ◌≤◌, arith, Some, []}
use Rattle.ideal_heap.specs.declared.command.Command.TheVariants as c
use Rattle.ideal_heap.specs.declared.reply.Reply.TheVariants as r
use Rattle.ideal_heap.specs.declared.name.Name.{Name}
use Rattle.object_model.specs.Objects.{size_of}
use Rattle.mutator_calls.specs.Effects.{draws}
use Rattle.mutator_calls.specs.Allocating.{births_with}
use Rattle.managed_heap.specs.Worlds.{PlainWorld, IsOpen, SamePlaces, Allocates, Refuses}
use Rattle.sessions.specs.Plans.{Rules}
use Rattle.managed_heap.specs.declared.place.Placed.TheVariants as placed
use Rattle.managed_value.specs.declared.managed.ManagedHeap.{ManagedHeap}
use Rattle.managed_value.specs.Histories.{HeapHasPlace, IsUsable, IsAsBefore, heap_births_at, words_used, collections_made}
use Rattle.managed_value.specs.Allocations.{AllocatesInEpoch, FindsNoRoom, Makes, HeapMayAllocate, used_with}
use Rattle.managed_value.proofs.Places.{place-here}
use Rattle.managed_value.proofs.CallEntries as calls

module _ {P : Type 0} (rules : Rules) (old new : ManagedHeap P) (v w : PlainWorld P) (here : old.world ≡ Some v) (there : new.world ≡ Some w)
    (nursery : new.nursery ≡ old.nursery) (full : new.full ≡ old.full) (m : ℕ) (place : HeapHasPlace old m) (usable : IsUsable rules old)
    (is_open : IsOpen rules w) (same : SamePlaces v w) where
  few : collections_made new ≤ collections_made old + 2
  few = (
      let a : new.nursery ≡ old.nursery = nursery in
      let b : new.full ≡ old.full = full in
      omega arith)

  pub made : (d refs nums : ℕ) (n : Name) → Allocates v m d refs nums n w → words_used new ≡ used_with (placed.Placed n) (size_of refs nums) (words_used old)
      → Makes rules old m d refs nums n new
  made d refs nums n makes used = record {
    usable = calls.call-usable rules old new v w here there nursery full m (c.New d refs nums) (r.New n) (place-here rules old v here m place) makes.history usable is_open same;
    history = calls.call-adds rules old new v w here there nursery full m (c.New d refs nums) (r.New n) (place-here rules old v here m place) makes.history;
    places = calls.places-with rules old new v w here there nursery full same;
    births = calls.births-with rules old new v w here there nursery full m (births_with d refs nums n makes.taken makes.granted makes.drawn) makes.rest;
    others = calls.others-with rules old new v w here there nursery full m (births_with d refs nums n makes.taken makes.granted makes.drawn) makes.rest;
    collections = few;
    used = λ same. used;
  }

  pub allocated : (d refs nums : ℕ) (n : Name) → Allocates v m d refs nums n w → AllocatesInEpoch old m d refs nums n new
  allocated d refs nums n makes = record {
    before = v;
    here = here;
    after = w;
    there = there;
    allocates = makes;
    nursery = nursery;
    full = full;
  }

  -- the heap is as it was
  pub searched : (size : ℕ) → Refuses v m size w → words_used new ≡ words_used old → FindsNoRoom rules old m size new
  searched size refuses used = record {
    before = v;
    here = here;
    after = w;
    there = there;
    refuses = refuses;
    same = record {
      usable = calls.usable-with rules old new v w here there nursery full [] usable is_open same (calls.calls-add rules old new v w here there nursery full [] refuses.history);
      history = calls.call-keeps rules old new v w here there nursery full refuses.history;
      places = calls.places-with rules old new v w here there nursery full same;
      births = calls.births-stay rules old new v w here there nursery full m (draws refuses.drawn) refuses.rest refl;
      nursery = nursery;
      full = full;
      used = used;
    };
  }

-- a heap is as it was, and so is one that is as that was
pub as-before-still : {P : Type 0} (rules : Rules) (h : ManagedHeap P) → IsUsable rules h → IsAsBefore rules h h
as-before-still rules h usable = record {
  usable = usable;
  history = λ es has. has;
  places = refl;
  births = λ k. refl;
  nursery = refl;
  full = refl;
  used = refl;
}

pub as-before-twice : {P : Type 0} (rules : Rules) (old mid new : ManagedHeap P) → IsAsBefore rules old mid → IsAsBefore rules mid new → IsAsBefore rules old new
as-before-twice rules old mid new first second = record {
  usable = second.usable;
  history = λ es has. second.history es (first.history es has);
  places = second.places ∙ first.places;
  births = λ k. second.births k ∙ first.births k;
  nursery = second.nursery ∙ first.nursery;
  full = second.full ∙ first.full;
  used = second.used ∙ first.used;
}

-- the mutator may allocate as before
module _ {P : Type 0} (rules : Rules) (old new : ManagedHeap P) (m : ℕ) (is : IsAsBefore rules old new) where
  pub place-still : HeapHasPlace old m → HeapHasPlace new m
  place-still place = subst (λ (n : ℕ). m < n) (sym is.places) place

  pub may-still : HeapMayAllocate old m → HeapMayAllocate new m
  may-still may = record {
    births = (let b : heap_births_at new m ≡ heap_births_at old m = is.births m in let most : heap_births_at old m + 1 < 4294967296 = may.births in omega arith);
    collections = (
        let a : new.nursery ≡ old.nursery = is.nursery in
        let b : new.full ≡ old.full = is.full in
        let most : old.nursery + old.full + 2 < 1099511627776 = may.collections in
        omega arith);
  }
