-- A call of the world is a call of the heap.
use Rattle.std.proofs.Common.{◌≡◌, ◌≢◌, ◌∙◌, ℕ, ◌+◌, ◌<◌, ◌≤◌, ap, sym, subst, inl, inr, arith, Some, List, [], ◌∷◌, ◌++◌}
use Rattle.std.proofs.lemmas.Bool.{cases_eq}
use Rattle.std.proofs.lemmas.List.{append_assoc, append-nil}
use Rattle.ideal_heap.specs.declared.command.Command.{Command}
use Rattle.ideal_heap.specs.declared.reply.Reply.{Reply}
use Rattle.ideal_heap.specs.Runs.{Entry, entry}
use Rattle.mutator_calls.specs.Effects.{Effect}
use Rattle.managed_heap.specs.Worlds.{births_of, births_in, PlainWorld, places_of, mutator_number_at, IsOpen, StaysOpen, LeavesRest, SamePlaces, budget_word, AddsEntries as AddMoreToWorld, AddsEntry as AddsToWorld}
use Rattle.heap_users.specs.Beginnings.{epoch_of}
use Rattle.sessions.specs.Plans.{Rules}
use Rattle.sessions.specs.Sessions.{ideal_at}
use Rattle.managed_value.specs.declared.managed.ManagedHeap.{ManagedHeap}
use Rattle.managed_value.specs.Histories.{IsUsable, HasEntries, AddsHeapEntry, AddsHeapEntries, KeepsEntries, IsSince, GoesOn, StaysInEpoch, EntersCall, mutators_of_heap, heap_births_at, words_used, places_in, born_to}
use Rattle.managed_value.proofs.Places.{since-here, number-here}

module _ {P : Type 0} (rules : Rules) (old new : ManagedHeap P) (v w : PlainWorld P) (here : old.world ≡ Some v) (there : new.world ≡ Some w)
    (nursery : new.nursery ≡ old.nursery) (full : new.full ≡ old.full) where
  -- the world's entries are added to those of the heap
  pub calls-add : (more : List Entry) → AddMoreToWorld v more w → AddsHeapEntries rules old more new
  calls-add more adds es has =
      let since : IsSince rules old v has.now has.part = since-here rules old v es has here in record {
        world = w;
        here = there;
        now = has.now;
        part = has.part ++ more;
        since = record {
          setting = since.setting;
          rules_are = since.rules_are;
          workers = since.workers;
          blocks = since.blocks;
          sound = since.sound;
          run = since.run;
          nursery = nursery ∙ since.nursery;
          full = full ∙ since.full;
          number = since.number ∙ ap (λ (n : ℕ). n + old.full) (sym nursery) ∙ ap (λ (n : ℕ). new.nursery + n) (sym full);
          history = adds (epoch_of rules has.now.heap has.now.mutators) (ideal_at has.now) has.part since.history;
        };
        entries = ap (λ xs. xs ++ more) has.entries ∙ append_assoc has.now.done has.part more;
      }

  -- the heap is in use, with the world's mutators
  pub usable-with : (more : List Entry) → IsUsable rules old → IsOpen rules w → SamePlaces v w → AddsHeapEntries rules old more new → IsUsable rules new
  usable-with more usable is_open places adds =
      let both : Some usable.world ≡ Some v = sym usable.here ∙ here in
      let same : usable.world ≡ v = cc in
      let some : 1 ≤ places_of v = subst (λ (x : PlainWorld P). 1 ≤ places_of x) same usable.some in
      let few : places_of v ≤ 16 = subst (λ (x : PlainWorld P). places_of x ≤ 16) same usable.few in
      let count : places_of w ≡ places_of v = places.count in
      record { world = w; here = there; between_calls = is_open; some = omega arith; few = omega arith; entries = usable.entries ++ more; has = adds usable.entries usable.has }

  pub places-with : SamePlaces v w → mutators_of_heap new ≡ mutators_of_heap old
  places-with places = ap places_in there ∙ places.count ∙ sym (ap places_in here)

  -- the births, at the place of the call and at the others
  pub births-with : (m : ℕ) (e : Effect) → LeavesRest v m e w → heap_births_at new m ≡ heap_births_at old m + births_in e.entries
  births-with m e rest = ap (λ o. born_to o m) there ∙ rest.births ∙ ap (λ o. born_to o m + births_in e.entries) (sym here)

  pub others-with : (m : ℕ) (e : Effect) → LeavesRest v m e w → (k : ℕ) → k ≢ m → heap_births_at new k ≡ heap_births_at old k
  others-with m e rest k away = ap (λ o. born_to o k) there ∙ ap births_of (rest.others k away).0 ∙ ap (λ o. born_to o k) (sym here)

  pub births-stay : (m : ℕ) (e : Effect) → LeavesRest v m e w → births_in e.entries ≡ 0 → (k : ℕ) → heap_births_at new k ≡ heap_births_at old k
  births-stay m e rest none k = elim (cases_eq k m) as (λ _. heap_births_at new k ≡ heap_births_at old k) [
    | inl same ↦ subst (λ (j : ℕ). heap_births_at new j ≡ heap_births_at old j) (sym same) (let e1 = births-with m e rest in omega (arith, e1, none))
    | inr away ↦ others-with m e rest k away
  ]

  -- a call of the mutator at place m, which has the number m + 1
  module _ (m : ℕ) (command : Command) (reply : Reply) (place : m < places_of v) (adds : AddsToWorld v m command reply w) where
    pub call-adds : AddsHeapEntry rules old m command reply new
    call-adds es has = calls-add (entry (m + 1) command reply ∷ [])
        (subst (λ (k : ℕ). AddMoreToWorld v (entry k command reply ∷ []) w) (number-here rules old v m es has here place) adds) es has

    pub call-usable : IsUsable rules old → IsOpen rules w → SamePlaces v w → IsUsable rules new
    call-usable usable is_open places = usable-with (entry (m + 1) command reply ∷ []) usable is_open places call-adds

  pub goes-on : (more : List Entry) → AddMoreToWorld v more w → budget_word w ≡ budget_word v → GoesOn old new
  goes-on more adds budget x is =
      let both : Some x ≡ Some v = sym is ∙ here in
      let same : v ≡ x = cc in
      (w, there, more, subst (λ (y : PlainWorld P). AddMoreToWorld y more w) same adds, budget ∙ ap budget_word same)

  -- a call that allocates nothing, and draws no ticket
  pub call-rest : (m : ℕ) (command : Command) (reply : Reply) (e : Effect) → AddsToWorld v m command reply w → SamePlaces v w → LeavesRest v m e w
      → births_in e.entries ≡ 0 → e.drawn ≡ 0 → words_used new ≡ words_used old → StaysInEpoch old new
  call-rest m command reply e adds places rest none undrawn used = record {
    epoch = goes-on (entry (mutator_number_at v m) command reply ∷ []) adds (let moved : budget_word w ≡ budget_word v + e.drawn = rest.budget in omega (arith, moved, undrawn));
    places = places-with places;
    births = births-stay m e rest none;
    nursery = nursery;
    full = full;
    used = used;
  }

  pub call-entered : (m : ℕ) (command : Command) (reply : Reply) (e : Effect) → m < places_of v → IsUsable rules old → StaysOpen rules v w
      → AddsToWorld v m command reply w → LeavesRest v m e w → births_in e.entries ≡ 0 → e.drawn ≡ 0 → words_used new ≡ words_used old
      → EntersCall rules old m command reply new
  call-entered m command reply e place usable stays adds rest none undrawn used = record {
    usable = call-usable m command reply place adds usable stays.is_open stays.places;
    history = call-adds m command reply place adds;
    rest = call-rest m command reply e adds stays.places rest none undrawn used;
  }

  -- a call that adds no entry
  pub call-keeps : AddMoreToWorld v [] w → KeepsEntries rules old new
  call-keeps adds es has = subst (HasEntries rules new) (append-nil es) (calls-add [] adds es has)
