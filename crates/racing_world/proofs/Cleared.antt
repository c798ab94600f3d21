-- An unlog bit that was set as the epoch began, and is clear, was cleared by a mutator that logged the object.
use Rattle.std.proofs.Common.{◌≡◌, ℕ, ◌+◌, ◌/◌, ◌<◌, ◌≤◌, ◌^◌, ◌⊎◌, ◌&&◌, not, nat_lt, nat_le, nat_eq, eq-eqb, Bool, true, false, IsTrue, List, [], ◌∷◌, ◌++◌, refl, ap, sym, ◌∙◌, subst, inl, inr, ⊎_elim, arith}
use Rattle.std.specs.Prelude.{if◌then◌else◌}
use Rattle.std.specs.List.{Contains}
use Rattle.std.proofs.lemmas.Bool.{cases_eq, cases_Bool, and_parts, and_from, ltb-true, leb-true}
use Rattle.ideal_heap.specs.Ideal.{IdealHeap}
use Rattle.ideal_heap.specs.Runs.{Entry}
use Rattle.object_model.specs.Objects.{HeapState, IsHeld, is_start, is_unlogged, word_at}
use Rattle.object_model.specs.Ages.{is_old}
use Rattle.object_model.specs.Graphs.{MutatorState, numbers_of}
use Rattle.object_model.proofs.BitWords as bits
use Rattle.object_model.proofs.Marks as marks
use Rattle.sessions.specs.Collecting.{is_logged_under}
use Rattle.sessions.specs.Sessions.{Stopped, IsBirth}
use Rattle.mutator_core.specs.declared.state.Event.{Event}
use Rattle.mutator_core.specs.declared.state.Event.TheVariants as e
use Rattle.mutator_core.specs.declared.state.LogEntry.{LogEntry}
use Rattle.mutator_core.specs.Machine.{Epoch, Machine, heap_in, address_in, first_machine, next}
use Rattle.mutator_core.specs.Guards.{MayStep}
use Rattle.mutator_core.specs.Histories.{after, IsLog}
use Rattle.mutator_core.specs.Epochs.{EpochMayBegin}
use Rattle.mutator_core.specs.Logs.{IsEpochLog, heap_after}
use Rattle.mutator_core.proofs.Lists.{contains-cases, contains-here, contains-there, contains-none}
use Rattle.mutator_core.proofs.Law.{Goes, goes}
use Rattle.mutator_core.proofs.Moments.{Holds}
use Rattle.mutator_core.proofs.Beginnings.{log-ends}
use Rattle.mutator_core.proofs.Quiet.{in-register}
use Rattle.mutator_core.proofs.Spots.{spot, clears_unlog}
use Rattle.racing_mutator.specs.Logged.{logged_by, logged_in}

-- an event clears an unlog bit or none
is-clear : (x : Event) → (clears_unlog x ≡ false) ⊎ ((q : ℕ) × (x ≡ e.ClearUnlog q))
is-clear (e.Perform command) = inl refl
is-clear (e.Miss command) = inl refl
is-clear e.Poll = inl refl
is-clear (e.LoadName s) = inl refl
is-clear (e.LoadShape s) = inl refl
is-clear (e.LoadCollector s) = inl refl
is-clear (e.LoadShapeAt a) = inl refl
is-clear (e.LoadBlock k) = inl refl
is-clear (e.LoadSide k) = inl refl
is-clear (e.LoadUnlog s) = inl refl
is-clear e.Raise = inl refl
is-clear (e.ClearUnlog s) = inr (s, refl)
is-clear (e.Initialize a refs nums k) = inl refl
is-clear e.DrawTicket = inl refl
is-clear (e.TakeBlock k class free) = inl refl

-- the event that clears an object's bit logs the object
one-clears : (p : Epoch) (ready : EpochMayBegin p) (h : Machine) (i : IdealHeap) (set : ℕ → Type 0) (now : Holds p h i set) (m : ℕ) (known : Contains (numbers_of p.mutators) m) (x : Event) (may : MayStep p (h.locals m) x)
    (a : ℕ) → is_unlogged (heap_in p h) a ≡ true → is_unlogged (heap_in p (next p h m x)) a ≡ false → Contains (logged_by (h.locals m) x) a
one-clears p ready h i set now m known x may a was gone = ⊎_elim
    (λ (other : clears_unlog x ≡ false). absurd (let same = (spot p ready h i set now m known x may).unlogs other a in let wrong : true ≡ false = sym was ∙ sym same ∙ gone in cc))
    (λ (is : (q : ℕ) × (x ≡ e.ClearUnlog q)). subst (λ (y : Event). Contains (logged_by (h.locals m) y) a) (sym is.1)
    (clears is.0 (subst (MayStep p (h.locals m)) is.1 may) (subst (λ (y : Event). is_unlogged (heap_in p (next p h m y)) a ≡ false) is.1 gone)))
    (is-clear x)
  where
    clears : (q : ℕ) → MayStep p (h.locals m) (e.ClearUnlog q) → is_unlogged (heap_in p (next p h m (e.ClearUnlog q))) a ≡ false → Contains (address_in (h.locals m) q ∷ []) a
    clears q can cleared = elim (cases_eq a (address_in (h.locals m) q)) as (λ _. Contains (address_in (h.locals m) q ∷ []) a) [
      | inl here ↦ subst (λ b. Contains (b ∷ []) a) here (contains-here a [])
      | inr other ↦ absurd (let same = (bits.clears-unlog (heap_in p h) now.models.order (address_in (h.locals m) q) (in-register p ready h i set now m known q can.0).address).others a other in
          let wrong : true ≡ false = sym was ∙ sym same ∙ cleared in cc)
    ]

contains-right : (xs ys : List ℕ) (a : ℕ) → Contains ys a → Contains (xs ++ ys) a
contains-right [] ys a there = there
contains-right (x ∷ xs) ys a there = contains-there x (xs ++ ys) a (contains-right xs ys a there)

contains-left : (xs ys : List ℕ) (a : ℕ) → Contains xs a → Contains (xs ++ ys) a
contains-left [] ys a there = absurd (contains-none a there)
contains-left (x ∷ xs) ys a there = ⊎_elim
    (λ (here : a ≡ x). subst (λ b. Contains (x ∷ (xs ++ ys)) b) (sym here) (contains-here x (xs ++ ys)))
    (λ (rest : Contains xs a). contains-there x (xs ++ ys) a (contains-left xs ys a rest))
    (contains-cases x xs a there)

log-clears : (p : Epoch) → EpochMayBegin p → (log : List LogEntry) (h : Machine) (i : IdealHeap) (set : ℕ → Type 0) → Holds p h i set → IsLog p h log
    → (a : ℕ) → is_unlogged (heap_in p h) a ≡ true → is_unlogged (heap_in p (after p h log)) a ≡ false → (m : ℕ) × Contains (numbers_of p.mutators) m × Contains (logged_in p h m log) a
log-clears p ready [] h i set now is a was clear = absurd (let wrong : true ≡ false = sym was ∙ clear in cc)
log-clears p ready (x ∷ xs) h i set now is a was clear =
    let step : Goes p h i x.mutator x.event = goes p ready h i set now x.mutator is.0 x.event is.1 in
    elim (cases_Bool (is_unlogged (heap_in p (next p h x.mutator x.event)) a)) as (λ _. (m : ℕ) × Contains (numbers_of p.mutators) m × Contains (logged_in p h m (x ∷ xs)) a) [
      | inl still ↦ (let rest = log-clears p ready xs (next p h x.mutator x.event) _ step.set step.moment is.3 a still clear in
          (rest.0, rest.1, contains-right (if nat_eq x.mutator rest.0 then logged_by (h.locals rest.0) x.event else []) _ a rest.2))
      | inr gone ↦ (
        x.mutator,
        is.0,
        contains-left (if nat_eq x.mutator x.mutator then logged_by (h.locals x.mutator) x.event else []) _ a
            (subst (λ (b : Bool). Contains (if b then logged_by (h.locals x.mutator) x.event else []) a) (sym (eq-eqb x.mutator x.mutator refl)) (one-clears p ready h i set now x.mutator is.0 x.event is.1 a was gone)),
      )
    ]

-- an object that is logged at the end of an epoch was so as it began, or a mutator logged it
pub log-logged : (p : Epoch) (i : IdealHeap) (log : List LogEntry) (part : List Entry) (ms : List MutatorState) → IsEpochLog p i log
    → (new : HeapState) → new.base ≡ p.before.base → ((a : ℕ) → is_unlogged new a ≡ is_unlogged (heap_after p log) a) → Stopped p.rules (numbers_of p.mutators) p.before i part new ms
    → (a : ℕ) → IsTrue (is_logged_under p.rules new a) → IsTrue (is_logged_under p.rules p.before a) ⊎ ((m : ℕ) × Contains (numbers_of p.mutators) m × Contains (logged_in p (first_machine p) m log) a)
log-logged p i log part ms is s based unlogs stopped a logged =
    let parts = and_parts p.rules.young (is_start s a && is_old s a && not (is_unlogged s a)) logged in
    let more = and_parts (is_start s a && is_old s a) (not (is_unlogged s a)) parts.1 in
    let most = and_parts (is_start s a) (is_old s a) more.0 in
    let holds : IsHeld s a = marks.held s a most.0 in
    let there : IsHeld p.before a = there-before a holds most.1 in
    let age : is_old s a ≡ is_old p.before a = base-old a ∙ ap (λ v. nat_lt 0 p.before.base && nat_le p.before.base (v / 2 ^ 24)) ((stopped.stays a there).1 2 (omega arith)) in
    let begins = log-ends p i [] is.ready is.represents tt in
    elim (cases_Bool (is_unlogged p.before a)) as (λ _. IsTrue (is_logged_under p.rules p.before a) ⊎ ((m : ℕ) × Contains (numbers_of p.mutators) m × Contains (logged_in p (first_machine p) m log) a)) [
      | inr before ↦ inl (and_from p.rules.young (is_start p.before a && is_old p.before a && not (is_unlogged p.before a)) parts.0
          (and_from (is_start p.before a && is_old p.before a) (not (is_unlogged p.before a)) (and_from (is_start p.before a) (is_old p.before a) there.start (sym age ∙ most.1)) (ap not before)))
      | inl was ↦ inr (log-clears p is.ready log (first_machine p) _ begins.set begins.moment is.steps a was (sym (unlogs a) ∙ not-true (is_unlogged s a) more.1))
    ]
  where
    not-true : (b : Bool) → not b ≡ true → b ≡ false
    not-true true is = let wrong : false ≡ true = is in cc
    not-true false is = refl

    base-old : (a : ℕ) → is_old s a ≡ (nat_lt 0 p.before.base && nat_le p.before.base (word_at s (a + 2) / 2 ^ 24))
    base-old a = ap (λ (b : ℕ). nat_lt 0 b && nat_le b (word_at s (a + 2) / 2 ^ 24)) based

    there-before : (a : ℕ) → IsHeld s a → IsTrue (is_old s a) → IsHeld p.before a
    there-before a holds aged = ⊎_elim
        (λ (there : IsHeld p.before a). there)
        (λ (birth : IsBirth p.rules p.before part s a). absurd (
        let both = and_parts (nat_lt 0 p.before.base) (nat_le p.before.base (word_at s (a + 2) / 2 ^ 24)) (sym (base-old a) ∙ aged) in
        let some : 0 < p.before.base = ltb-true 0 p.before.base both.0 in
        let least : p.before.base ≤ word_at s (a + 2) / 2 ^ 24 = leb-true p.before.base (word_at s (a + 2) / 2 ^ 24) both.1 in
        let blank : word_at s (a + 2) ≡ 0 = birth.unclaimed in
        omega arith))
        (stopped.births a holds)
