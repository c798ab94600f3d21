-- The machine as an epoch begins, and after a log.
use Rattle.std.proofs.Common.{◌≡◌, ◌≢◌, refl, sym, ◌∙◌, ap, subst, ℕ, suc, ◌⊎◌, inl, inr, arith, List, [], ◌∷◌, map, nat_eq, eq-eqb, true, false}
use Rattle.std.specs.Prelude.{if◌then◌else◌}
use Rattle.std.specs.List.{Contains, AllByRecursion}
use Rattle.std.proofs.lemmas.Bool.{cases_eq, cond-true, cond-false, ne_eqb}
use Rattle.std.proofs.lemmas.List.{get_or_default}
use Rattle.ideal_heap.specs.Ideal.{IdealHeap}
use Rattle.ideal_heap.specs.Runs as runs
use Rattle.ideal_heap.proofs.RunLemmas.{longer, after-append}
use Rattle.object_model.specs.Graphs.{MutatorState, AreDifferent, numbers_of, roots_of, IsReachable, Represents}
use Rattle.object_model.specs.Agreement.{RepresentsOn}
use Rattle.object_model.proofs.Among.{all-from}
use Rattle.object_model.proofs.Representation as standing
use Rattle.mutator_core.specs.declared.state.Local.{Local}
use Rattle.mutator_core.specs.declared.state.LogEntry.{LogEntry}
use Rattle.mutator_core.specs.declared.state.Answer.{Answer}
use Rattle.mutator_core.specs.Machine.{Epoch, Machine, heap_in, mutator_of, next, found, local_after, answer_at, first_local, first_local_of, first_machine}
use Rattle.mutator_core.specs.Histories.{after, IsLog, history, reply_in, entry_of, entries_of, entries_with}
use Rattle.mutator_core.specs.Epochs.{EpochMayBegin, IsInEpoch, KnowsItsState}
use Rattle.mutator_core.proofs.Lists.{contains-none, first-number}
use Rattle.mutator_core.proofs.Law.{Goes, goes}
use Rattle.mutator_core.proofs.Moments.{Holds}

-- a property of each mutator's first state is one of all states
pub first-states : (P : Local → Type 0) → ((m : MutatorState) → P (first_local m)) → (ms : List MutatorState) (k : ℕ) → P (first_local_of ms k)
first-states P each [] k = each (record { number = k; births = 0; registers = [] })
first-states P each (m ∷ ms) k = elim (nat_eq k m.number) as (λ b. P (if b then first_local m else first_local_of ms k)) [ true ↦ each m | false ↦ first-states P each ms k ]

-- the first number is none of the others, and those are different
pub differ-head : (n : ℕ) (ns : List ℕ) → AreDifferent (n ∷ ns) → AllByRecursion (λ k. k ≢ n) ns
differ-head n ns differ = all-from (λ k. k ≢ n) ns (λ j x within is same.
    let e : suc j ≡ 0 = differ (suc j) 0 (omega arith) (omega arith) (get_or_default ns j 0 x within ∙ is ∙ same) in omega arith)

pub differ-tail : (n : ℕ) (ns : List ℕ) → AreDifferent (n ∷ ns) → AreDifferent ns
differ-tail n ns differ i j a b e = let same : suc i ≡ suc j = differ (suc i) (suc j) (omega arith) (omega arith) e in omega arith

map-where : {X Y : Type 0} (f g : X → Y) (P : X → Type 0) → ((x : X) → P x → f x ≡ g x) → (xs : List X) → AllByRecursion P xs → map f xs ≡ map g xs
map-where f g P same [] all = refl
map-where f g P same (x ∷ xs) all = ap (λ y. y ∷ map f xs) (same x all.0) ∙ ap (λ ys. g x ∷ ys) (map-where f g P same xs all.1)

-- the machine begins with the mutators of the epoch
pub first-mutators : (ms : List MutatorState) → AreDifferent (numbers_of ms) → map (λ k. mutator_of (first_local_of ms k)) (numbers_of ms) ≡ ms
first-mutators [] differ = refl
first-mutators (m ∷ ms) differ =
    ap (λ l. mutator_of l ∷ map (λ k. mutator_of (first_local_of (m ∷ ms) k)) (numbers_of ms)) (cond-true (nat_eq m.number m.number) (first_local m) (first_local_of ms m.number) (eq-eqb m.number m.number refl))
    ∙ ap (λ xs. m ∷ xs) (map-where (λ k. mutator_of (first_local_of (m ∷ ms) k)) (λ k. mutator_of (first_local_of ms k)) (λ k. k ≢ m.number)
    (λ k other. ap mutator_of (cond-false (nat_eq k m.number) (first_local m) (first_local_of ms k) (ne_eqb k m.number other))) (numbers_of ms) (differ-head m.number (numbers_of ms) differ)
    ∙ first-mutators ms (differ-tail m.number (numbers_of ms) differ))

module _ (p : Epoch) (ready : EpochMayBegin p) (i : IdealHeap) (stood : Represents p.before p.mutators i) where
  first-epoch : IsInEpoch p p.before (first_local_of p.mutators)
  first-epoch = record {
    numbers = first-number p.mutators;
    knows = first-states (KnowsItsState p p.before) (λ m. record {
      owned = λ o there. absurd (contains-none o there);
      objects = λ x there. absurd (contains-none x there);
      regions = λ x there. absurd (contains-none x there);
      unpublished = λ some. absurd (omega arith);
      header = λ some. absurd (omega arith);
      age = λ some. absurd (omega arith);
      cleared = λ some. absurd (omega arith);
    }) p.mutators;
    stays = λ a holds. (holds, λ j few. refl);
    births = λ a holds. inl holds;
    free = ready.lawful.but_lines.free;
    blocks = λ k there. inl refl;
    lines = λ k line there few. refl;
    unlogs = λ a is. is;
    remembers = ready.remembers;
    members = λ k o there. absurd (first-states (λ l. Contains l.owned o → ⊥) (λ m. contains-none o) p.mutators k there);
  }

  pub first-holds : Holds p (first_machine p) i (IsReachable p.before (roots_of p.mutators))
  first-holds = record {
    models = subst (λ (ms : List MutatorState). RepresentsOn p.before ms i (IsReachable p.before (roots_of p.mutators))) (sym (first-mutators p.mutators stood.mutators.differ))
        (standing.models p.before p.mutators i ready.lawful.but_lines.order stood);
    epoch = first-epoch;
  }

-- the entries of a log are a run of the ideal heap, and the invariants hold after it
pub record Ends (p : Epoch) (h : Machine) (i : IdealHeap) (log : List LogEntry) : Type 1 where
  pub set : ℕ → Type 0
  pub run : runs.IsRun i (history p h log)
  pub moment : Holds p (after p h log) (runs.heap_after_run i (history p h log)) set

pub ends : (p : Epoch) → EpochMayBegin p → (log : List LogEntry) (h : Machine) (i : IdealHeap) (set : ℕ → Type 0) → Holds p h i set → IsLog p h log → Ends p h i log
ends p ready [] h i set now is = record { set = set; run = tt; moment = now }
ends p ready (x ∷ xs) h i set now is =
    let step : Goes p h i x.mutator x.event = goes p ready h i set now x.mutator is.0 x.event is.1 in
    let same : entries_with x.mutator (entry_of x.event) (reply_in (heap_in p h) (answer_at p h x.mutator x.event)) ≡ entries_of (heap_in p h) x =
    ap (λ (y : Answer). entries_with x.mutator (entry_of x.event) (reply_in (heap_in p h) y)) (sym is.2) in
    let run : runs.IsRun i (entries_of (heap_in p h) x) = subst (runs.IsRun i) same step.run in
    let moment : Holds p (next p h x.mutator x.event) (runs.heap_after_run i (entries_of (heap_in p h) x)) step.set =
    subst (λ es. Holds p (next p h x.mutator x.event) (runs.heap_after_run i es) step.set) same step.moment in
    let rest : Ends p (next p h x.mutator x.event) (runs.heap_after_run i (entries_of (heap_in p h) x)) xs =
    ends p ready xs (next p h x.mutator x.event) (runs.heap_after_run i (entries_of (heap_in p h) x)) step.set moment is.3 in
    record {
      set = rest.set;
      run = longer i (entries_of (heap_in p h) x) (history p (next p h x.mutator x.event) xs) run rest.run;
      moment = subst (λ k. Holds p (after p (next p h x.mutator x.event) xs) k rest.set) (sym (after-append i (entries_of (heap_in p h) x) (history p (next p h x.mutator x.event) xs))) rest.moment;
    }

-- from the beginning of an epoch
pub log-ends : (p : Epoch) (i : IdealHeap) (log : List LogEntry) → EpochMayBegin p → Represents p.before p.mutators i → IsLog p (first_machine p) log → Ends p (first_machine p) i log
log-ends p i log ready standing is = ends p ready log (first_machine p) i (IsReachable p.before (roots_of p.mutators)) (first-holds p ready i standing) is

-- a number that no mutator has keeps its first state
pub stranger : (p : Epoch) (log : List LogEntry) (h : Machine) → IsLog p h log → (m : ℕ) → Contains (numbers_of p.mutators) m ⊎ ((after p h log).locals m ≡ h.locals m)
stranger p [] h is m = inr refl
stranger p (x ∷ xs) h is m = elim (stranger p xs (next p h x.mutator x.event) is.3 m) as (λ _. Contains (numbers_of p.mutators) m ⊎ ((after p h (x ∷ xs)).locals m ≡ h.locals m)) [
  | inl known ↦ inl known
  | inr same ↦ elim (cases_eq m x.mutator) as (λ _. Contains (numbers_of p.mutators) m ⊎ ((after p h (x ∷ xs)).locals m ≡ h.locals m)) [
    | inl e ↦ inl (subst (Contains (numbers_of p.mutators)) (sym e) is.0)
    | inr other ↦ inr (same ∙ cond-false (nat_eq m x.mutator) (local_after p (h.locals x.mutator) x.event (found p h x.mutator x.event)) (h.locals m) (ne_eqb m x.mutator other))
  ]
]

-- so it has no unlog bit to store after
pub stranger-stored : (p : Epoch) (log : List LogEntry) → IsLog p (first_machine p) log → (m : ℕ) → Contains (numbers_of p.mutators) m ⊎ (((after p (first_machine p) log).locals m).pending ≡ 0)
stranger-stored p log is m = elim (stranger p log (first_machine p) is m) as (λ _. Contains (numbers_of p.mutators) m ⊎ (((after p (first_machine p) log).locals m).pending ≡ 0)) [
  | inl known ↦ inl known
  | inr same ↦ inr (ap (λ l. l.pending) same ∙ first-states (λ l. l.pending ≡ 0) (λ k. refl) p.mutators m)
]
