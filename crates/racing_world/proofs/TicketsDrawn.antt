-- The tickets that mutators drew are below the budget word.
use Rattle.std.proofs.Common.{◌≡◌, refl, sym, ◌∙◌, ap, subst, ℕ, ◌<◌, ◌≤◌, arith, false, List, [], ◌∷◌, ◌++◌, slice_index, nat_eq, eq-eqb}
use Rattle.std.specs.List.{Contains}
use Rattle.std.proofs.lemmas.Bool.{cond-true}
use Rattle.std.proofs.lemmas.List.{append_assoc}
use mathlib.Core.List.{IsPrefix}
use Rattle.ideal_heap.specs.Ideal.{IdealHeap}
use Rattle.object_model.specs.Objects.{word_at}
use Rattle.object_model.specs.Graphs.{AreDifferent, numbers_of}
use Rattle.mutator_core.specs.declared.state.Event.{Event}
use Rattle.mutator_core.specs.declared.state.Event.TheVariants as e
use Rattle.mutator_core.specs.declared.state.Local.{Local}
use Rattle.mutator_core.specs.declared.state.LogEntry.{LogEntry}
use Rattle.mutator_core.specs.Machine.{Epoch, Machine, heap_in, first_machine, next, found, local_after}
use Rattle.mutator_core.specs.Epochs.{EpochMayBegin}
use Rattle.mutator_core.specs.Guards.{MayStep}
use Rattle.mutator_core.specs.Histories.{after, IsLog}
use Rattle.mutator_core.specs.Logs.{IsEpochLog, machine_after, heap_after}
use Rattle.mutator_core.specs.Tickets.{TicketsAreCounted}
use Rattle.mutator_core.proofs.Beginnings.{log-ends}
use Rattle.mutator_core.proofs.Counted.{counted-next}
use Rattle.mutator_core.proofs.EpochEnds.{log-counted}
use Rattle.mutator_core.proofs.Law.{Goes, goes}
use Rattle.mutator_core.proofs.Moments.{Holds}
use Rattle.mutator_core.proofs.Regions.{after-append, log-front, log-rest}
use Rattle.mutator_core.proofs.Spots.{spot, draws_ticket}

module _ (p : Epoch) (ready : EpochMayBegin p) (differ : AreDifferent (numbers_of p.mutators)) (h : Machine) (i : IdealHeap) (set : ℕ → Type 0) (now : Holds p h i set) (m : ℕ) (known : Contains (numbers_of p.mutators) m)
    (counted : TicketsAreCounted p (heap_in p h) h.locals) where
  own-state : (x : Event) → (next p h m x).locals m ≡ local_after p (h.locals m) x (found p h m x)
  own-state x = cond-true (nat_eq m m) (local_after p (h.locals m) x (found p h m x)) (h.locals m) (eq-eqb m m refl)

  -- a ticket is the budget word, which rises
  pub ticket-raises : MayStep p (h.locals m) e.DrawTicket → slice_index h.words 1 < slice_index (next p h m e.DrawTicket).words 1
  ticket-raises may = (counted-next p ready differ h i set now m known counted e.DrawTicket may).drawn m (slice_index h.words 1) (ap (λ (l : Local). l.ticket) (own-state e.DrawTicket))

  same-budget : (x : Event) → MayStep p (h.locals m) x → draws_ticket x ≡ false → slice_index h.words 1 ≤ slice_index (next p h m x).words 1
  same-budget x may not = let same = (spot p ready h i set now m known x may).tickets not in omega (arith, same)

  budget-stays : (x : Event) → MayStep p (h.locals m) x → slice_index h.words 1 ≤ slice_index (next p h m x).words 1
  budget-stays (e.Perform command) may = same-budget (e.Perform command) may refl
  budget-stays (e.Miss command) may = same-budget (e.Miss command) may refl
  budget-stays e.Poll may = same-budget e.Poll may refl
  budget-stays (e.LoadName s) may = same-budget (e.LoadName s) may refl
  budget-stays (e.LoadShape s) may = same-budget (e.LoadShape s) may refl
  budget-stays (e.LoadCollector s) may = same-budget (e.LoadCollector s) may refl
  budget-stays (e.LoadShapeAt a) may = same-budget (e.LoadShapeAt a) may refl
  budget-stays (e.LoadBlock k) may = same-budget (e.LoadBlock k) may refl
  budget-stays (e.LoadSide k) may = same-budget (e.LoadSide k) may refl
  budget-stays (e.LoadUnlog s) may = same-budget (e.LoadUnlog s) may refl
  budget-stays e.Raise may = same-budget e.Raise may refl
  budget-stays (e.ClearUnlog s) may = same-budget (e.ClearUnlog s) may refl
  budget-stays (e.Initialize a refs nums k) may = same-budget (e.Initialize a refs nums k) may refl
  budget-stays e.DrawTicket may = let more = ticket-raises may in omega (arith, more)
  budget-stays (e.TakeBlock k class free) may = same-budget (e.TakeBlock k class free) may refl

-- the budget word only rises
budget-grows : (p : Epoch) → EpochMayBegin p → AreDifferent (numbers_of p.mutators) → (log : List LogEntry) (h : Machine) (i : IdealHeap) (set : ℕ → Type 0) → Holds p h i set
    → TicketsAreCounted p (heap_in p h) h.locals → IsLog p h log → slice_index h.words 1 ≤ slice_index (after p h log).words 1
budget-grows p ready differ [] h i set now counted is = omega arith
budget-grows p ready differ (x ∷ xs) h i set now counted is =
    let step : Goes p h i x.mutator x.event = goes p ready h i set now x.mutator is.0 x.event is.1 in
    let here = budget-stays p ready differ h i set now x.mutator is.0 counted x.event is.1 in
    let later = budget-grows p ready differ xs (next p h x.mutator x.event) _ step.set step.moment (counted-next p ready differ h i set now x.mutator is.0 counted x.event is.1) is.3 in
    omega (arith, here, later)

-- a ticket that a step drew is below the budget word after later steps
drawn-before : (p : Epoch) (i : IdealHeap) (before rest : List LogEntry) (step : LogEntry) → IsEpochLog p i (before ++ step ∷ rest) → step.event ≡ e.DrawTicket
    → word_at (heap_after p before) 1 < word_at (heap_after p (before ++ step ∷ rest)) 1
drawn-before p i before rest step is draws =
    let differ = is.represents.mutators.differ in
    let h : Machine = machine_after p before in
    let m : ℕ = step.mutator in
    let front : IsLog p (first_machine p) before = log-front p (first_machine p) before (step ∷ rest) is.steps in
    let back : IsLog p h (step ∷ rest) = log-rest p (first_machine p) before (step ∷ rest) is.steps in
    let end = log-ends p i before is.ready is.represents front in
    let counted : TicketsAreCounted p (heap_in p h) h.locals = log-counted p i before (record { ready = is.ready; represents = is.represents; steps = front }) in
    let go : Goes p h _ m step.event = goes p is.ready h _ end.set end.moment m back.0 step.event back.1 in
    let less : slice_index h.words 1 < slice_index (next p h m step.event).words 1 =
    subst (λ (x : Event). MayStep p (h.locals m) x → slice_index h.words 1 < slice_index (next p h m x).words 1) (sym draws)
    (ticket-raises p is.ready differ h _ end.set end.moment m back.0 counted) back.1 in
    let more = budget-grows p is.ready differ rest (next p h m step.event) _ go.set go.moment (counted-next p is.ready differ h _ end.set end.moment m back.0 counted step.event back.1) back.3 in
    subst (λ (k : Machine). slice_index h.words 1 < slice_index k.words 1) (sym (after-append p (first_machine p) before (step ∷ rest)))
    (let whole : slice_index h.words 1 < slice_index (after p h (step ∷ rest)).words 1 = omega (arith, less, more) in whole)

pub drawn-below : (p : Epoch) (i : IdealHeap) (log seen before : List LogEntry) (step : LogEntry) → IsEpochLog p i log → IsPrefix seen log → IsPrefix (before ++ step ∷ []) seen → step.event ≡ e.DrawTicket
    → word_at (heap_after p before) 1 < word_at (heap_after p log) 1
drawn-below p i log seen before step is prefix has draws =
    let rest : List LogEntry = has.0 ++ prefix.0 in
    let whole : before ++ step ∷ rest ≡ log =
    sym (append_assoc before (step ∷ []) rest) ∙ sym (append_assoc (before ++ step ∷ []) has.0 prefix.0) ∙ ap (λ (xs : List LogEntry). xs ++ prefix.0) has.1 ∙ prefix.1 in
    subst (λ (xs : List LogEntry). word_at (heap_after p before) 1 < word_at (heap_after p xs) 1) whole
    (drawn-before p i before rest step (subst (λ (xs : List LogEntry). IsEpochLog p i xs) (sym whole) is) draws)
