-- What a load leaves of the ages of objects, of unlog bits and of names.
use Rattle.std.proofs.Common.{◌≡◌, ◌≢◌, ℕ, ◌+◌, ◌<◌, List, [], ◌∷◌, ◌++◌, IsTrue, refl, ap, sym, ◌∙◌, subst, append_assoc, arith}
use Rattle.std.specs.Prelude.{slice_index, Option, None}
use Rattle.forward_word.specs.CollectorWords.{is_old_word}
use Rattle.ideal_heap.specs.Ideal.{IdealHeap}
use Rattle.ideal_heap.specs.declared.command.Command.{Command}
use Rattle.object_model.specs.Objects.{HeapState, word_at, is_unlogged, IsHeld}
use Rattle.object_model.specs.Ages.{is_old}
use Rattle.sessions.specs.Plans.{Rules}
use Rattle.mutator_core.specs.declared.state.Event.{Event}
use Rattle.mutator_core.specs.declared.state.Event.TheVariants as e
use Rattle.mutator_core.specs.declared.state.LogEntry.{LogEntry}
use Rattle.mutator_core.specs.declared.state.Local.{Local}
use Rattle.mutator_core.specs.Machine.{Epoch, Machine, heap_in, first_machine, next, address_in, local_after}
use Rattle.mutator_core.specs.Histories.{after, IsLog, entry_of, entries_with}
use Rattle.mutator_core.specs.Epochs.{EpochMayBegin}
use Rattle.mutator_core.specs.Logs.{IsEpochLog, machine_after, heap_after, local_after_log}
use Rattle.mutator_core.proofs.Law.{Goes, goes}
use Rattle.mutator_core.proofs.Moments.{Holds}
use Rattle.mutator_core.proofs.Beginnings.{log-ends}
use Rattle.mutator_core.proofs.Regions.{after-append, log-front, log-rest, stays-later}
use Rattle.mutator_core.proofs.EpochEnds.{log-seen}
use Rattle.mutator_rule.specs.declared.views.MutatorView.{MutatorView}
use Rattle.mutator_rule.specs.Views.{epoch_with}
use Rattle.mutator_rule.specs.Logs.{MakesStep, KnowsLog, entry_for}
use Rattle.mutator_rule.proofs.Moments.{register-held}
use Rattle.racing_mutator.specs.declared.racing.Racing.{Racing}
use Rattle.racing_mutator.specs.Logged.{logged_by}
use Rattle.racing_mutator.specs.RacingSeats.{view, local, holdings, address, epoch_of_racing, heap_seen, IsAged, IsMarked, OnlyLoads, Makes}
use Rattle.racing_mutator.proofs.Entered.{step-makes, reply, kept, logged-same, rooms-same}

-- unlog bits are only cleared
log-unlogs : (p : Epoch) → EpochMayBegin p → (log : List LogEntry) (h : Machine) (i : IdealHeap) (set : ℕ → Type 0) → Holds p h i set → IsLog p h log
    → (a : ℕ) → IsTrue (is_unlogged (heap_in p (after p h log)) a) → IsTrue (is_unlogged (heap_in p h) a)
log-unlogs p ready [] h i set now is a marked = marked
log-unlogs p ready (x ∷ xs) h i set now is a marked =
    let step : Goes p h i x.mutator x.event = goes p ready h i set now x.mutator is.0 x.event is.1 in
    step.leaves.unlogs a (log-unlogs p ready xs (next p h x.mutator x.event) _ step.set step.moment is.3 a marked)

unlogs-before : (p : Epoch) (i : IdealHeap) (log more : List LogEntry) → IsEpochLog p i (log ++ more) → (a : ℕ) → IsTrue (is_unlogged (heap_after p (log ++ more)) a) → IsTrue (is_unlogged (heap_after p log) a)
unlogs-before p i log more is a marked =
    let end = log-ends p i log is.ready is.represents (log-front p (first_machine p) log more is.steps) in
    log-unlogs p is.ready more (machine_after p log) _ end.set end.moment (log-rest p (first_machine p) log more is.steps) a
    (subst (λ (h : Machine). IsTrue (is_unlogged (heap_in p h) a)) (after-append p (first_machine p) log more) marked)

-- what a step of the seat, after which it knows `v`, finds
module _ {P : Type 0} (rules : Rules) (a : Racing P) (v : MutatorView) (x : Event) (n : ℕ) (st : MakesStep rules (view a) x n v) (told : KnowsLog (epoch_of_racing rules a) (view a)) where
  abbrev p : Epoch
  p = epoch_of_racing rules a

  abbrev more : List LogEntry
  more = st.between ++ entry_for p (view a) x n ∷ []

  seen : v.seen ≡ (view a).seen ++ more
  seen = st.seen ∙ append_assoc (view a).seen st.between (entry_for p (view a) x n ∷ [])

  later : IsEpochLog p st.told.ideal ((view a).seen ++ more)
  later = subst (IsEpochLog p st.told.ideal) seen st.told.epoch

  heap-same : heap_after (epoch_with rules v.start) v.seen ≡ heap_after p ((view a).seen ++ more)
  heap-same = λ k. heap_after (epoch_with rules (st.start k)) (seen k)

  -- the log before this step
  pub just-before : IsEpochLog p st.told.ideal ((view a).seen ++ st.between)
  just-before = record {
    ready = st.told.epoch.ready;
    represents = st.told.epoch.represents;
    steps = log-front p (first_machine p) ((view a).seen ++ st.between) (entry_for p (view a) x n ∷ []) (subst (IsLog p (first_machine p)) st.seen st.told.epoch.steps);
  }

  -- the object of a register is held, in the heap that the seat saw
  pub held-before : (s : ℕ) → s < 16 → address a s ≢ 0 → IsHeld (heap_after p (view a).seen) (address a s)
  held-before s few some =
      let reg : address_in (local a) s ≡ address a s = ap (λ (rs : List ℕ). slice_index rs s) a.seat.now.held in
      let loc : address_in (local_after_log p (view a).seen (local a).number) s ≡ address a s = ap (λ (l : Local). address_in l s) (sym told.now) ∙ reg in
      subst (IsHeld (heap_after p (view a).seen)) loc (register-held p told.ideal (view a).seen told.epoch (local a).number s told.known few (λ nil. some (sym loc ∙ nil)))

  -- a header word of a register's object, and an unlog bit, as the step found them
  pub header-found : (s i : ℕ) → s < 16 → address a s ≢ 0 → i < 3 → word_at (heap_after p ((view a).seen ++ st.between)) (address a s + i) ≡ word_at (heap_after p (view a).seen) (address a s + i)
  header-found s i few some low = (stays-later p st.told.ideal (view a).seen st.between just-before (address a s) (held-before s few some)).1 i low

  pub unlog-found : (o : ℕ) → IsTrue (is_unlogged (heap_after p ((view a).seen ++ st.between)) o) → IsTrue (is_unlogged (heap_after p (view a).seen) o)
  unlog-found o marked = unlogs-before p st.told.ideal (view a).seen st.between just-before o marked

module _ {P : Type 0} (rules : Rules) (a b : Racing P) (x : Event) (n : ℕ) (st : MakesStep rules (view a) x n (view b)) (told : KnowsLog (epoch_of_racing rules a) (view a)) (same : b.seat.now.registers ≡ a.seat.now.registers) where
  abbrev log : List LogEntry
  log = (view a).seen ++ more rules a (view b) x n st told

  there : (s : ℕ) → address b s ≡ address a s
  there s = ap (λ (rs : List ℕ). slice_index rs s) same

  step-ages : (s : ℕ) → IsAged rules b s → IsAged rules a s
  step-ages s is =
      let few : s < 16 = is.0 in
      let some : address a s ≢ 0 = λ nil. is.1 (there s ∙ nil) in
      let header = (stays-later (epoch_of_racing rules a) st.told.ideal (view a).seen (more rules a (view b) x n st told) (later rules a (view b) x n st told) (address a s) (held-before rules a (view b) x n st told s few some)).1 2 (omega arith) in
      (few, some, sym (aged header) ∙ ap (λ (h : HeapState). is_old h (address a s)) (sym (heap-same rules a (view b) x n st told)) ∙ ap (is_old (heap_seen rules b)) (sym (there s)) ∙ is.2)
    where
      aged : word_at (heap_after (epoch_of_racing rules a) log) (address a s + 2) ≡ word_at (heap_after (epoch_of_racing rules a) (view a).seen) (address a s + 2)
          → is_old (heap_after (epoch_of_racing rules a) log) (address a s) ≡ is_old (heap_after (epoch_of_racing rules a) (view a).seen) (address a s)
      aged e = ap (λ w. is_old_word (epoch_of_racing rules a).before.base w) e

  step-marks : (s : ℕ) → IsMarked rules b s → IsMarked rules a s
  step-marks s is =
      unlogs-before (epoch_of_racing rules a) st.told.ideal (view a).seen (more rules a (view b) x n st told) (later rules a (view b) x n st told) (address a s)
      (ap (λ (h : HeapState). is_unlogged h (address a s)) (sym (heap-same rules a (view b) x n st told)) ∙ ap (is_unlogged (heap_seen rules b)) (sym (there s)) ∙ is)

-- a step without an entry that leaves the registers is a load
step-loads-with : {P : Type 0} (rules : Rules) (a b : Racing P) (x : Event) (n : ℕ) → entry_of x ≡ None → b.seat.ghost_name ≡ a.seat.ghost_name → b.row ≡ a.row → b.seat.now.notes ≡ a.seat.now.notes → logged_by (local a) x ≡ [] → MakesStep rules (view a) x n (view b)
    → KnowsLog (epoch_of_racing rules a) (view a) → b.seat.now.registers ≡ a.seat.now.registers → (0 < (local a).stop → (local b).stop ≡ (local a).stop)
    → (local_after (epoch_of_racing rules a) (local a) x n).raised ≡ (local a).raised → holdings (local_after (epoch_of_racing rules a) (local a) x n) ≡ holdings (local a) → OnlyLoads rules a b
step-loads-with rules a b x n none seat row notes clears st told same stop raised holds = record {
  makes = subst (λ (o : Option Command). Makes rules a (entries_with (local a).number o (reply rules a b x n seat row notes clears st)) b) none (step-makes rules a b x n seat row notes clears st stop);
  logged = logged-same rules a b x n seat row notes clears st;
  raised = kept rules a b x n seat row notes clears st (λ l. l.raised) raised;
  kept = kept rules a b x n seat row notes clears st holdings holds;
  rooms = rooms-same a.seat.now.notes b.seat.now.notes notes;
  registers = same;
  ages = step-ages rules a b x n st told same;
  marks = step-marks rules a b x n st told same;
}

pub step-loads : {P : Type 0} (rules : Rules) (a b : Racing P) (x : Event) (n : ℕ) → entry_of x ≡ None → b.seat.ghost_name ≡ a.seat.ghost_name → b.row ≡ a.row → b.seat.now.notes ≡ a.seat.now.notes → logged_by (local a) x ≡ [] → MakesStep rules (view a) x n (view b)
    → KnowsLog (epoch_of_racing rules a) (view a) → b.seat.now.registers ≡ a.seat.now.registers → (local_after (epoch_of_racing rules a) (local a) x n).stop ≡ (local a).stop
    → (local_after (epoch_of_racing rules a) (local a) x n).raised ≡ (local a).raised → holdings (local_after (epoch_of_racing rules a) (local a) x n) ≡ holdings (local a) → OnlyLoads rules a b
step-loads rules a b x n none seat row notes clears st told same stop raised holds =
    step-loads-with rules a b x n none seat row notes clears st told same (λ some. kept rules a b x n seat row notes clears st (λ l. l.stop) stop) raised holds

-- a load of the stop word: a stop that was seen stands
pub poll-loads : {P : Type 0} (rules : Rules) (a b : Racing P) (n : ℕ) → b.seat.ghost_name ≡ a.seat.ghost_name → b.row ≡ a.row → b.seat.now.notes ≡ a.seat.now.notes → MakesStep rules (view a) e.Poll n (view b)
    → KnowsLog (epoch_of_racing rules a) (view a) → b.seat.now.registers ≡ a.seat.now.registers → OnlyLoads rules a b
poll-loads rules a b n seat row notes st told same =
    let p : Epoch = epoch_of_racing rules a in
    let log : List LogEntry = (view a).seen ++ st.between in
    let m : ℕ = (local a).number in
    step-loads-with rules a b e.Poll n refl seat row notes refl st told same
    (λ some. ap (λ (l : Local). l.stop) st.local ∙ st.word
    ∙ (log-seen p st.told.ideal log (just-before rules a (view b) e.Poll n st told)).polled m (subst (λ (l : Local). 0 < l.stop) (sym st.before) some)
    ∙ ap (λ (l : Local). l.stop) st.before)
    refl refl
