-- What an epoch does to a manager.
use Rattle.std.proofs.Common.{◌≡◌, refl, sym, ◌∙◌, ap, subst, ℕ, ◌+◌, ◌≤◌, inr, arith, List, ◌++◌, map, length}
use Rattle.std.specs.Prelude.{slice_get}
use Rattle.std.specs.List.{AllByRecursion}
use Rattle.std.proofs.lemmas.List.{length-map}
use Rattle.ideal_heap.specs.Ideal as ideal
use Rattle.ideal_heap.specs.Ideal.{IdealHeap}
use Rattle.ideal_heap.specs.Runs.{Entry, IsRun, heap_after_run}
use Rattle.ideal_heap.proofs.RunLemmas.{after-append, longer}
use Rattle.object_model.specs.Objects.{HeapState}
use Rattle.object_model.specs.Heaps.{heap_state}
use Rattle.object_model.specs.Graphs.{MutatorState, Represents, numbers_of}
use Rattle.object_model.specs.Lawful.{IsLawful}
use Rattle.sessions.specs.Plans.{Rules}
use Rattle.sessions.specs.Fitting.{free_of, allowance_of}
use Rattle.sessions.specs.Sessions.{Setting, Moment, IsOfPart, ExhaustsAllowance, RunsPart, Stopped, ideal_at, traced_mutators as numbers_in}
use Rattle.mutator_core.specs.Machine.{Epoch}
use Rattle.mutator_core.specs.Guards.{allowance}
use Rattle.mutator_core.proofs.EpochEnds.{log-recorded}
use Rattle.heap_users.specs.Beginnings.{epoch_of}
use Rattle.managed_heap.specs.Worlds.{births_of, HasHistory, births_at}
use Rattle.heap_users.specs.Users.{mutator_state}
use Rattle.managed_heap.proofs.Worlds.facts
use Rattle.heap_users.proofs.StopWords.{stopped-before}
use Rattle.heap_users.proofs.Cleared as cleared
use Rattle.mm_runtime.specs.declared.progress.Progress.{Progress}
use Rattle.mm_runtime.specs.declared.progress.PartEnd.{PartEnd}
use Rattle.mm_runtime.specs.declared.manager.Manager.{Manager}
use Rattle.mm_runtime.specs.Managers.{traces_of, HasReplies, IsInOrder, StandsAt}
use Rattle.mm_runtime.specs.Parts.{causes, IsExhausted}
use Rattle.mm_runtime.proofs.AnswersInTurn.{births-same}
use Rattle.mm_runtime.proofs.Exhausting.{exhausts, free-cleared}
use Rattle.mm_runtime.proofs.Causes as ends-of
use Rattle.mm_runtime.proofs.ManagersStand as standing
use Rattle.mm_runtime.proofs.ManagersStand.{RunsEpoch}

module _ {P : Type 0} (rules : Rules) (old new : Manager P) (ends : List PartEnd) (r : RunsEpoch rules old new ends) (t : Setting) (now : Moment)
    (stands : StandsAt rules old t now) where
  abbrev before : HeapState
  before = heap_state old.heap.heap

  abbrev ms : List MutatorState
  ms = map mutator_state old.heap.mutators.items

  abbrev p : Epoch
  p = epoch_of rules before ms

  abbrev part : List Entry
  part = r.runs.part

  abbrev pub stop : Moment
  stop = record {
    heap = heap_state new.heap.heap;
    mutators = map mutator_state new.heap.mutators.items;
    done = now.done ++ part;
    nursery = now.nursery;
    full = now.full;
  }

  lawful : IsLawful before
  lawful = subst IsLawful (sym stands.heap.heap) stands.heap.sound.lawful

  history : HasHistory r.last p (ideal_at now) part
  history = standing.history rules old new ends r (ideal_at now) (standing.stands-represents rules old t now stands)

  run : IsRun (ideal_at now) part
  run = subst (IsRun (ideal_at now)) history.history (facts.end p (ideal_at now) history.log r.last.row history.at).run

  each : AllByRecursion IsOfPart part
  each = subst (AllByRecursion IsOfPart) history.history (log-recorded p (ideal_at now) history.log history.at.epoch).each

  stopped : Stopped t.rules (numbers_in t) now.heap (ideal_at now) part stop.heap stop.mutators
  stopped =
      subst (λ (x : Rules). Stopped x (numbers_in t) now.heap (ideal_at now) part stop.heap stop.mutators) (sym stands.heap.rules_are)
      (subst (λ (s : HeapState). Stopped rules (numbers_in t) s (ideal_at now) part stop.heap stop.mutators) stands.heap.heap
      (subst (λ (ns : List ℕ). Stopped rules ns before (ideal_at now) part stop.heap stop.mutators) (standing.stands-listed rules old t now stands)
      (stopped-before before lawful rules (numbers_of ms) stop.heap (ideal_at now) part stop.mutators (r.stopped p (ideal_at now) part history))))

  traces : t.traces ≡ traces_of new.progress.items
  traces = stands.traces ∙ sym (standing.traces-same rules old new ends r)

  replies : HasReplies new.progress.items stop.done
  replies = standing.has-replies rules old new ends r now.done stands.replies

  many : length ends ≡ length new.progress.items
  many = r.runs.ended ∙ sym r.runs.count

  count : length t.traces ≡ length old.progress.items
  count = ap length stands.traces ∙ length-map old.progress.items (λ (q : Progress). q.trace)

  exhausted : (k : ℕ) → IsExhausted r.last k → ExhaustsAllowance t now.heap stop.heap
  exhausted k is =
      let allowed : allowance p ≡ allowance_of t.rules.reserve now.heap =
      cleared.allowance-cleared before lawful rules.reserve ∙ ap (allowance_of rules.reserve) stands.heap.heap ∙ ap (λ (x : Rules). allowance_of x.reserve now.heap) (sym stands.heap.rules_are) in
      let free : free_of p.before ≡ free_of now.heap = free-cleared before lawful ∙ ap free_of stands.heap.heap in
      let places = r.count in
      let all = count in
      let few = exhausts r.last p (ideal_at now) part stop.heap k history (r.tickets p (ideal_at now) part history) r.drawn is in
      inr (omega arith)

  pub runs-part : RunsPart t now (causes ends) stop
  runs-part = record {
    part = part;
    done = refl;
    runs = run;
    each = each;
    causes = ends-of.all-causes (IsExhausted r.last) t stop new.progress.items ends traces replies many r.runs.causes;
    stopped = stopped;
    counts = (refl, refl);
    needs = λ m d refs nums is at need small.
        let k = ends-of.needs-exhausted (IsExhausted r.last) t stop new.progress.items ends traces replies many r.runs.causes m d refs nums is at need small in
        exhausted k.0 k.1;
  }

  ideal-same : ideal_at stop ≡ heap_after_run (ideal_at now) part
  ideal-same = after-append ideal.empty now.done part

  pub stands-after : StandsAt rules new t stop
  stands-after = record {
    heap = record {
      rules_are = stands.heap.rules_are;
      workers = stands.heap.workers ∙ sym r.workers;
      blocks = stands.heap.blocks ∙ sym stopped.blocks;
      heap = refl;
      mutators = refl;
      nursery = r.nursery ∙ stands.heap.nursery;
      full = r.full ∙ stands.heap.full;
      sound = record {
        lawful = stopped.lawful;
        remembers = stopped.remembers;
        represents = subst (λ (h : IdealHeap). Represents stop.heap stop.mutators h) (sym ideal-same) stopped.represents;
        listed = stopped.listed;
      };
      run = longer ideal.empty now.done part stands.heap.run run;
    };
    traces = traces;
    replies = replies;
  }

  count-after : IsInOrder rules 0 old → length new.heap.mutators.items ≡ length new.progress.items
  count-after order = sym (length-map new.heap.mutators.items mutator_state) ∙ ap length r.mutators ∙ length-map r.last.row.mutators.items mutator_state ∙ r.count ∙ sym r.runs.count

  pub in-order : IsInOrder rules 0 old → IsInOrder rules 0 new
  in-order order =
      let same = r.runs.count in record {
        heap = record {
          few = let few = order.few in let many = count-after order in omega (arith, many, same, few);
          notes = r.notes p (ideal_at now) part history;
          flags = r.flags rules (sym history.at.young);
          number = (r.stopped p (ideal_at now) part history).number ∙ order.heap.number ∙ ap (λ n. n + old.heap.full) (sym r.nursery) ∙ ap (λ n. new.heap.nursery + n) (sym r.full);
          some_worker = subst (λ w. 1 ≤ w) (sym r.workers) order.heap.some_worker;
          few_workers = subst (λ w. w ≤ 16) (sym r.workers) order.heap.few_workers;
        };
        some = let some = order.some in omega arith;
        few = let few = order.few in omega arith;
        count = count-after order;
        each = r.runs.each;
        births = λ k u q there is. let most : births_at r.last k ≤ length q.replies.items = r.runs.births k q is in
            let e = births-same r.last.row.mutators.items new.heap.mutators.items r.mutators k in
            let own : births_of (slice_get new.heap.mutators.items k) ≡ u.births = ap births_of there in
            omega arith;
        collections = let all = order.collections in let more = standing.replied-more rules old new ends r in let nursery = r.nursery in let full = r.full in omega arith;
      }
