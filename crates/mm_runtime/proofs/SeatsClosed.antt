-- The end of an epoch whose mutators ran on threads.
use Rattle.std.proofs.Common.{◌≡◌, refl, sym, ◌∙◌, ap, subst, ℕ, ◌+◌, ◌<◌, ◌≤◌, inr, arith, List, ◌++◌, map, take, length}
use Rattle.std.specs.Prelude.{Some, None, All, slice_get, sum_by}
use Rattle.std.specs.List.{AllByRecursion, Contains, range_with_len}
use Rattle.std.proofs.lemmas.List.{length-map}
use Rattle.ideal_heap.specs.Ideal as ideal
use Rattle.ideal_heap.specs.Ideal.{IdealHeap}
use Rattle.ideal_heap.specs.Runs.{Entry, IsRun, heap_after_run, of_mutator}
use Rattle.ideal_heap.proofs.RunLemmas.{after-append, longer}
use Rattle.object_model.specs.Objects.{HeapState, size_of}
use Rattle.object_model.specs.declared.shape.TheConstants.{MAX_MEDIUM_WORDS}
use Rattle.object_model.specs.Heaps.{heap_state}
use Rattle.object_model.specs.Graphs.{MutatorState, Represents, numbers_of}
use Rattle.object_model.specs.Lawful.{IsLawful}
use Rattle.sessions.specs.Plans.{Rules}
use Rattle.sessions.specs.Fitting.{free_of, allowance_of}
use Rattle.sessions.specs.Sessions.{Setting, Moment, IsOfPart, ExhaustsAllowance, RunsPart, Stopped, ideal_at, traced_mutators as numbers_in}
use Rattle.mutator_core.specs.Machine.{Epoch as Began}
use Rattle.mutator_core.specs.Guards.{allowance}
use Rattle.mutator_core.specs.Tickets.{smaller, tickets_below}
use Rattle.mutator_calls.specs.declared.need.Mutator.{Mutator}
use Rattle.mutator_calls.specs.declared.need.Need.{Need}
use Rattle.mutator_calls.specs.declared.need.NeedCause.{NeedCause}
use Rattle.mutator_calls.specs.declared.need.NeedCause.TheVariants.{Large, Budget}
use Rattle.mutator_rule.specs.declared.seat.MutatorSeat.{MutatorSeat}
use Rattle.mutator_rule.specs.Seats.{known, local_of}
use Rattle.mutator_rule.specs.Views.{epoch_with}
use Rattle.heap_users.specs.Beginnings.{epoch_of}
use Rattle.heap_users.specs.Users.{mutator_state}
use Rattle.heap_users.proofs.StopWords.{stopped-before}
use Rattle.heap_users.proofs.Cleared as cleared
use Rattle.racing_rooms.specs.NoRoom.{IsCauseFor}
use Rattle.racing_mutator.specs.RacingSeats.{MayCall}
use Rattle.racing_world.specs.Calls.{epoch_of_world, history_at, calls_of, number_of, has_raised, stop_seen}
use Rattle.racing_world.specs.Closing.{EndsEpoch, mutator_at}
use Rattle.block_regions.specs.Notes.{AreNotes, FlagsCover}
use Rattle.block_regions.proofs.Lists.{get-some, get-below, get-map, one-element}
use Rattle.mm_runtime.specs.declared.progress.Progress.{Progress}
use Rattle.mm_runtime.specs.declared.progress.PartEnd.{PartEnd}
use Rattle.mm_runtime.specs.declared.progress.PartEnd.TheVariants as end
use Rattle.mm_runtime.specs.declared.seat_part.Part.{Part}
use Rattle.mm_runtime.specs.declared.epochs.Epoch.{Epoch}
use Rattle.mm_runtime.specs.declared.manager.Manager.{Manager}
use Rattle.mm_runtime.specs.Managers.{traces_of, next_in_trace, replied, IsProgress, HasReplies, IsInOrder, StandsAt}
use Rattle.mm_runtime.specs.Parts.{AreGcs, AreNeeds, EndedFor, EndRaisesStop, RepliesGrow, causes, raises_stop}
use Rattle.mm_runtime.specs.SeatParts.{SeatEndsFor, IsEndOf}
use Rattle.mm_runtime.specs.OpenEpochs.{IsEpochOf, end_of, seat_of, trace_in}
use Rattle.mm_runtime.proofs.Causes as ends-of
use Rattle.mm_runtime.proofs.Exhausting.{free-cleared, one-most, past-none, past-smaller}
use Rattle.mm_runtime.proofs.ListFacts.{all-weaker, sum-less}
use Rattle.mm_runtime.proofs.ManagersStand as standing
use Rattle.mm_runtime.proofs.PartLists.{as-many-ends, end-at, map-get, part-at, seat-at}
use Rattle.mm_runtime.proofs.SeatBirths.{seat-births}
use Rattle.mm_runtime.proofs.SeatHistories.{history-each, history-listed, history-run, in-range, of-mutator-twice}

-- the epoch as the manager began it
abbrev pub began_at : {P : Type 0} → Rules → Manager P → Began
began_at rules m = epoch_of rules (heap_state m.heap.heap) (map mutator_state m.heap.mutators.items)

pub record ClosesParts {P : Type 0} (rules : Rules) (old : Manager P) (e : Epoch P) (parts : List Part) (ends : List PartEnd) (new : Manager P) : Type 0 where
  pub opened : IsEpochOf rules old e parts
  pub ended : All (λ (p : Part). p.end ≡ None → ⊥) parts
  pub ends_are : ends ≡ map end_of parts
  pub closes : EndsEpoch rules (began_at rules old) (map seat_of parts) (heap_state new.heap.heap) (map mutator_state new.heap.mutators.items)
  pub mutators : map mutator_state new.heap.mutators.items ≡ map mutator_at (map seat_of parts)
  pub notes : AreNotes rules.fill (heap_state new.heap.heap) new.heap.notes
  pub flags : FlagsCover rules (heap_state new.heap.heap) new.heap.notes.flags.items
  pub nursery : new.heap.nursery ≡ old.heap.nursery
  pub full : new.heap.full ≡ old.heap.full
  pub workers : new.heap.workers ≡ old.heap.workers
  pub progress : new.progress.items ≡ map trace_in parts

-- the ticket of the part at this place is not below the allowance
record IsSpentAt (p : Began) (parts : List Part) (k : ℕ) : Type 0 where
  part : Part
  is : slice_get parts k ≡ Some part
  t : ℕ
  ticket : (local_of part.seat).ticket ≡ Some t
  past : allowance p ≤ t

module _ {P : Type 0} (rules : Rules) (old new : Manager P) (e : Epoch P) (parts : List Part) (ends : List PartEnd) (c : ClosesParts rules old e parts ends new) where
  abbrev p : Began
  p = began_at rules old

  abbrev part : List Entry
  part = c.closes.history

  -- a part, by its trace
  part-of : (k : ℕ) (q : Progress) → slice_get new.progress.items k ≡ Some q → (x : Part) × (slice_get parts k ≡ Some x) × (x.progress ≡ q)
  part-of k q is = map-get trace_in parts k q (ap (λ (ps : List Progress). slice_get ps k) (sym c.progress) ∙ is)

  started : (k : ℕ) (x : Part) → slice_get parts k ≡ Some x → epoch_with rules (known x.seat).start ≡ p
  started k x is = ap (epoch_with rules) (c.opened.each k x is).0.call.0.own.1 ∙ c.opened.began.epoch

  count : length new.progress.items ≡ length old.progress.items
  count = ap length c.progress ∙ length-map parts trace_in ∙ c.opened.count

  pub as-many : length ends ≡ length new.progress.items
  as-many = as-many-ends parts ends c.ends_are ∙ c.opened.count ∙ sym count

  -- the calls of a part's seat are its mutator's entries
  own-calls : (k : ℕ) (x : Part) → slice_get parts k ≡ Some x → of_mutator (k + 1) part ≡ calls_of rules x.seat
  own-calls k x is =
      let own = c.opened.each k x is in
      ap (λ m. of_mutator m part) (sym own.1 ∙ sym own.0.number) ∙ c.closes.calls k x.seat (seat-at parts k x is)

  own-twice : (k : ℕ) (x : Part) → slice_get parts k ≡ Some x → of_mutator x.mutator (calls_of rules x.seat) ≡ of_mutator (k + 1) part
  own-twice k x is =
      let own = c.opened.each k x is in
      ap (of_mutator x.mutator) (sym (own-calls k x is)) ∙ ap (λ m. of_mutator m (of_mutator (k + 1) part)) own.1 ∙ of-mutator-twice (k + 1) part

  grows : (k : ℕ) (before q : Progress) → slice_get old.progress.items k ≡ Some before → slice_get new.progress.items k ≡ Some q → RepliesGrow (k + 1) part before q
  grows k before q was is =
      let x = part-of k q is in
      let since = c.opened.replies k before x.0 was x.1 in
      let same = own-twice k x.0 x.1 in
      subst (RepliesGrow (k + 1) part before) x.2 (record {
        trace = since.trace;
        replies = since.replies ∙ ap (λ es. before.replies.items ++ map (λ (y : Entry). y.reply) es) same;
        commands = since.commands ∙ ap (λ es. take (length before.replies.items) before.trace ++ map (λ (y : Entry). y.command) es) same;
      })

  pub no-reply-lost : replied old.progress.items ≤ replied new.progress.items
  no-reply-lost = standing.replied-grown old.progress.items new.progress.items part count grows

  -- how a part with this end stands
  stands-for : (k : ℕ) (x : Part) (end : PartEnd) → slice_get parts k ≡ Some x → slice_get ends k ≡ Some end
      → SeatEndsFor rules x.seat (next_in_trace x.progress) end × (has_raised x.seat ≡ raises_stop end)
  stands-for k x end is at = subst (IsEndOf rules x.seat (next_in_trace x.progress)) (end-at parts ends c.ends_are c.ended k x end is at) (c.opened.each k x is).0.ended

  raised-by : (k : ℕ) (x : Part) (by : ℕ) → slice_get parts k ≡ Some x → 0 < by → stop_seen x.seat ≡ by → EndRaisesStop ends by
  raised-by k x by is some seen =
      let stop : by ≡ c.closes.stop = sym seen ∙ c.closes.stops k x.seat (seat-at parts k x is) (subst (λ n. 0 < n) (sym seen) some) in
      let who = c.closes.raised (subst (λ n. 0 < n) stop some) in
      let y = part-at parts who.0 who.1 who.2 in
      let below = get-below parts who.0 y.0 y.1 in
      let e = get-some ends who.0 (let many = as-many-ends parts ends c.ends_are in omega arith) in
      let own = c.opened.each who.0 y.0 y.1 in record {
        place = who.0;
        end = e.0;
        is = e.1;
        raises = sym (stands-for who.0 y.0 e.0 y.1 e.1).1 ∙ ap has_raised y.2 ∙ who.4;
        number_is = stop ∙ sym who.3 ∙ ap number_of (sym y.2) ∙ own.0.number ∙ own.1;
      }

  spent-by : (k : ℕ) (x : Part) (size : ℕ) (cause : NeedCause) → slice_get parts k ≡ Some x → IsCauseFor rules x.seat size cause → size ≤ MAX_MEDIUM_WORDS
      → IsSpentAt p parts k
  spent-by k x size Large is large small = absurd (let more : MAX_MEDIUM_WORDS < size = large in omega arith)
  spent-by k x size (Budget t) is cause small = record {
    part = x;
    is = is;
    t = t;
    ticket = cause.1;
    past = subst (λ (q : Began). allowance q ≤ t) (started k x is) cause.2;
  }

  ended-part : (k : ℕ) (x : Part) (e : PartEnd) → slice_get parts k ≡ Some x → SeatEndsFor rules x.seat (next_in_trace x.progress) e
      → EndedFor (IsSpentAt p parts) ends k (next_in_trace x.progress) e
  ended-part k x end.Gc is for = for
  ended-part k x end.Meet is for = for
  ended-part k x end.Trace is for = for
  ended-part k x (end.Need need) is for = (for.0, spent-by k x (size_of need.refs need.nums) need.cause is for.1)
  ended-part k x (end.Raised by) is for = (for.0, raised-by k x by is for.1 for.2)

  ended-for : (k : ℕ) (q : Progress) (e : PartEnd) → slice_get new.progress.items k ≡ Some q → slice_get ends k ≡ Some e → EndedFor (IsSpentAt p parts) ends k (next_in_trace q) e
  ended-for k q e is at =
      let x = part-of k q is in
      subst (λ (r : Progress). EndedFor (IsSpentAt p parts) ends k (next_in_trace r) e) x.2 (ended-part k x.0 e x.1 (stands-for k x.0 e x.1 at).0)

  pub gcs : AreGcs new.progress.items ends
  gcs k q is at = ended-for k q end.Gc is at

  pub needs : AreNeeds new.progress.items ends
  needs k q need is at = (ended-for k q (end.Need need) is at).0

  exhausts-all : (k : ℕ) → IsSpentAt p parts k → allowance p + 1 + free_of (heap_state new.heap.heap) ≤ free_of p.before + length parts
  exhausts-all k spent =
      let x : Part = spent.part in
      let seats : List MutatorSeat = map seat_of parts in
      let f : MutatorSeat → ℕ = (λ seat. tickets_below (allowance p) (local_of seat).ticket) in
      let none : f x.seat ≡ 0 = ap (tickets_below (allowance p)) spent.ticket ∙ past-none (allowance p) spent.t spent.past in
      let few : sum_by f seats + 1 ≤ length seats = sum-less f (λ seat. one-most (allowance p) (local_of seat).ticket) seats k x.seat (get-map seat_of parts k x spent.is) none in
      let less : spent.t < c.closes.budget = c.closes.drawn k spent.t x.seat (seat-at parts k x spent.is) spent.ticket in
      let past = spent.past in
      let most : smaller c.closes.budget (allowance p) ≡ allowance p = past-smaller (allowance p) c.closes.budget (omega arith) in
      let all : free_of p.before + sum_by f seats ≡ free_of (heap_state new.heap.heap) + smaller c.closes.budget (allowance p) = c.closes.counted in
      let many : length seats ≡ length parts = length-map parts seat_of in
      omega arith

  module _ (t : Setting) (now : Moment) (stands : StandsAt rules old t now) where
    abbrev before : HeapState
    before = heap_state old.heap.heap

    abbrev ms : List MutatorState
    ms = map mutator_state old.heap.mutators.items

    abbrev pub stop : Moment
    stop = record {
      heap = heap_state new.heap.heap;
      mutators = map mutator_state new.heap.mutators.items;
      done = now.done ++ part;
      nursery = now.nursery;
      full = now.full;
    }

    lawful : IsLawful before
    lawful = subst IsLawful (sym stands.heap.heap) stands.heap.sound.lawful

    represents : Represents p.before p.mutators (ideal_at now)
    represents = cleared.represents-cleared before lawful ms (ideal_at now) (standing.stands-represents rules old t now stands)

    -- the seat that saw all
    last : (k : ℕ) × (x : Part) × (slice_get parts k ≡ Some x) × (history_at rules x.seat ≡ part)
    last =
        let longest = c.closes.longest in
        let x = part-at parts longest.0 longest.1 longest.2 in
        (longest.0, x.0, x.1, ap (history_at rules) x.2 ∙ longest.3)

    may : MayCall rules e.world.row last.1.seat
    may = (c.opened.each last.0 last.1 last.2).0.call

    run : IsRun (ideal_at now) part
    run = subst (IsRun (ideal_at now)) last.3 (history-run rules e.world last.1.seat may (ideal_at now)
        (subst (λ (q : Began). Represents q.before q.mutators (ideal_at now)) (sym c.opened.began.epoch) represents))

    each : AllByRecursion IsOfPart part
    each = subst (AllByRecursion IsOfPart) last.3 (history-each rules e.world last.1.seat may)

    many-traces : length t.traces ≡ length old.progress.items
    many-traces = ap length stands.traces ∙ length-map old.progress.items (λ (q : Progress). q.trace)

    listed : numbers_of ms ≡ range_with_len 1 (length t.traces)
    listed = standing.stands-listed rules old t now stands

    mutators : AllByRecursion (λ x. (1 ≤ x.mutator) × (x.mutator ≤ length old.progress.items)) part
    mutators = all-weaker (λ (x : Entry). Contains (numbers_of (epoch_of_world rules e.world).mutators) x.mutator) (λ x. (1 ≤ x.mutator) × (x.mutator ≤ length old.progress.items))
        (λ x known. let at = in-range (length t.traces) x.mutator (subst (λ ns. Contains ns x.mutator) listed (subst (λ (q : Began). Contains (numbers_of q.mutators) x.mutator) c.opened.began.epoch known)) in
        (at.0, let most : x.mutator ≤ length t.traces = at.1 in omega (arith, many-traces)))
        part (subst (AllByRecursion (λ x. Contains (numbers_of (epoch_of_world rules e.world).mutators) x.mutator)) last.3 (history-listed rules e.world last.1.seat may))

    stopped : Stopped t.rules (numbers_in t) now.heap (ideal_at now) part stop.heap stop.mutators
    stopped =
        subst (λ (x : Rules). Stopped x (numbers_in t) now.heap (ideal_at now) part stop.heap stop.mutators) (sym stands.heap.rules_are)
        (subst (λ (s : HeapState). Stopped rules (numbers_in t) s (ideal_at now) part stop.heap stop.mutators) stands.heap.heap
        (subst (λ (ns : List ℕ). Stopped rules ns before (ideal_at now) part stop.heap stop.mutators) listed
        (stopped-before before lawful rules (numbers_of ms) stop.heap (ideal_at now) part stop.mutators (c.closes.stopped (ideal_at now) represents))))

    traces : t.traces ≡ traces_of new.progress.items
    traces = stands.traces ∙ sym (standing.traces-grown old.progress.items new.progress.items part count grows)

    replies : HasReplies new.progress.items stop.done
    replies = standing.replies-grown old.progress.items new.progress.items part count grows now.done stands.replies mutators

    exhausted : (k : ℕ) → IsSpentAt p parts k → ExhaustsAllowance t now.heap stop.heap
    exhausted k spent =
        let allowed : allowance p ≡ allowance_of t.rules.reserve now.heap =
        cleared.allowance-cleared before lawful rules.reserve ∙ ap (allowance_of rules.reserve) stands.heap.heap ∙ ap (λ (x : Rules). allowance_of x.reserve now.heap) (sym stands.heap.rules_are) in
        let free : free_of p.before ≡ free_of now.heap = free-cleared before lawful ∙ ap free_of stands.heap.heap in
        let few = exhausts-all k spent in
        let places = c.opened.count in
        let all = many-traces in
        inr (omega arith)

    pub runs-part : RunsPart t now (causes ends) stop
    runs-part = record {
      part = part;
      done = refl;
      runs = run;
      each = each;
      causes = ends-of.all-causes (IsSpentAt p parts) t stop new.progress.items ends traces replies as-many ended-for;
      stopped = stopped;
      counts = (refl, refl);
      needs = λ m d refs nums is at need small.
          let k = ends-of.needs-exhausted (IsSpentAt p parts) t stop new.progress.items ends traces replies as-many ended-for m d refs nums is at need small in
          exhausted k.0 k.1;
    }

    ideal-same : ideal_at stop ≡ heap_after_run (ideal_at now) part
    ideal-same = after-append ideal.empty now.done part

    pub stands-after : StandsAt rules new t stop
    stands-after = record {
      heap = record {
        rules_are = stands.heap.rules_are;
        workers = stands.heap.workers ∙ sym c.workers;
        blocks = stands.heap.blocks ∙ sym stopped.blocks;
        heap = refl;
        mutators = refl;
        nursery = c.nursery ∙ stands.heap.nursery;
        full = c.full ∙ stands.heap.full;
        sound = record {
          lawful = stopped.lawful;
          remembers = stopped.remembers;
          represents = subst (λ (h : IdealHeap). Represents stop.heap stop.mutators h) (sym ideal-same) stopped.represents;
          listed = stopped.listed;
        };
        run = longer ideal.empty now.done part stands.heap.run run;
      };
      traces = traces;
      replies = replies;
    }

    -- the mutators are those of the seats
    count-after : length new.heap.mutators.items ≡ length new.progress.items
    count-after = sym (length-map new.heap.mutators.items mutator_state) ∙ ap length c.mutators ∙ length-map (map seat_of parts) mutator_at
        ∙ length-map parts seat_of ∙ c.opened.count ∙ sym count

    births-at : (k : ℕ) (u : Mutator) (q : Progress) → slice_get new.heap.mutators.items k ≡ Some u → slice_get new.progress.items k ≡ Some q → u.births ≤ length q.replies.items
    births-at k u q there is =
        let x = part-of k q is in
        let own = (c.opened.each k x.0 x.1).0 in
        let same : mutator_state u ≡ mutator_at x.0.seat = one-element (slice_get (map mutator_state new.heap.mutators.items) k) (mutator_state u) (mutator_at x.0.seat) (get-map mutator_state new.heap.mutators.items k u there)
        (ap (λ (l : List MutatorState). slice_get l k) c.mutators ∙ get-map mutator_at (map seat_of parts) k x.0.seat (get-map seat_of parts k x.0 x.1)) in
        let births : u.births ≡ (local_of x.0.seat).births = ap (λ (m : MutatorState). m.births) same in
        let most = seat-births rules e.world x.0.seat own.call in
        let few = own.births in
        let many : length x.0.progress.replies.items ≡ length q.replies.items = ap (λ (r : Progress). length r.replies.items) x.2 in
        omega arith

    pub in-order : IsInOrder rules 0 old → IsInOrder rules 0 new
    in-order order =
        let same = count in
        let lost = no-reply-lost in
        let all = count-after in record {
          heap = record {
            few = let few = order.few in omega arith;
            notes = c.notes;
            flags = c.flags;
            number = stopped.number ∙ ap (λ (s : HeapState). s.number) (sym stands.heap.heap) ∙ order.heap.number ∙ ap (λ n. n + old.heap.full) (sym c.nursery) ∙ ap (λ n. new.heap.nursery + n) (sym c.full);
            some_worker = subst (λ w. 1 ≤ w) (sym c.workers) order.heap.some_worker;
            few_workers = subst (λ w. w ≤ 16) (sym c.workers) order.heap.few_workers;
          };
          some = let some = order.some in omega arith;
          few = let few = order.few in omega arith;
          count = count-after;
          each = λ k q is. let x = part-of k q is in subst IsProgress x.2 (c.opened.each k x.0 x.1).0.order;
          births = births-at;
          collections = let all = order.collections in let nursery = c.nursery in let full = c.full in omega arith;
        }
