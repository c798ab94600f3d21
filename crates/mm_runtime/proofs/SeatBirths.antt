-- A mutator allocates at most one object with each of its entries.
use Rattle.std.proofs.Common.{◌≡◌, refl, ◌∙◌, ap, ℕ, ◌+◌, ◌≤◌, inl, inr, arith, Bool, true, false, nat_eq, eq-eqb, List, [], ◌∷◌, ◌++◌, length, length-append}
use Rattle.std.specs.Prelude.{Option, Some, None, if◌then◌else◌}
use Rattle.std.proofs.lemmas.Bool.{cases_eq, cond-true, cond-false, ne_eqb}
use Rattle.ideal_heap.specs.declared.command.Command.{Command}
use Rattle.ideal_heap.specs.declared.command.Command.TheVariants as c
use Rattle.ideal_heap.specs.declared.reply.Reply.{Reply}
use Rattle.ideal_heap.specs.Runs.{entry, of_mutator}
use Rattle.ideal_heap.proofs.OrderLemmas.{of_mutator-all, of_mutator-append}
use Rattle.mutator_core.specs.declared.state.Event.{Event}
use Rattle.mutator_core.specs.declared.state.Event.TheVariants as e
use Rattle.mutator_core.specs.declared.state.Local.{Local}
use Rattle.mutator_core.specs.declared.state.LogEntry.{LogEntry}
use Rattle.mutator_core.specs.Machine.{Epoch, Machine, heap_in, next, found, found_code, taken, local_after, first_machine}
use Rattle.mutator_core.specs.Histories.{after, history, entry_of, entries_with, entries_of, reply_in}
use Rattle.mutator_core.specs.Logs.{local_after_log}
use Rattle.mutator_rule.specs.declared.seat.MutatorSeat.{MutatorSeat}
use Rattle.mutator_rule.specs.Seats.{known, local_of}
use Rattle.mutator_rule.specs.Views.{epoch_with}
use Rattle.racing_world.specs.declared.world.World.{World}
use Rattle.racing_mutator.specs.RacingSeats.{MayCall}
use Rattle.racing_world.specs.Calls.{calls_of, number_of}
use Rattle.sessions.specs.Plans.{Rules}
use Rattle.stored_replies.specs.Replies.{Replies}
use Rattle.mm_runtime.specs.SeatParts.{AnswersSeat, HasFewBirths, births_before}

-- of a step of its own
after-command : (p : Epoch) (l : Local) (x : Command) (n m : ℕ) (r : Reply) → (local_after p l (e.Perform x) n).births ≤ l.births + length (entries_with m (entry_of (e.Perform x)) r)
after-command p l (c.New d refs nums) n m r = omega arith
after-command p l (c.Get d s i) n m r = omega arith
after-command p l (c.Put s i v) n m r = omega arith
after-command p l (c.Read s j) n m r = omega arith
after-command p l (c.Write s j v) n m r = omega arith
after-command p l (c.Add s j v) n m r = omega arith
after-command p l (c.Swap s j was v) n m r = omega arith
after-command p l (c.Move d s) n m r = omega arith
after-command p l (c.DropReg s) n m r = omega arith
after-command p l (c.Load d g) n m r = omega arith
after-command p l (c.Share g s) n m r = omega arith
after-command p l (c.Pin s) n m r = omega arith
after-command p l (c.Unpin s) n m r = omega arith
after-command p l c.Gc n m r = omega arith
after-command p l c.Meet n m r = omega arith

after-taking : (p : Epoch) (l : Local) (k class n : ℕ) (free test : Bool)
    → (if test then taken p l k class free else record l { blocks = (record { at = k; word = n }) ∷ l.blocks }).births ≡ l.births
after-taking p l k class n true true = refl
after-taking p l k class n false true = refl
after-taking p l k class n free false = refl

after-event : (p : Epoch) (l : Local) (x : Event) (n m : ℕ) (r : Reply) → (local_after p l x n).births ≤ l.births + length (entries_with m (entry_of x) r)
after-event p l (e.Perform x) n m r = after-command p l x n m r
after-event p l (e.Miss x) n m r = omega arith
after-event p l e.Poll n m r = omega arith
after-event p l (e.LoadName s) n m r = omega arith
after-event p l (e.LoadShape s) n m r = omega arith
after-event p l (e.LoadCollector s) n m r = omega arith
after-event p l (e.LoadShapeAt a) n m r = omega arith
after-event p l (e.LoadBlock k) n m r = omega arith
after-event p l (e.LoadSide i) n m r = omega arith
after-event p l (e.LoadUnlog s) n m r = omega arith
after-event p l e.Raise n m r = omega arith
after-event p l (e.ClearUnlog s) n m r = omega arith
after-event p l (e.Initialize a refs nums offset) n m r = omega arith
after-event p l e.DrawTicket n m r = omega arith
after-event p l (e.TakeBlock k class free) n m r = omega (arith, after-taking p l k class n free (nat_eq n (found_code p class free)))

-- the entries of a step are its mutator's
own-entries : (m : ℕ) (x : Option Command) (r : Reply) → of_mutator m (entries_with m x r) ≡ entries_with m x r
own-entries m None r = refl
own-entries m (Some x) r = of_mutator-all m (entry m x r ∷ []) (refl, tt)

after-step : (p : Epoch) (h : Machine) (m : ℕ) (x : LogEntry) → ((next p h x.mutator x.event).locals m).births ≤ (h.locals m).births + length (of_mutator m (entries_of (heap_in p h) x))
after-step p h m x = elim (cases_eq m x.mutator) as (λ _. ((next p h x.mutator x.event).locals m).births ≤ (h.locals m).births + length (of_mutator m (entries_of (heap_in p h) x))) [
  | inl same ↦
      (let k : ℕ = x.mutator in
      let r : Reply = reply_in (heap_in p h) x.answer in
      let now : (next p h k x.event).locals m ≡ local_after p (h.locals k) x.event (found p h k x.event) =
      cond-true (nat_eq m k) (local_after p (h.locals k) x.event (found p h k x.event)) (h.locals m) (eq-eqb m k same) in
      let births : ((next p h k x.event).locals m).births ≡ (local_after p (h.locals k) x.event (found p h k x.event)).births = ap (λ (l : Local). l.births) now in
      let was : (h.locals m).births ≡ (h.locals k).births = ap (λ j. (h.locals j).births) same in
      let most = after-event p (h.locals k) x.event (found p h k x.event) k r in
      let all : length (of_mutator m (entries_of (heap_in p h) x)) ≡ length (entries_with k (entry_of x.event) r) =
      ap (λ j. length (of_mutator j (entries_of (heap_in p h) x))) same ∙ ap length (own-entries k (entry_of x.event) r) in
      omega arith)
  | inr other ↦
      (let now : ((next p h x.mutator x.event).locals m).births ≡ (h.locals m).births = ap (λ (l : Local). l.births)
      (cond-false (nat_eq m x.mutator) (local_after p (h.locals x.mutator) x.event (found p h x.mutator x.event)) (h.locals m) (ne_eqb m x.mutator other)) in
      omega arith)
]

births-most : (p : Epoch) (h : Machine) (m : ℕ) (log : List LogEntry) → ((after p h log).locals m).births ≤ (h.locals m).births + length (of_mutator m (history p h log))
births-most p h m [] = omega arith
births-most p h m (x ∷ xs) =
    let rest = births-most p (next p h x.mutator x.event) m xs in
    let first = after-step p h m x in
    let all : length (of_mutator m (history p h (x ∷ xs))) ≡ length (of_mutator m (entries_of (heap_in p h) x)) + length (of_mutator m (history p (next p h x.mutator x.event) xs)) =
    ap length (of_mutator-append m (entries_of (heap_in p h) x) (history p (next p h x.mutator x.event) xs))
    ∙ length-append (of_mutator m (entries_of (heap_in p h) x)) (of_mutator m (history p (next p h x.mutator x.event) xs)) in
    omega arith

-- the births of a seat's mutator: those of before the epoch, and at most one for each call
pub seat-births : {P : Type 0} (rules : Rules) (w : World P) (seat : MutatorSeat) → MayCall rules w.row seat
    → (local_of seat).births ≤ births_before rules w (number_of seat) + length (calls_of rules seat)
seat-births rules w seat may =
    let v = known seat in
    let own = may.0.own in
    let p : Epoch = epoch_with rules v.start in
    let m : ℕ = number_of seat in
    let most = births-most p (first_machine p) m v.seen in
    let now : (local_of seat).births ≡ (local_after_log p v.seen m).births = ap (λ (l : Local). l.births) own.2.now in
    let first : ((first_machine p).locals m).births ≡ births_before rules w m = ap (λ g. ((first_machine (epoch_with rules g)).locals m).births) own.1 in
    omega arith

-- one reply more for one call more
pub few-more : {P : Type 0} (rules : Rules) (w : World P) (old new : MutatorSeat) (command : Command) (reply : Reply) (before after : List Reply)
    → AnswersSeat rules w old (record { command = command; reply = reply } ∷ []) new → after ≡ before ++ reply ∷ []
    → HasFewBirths rules w old before → HasFewBirths rules w new after
few-more rules w old new command reply before after answers replies few =
    let calls : length (calls_of rules new) ≡ length (calls_of rules old) + 1 =
    ap length answers.calls ∙ length-append (calls_of rules old) (entry (number_of old) command reply ∷ []) in
    let many : length after ≡ length before + 1 = ap length replies ∙ length-append before (reply ∷ []) in
    let same : births_before rules w (number_of new) ≡ births_before rules w (number_of old) = ap (births_before rules w) answers.number in
    omega arith

-- no reply more
pub few-same : {P : Type 0} (rules : Rules) (w : World P) (old new : MutatorSeat) (before after : Replies) → AnswersSeat rules w old [] new → after ≡ before
    → HasFewBirths rules w old before.items → HasFewBirths rules w new after.items
few-same rules w old new before after answers replies few =
    let calls : length (calls_of rules new) ≡ length (calls_of rules old) + 0 = ap length answers.calls ∙ length-append (calls_of rules old) [] in
    let many : length after.items ≡ length before.items = ap (λ (v : Replies). length v.items) replies in
    let same : births_before rules w (number_of new) ≡ births_before rules w (number_of old) = ap (births_before rules w) answers.number in
    omega arith
