-- An epoch is opened: each mutator gets a seat.
use Rattle.std.proofs.Common.{◌≡◌, refl, sym, ◌∙◌, ap, subst, ℕ, ◌+◌, ◌<◌, arith, List, [], ◌++◌, map, take, length, append-nil}
use Rattle.std.specs.Prelude.{Some, None, All, slice_get}
use Rattle.std.specs.List.{range_with_len}
use Rattle.std.proofs.lemmas.List.{length-map}
use Rattle.std.proofs.lemmas.List.FromFn.{get_or-range_with_len, length-range_with_len}
use Rattle.std.proofs.lemmas.Option.{slice_get-get_or}
use lib.ListN.{get_or}
use Rattle.ideal_heap.specs.Runs.{Entry, of_mutator}
use Rattle.object_model.specs.Graphs.{MutatorState, numbers_of}
use Rattle.sessions.specs.Plans.{Rules}
use Rattle.mutator_core.specs.Machine.{Epoch as Began, first_machine}
use Rattle.mutator_core.specs.declared.state.Local.{Local}
use Rattle.mutator_core.specs.declared.state.LogEntry.{LogEntry}
use Rattle.mutator_core.specs.Logs.{local_after_log}
use Rattle.mutator_rule.specs.declared.seat.MutatorSeat.{MutatorSeat}
use Rattle.mutator_rule.specs.Seats.{known, local_of}
use Rattle.mutator_rule.specs.Views.{epoch_with}
use Rattle.heap_users.specs.Users.{mutator_state}
use Rattle.racing_world.specs.declared.world.World.{World}
use Rattle.racing_mutator.specs.RacingSeats.{MayCall}
use Rattle.racing_world.specs.Calls.{calls_of, number_of, IsFresh}
use Rattle.racing_world.specs.Closing.{mutator_at}
use Rattle.block_regions.proofs.Lists.{get-some, get-below, get-map, one-element}
use Rattle.mm_runtime.specs.declared.progress.Progress.{Progress}
use Rattle.mm_runtime.specs.declared.seat_part.Part.{Part}
use Rattle.mm_runtime.specs.declared.epochs.Epoch.{Epoch}
use Rattle.mm_runtime.specs.declared.manager.Manager.{Manager}
use Rattle.mm_runtime.specs.Managers.{next_in_trace, IsInOrder}
use Rattle.mm_runtime.specs.Parts.{RepliesGrow}
use Rattle.mm_runtime.specs.SeatParts.{HasFewBirths, IsPartOf, IsEndOf, births_before}
use Rattle.mm_runtime.specs.OpenEpochs.{BeganWith, IsEpochOf, seat_of, trace_in}
use Rattle.mm_runtime.proofs.PartLists.{all-get}

-- the births of a fresh seat are those of before the epoch
first-births : {P : Type 0} (rules : Rules) (w : World P) (seat : MutatorSeat) → MayCall rules w.row seat → IsFresh rules seat
    → births_before rules w (number_of seat) ≡ (local_of seat).births
first-births rules w seat may fresh =
    let m : ℕ = number_of seat in
    let p : Began = epoch_with rules (known seat).start in
    let now : local_of seat ≡ local_after_log p [] m = may.0.own.2.now ∙ ap (λ (log : List LogEntry). local_after_log p log m) fresh.steps in
    let first : ((first_machine p).locals m).births ≡ births_before rules w m = ap (λ g. ((first_machine (epoch_with rules g)).locals m).births) may.0.own.1 in
    sym first ∙ ap (λ (l : Local). l.births) (sym now)

-- the number at a place
number-at : (n k : ℕ) (ns : List ℕ) (m : ℕ) → ns ≡ range_with_len 1 n → slice_get ns k ≡ Some m → m ≡ k + 1
number-at n k ns m same is =
    let there : slice_get (range_with_len 1 n) k ≡ Some m = ap (λ (l : List ℕ). slice_get l k) (sym same) ∙ is in
    let below : k < length (range_with_len 1 n) = get-below (range_with_len 1 n) k m there in
    let many = length-range_with_len 1 n in
    let at : m ≡ get_or (range_with_len 1 n) k m = one-element (slice_get (range_with_len 1 n) k) m (get_or (range_with_len 1 n) k m) there (slice_get-get_or (range_with_len 1 n) k m below) in
    at ∙ get_or-range_with_len 1 n k m (omega arith) ∙ omega arith

module _ {P : Type 0} (rules : Rules) (old : Manager P) (e : Epoch P) (parts : List Part) (seats : List MutatorSeat) (order : IsInOrder rules 0 old) (began : BeganWith rules old.heap e)
    (n : ℕ) (listed : numbers_of (map mutator_state old.heap.mutators.items) ≡ range_with_len 1 n)
    (calls : All (MayCall rules e.world.row) seats) (fresh : All (IsFresh rules) seats) (numbers : map number_of seats ≡ numbers_of (map mutator_state old.heap.mutators.items))
    (states : map mutator_at seats ≡ map mutator_state old.heap.mutators.items)
    (traces_are : map trace_in parts ≡ old.progress.items) (seats_are : map seat_of parts ≡ seats) (own : All (λ (p : Part). p.mutator ≡ number_of p.seat) parts)
    (none : All (λ (p : Part). p.end ≡ None) parts) where
  module _ (k : ℕ) (p : Part) (is : slice_get parts k ≡ Some p) where
    seat-is : slice_get seats k ≡ Some p.seat
    seat-is = ap (λ (l : List MutatorSeat). slice_get l k) (sym seats_are) ∙ get-map seat_of parts k p is

    trace-is : slice_get old.progress.items k ≡ Some p.progress
    trace-is = ap (λ (l : List Progress). slice_get l k) (sym traces_are) ∙ get-map trace_in parts k p is

    may : MayCall rules e.world.row p.seat
    may = all-get (MayCall rules e.world.row) seats k p.seat calls seat-is

    first : IsFresh rules p.seat
    first = all-get (IsFresh rules) seats k p.seat fresh seat-is

    number : number_of p.seat ≡ k + 1
    number = number-at n k (map number_of seats) (number_of p.seat) (numbers ∙ listed) (get-map number_of seats k p.seat seat-is)

    mutator : p.mutator ≡ number_of p.seat
    mutator = all-get (λ (q : Part). q.mutator ≡ number_of q.seat) parts k p own is

    few : HasFewBirths rules e.world p.seat p.progress.replies.items
    few =
        let below = get-below old.progress.items k p.progress trace-is in
        let u = get-some old.heap.mutators.items k (let many = order.count in omega arith) in
        let same : mutator_at p.seat ≡ mutator_state u.0 = one-element (slice_get (map mutator_at seats) k) (mutator_at p.seat) (mutator_state u.0) (get-map mutator_at seats k p.seat seat-is)
        (ap (λ (l : List MutatorState). slice_get l k) states ∙ get-map mutator_state old.heap.mutators.items k u.0 u.1) in
        let births : (local_of p.seat).births ≡ u.0.births = ap (λ (m : MutatorState). m.births) same in
        let before = first-births rules e.world p.seat may first in
        let calls : length (calls_of rules p.seat) ≡ 0 = ap length first.calls in
        let most = order.births k u.0 p.progress u.1 trace-is in
        omega arith

    begins : IsPartOf rules e.world p × (p.mutator ≡ k + 1)
    begins = (
      record {
        call = may;
        number = sym mutator;
        order = order.each k p.progress trace-is;
        births = few;
        ended = subst (IsEndOf rules p.seat (next_in_trace p.progress)) (sym (all-get (λ (q : Part). q.end ≡ None) parts k p none is)) first;
      },
      mutator ∙ number,
    )

    since : (before : Progress) → slice_get old.progress.items k ≡ Some before → RepliesGrow p.mutator (calls_of rules p.seat) before p.progress
    since before was =
        let same : p.progress ≡ before = one-element (slice_get old.progress.items k) p.progress before trace-is was in
        let none : of_mutator p.mutator (calls_of rules p.seat) ≡ [] = ap (of_mutator p.mutator) first.calls in
        subst (λ (q : Progress). RepliesGrow p.mutator (calls_of rules p.seat) q p.progress) same (record {
          trace = refl;
          replies = sym (append-nil p.progress.replies.items) ∙ ap (λ es. p.progress.replies.items ++ map (λ (y : Entry). y.reply) es) (sym none);
          commands = sym (append-nil (take (length p.progress.replies.items) p.progress.trace))
              ∙ ap (λ es. take (length p.progress.replies.items) p.progress.trace ++ map (λ (y : Entry). y.command) es) (sym none);
        })

  pub opens : IsEpochOf rules old e parts
  opens = record {
    began = began;
    count = sym (length-map parts trace_in) ∙ ap length traces_are;
    each = begins;
    replies = λ k before p was is. since k p is before was;
  }
