-- How a trace begins: the share that is left when workers got their seats, and all shares together.
use Rattle.std.proofs.Common.{◌≡◌, ℕ, suc, ◌+◌, ◌-◌, ◌<◌, ◌≤◌, ◌⊎◌, inl, inr, Bool, true, false, nat_eq, nat_lt, List, [], ◌∷◌, ◌++◌, All, length, map, refl, sym, ap, ◌∙◌, subst, arith}
use Rattle.std.specs.Prelude.{if◌then◌else◌, get_or}
use Rattle.std.specs.List.{range_with_len}
use Rattle.std.proofs.lemmas.Bool.{cases_lt, cond-true, eq-eqb, lt-ltb}
use Rattle.std.proofs.lemmas.List.{map-append}
use Rattle.std.proofs.lemmas.List.Elements.{All-nil, All-cons, All-head, All-tail, All-push, All-weaker, All-map}
use Rattle.std.proofs.lemmas.List.FromFn.{map-range_with_len_more}
use Rattle.heap_layout.specs.Zones.{row_words, heap_of, block_start}
use Rattle.heap_layout.specs.declared.layout.TheConstants.{BLOCK_WORDS}
use Rattle.object_model.specs.Times.{times, one_if}
use Rattle.object_model.specs.Objects.{HeapState}
use Rattle.trace_core.specs.Runs.{IsRunOf, setup_of}
use Rattle.trace_core.specs.Setups.{Setup, TraceMayBegin, blocks, refs}
use Rattle.trace_core.specs.Views.{hits, is_pair, without}
use Rattle.trace_core.specs.declared.run.TraceRun.{TraceRun}
use Rattle.trace_core.proofs.CountedRights.{count-append}
use Rattle.trace_core.proofs.FirstView.{times-range}
use Rattle.trace_core.proofs.Idle.{one-if-true}
use Rattle.trace_words.specs.declared.share.Share.{Share}
use Rattle.trace_words.specs.Rule.{setup_in}
use Rattle.trace_words.specs.Shares.{first_share, worker_share, gives_parts, both_shares, total}
use Rattle.trace_words.specs.Steps.{IsWhole, IsDone}
use Rattle.trace_table.specs.declared.table.TraceTable.{TraceTable}
use Rattle.trace_table.specs.declared.table.WorkerSeat.{WorkerSeat}
use Rattle.trace_table.specs.Seats.{IsSeat, setup_at}
use Rattle.trace_table.specs.Ends.{kept_share, left_share, shares_of, NewSeats, IsOneWorkers, joined}

-- the next number
pub next-number : (run : TraceRun) (w k : ℕ) → k < w → 0 < times (k + 1) (kept_share run w k).numbers
next-number run w k l = let a = times-range (k + 1) (w - k) (k + 1) (omega arith) in
    let one : one_if (nat_lt (k + 1) (k + 1 + (w - k))) ≡ 1 = one-if-true (nat_lt (k + 1) (k + 1 + (w - k))) (lt-ltb (k + 1) (k + 1 + (w - k)) (omega arith)) in omega arith

pub first-out : (a n : ℕ) → without (nat_eq a) (range_with_len a (suc n)) ≡ range_with_len (a + 1) n
first-out a n = cond-true (nat_eq a a) (range_with_len (a + 1) n) _ (eq-eqb a a refl)

-- it is given
pub kept-next : (run : TraceRun) (w k : ℕ) → k < w → gives_parts 1 (k + 1) (kept_share run w k) ≡ kept_share run w (k + 1)
kept-next run w k l = let less : w - k ≡ suc (w - (k + 1)) = omega arith in let parts : w + 1 - k - 1 ≡ w + 1 - (k + 1) = omega arith in
    ap (λ n. record (first_share run w) { parts = n; numbers = without (nat_eq (k + 1)) (range_with_len (k + 1) (w - k)) }) parts
    ∙ ap (λ (l : List ℕ). record (first_share run w) { parts = w + 1 - (k + 1); numbers = l }) (ap (λ n. without (nat_eq (k + 1)) (range_with_len (k + 1) n)) less ∙ first-out (k + 1) (w - (k + 1)))

-- a seat stays one while the table's words are the same
pub seat-stays : (t u : TraceTable) → u.row.words ≡ t.row.words → (s : WorkerSeat) → IsSeat t s → IsSeat u s
seat-stays t u same s is = let setup : setup_at u ≡ setup_at t = ap (λ w. setup_in w.key) same in record {
  table = is.table ∙ sym (ap (λ w. w.table_id) same);
  live = is.live;
  worker = is.worker;
  some = is.some;
  few = subst (λ (p : Setup). s.worker ≤ p.workers) (sym setup) is.few;
  front = is.front;
  limit = is.limit;
  order = is.order;
  from = subst (λ (p : Setup). s.front < s.limit → heap_of (blocks p) ≤ s.front) (sym setup) is.from;
  within = subst (λ (p : Setup). s.limit ≤ row_words (blocks p)) (sym setup) is.within;
  filling = subst (λ (p : Setup). (c : ℕ) → 0 < times c s.seat.me.0.filling → s.limit ≡ block_start (blocks p) c + BLOCK_WORDS) (sym setup) is.filling;
  seen = is.seen;
  next = subst (λ (p : Setup). s.next_block ≤ blocks p) (sym setup) is.next;
}

-- one more worker has a seat
pub more-seats : (t u : TraceTable) (k : ℕ) (seats : List WorkerSeat) (s : WorkerSeat) → u.row.words ≡ t.row.words → NewSeats t k seats
    → IsSeat u s → s.seat.me.0 ≡ worker_share 1 (k + 1) → NewSeats u (k + 1) (seats ++ s ∷ [])
more-seats t u k seats s same are is share = record {
  each = All-push (IsSeat u) seats s (All-weaker (IsSeat t) (IsSeat u) (seat-stays t u same) seats are.each) is;
  shares = map-append (λ (x : WorkerSeat). x.seat.me.0) seats (s ∷ [])
      ∙ ap (λ l. l ++ s.seat.me.0 ∷ []) are.shares
      ∙ ap (λ v. map (worker_share 1) (range_with_len 1 k) ++ v ∷ []) share
      ∙ sym (map-range_with_len_more (worker_share 1) 1 k (k + 1) (omega arith));
}

-- the last share is taken in first
joined-last : (ws : List Share) (w v : Share) → joined (ws ++ w ∷ []) v ≡ joined ws (both_shares v w)
joined-last [] w v = refl
joined-last (u ∷ ws) w v = ap (λ z. both_shares z u) (joined-last ws w v)

pub joined-seats : (all rest : List WorkerSeat) (last : WorkerSeat) (v : Share) → all ≡ rest ++ last ∷ []
    → joined (shares_of all) v ≡ joined (shares_of rest) (both_shares v last.seat.me.0)
joined-seats all rest last v is = ap (λ (l : List WorkerSeat). joined (shares_of l) v) is
    ∙ ap (λ l. joined l v) (map-append (λ (s : WorkerSeat). s.seat.me.0) rest (last ∷ [])) ∙ joined-last (shares_of rest) last.seat.me.0 v

-- The row that the plain tracer begins with serves any number of workers.
pub ready-for : (s : HeapState) (run : TraceRun) (w : ℕ) → 1 ≤ w → w ≤ 16 → TraceMayBegin (setup_of s run 1) → TraceMayBegin (setup_of s run w)
ready-for s run w some-worker few is = record {
  lawful = is.lawful;
  number = is.number;
  some = some-worker;
  few = few;
  base = is.base;
  remembers = is.remembers;
  unlogs = is.unlogs;
  kind = is.kind;
  small = is.small;
  fixed = is.fixed;
}

pub run-for : (s : HeapState) (run : TraceRun) (w : ℕ) (r : TraceRun) → IsRunOf (setup_of s run 1) r → IsRunOf (setup_of s run w) r
run-for s run w r is = record { number = is.number; base = is.base; from = is.from; kind = is.kind; nursery = is.nursery; logged = is.logged }

-- sums over the shares that are taken in
joined-parts : (ws : List Share) (v : Share) → All IsOneWorkers ws → (joined ws v).parts ≡ v.parts + length ws
joined-parts [] v all = omega arith
joined-parts (w ∷ ws) v all = let one = All-head IsOneWorkers w ws all in let rest = joined-parts ws v (All-tail IsOneWorkers w ws all) in omega arith

joined-gave : (ws : List Share) (v : Share) → (joined ws v).gave ≡ v.gave + total (λ (s : Share). s.gave) ws
joined-gave [] v = omega arith
joined-gave (w ∷ ws) v = let rest = joined-gave ws v in omega arith

joined-took : (ws : List Share) (v : Share) → All IsOneWorkers ws → (joined ws v).took ≡ v.took + total (λ (s : Share). s.took) ws
joined-took [] v all = omega arith
joined-took (w ∷ ws) v all = let one = All-head IsOneWorkers w ws all in let rest = joined-took ws v (All-tail IsOneWorkers w ws all) in omega arith

joined-own : (ws : List Share) (v : Share) → ((joined ws v).token ≡ v.token) × ((joined ws v).worker ≡ v.worker)
joined-own [] v = (refl, refl)
joined-own (w ∷ ws) v = joined-own ws v

pub whole : (t : TraceTable) (ws : List Share) → All IsOneWorkers ws → length ws ≡ (setup_at t).workers
    → (left_share t).gave + total (λ v. v.gave) ws ≡ total (λ v. v.took) ws → IsWhole (setup_at t) (joined ws (left_share t))
whole t ws all count tokens = let v : Share = left_share t in record {
  parts = (let parts = joined-parts ws v all in omega arith);
  token = (joined-own ws v).0;
  worker = (joined-own ws v).1;
  tokens = (let gave = joined-gave ws v in let took = joined-took ws v all in omega arith);
}

-- where nothing is left to do for any share, nothing is for all together
joined-done : (p : Setup) (ws : List Share) (v : Share) → IsDone p v → All (IsDone p) ws → IsDone p (joined ws v)
joined-done p [] v is all = is
joined-done p (w ∷ ws) v is all = let u : Share = joined ws v in let rest : IsDone p u = joined-done p ws v is (All-tail (IsDone p) w ws all) in let one = All-head (IsDone p) w ws all in record {
  won = ap (λ l. l ++ w.won) rest.won ∙ one.won;
  unset = ap (λ l. l ++ w.unset) rest.unset ∙ one.unset;
  grey = λ x k some. elim (cases_lt 0 (hits x k u.grey)) as (λ _. k ≡ refs p x) [
    | inl there ↦ rest.grey x k there
    | inr none ↦ one.grey x k (let both = count-append (is_pair x k) u.grey w.grey in omega arith)
  ];
}

-- objects to scan, until their tokens are taken
abbrev left_grey : Bool → List ℕ → List (ℕ × ℕ)
left_grey taken l = if taken then [] else map (λ x. (x, 0)) l

none-left : (b : Bool) → left_grey b [] ≡ []
none-left true = refl
none-left false = refl

left-done : (t : TraceTable) → t.globals_taken ≡ true → ((t.run.logged.items ≡ []) ⊎ (t.logged_taken ≡ true)) → IsDone (setup_at t) (left_share t)
left-done t globals logged = let l : List ℕ = t.run.logged.items in let none : left_grey t.logged_taken l ≡ [] = elim logged as (λ _. left_grey t.logged_taken l ≡ []) [
  | inl empty ↦ ap (left_grey t.logged_taken) empty ∙ none-left t.logged_taken
  | inr taken ↦ ap (λ b. left_grey b l) taken
] in record {
  won = refl;
  unset = cond-true t.globals_taken [] (range_with_len 0 16) globals;
  grey = λ x k some. absurd (let empty : hits x k (left_grey t.logged_taken l) ≡ 0 = ap (hits x k) none in omega arith);
}

pub all-done : (t : TraceTable) (ws : List Share) → t.globals_taken ≡ true → ((t.run.logged.items ≡ []) ⊎ (t.logged_taken ≡ true))
    → All (IsDone (setup_at t)) ws → IsDone (setup_at t) (joined ws (left_share t))
all-done t ws globals logged all = joined-done (setup_at t) ws (left_share t) (left-done t globals logged) all

-- a worker has nothing to do as the trace begins
new-done : (p : Setup) (k : ℕ) → IsDone p (worker_share 1 k)
new-done p k = record { won = refl; unset = refl; grey = λ x j some. absurd (omega arith) }

each-done : (p : Setup) (ks : List ℕ) → All (IsDone p) (map (worker_share 1) ks)
each-done p ks = All-map (IsDone p) (worker_share 1) ks (λ i d below. new-done p (get_or ks i d))

seats-done : (p : Setup) (seats : List WorkerSeat) → All (IsDone p) (shares_of seats) → All (λ (s : WorkerSeat). IsDone p s.seat.me.0) seats
seats-done p [] all = All-nil (λ (s : WorkerSeat). IsDone p s.seat.me.0)
seats-done p (s ∷ seats) all = All-cons (λ (s : WorkerSeat). IsDone p s.seat.me.0) s seats
    (All-head (IsDone p) s.seat.me.0 (shares_of seats) all) (seats-done p seats (All-tail (IsDone p) s.seat.me.0 (shares_of seats) all))

pub new-seats-done : (p : Setup) (t : TraceTable) (w : ℕ) (seats : List WorkerSeat) → NewSeats t w seats → All (λ (s : WorkerSeat). IsDone p s.seat.me.0) seats
new-seats-done p t w seats are = seats-done p seats (subst (All (IsDone p)) (sym are.shares) (each-done p (range_with_len 1 w)))
