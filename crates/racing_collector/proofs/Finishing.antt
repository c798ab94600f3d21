-- From what the workers have done to the trace of the heap.
use Rattle.std.proofs.Common.{◌≡◌, refl, sym, subst, ap, ◌∙◌, ℕ, ◌<◌, inl, inr, arith, Bool, true, List, [], ◌∷◌, All, IsTrue, length, slice_index}
use Rattle.std.specs.Prelude.{if◌then◌else◌, map}
use Rattle.std.proofs.lemmas.Bool.{cases_Bool}
use Rattle.std.proofs.lemmas.List.{length-map}
use Rattle.std.proofs.lemmas.List.Elements.{All-nil, All-cons, All-head, All-tail, All-weaker}
use Rattle.heap_layout.specs.Zones.{IsAddress}
use Rattle.object_model.specs.Lawful.{IsLawfulButLines}
use Rattle.object_model.specs.Objects.{HeapState, IsHeld, state_of, with_words}
use Rattle.object_model.specs.Times.{times}
use Rattle.trace_core.specs.Outcomes.{image}
use Rattle.trace_core.specs.Runs.{IsRunOf, MayRun, is_nursery, setup_of}
use Rattle.trace_core.specs.Setups.{Setup, blocks, size}
use Rattle.trace_core.specs.Traces.{stage_of}
use Rattle.trace_core.specs.Views.{hits}
use Rattle.trace_core.specs.declared.run.TraceRun.{TraceRun}
use Rattle.trace_core.proofs.Begun.{listed-held}
use Rattle.trace_words.specs.Steps.{IsDone, IsWhole, LeavesTrace}
use Rattle.trace_words.specs.declared.share.Share.{Share}
use Rattle.trace_table.specs.Ends.{IsOneWorkers, joined, left_share, shares_of}
use Rattle.trace_table.specs.Seats.{IsTable, setup_at}
use Rattle.trace_table.specs.declared.table.TraceTable.{TraceTable}
use Rattle.trace_table.specs.declared.table.WorkerSeat.{WorkerSeat}
use Rattle.trace_table.proofs.SeatEnds.{whole, all-done}
use Rattle.work_packets.specs.declared.packet.Packet.{Packet}
use Rattle.racing_collector.specs.declared.item.RaceItem.{RaceItem}
use Rattle.racing_collector.specs.declared.raced.Raced.{Raced}
use Rattle.racing_collector.specs.declared.racing.Racing.{Racing}
use Rattle.racing_collector.specs.declared.served.Served.{Served}
use Rattle.racing_collector.specs.declared.tally.Tally.{Tally}
use Rattle.racing_collector.specs.declared.together.TracedTogether.{TracedTogether}
use Rattle.racing_collector.specs.Accounts.{Accounts, IsAccounted, IsGiven, IsRacer, IsServed, places}
use Rattle.racing_collector.specs.Raced.{HasRaced, HoldAll}
use Rattle.racing_collector.specs.Together.{IsTracedFrom, TracesAll}
use Rattle.racing_collector.proofs.Whole as ends

-- what is left to the table did nothing
none-grey : (b : Bool) (l : List ℕ) → b ≡ true → (x k : ℕ) → hits x k (if b then [] else map (λ y. (y, 0)) l) ≡ 0
none-grey b l is x k = ap (λ c. hits x k (if c then [] else map (λ y. (y, 0)) l)) is

left-accounts : (r : Racing) → r.table.logged_taken ≡ true → Accounts r (left_share r.table) [] []
left-accounts r taken = record {
  copied = λ x. refl;
  tokens = All-nil (IsGiven r.table (left_share r.table));
  lines = λ on x j has. absurd (let none = none-grey r.table.logged_taken r.table.run.logged.items taken x j in omega arith);
  roots = All-nil (IsServed r (left_share r.table));
  by_roots = λ x some. absurd (omega arith);
  sparse = refl;
}

of-shares : (P : Share → Type 0) (seats : List WorkerSeat) → All (λ s. P s.seat.me.0) seats → All P (shares_of seats)
of-shares P [] all = All-nil P
of-shares P (s ∷ seats) all = All-cons P s.seat.me.0 (shares_of seats) (All-head (λ u. P u.seat.me.0) s seats all) (of-shares P seats (All-tail (λ u. P u.seat.me.0) s seats all))

module _ (r : Racing) (raced : Raced) (first : List (Packet RaceItem)) (hold : HoldAll r first) (has : HasRaced r first raced) where
  abbrev t : TraceTable
  t = r.table

  abbrev p : Setup
  p = setup_at r.table

  abbrev shares : List Share
  shares = shares_of raced.seats.items

  abbrev v : Share
  v = joined (shares_of raced.seats.items) (left_share r.table)

  left : r.table.keeper.me.0 ≡ left_share r.table
  left = ap (λ m. m.0) hold.left

  accounted : IsAccounted r v raced.served.items raced.tally
  accounted = has.accounts (left_share r.table) (left-accounts r hold.logged)

  pub places-inside : All (λ (s : Served). s.place < length r.roots.items) raced.served.items
  places-inside = All-weaker (IsServed r v) (λ s. s.place < length r.roots.items) (λ s is. is.place) raced.served.items accounted.accounts.roots

  all-whole : IsWhole p v
  all-whole = whole t shares (of-shares IsOneWorkers raced.seats.items (All-weaker (IsRacer r) (λ s. IsOneWorkers s.seat.me.0) (λ s is. is.one) raced.seats.items has.seats))
      (length-map raced.seats.items _ ∙ has.count) (let a = has.tokens in let b = hold.tokens in omega arith)

  done : IsDone p v
  done = all-done t shares hold.globals (inr hold.logged) (of-shares (IsDone p) raced.seats.items (All-weaker (IsRacer r) (λ s. IsDone p s.seat.me.0) (λ s is. is.done) raced.seats.items has.seats))

  once : (i : ℕ) → i < length r.roots.items → 0 < times i (places raced.served.items)
  once i there = let a = has.roots i in let b = hold.roots i there in omega arith

  module _ (table : IsTable r.table) (result : TracedTogether) (run : result.traced.run ≡ r.table.run) (tally : result.tally ≡ raced.tally) (heap : state_of result.traced.row ≡ with_words (setup_at r.table).before result.traced.row.words)
      (leaves : LeavesTrace (setup_at r.table) result.traced.row.words (joined (shares_of raced.seats.items) r.table.keeper.me.0))
      (count : length result.roots.items ≡ length r.roots.items)
      (targets : (F : ℕ → ℕ) → All (λ (s : Served). s.target ≡ F s.place) raced.served.items → (i : ℕ) → 0 < times i (places raced.served.items) → slice_index result.roots.items i ≡ F i) where
    left-trace : LeavesTrace p result.traced.row.words v
    left-trace = subst (λ (k : Share). LeavesTrace (setup_at r.table) result.traced.row.words (joined (shares_of raced.seats.items) k)) left leaves

    module _ (s : HeapState) (of : TraceRun) (workers : ℕ) (lawful : IsLawfulButLines s) (may : MayRun s of) (setup : setup_at r.table ≡ setup_of s of workers) (same-run : r.table.run ≡ of) where
      listed : (x : ℕ) → 0 < times x of.logged.items → IsAddress s.blocks x
      listed x some = elim (cases_Bool (is_nursery of.collect)) as (λ _. IsAddress s.blocks x) [
        | inl young ↦ (listed-held s of.logged.items (may.nursery young) x some).address
        | inr full ↦ absurd (let none : times x of.logged.items ≡ 0 = ap (times x) (may.none full) in omega arith)
      ]

      traced : IsTracedFrom p s of r.roots.items result
      traced =
          let w = left-trace.whole all-whole in
          let acc = accounted.accounts in
          record {
            events = left-trace.events;
            trace = left-trace.trace;
            finished = ends.finished p result.traced.row.words v left-trace w done;
            run_is = subst (IsRunOf p) same-run table.run;
            row = heap ∙ ap (with_words p.before) left-trace.words_are;
            asked = ends.asked p result.traced.row.words v left-trace w done r refl raced.served.items accounted.greys acc once;
            no_others = ends.no-others p result.traced.row.words v left-trace w done r refl raced.served.items accounted.greys acc;
            targets = ends.roots-are p result.traced.row.words v left-trace w done r refl raced.served.items accounted.greys acc result.roots.items count once
                (targets (λ i. image (stage_of p left-trace.events) (slice_index r.roots.items i)) (ends.targets-are p result.traced.row.words v left-trace w done r refl raced.served.items accounted.greys acc));
            fills = ends.fills p result.traced.row.words v left-trace w done acc.sparse;
            lines = λ on. ends.lines-marked p result.traced.row.words v left-trace w done r refl raced.served.items accounted.greys acc (subst (λ (u : TraceRun). IsTrue u.lines) (sym same-run) on);
            counts = ends.counts p result.traced.row.words v left-trace w done r refl raced.served.items accounted.greys acc s
                (ap (λ (q : Setup). blocks q) setup ∙ ends.blocks-same s of lawful listed workers)
                (λ a there. ap (λ (q : Setup). size q a) setup ∙ ends.size-same s of lawful listed workers a (subst (λ (q : Setup). IsHeld q.before a) setup there))
                result.tally (ap (λ (u : Tally). u.kept) tally ∙ accounted.kept) (ap (λ (u : Tally). u.moved) tally ∙ accounted.moved) (ap (λ (u : Tally). u.words) tally ∙ accounted.words);
          }

      pub traces-all : TracesAll s of workers r.roots.items result
      traces-all = subst (λ (q : Setup). IsTracedFrom q s of r.roots.items result) setup traced
