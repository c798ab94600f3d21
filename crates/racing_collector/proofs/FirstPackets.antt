-- What workers begin with: the packets of the roots, after the tokens of globals and of logged objects are taken.
use Rattle.std.proofs.Common.{◌≡◌, refl, sym, subst, ap, ap₂, ◌∙◌, ℕ, ◌+◌, ◌<◌, inl, arith, nat_eq, nat_lt, Bool, true, List, [], ◌∷◌, ◌++◌, All, length, map, slice_index}
use Rattle.std.specs.Prelude.{count_by, if◌then◌else◌}
use Rattle.std.specs.List.{range_with_len}
use Rattle.std.proofs.lemmas.Bool.{lt-ltb}
use Rattle.std.proofs.lemmas.List.{length-map}
use Rattle.std.proofs.lemmas.List.Elements.{All-nil, All-cons, All-head, All-tail, All-append, All-weaker}
use Rattle.std.proofs.lemmas.List.FromFn.{length-range_with_len, get_or-range_with_len}
use Rattle.heap_layout.specs.declared.layout.TheConstants.{GLOBALS}
use Rattle.object_model.specs.Lawful.{IsLawfulButLines, AreRoots}
use Rattle.object_model.specs.Objects.{HeapState}
use Rattle.object_model.specs.Times.{times, one_if}
use Rattle.trace_core.specs.Runs.{setup_of}
use Rattle.trace_core.specs.Setups.{Setup}
use Rattle.trace_core.specs.declared.run.TraceRun.{TraceRun}
use Rattle.trace_core.proofs.Begun.{HasList, held-begun}
use Rattle.trace_core.proofs.CountedRights.{count-append, count-cons}
use Rattle.trace_core.proofs.FirstView.{times-range}
use Rattle.trace_core.proofs.Idle.{one-if-true}
use Rattle.trace_table.specs.Ends.{NewSeats, SameTrace, left_share}
use Rattle.trace_table.specs.Seats.{IsGlobalRoot, IsGrey, IsSeat, setup_at}
use Rattle.trace_table.specs.declared.table.TraceTable.{TraceTable}
use Rattle.trace_table.specs.declared.table.WorkerSeat.{WorkerSeat}
use Rattle.trace_table.specs.declared.tokens.GlobalRoot.{GlobalRoot}
use Rattle.trace_table.specs.declared.tokens.Grey.{Grey}
use Rattle.work_packets.specs.declared.packet.Packet.{Packet}
use Rattle.work_packets.specs.declared.packet.Bucket.TheVariants as buckets
use Rattle.racing_collector.specs.declared.item.RaceItem.{RaceItem}
use Rattle.racing_collector.specs.declared.item.RaceItem.TheVariants.{Register, Global, Object}
use Rattle.racing_collector.specs.declared.racing.Racing.{Racing}
use Rattle.racing_collector.specs.Items.{IsItemOf, IsPacketOf, is_register, is_token, items_of, registers, tokens}
use Rattle.racing_collector.specs.Raced.{HoldAll}
use Rattle.racing_collector.proofs.Accounting.{all-left, all-right}

-- counts of items of one kind
register-times : (i : ℕ) (l : List ℕ) → registers i (map (λ j. Register j) l) ≡ times i l
register-times i [] = refl
register-times i (j ∷ l) = let a = count-cons (is_register i) (Register j) (map (λ k. Register k) l) in let b = count-cons (nat_eq i) j l in let c = register-times i l in omega arith

register-globals : (i : ℕ) (l : List GlobalRoot) → registers i (map (λ g. Global g) l) ≡ 0
register-globals i [] = refl
register-globals i (g ∷ l) = let a = count-cons (is_register i) (Global g) (map (λ k. Global k) l) in let c = register-globals i l in omega arith

register-objects : (i : ℕ) (l : List Grey) → registers i (map (λ g. Object g) l) ≡ 0
register-objects i [] = refl
register-objects i (g ∷ l) = let a = count-cons (is_register i) (Object g) (map (λ k. Object k) l) in let c = register-objects i l in omega arith

token-registers : (l : List ℕ) → tokens (map (λ j. Register j) l) ≡ 0
token-registers [] = refl
token-registers (j ∷ l) = let a = count-cons is_token (Register j) (map (λ k. Register k) l) in let c = token-registers l in omega arith

token-globals : (l : List GlobalRoot) → tokens (map (λ g. Global g) l) ≡ length l
token-globals [] = refl
token-globals (g ∷ l) = let a = count-cons is_token (Global g) (map (λ k. Global k) l) in let c = token-globals l in omega arith

token-objects : (l : List Grey) → tokens (map (λ g. Object g) l) ≡ length l
token-objects [] = refl
token-objects (g ∷ l) = let a = count-cons is_token (Object g) (map (λ k. Object k) l) in let c = token-objects l in omega arith

given : (b : Bool) (n : ℕ) → b ≡ true → (if b then n else 0) ≡ n
given b n is = ap (λ c. if c then n else 0) is

-- items of packets one by one
packets-of : (r : Racing) (ps : List (Packet RaceItem)) → All (λ p. p.bucket ≡ buckets.Roots) ps → All (IsItemOf r) (items_of ps) → All (IsPacketOf r) ps
packets-of r [] roots all = All-nil (IsPacketOf r)
packets-of r (p ∷ ps) roots all = All-cons (IsPacketOf r) p ps
    (record { bucket = inl (All-head (λ q. q.bucket ≡ buckets.Roots) p ps roots); items = all-left (IsItemOf r) p.items.items (items_of ps) all })
    (packets-of r ps (All-tail (λ q. q.bucket ≡ buckets.Roots) p ps roots) (all-right (IsItemOf r) p.items.items (items_of ps) all))

module _ (r : Racing) where
  items-globals : (l : List GlobalRoot) → All (IsGlobalRoot r.table) l → All (IsItemOf r) (map (λ g. Global g) l)
  items-globals [] all = All-nil (IsItemOf r)
  items-globals (g ∷ l) all = All-cons (IsItemOf r) (Global g) (map (λ k. Global k) l) (All-head (IsGlobalRoot r.table) g l all) (items-globals l (All-tail (IsGlobalRoot r.table) g l all))

  items-objects : (l : List Grey) → All (IsGrey r.table) l → All (IsItemOf r) (map (λ g. Object g) l)
  items-objects [] all = All-nil (IsItemOf r)
  items-objects (g ∷ l) all = All-cons (IsItemOf r) (Object g) (map (λ k. Object k) l) (All-head (IsGrey r.table) g l all) (items-objects l (All-tail (IsGrey r.table) g l all))

  items-registers : (l : List ℕ) → All (λ i. i < length r.roots.items) l → All (IsItemOf r) (map (λ i. Register i) l)
  items-registers [] all = All-nil (IsItemOf r)
  items-registers (i ∷ l) all = All-cons (IsItemOf r) (Register i) (map (λ k. Register k) l) (All-head (λ j. j < length r.roots.items) i l all) (items-registers l (All-tail (λ j. j < length r.roots.items) i l all))

  range-below : (n : ℕ) → n ≡ length r.roots.items → All (λ i. i < length r.roots.items) (range_with_len 0 n)
  range-below n is i d below =
      let inside : i < n = subst (λ m. i < m) (length-range_with_len 0 n) below in
      let at = get_or-range_with_len 0 n i d inside in omega arith

  module _ (n : ℕ) (globals : List GlobalRoot) (logged : List Grey) (first : List (Packet RaceItem)) (count : n ≡ length r.roots.items)
      (items : items_of first ≡ (map (λ i. Register i) (range_with_len 0 n) ++ map (λ g. Global g) globals) ++ map (λ g. Object g) logged) where
    pub first-takes : All (λ p. p.bucket ≡ buckets.Roots) first → All (IsGlobalRoot r.table) globals → All (IsGrey r.table) logged → All (IsPacketOf r) first
    first-takes roots all each = packets-of r first roots (subst (All (IsItemOf r)) (sym items)
        (All-append (IsItemOf r) (map (λ i. Register i) (range_with_len 0 n) ++ map (λ g. Global g) globals) (map (λ g. Object g) logged)
        (All-append (IsItemOf r) (map (λ i. Register i) (range_with_len 0 n)) (map (λ g. Global g) globals) (items-registers (range_with_len 0 n) (range-below n count)) (items-globals globals all))
        (items-objects logged each)))

    sum-of : (test : RaceItem → Bool) → count_by test (items_of first)
        ≡ count_by test (map (λ i. Register i) (range_with_len 0 n)) + count_by test (map (λ g. Global g) globals) + count_by test (map (λ g. Object g) logged)
    sum-of test =
        let a : count_by test (items_of first) ≡ count_by test ((map (λ i. Register i) (range_with_len 0 n) ++ map (λ g. Global g) globals) ++ map (λ g. Object g) logged) = ap (count_by test) items in
        let b = count-append test (map (λ i. Register i) (range_with_len 0 n) ++ map (λ g. Global g) globals) (map (λ g. Object g) logged) in
        let c = count-append test (map (λ i. Register i) (range_with_len 0 n)) (map (λ g. Global g) globals) in omega arith

    first-tokens : tokens (items_of first) ≡ length globals + length logged
    first-tokens = let a = sum-of is_token in let b = token-registers (range_with_len 0 n) in let c = token-globals globals in let d = token-objects logged in omega arith

    first-registers : (i : ℕ) → i < length r.roots.items → registers i (items_of first) ≡ 1
    first-registers i there =
        let a = sum-of (is_register i) in let b = register-times i (range_with_len 0 n) in let c = register-globals i globals in let d = register-objects i logged in
        let e = times-range 0 n i (omega arith) in let one : one_if (nat_lt i (0 + n)) ≡ 1 = one-if-true (nat_lt i (0 + n)) (lt-ltb i (0 + n) (omega arith)) in omega arith

    pub hold-all : r.table.keeper.me ≡ (left_share r.table, []) → r.table.globals_taken ≡ true → r.table.logged_taken ≡ true
        → map (λ (g : GlobalRoot). g.global) globals ≡ range_with_len 0 GLOBALS → map (λ (g : Grey). g.object) logged ≡ r.table.run.logged.items → HoldAll r first
    hold-all left globals-taken logged-taken all each = record {
      left = left;
      globals = globals-taken;
      logged = logged-taken;
      tokens = first-tokens ∙ ap₂ (λ (x y : ℕ). x + y)
          (sym (length-map globals (λ (g : GlobalRoot). g.global)) ∙ ap length all ∙ length-range_with_len 0 GLOBALS ∙ sym (given r.table.globals_taken GLOBALS globals-taken))
          (sym (length-map logged (λ (g : Grey). g.object)) ∙ ap length each ∙ sym (given r.table.logged_taken (length r.table.run.logged.items) logged-taken));
      roots = first-registers;
    }

-- t as it began, u when the tokens of globals were taken, and w when those of logged objects were
module _ (t u w : TraceTable) (first : SameTrace t u) (second : SameTrace u w) where
  pub seats-now : (k : ℕ) (seats : List WorkerSeat) → k ≡ (setup_at w).workers → NewSeats t k seats → NewSeats w (setup_at w).workers seats
  seats-now k seats is new = subst (λ n. NewSeats w n seats) is (record {
    each = All-weaker (IsSeat t) (IsSeat w) (λ s seat. second.seats s (first.seats s seat)) seats new.each;
    shares = new.shares;
  })

  pub workers-now : (s : HeapState) (run : TraceRun) (k : ℕ) → setup_at t ≡ setup_of s run k → k ≡ (setup_at w).workers
  workers-now s run k is = sym (ap (λ (p : Setup). p.workers) (second.setup ∙ first.setup ∙ is))

  pub setup-now : (s : HeapState) (run : TraceRun) (k : ℕ) → setup_at t ≡ setup_of s run k → setup_at w ≡ setup_of s run k
  setup-now s run k is = second.setup ∙ first.setup ∙ is

  -- roots stay roots as a trace begins
  pub roots-now : (s : HeapState) (run : TraceRun) (k : ℕ) → setup_at t ≡ setup_of s run k → IsLawfulButLines s → HasList s run → (roots : List ℕ) → AreRoots s roots → AreRoots (setup_at w).before roots
  roots-now s run k is lawful lists roots are = subst (λ (p : Setup). AreRoots p.before roots) (sym (setup-now s run k is))
      (λ i. λ below some. held-begun s run lawful lists (slice_index roots i) (are i below some))
