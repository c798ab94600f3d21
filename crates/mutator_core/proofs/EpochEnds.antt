-- The heap at the end of an epoch is a stopped heap.
use Rattle.std.proofs.Common.{◌≡◌, refl, sym, ◌∙◌, ap, subst, ℕ, ◌+◌, ◌*◌, ◌/◌, ◌%◌, ◌^◌, ◌<◌, ◌≤◌, ◌⊎◌, inl, inr, arith, ◌&&◌, not, Bool, true, false, IsTrue, List, [], nat_lt, nat_le}
use Rattle.std.specs.Prelude.{sum_by, Some, count_by}
use Rattle.std.specs.List.{Contains, Any, range_with_len}
use Rattle.std.proofs.Math.Path.{fun_ext}
use Rattle.std.proofs.lemmas.Bool.{cases_Bool, and_parts, and_from, ltb-true, leb-true}
use Rattle.heap_layout.specs.Zones.{heap_of, block_at, offset_at}
use Rattle.heap_layout.specs.declared.block.Kind.{Kind}
use Rattle.heap_layout.specs.declared.block.Kind.TheVariants as kinds
use Rattle.ideal_heap.specs.declared.name.Name.{Name}
use Rattle.ideal_heap.specs.Names.{name_of}
use Rattle.ideal_heap.specs.Ideal.{IdealHeap}
use Rattle.ideal_heap.specs.Runs as runs
use Rattle.ideal_heap.specs.Runs.{Entry}
use Rattle.object_model.specs.Objects.{HeapState, with_words, word_at, HasKind, block_word, class_at, is_start, is_unlogged, IsHeld, name_at, refs_at, nums_at, size_at, size_of, cell_words}
use Rattle.object_model.specs.Ages.{is_old}
use Rattle.object_model.specs.Graphs.{numbers_of, roots_of, IsReachable}
use Rattle.object_model.proofs.Marks as marks
use Rattle.object_model.proofs.Representation as standing
use Rattle.object_model.proofs.Frames.{same-layout}
use Rattle.object_model.proofs.OneKind.{kind-within, kind-from, kind-code}
use Rattle.sessions.specs.Fitting.{free_of, allowance_of, class_of, HasHole, LiesInHole}
use Rattle.sessions.specs.Collecting.{is_logged_under}
use Rattle.sessions.specs.Sessions.{Stopped, IsBirth, IsBirthOf, LeavesNoGap, StoresInto}
use Rattle.mutator_core.specs.declared.state.LogEntry.{LogEntry}
use Rattle.mutator_core.specs.Machine.{Epoch, Machine, heap_in, mutators_in, first_local_of, first_machine}
use Rattle.mutator_core.specs.Logs.{IsEpochLog, machine_after, heap_after, mutators_after, local_after_log, history_of, AreBetweenCalls}
use Rattle.mutator_core.specs.Guards.{IsCell, BeginsRegion}
use Rattle.mutator_core.specs.Epochs.{EpochMayBegin, IsOwned, IsMade}
use Rattle.mutator_core.specs.Tickets.{TicketsAreCounted, taken_by, allowed_to, smaller}
use Rattle.mutator_core.specs.Seen.{AreSeen, AreLoaded}
use Rattle.mutator_core.specs.Closing.{IsBetweenCalls, GivesBack}
use Rattle.mutator_core.proofs.Lists.{mutators-listed, contains-none}
use Rattle.mutator_core.proofs.Fills.{owned-class, owned-kind}
use Rattle.mutator_core.proofs.Sums.{sum-le}
use Rattle.mutator_core.proofs.Counted.{smaller-most, counted-ends, first-counted}
use Rattle.mutator_core.proofs.Entries.{Recorded, recorded-ends}
use Rattle.mutator_core.proofs.Beginnings.{first-states, first-holds, log-ends, stranger-stored}
use Rattle.mutator_core.proofs.LoadedWords.{loaded-ends, first-loaded}
use Rattle.mutator_core.proofs.SeenWords.{seen-ends, first-seen}
use Rattle.mutator_core.proofs.GivenBack as back
use Rattle.mutator_core.proofs.Moments.{Holds}

module _ (p : Epoch) (ready : EpochMayBegin p) (h : Machine) (first : IdealHeap) (past : List Entry) (set : ℕ → Type 0) (now : Holds p h (runs.heap_after_run first past) set)
    (recorded : Recorded p first past (heap_in p h) h.locals) (counted : TicketsAreCounted p (heap_in p h) h.locals) (rest : (m : ℕ) → Contains (numbers_of p.mutators) m → IsBetweenCalls p (h.locals m))
    (strangers : (m : ℕ) → Contains (numbers_of p.mutators) m ⊎ ((h.locals m).pending ≡ 0))
    (w : List ℕ) (gives : GivesBack (heap_in p h) (with_words p.before w)) where
  abbrev s : HeapState
  s = heap_in p h

  abbrev new : HeapState
  new = with_words p.before w

  abbrev ideal : IdealHeap
  ideal = runs.heap_after_run first past

  heap-word : (k : ℕ) → heap_of p.before.blocks ≤ k → word_at new k ≡ word_at s k
  heap-word = back.heap-word p ready h ideal set now w gives

  held-then : (a : ℕ) → IsHeld new a → IsHeld s a
  held-then = back.held-before p ready h ideal set now w gives

  held-now : (a : ℕ) → IsHeld s a → IsHeld new a
  held-now = back.held-back p ready h ideal set now w gives

  name-now : (a : ℕ) → IsHeld s a → name_at new a ≡ name_at s a
  name-now a holds = ap name_of (heap-word a holds.address.from)

  shape-now : (a : ℕ) → IsHeld s a → word_at new (a + 1) ≡ word_at s (a + 1)
  shape-now a holds = heap-word (a + 1) (let from : heap_of p.before.blocks ≤ a = holds.address.from in omega arith)

  size-now : (a : ℕ) → IsHeld s a → size_at s a ≡ size_at new a
  size-now a holds = ap (λ v. size_of (v % 65536) (v / 65536)) (sym (shape-now a holds))

  -- where an object that was allocated begins
  packed : (a m size : ℕ) → size ≡ size_at new a → BeginsRegion p (h.locals m).made a size → LeavesNoGap p.rules.fill p.before new a
  packed a m size same begins = elim begins as (λ _. LeavesNoGap p.rules.fill p.before new a) [
    | inl cells ↦ inl cells
    | inr other ↦ elim other as (λ _. LeavesNoGap p.rules.fill p.before new a) [
      | inl hole ↦ inr (inl (subst (λ (n : ℕ). HasHole p.rules.fill p.before (block_at p.before.blocks a) (offset_at p.before.blocks a) n) same hole))
      | inr rest ↦ elim rest as (λ _. LeavesNoGap p.rules.fill p.before new a) [
        | inl free ↦ inr (inr (inl free))
        | inr behind ↦ inr (inr (inr (
            let x : IsMade p s (h.locals m).owned behind.0 = (now.epoch.knows m).objects behind.0 behind.1 in
            (behind.0.address, held-now behind.0.address x.held, behind.2, ap (λ n. behind.0.address + n) (sym (size-now behind.0.address x.held) ∙ x.same) ∙ behind.3))))
      ]
    ]
  ]

  -- an object that was allocated
  birth : (a m : ℕ) → IsHeld s a → Contains (h.locals m).made (record { address = a; size = size_at s a }) → IsBirth p.rules p.before past new a
  birth a m holds made = record {
    entry = subst (λ (n : Name). Any (IsBirthOf n (refs_at new a) (nums_at new a)) past) (sym (name-now a holds))
        (subst (λ (v : ℕ). Any (IsBirthOf (name_at s a) (v % 65536) (v / 65536)) past) (sym (shape-now a holds)) (recorded.allocated m (record { address = a; size = size_at s a }) made));
    place = elim is.place.hole as (λ _. HasKind p.before (block_at p.before.blocks a) kinds.Free ⊎ LiesInHole p.rules.fill p.before (block_at p.before.blocks a) (offset_at p.before.blocks a) (size_at new a)) [
      | inl free ↦ inl free
      | inr hole ↦ inr (subst (λ (n : ℕ). LiesInHole p.rules.fill p.before (block_at p.before.blocks a) (offset_at p.before.blocks a) n) size hole)
    ];
    packed = packed a m (size_at s a) size ((now.epoch.knows m).regions (record { address = a; size = size_at s a }) made);
    cell = λ cells. let cell : IsCell a (size_at s a) p.before.blocks is.place.owned.class = is.place.cell cells in record {
      kind = subst (λ (x : Kind). HasKind new (block_at p.before.blocks a) x) cells kind;
      class = ap class_of (sym size) ∙ cell.fits ∙ ap (λ q. Some q) (sym class);
      index = cell.index;
      start = cell.start ∙ ap (λ q. cell.index * cell_words q) (sym class);
    };
    unclaimed = heap-word (a + 2) (let from : heap_of p.before.blocks ≤ a = holds.address.from in omega arith) ∙ is.unclaimed;
    unmarked = λ marked. is.unmarked (sym (back.unlog-back p ready h ideal set now w gives a) ∙ marked);
  }
    where
      is : IsMade p s (h.locals m).owned (record { address = a; size = size_at s a })
      is = (now.epoch.knows m).objects (record { address = a; size = size_at s a }) made

      size : size_at s a ≡ size_at new a
      size = size-now a holds

      owned : IsOwned p s (h.locals m).number is.place.owned
      owned = (now.epoch.knows m).owned is.place.owned is.place.among

      kind : HasKind new (block_at p.before.blocks a) p.rules.fill
      kind = back.kind-same p ready h ideal set now w gives (block_at p.before.blocks a) p.rules.fill
          ∙ subst (λ (q : ℕ). HasKind s q p.rules.fill) is.place.here (owned-kind p s (h.locals m).number is.place.owned owned)

      class : class_at new (block_at p.before.blocks a) ≡ is.place.owned.class
      class = back.class-same p ready h ideal set now w gives (block_at p.before.blocks a) (subst (λ (q : ℕ). q < p.before.blocks) is.place.here owned.inside)
          ∙ ap (class_at s) (sym is.place.here) ∙ owned-class p s (h.locals m).number is.place.owned owned

  -- the age of an object is the one in its collector word
  age-then : (a : ℕ) → IsHeld p.before a → is_old s a ≡ is_old p.before a
  age-then a before = ap (λ v. nat_lt 0 p.before.base && nat_le p.before.base (v / 2 ^ 24)) ((now.epoch.stays a before).1 2 (omega arith))

  -- an old object was there as the epoch began
  old-there : (a : ℕ) → IsHeld s a → IsTrue (is_old s a) → IsHeld p.before a
  old-there a holds aged = elim (now.epoch.births a holds) as (λ _. IsHeld p.before a) [
    | inl there ↦ there
    | inr allocated ↦ absurd (
        let is : IsMade p s (h.locals allocated.0).owned (record { address = a; size = size_at s a }) = (now.epoch.knows allocated.0).objects (record { address = a; size = size_at s a }) allocated.1 in
        let both = and_parts (nat_lt 0 s.base) (nat_le s.base (word_at s (a + 2) / 2 ^ 24)) aged in
        let some : 0 < s.base = ltb-true 0 s.base both.0 in
        let least : s.base ≤ word_at s (a + 2) / 2 ^ 24 = leb-true s.base (word_at s (a + 2) / 2 ^ 24) both.1 in
        let blank : word_at s (a + 2) ≡ 0 = is.unclaimed in
        omega arith)
  ]

  logs : (a : ℕ) → IsTrue (is_logged_under p.rules new a) → IsTrue (is_logged_under p.rules p.before a) ⊎ StoresInto first past (name_at new a)
  logs a logged =
      let parts = and_parts p.rules.young (is_start new a && is_old new a && not (is_unlogged new a)) logged in
      let more = and_parts (is_start new a && is_old new a) (not (is_unlogged new a)) parts.1 in
      let most = and_parts (is_start new a) (is_old new a) more.0 in
      let holds : IsHeld s a = held-then a (marks.held new a most.0) in
      let aged : IsTrue (is_old s a) = sym (back.old-back p ready h ideal set now w gives a holds) ∙ most.1 in
      let there : IsHeld p.before a = old-there a holds aged in
      let clear : is_unlogged s a ≡ false = sym (back.unlog-back p ready h ideal set now w gives a) ∙ not-true (is_unlogged new a) more.1 in
      elim (cases_Bool (is_unlogged p.before a)) as (λ _. IsTrue (is_logged_under p.rules p.before a) ⊎ StoresInto first past (name_at new a)) [
        | inr before ↦ inl (and_from p.rules.young (is_start p.before a && is_old p.before a && not (is_unlogged p.before a)) parts.0
            (and_from (is_start p.before a && is_old p.before a) (not (is_unlogged p.before a)) (and_from (is_start p.before a) (is_old p.before a) there.start (sym (age-then a there) ∙ aged)) (ap not before)))
        | inl was ↦ elim (recorded.logs a was clear) as (λ _. IsTrue (is_logged_under p.rules p.before a) ⊎ StoresInto first past (name_at new a)) [
          | inl pending ↦ absurd (let none : (h.locals pending.0).pending ≡ 0 = elim (strangers pending.0) as (λ _. (h.locals pending.0).pending ≡ 0) [ inl known ↦ (rest pending.0 known).stored | inr none ↦ none ] in let is : (h.locals pending.0).pending ≡ a = pending.1 in
              let from : heap_of p.before.blocks ≤ a = holds.address.from in omega arith)
          | inr into ↦ inr (subst (StoresInto first past) (sym (name-now a holds)) into)
        ]
      ]
    where
      not-true : (b : Bool) → not b ≡ true → b ≡ false
      not-true true is = let wrong : false ≡ true = is in cc
      not-true false is = refl

  taken : free_of p.before ≤ free_of new + allowance_of p.rules.reserve p.before
  taken =
      let most : ℕ = allowance_of p.rules.reserve p.before in
      let less : sum_by (λ m. taken_by (h.locals m)) (numbers_of p.mutators) ≤ sum_by (λ m. allowed_to most (h.locals m)) (numbers_of p.mutators) =
      sum-le (λ m. taken_by (h.locals m)) (λ m. allowed_to most (h.locals m)) (λ m. omega arith) (numbers_of p.mutators) in
      let bound : smaller (word_at s 1) most ≤ most = smaller-most (word_at s 1) most in
      let same : free_of new ≡ free_of s = ap (λ f. count_by f (range_with_len 0 p.before.blocks)) (fun_ext (λ k. back.kind-same p ready h ideal set now w gives k kinds.Free)) in
      let a = counted.allowed in let b = counted.free in
      omega (arith, less, bound, same, a, b)

  in-block : (k : ℕ) → k < p.before.blocks → (HasKind p.before k kinds.Free × HasKind new k p.rules.fill) ⊎ (block_word new k ≡ block_word p.before k)
  in-block k there = elim (back.word-back p ready h ideal set now w gives k there) as (λ _. (HasKind p.before k kinds.Free × HasKind new k p.rules.fill) ⊎ (block_word new k ≡ block_word p.before k)) [
    | inl same ↦ inr same
    | inr took ↦ inl (took.0, took.1)
  ]

  used : (k : ℕ) → HasKind p.before k kinds.Free → (HasKind new k kinds.Free → ⊥) → (a : ℕ) × IsHeld new a × (block_at p.before.blocks a ≡ k)
  used k free gone =
      let there : k < p.before.blocks = kind-within p.before k kinds.Free free in
      elim (now.epoch.blocks k there) as (λ _. (a : ℕ) × IsHeld new a × (block_at p.before.blocks a ≡ k)) [
        | inl same ↦ absurd (gone (back.kind-same p ready h ideal set now w gives k kinds.Free
            ∙ kind-from s k kinds.Free there (ap (λ v. v % 256) same ∙ kind-code p.before k kinds.Free free)))
        | inr own ↦
            (let x = (rest own.0 (now.epoch.members own.0 own.1 own.2)).used own.1 own.2 (subst (λ (q : ℕ). HasKind p.before q kinds.Free) (sym own.3) free) in
            (x.0.address, held-now x.0.address ((now.epoch.knows own.0).objects x.0 x.1).held, x.2 ∙ own.3))
      ]

  pub stopped : Stopped p.rules (numbers_of p.mutators) p.before first past new (mutators_in p h)
  stopped = record {
    listed = mutators-listed h.locals (numbers_of p.mutators) now.epoch.numbers;
    lawful = back.lawful-back p ready h ideal set now w gives;
    remembers = back.remembers-back p ready h ideal set now w gives;
    represents = standing.represents new (mutators_in p h) ideal set (back.models-back p ready h ideal set now w gives);
    blocks = refl;
    number = refl;
    base = refl;
    stays = λ a before. let is = now.epoch.stays a before in (held-now a is.0, λ j few. heap-word (a + j) (let from : heap_of p.before.blocks ≤ a = is.0.address.from in omega arith) ∙ is.1 j few);
    births = λ a holds. let then : IsHeld s a = held-then a holds in
        elim (now.epoch.births a then) as (λ _. IsHeld p.before a ⊎ IsBirth p.rules p.before past new a) [ inl there ↦ inl there | inr allocated ↦ inr (birth a allocated.0 then allocated.1) ];
    all_held = λ n any. let is = recorded.all_held n any in (is.0, held-now is.0 is.1, name-now is.0 is.1 ∙ is.2);
    logs = logs;
    taken = taken;
    in_block = in-block;
    used = used;
  }

-- as an epoch begins, its history is empty
first-recorded : (p : Epoch) (first : IdealHeap) → Recorded p first [] p.before (first_local_of p.mutators)
first-recorded p first = record {
  allocated = λ m x there. absurd (first-states (λ l. Contains l.made x → ⊥) (λ k. contains-none x) p.mutators m there);
  all_held = λ n any. absurd (let within : any.0 < 0 = any.2 in omega arith);
  each = tt;
  logs = λ a was clear. let wrong : true ≡ false = sym was ∙ clear in cc;
}

-- after each log of an epoch
pub log-recorded : (p : Epoch) (i : IdealHeap) (log : List LogEntry) → IsEpochLog p i log → Recorded p i (history_of p log) (heap_after p log) (local_after_log p log)
log-recorded p i log is = recorded-ends p is.ready log (first_machine p) i [] (IsReachable p.before (roots_of p.mutators)) (first-holds p is.ready i is.represents) (first-recorded p i) is.steps

pub log-counted : (p : Epoch) (i : IdealHeap) (log : List LogEntry) → IsEpochLog p i log → TicketsAreCounted p (heap_after p log) (local_after_log p log)
log-counted p i log is = counted-ends p is.ready is.represents.mutators.differ log (first_machine p) i (IsReachable p.before (roots_of p.mutators)) (first-holds p is.ready i is.represents) (first-counted p is.ready) is.steps

pub log-seen : (p : Epoch) (i : IdealHeap) (log : List LogEntry) → IsEpochLog p i log → AreSeen p (heap_after p log) (local_after_log p log)
log-seen p i log is = seen-ends p is.ready log (first_machine p) i (IsReachable p.before (roots_of p.mutators)) (first-holds p is.ready i is.represents) (first-seen p is.ready) is.steps

pub log-loaded : (p : Epoch) (i : IdealHeap) (log : List LogEntry) → IsEpochLog p i log → AreLoaded p (heap_after p log) (local_after_log p log)
log-loaded p i log is = loaded-ends p is.ready log (first_machine p) i (IsReachable p.before (roots_of p.mutators)) (first-holds p is.ready i is.represents) (first-loaded p) is.steps

-- at the end of an epoch
pub log-stopped : (p : Epoch) (i : IdealHeap) (log : List LogEntry) (new : HeapState) → IsEpochLog p i log → AreBetweenCalls p log → GivesBack (heap_after p log) new
    → Stopped p.rules (numbers_of p.mutators) p.before i (history_of p log) new (mutators_after p log)
log-stopped p i log new is rest gives =
    let end = log-ends p i log is.ready is.represents is.steps in
    let same : new ≡ with_words p.before new.words = same-layout p.before new gives.blocks gives.number gives.base in
    subst (λ (t : HeapState). Stopped p.rules (numbers_of p.mutators) p.before i (history_of p log) t (mutators_after p log)) (sym same)
    (stopped p is.ready (machine_after p log) i (history_of p log) end.set end.moment (log-recorded p i log is) (log-counted p i log is) rest (stranger-stored p log is.steps) new.words (subst (GivesBack (heap_after p log)) same gives))
