-- The end of an epoch of a world.
use Rattle.std.proofs.Common.{◌≡◌, ◌≢◌, ◌≤◌, ◌%◌, ◌&&◌, ◌||◌, false, IsTrue, nat_eq, nat_lt, refl, sym, ◌∙◌, ap, subst, ℕ, suc, ◌+◌, ◌<◌, inl, inr, arith, List, [], ◌∷◌, length, map}
use Rattle.std.specs.Prelude.{Some, None, Option, slice_get, sum_by, count_by}
use Rattle.std.specs.List.{Contains, range_with_len}
use Rattle.std.proofs.Math.Path.{fun_ext}
use Rattle.std.proofs.lemmas.Bool.{cases_lt, le-ltb, false_from_ne_true}
use Rattle.std.proofs.lemmas.List.{length-map}
use Rattle.std.proofs.lemmas.List.Sums.{sum_by-cons}
use Rattle.heap_layout.specs.Blocks.{kind_code}
use Rattle.heap_layout.specs.declared.block.Kind.{Kind}
use Rattle.heap_layout.specs.Zones.{block_at, row_words}
use Rattle.heap_layout.specs.declared.block.Kind.TheVariants as kinds
use Rattle.heap_layout.specs.declared.region.Region.{Region}
use Rattle.ideal_heap.specs.Ideal.{IdealHeap}
use Rattle.object_model.specs.Objects.{HeapState, state_of, with_words, word_at, block_word, has_kind, HasKind, owner_at, line_marked, IsHeld, size_at}
use Rattle.object_model.specs.Graphs.{MutatorState, numbers_of, Represents, PointsTo, register_at, AreRegisters}
use Rattle.object_model.proofs.Frames.{same-layout}
use Rattle.object_model.proofs.OneKind.{one-kind}
use Rattle.ideal_heap.specs.Runs.{Entry}
use Rattle.object_model.proofs.OneKind.{kind-within}
use Rattle.sessions.specs.Plans.{Rules}
use Rattle.sessions.specs.Grants.{BlockCounts, counts_with}
use Rattle.sessions.specs.Fitting.{free_of, large_of, counts_of}
use Rattle.sessions.specs.Sessions.{Stopped}
use Rattle.mutator_core.specs.declared.state.Local.{Local}
use Rattle.mutator_core.specs.declared.state.LogEntry.{LogEntry}
use Rattle.mutator_core.specs.declared.state.OwnedBlock.{OwnedBlock}
use Rattle.mutator_core.specs.declared.state.Extent.{Extent}
use Rattle.mutator_core.specs.Machine.{Epoch, Machine, mutator_of}
use Rattle.mutator_core.specs.Logs.{machine_after, heap_after, mutators_after, local_after_log, history_of, AreBetweenCalls}
use Rattle.mutator_core.specs.Guards.{allowance}
use Rattle.mutator_core.specs.Epochs.{IsOwned, IsMade}
use Rattle.mutator_core.specs.Tickets.{TicketsAreCounted, tickets_in, tickets_below, taken_by, smaller}
use Rattle.mutator_core.specs.Closing.{GivesBack}
use Rattle.mutator_core.proofs.Sums.{free-most}
use Rattle.mutator_core.proofs.Lists.{contains-cases, contains-none}
use Rattle.mutator_core.proofs.Fills.{owned-owner}
use Rattle.mutator_core.proofs.Places.{place-owner}
use Rattle.mutator_core.proofs.EpochEnds.{log-stopped, log-counted}
use Rattle.mutator_core.proofs.GivenBack as back
use Rattle.mutator_calls.specs.declared.need.Mutator.{Mutator}
use Rattle.object_model.proofs.Among.{all-to}
use Rattle.object_model.proofs.Representation.{points-reference}
use Rattle.heap_users.specs.Beginnings.{MayUse}
use Rattle.plain_row.specs.declared.plain_row.PlainRow.{PlainRow}
use Rattle.local_allocators.specs.declared.local_seat.LocalSeat.{LocalSeat}
use Rattle.block_regions.specs.declared.block_notes.BlockNote.{BlockNote}
use Rattle.block_regions.specs.declared.block_notes.BlockNote.TheVariants.{Unowned, Owned}
use Rattle.heap_users.specs.Users.{mutator_state}
use Rattle.local_allocators.specs.Seats.{ticket_of}
use Rattle.block_regions.specs.Notes.{FillsHoles, FlagsCover, IsBlockNote, IsOwnedNote, AreFilled}
use Rattle.block_regions.specs.Regions.{IsRegionIn}
use Rattle.plain_row.specs.Worlds.{HasState, IsAt, IsInSomeEpoch}
use Rattle.block_regions.proofs.BlockFlags.{covers-kept}
use Rattle.block_regions.proofs.LineRegions.{here-some}
use Rattle.block_regions.proofs.Regions.{fills-cases, region-some}
use Rattle.block_regions.proofs.Lists.{get-some, get-below}
use Rattle.plain_row.proofs.Turns.{seat, note-right, owned-note, most-blocks, extent}
use Rattle.block_regions.proofs.PlacedNotes.{filled-code}
use Rattle.plain_row.proofs.EpochFacts as facts

-- the mutator with a number of the list
pub member : (ms : List Mutator) (n : ℕ) → Contains (map (λ m. m.number) ms) n → (k : ℕ) × (m : Mutator) × (slice_get ms k ≡ Some m) × (m.number ≡ n)
member [] n known = absurd (contains-none n known)
member (m ∷ ms) n known = elim (contains-cases m.number (map (λ x. x.number) ms) n known) as (λ _. (k : ℕ) × (x : Mutator) × (slice_get (m ∷ ms) k ≡ Some x) × (x.number ≡ n)) [
  | inl here ↦ (0, m, refl, sym here)
  | inr there ↦ (let rest = member ms n there in (suc rest.0, rest.1, rest.2, rest.3))
]

-- the mutators, by the states of their numbers
pub states-listed : (f : ℕ → MutatorState) (ms : List Mutator) → ((k : ℕ) (m : Mutator) → slice_get ms k ≡ Some m → f m.number ≡ mutator_state m)
    → map f (map (λ m. m.number) ms) ≡ map mutator_state ms
states-listed f [] each = refl
states-listed f (m ∷ ms) each = ap (λ x. x ∷ map f (map (λ y. y.number) ms)) (each 0 m refl) ∙ ap (λ xs. mutator_state m ∷ xs) (states-listed f ms (λ k x is. each (suc k) x is))

-- a sum over the seats, and one over the mutators' numbers
pub sum-seats : (f : ℕ → ℕ) (g : LocalSeat → ℕ) (ms : List Mutator) (xs : List LocalSeat) → length xs ≡ length ms
    → ((k : ℕ) (m : Mutator) (x : LocalSeat) → slice_get ms k ≡ Some m → slice_get xs k ≡ Some x → f m.number ≡ g x)
    → sum_by f (map (λ m. m.number) ms) ≡ sum_by g xs
sum-seats f g [] [] same each = refl
sum-seats f g [] (x ∷ xs) same each = absurd (let n = length xs in omega arith)
sum-seats f g (m ∷ ms) [] same each = absurd (let n = length ms in omega arith)
sum-seats f g (m ∷ ms) (x ∷ xs) same each =
    let many : length xs ≡ length ms = (let e : suc (length xs) ≡ suc (length ms) = same in omega arith) in
    sum_by-cons f m.number (map (λ y. y.number) ms) ∙ ap (λ n. n + sum_by f (map (λ y. y.number) ms)) (each 0 m x refl refl)
    ∙ ap (λ n. g x + n) (sum-seats f g ms xs many (λ k y z is there. each (suc k) y z is there)) ∙ sym (sum_by-cons g x xs)

pub sum-both : {X : Type 0} (f g : X → ℕ) (xs : List X) → sum_by (λ x. f x + g x) xs ≡ sum_by f xs + sum_by g xs
sum-both f g [] = refl
sum-both f g (x ∷ xs) =
    let e : sum_by (λ y. f y + g y) (x ∷ xs) ≡ f x + g x + sum_by (λ y. f y + g y) xs = sum_by-cons (λ y. f y + g y) x xs in
    let a : sum_by f (x ∷ xs) ≡ f x + sum_by f xs = sum_by-cons f x xs in
    let b : sum_by g (x ∷ xs) ≡ g x + sum_by g xs = sum_by-cons g x xs in
    let rest : sum_by (λ y. f y + g y) xs ≡ sum_by f xs + sum_by g xs = sum-both f g xs in
    omega arith

-- two sums, and what became of the Free blocks
totals : (before new after taken tickets seats sum old now : ℕ) → before ≡ after + taken → new ≡ after → sum ≡ taken + tickets → sum ≡ old → tickets ≡ seats → old ≡ now → before + seats ≡ new + now
totals before new after taken tickets seats sum old now free same both all each word = omega arith

module _ (p : Epoch) (i : IdealHeap) (log : List LogEntry) (w : PlainRow) (at : IsAt p i log w) where
  abbrev h : Machine
  h = machine_after p log

  -- the mutators of the world are those of the machine
  mutator-same : (k : ℕ) (m : Mutator) → slice_get w.mutators.items k ≡ Some m → mutator_of (h.locals m.number) ≡ mutator_state m
  mutator-same k m is =
      let found = seat p i log w at k m is in
      let state : HasState m found.0 (h.locals m.number) = at.each k m found.0 is found.1 in
      let l : Local = h.locals m.number in
      ap (λ (n : ℕ). let o : MutatorState = record { number = n; births = l.births; registers = l.registers } in o) ((facts.moment p i log w at).epoch.numbers m.number)
      ∙ ap (λ (n : ℕ). let o : MutatorState = record { number = m.number; births = n; registers = l.registers } in o) state.births
      ∙ ap (λ (r : List ℕ). let o : MutatorState = record { number = m.number; births = m.births; registers = r } in o) state.registers

  pub mutators-same : mutators_after p log ≡ map mutator_state w.mutators.items
  mutators-same = ap (map (λ n. mutator_of (h.locals n))) (sym at.numbers) ∙ states-listed (λ n. mutator_of (h.locals n)) w.mutators.items mutator-same

  -- a block that a mutator took when it was Free has an object of the mutator
  used : AreFilled w.notes.items → (m : ℕ) (o : OwnedBlock) → Contains (h.locals m).owned o → HasKind p.before o.block kinds.Free
      → (x : Extent) × Contains (h.locals m).made x × (block_at p.before.blocks x.address ≡ o.block)
  used filled m o among free =
      let now = (facts.moment p i log w at).epoch in
      let is : IsOwned p (heap_after p log) (h.locals m).number o = (now.knows m).owned o among in
      let number : (h.locals m).number ≡ m = now.numbers m in
      let own : owner_at (heap_after p log) o.block ≡ m = owned-owner p (heap_after p log) (h.locals m).number o is ∙ number in
      let some : 0 < m = subst (λ (n : ℕ). 0 < n) number is.somebody in
      let note = get-some w.notes.items o.block (subst (λ (n : ℕ). o.block < n) (sym (at.notes.len ∙ sym (facts.blocks p i log w at))) is.inside) in
      of-note m o free own some note.0 note.1
    where
      of-tail : (m : ℕ) (o : OwnedBlock) → HasKind p.before o.block kinds.Free → owner_at (heap_after p log) o.block ≡ m → (a : ℕ) → IsHeld (heap_after p log) a → block_at p.before.blocks a ≡ o.block
          → (x : Extent) × Contains (h.locals m).made x × (block_at p.before.blocks x.address ≡ o.block)
      of-tail m o free own a holds here =
          elim ((facts.moment p i log w at).epoch.births a holds) as (λ _. (x : Extent) × Contains (h.locals m).made x × (block_at p.before.blocks x.address ≡ o.block)) [
            | inl before ↦ absurd ((at.epoch.ready.lawful.but_lines.free o.block free).empty a a before (record { from = omega arith; below = omega arith }) here)
            | inr born ↦ (
                let x : Extent = record { address = a; size = size_at (heap_after p log) a } in
                let made : IsMade p (heap_after p log) (h.locals born.0).owned x = ((facts.moment p i log w at).epoch.knows born.0).objects x born.1 in
                let owner : owner_at (heap_after p log) (block_at p.before.blocks a) ≡ born.0 = (place-owner p h (facts.moment p i log w at).epoch born.0 a x.size made.place).0 in
                let same : born.0 ≡ m = sym owner ∙ ap (owner_at (heap_after p log)) here ∙ own in
                (x, subst (λ (n : ℕ). Contains (h.locals n).made x) same born.1, here))
          ]

      -- no line of it was marked as the epoch began, and none is now
      unmarked : (k line : ℕ) → HasKind p.before k kinds.Free → line < 256 → IsTrue (line_marked (heap_after p log) k line) → ⊥
      unmarked k line free few set = (at.epoch.ready.lawful.but_lines.free k free).lines line few
          (sym ((facts.moment p i log w at).epoch.lines k line (kind-within p.before k kinds.Free free) few) ∙ set)

      object-of : (m : ℕ) (o : OwnedBlock) → HasKind p.before o.block kinds.Free → (region : Region) → o.block < (heap_after p log).blocks → IsRegionIn w.fill (heap_after p log) o.block region → 0 < region.next
          → (a : ℕ) × IsHeld (heap_after p log) a × (block_at (heap_after p log).blocks a ≡ o.block)
      object-of m o free region there left full = elim (fills-cases w.fill at.fills) as (λ _. (a : ℕ) × IsHeld (heap_after p log) a × (block_at (heap_after p log).blocks a ≡ o.block)) [
        | inl plain ↦ region-some w.fill plain (heap_after p log) o.block region there left full
        | inr lines ↦ here-some (heap_after p log) o.block region (subst (λ (f : Kind). IsRegionIn f (heap_after p log) o.block region) lines left)
            (λ line few set. unmarked o.block line free few set) full
      ]

      of-note : (m : ℕ) (o : OwnedBlock) → HasKind p.before o.block kinds.Free → owner_at (heap_after p log) o.block ≡ m → 0 < m → (note : BlockNote) → slice_get w.notes.items o.block ≡ Some note
          → (x : Extent) × Contains (h.locals m).made x × (block_at p.before.blocks x.address ≡ o.block)
      of-note m o free own some (Unowned least) is = absurd (
          let right : IsBlockNote w.fill (heap_after p log) o.block (Unowned least) = subst (λ (t : HeapState). IsBlockNote w.fill t o.block (Unowned least)) at.heap (note-right p i log w at o.block (Unowned least) is) in
          let none : owner_at (heap_after p log) o.block ≡ 0 = right.owner in omega arith)
      of-note m o free own some (Owned owner region) is =
          let right : IsOwnedNote w.fill (heap_after p log) o.block owner region = subst (λ (t : HeapState). IsOwnedNote w.fill t o.block owner region) at.heap (owned-note p i log w at o.block owner region is) in
          let full : 0 < region.next = filled o.block owner region is in
          let some = object-of m o free region (kind-within (heap_after p log) o.block w.fill right.kind) right.left full in
          of-tail m o free own some.0 some.1 some.2

  -- each mutator is between two calls
  pub between : AreFilled w.notes.items → AreBetweenCalls p log
  between filled m known =
      let k = member w.mutators.items m (subst (λ (ns : List ℕ). Contains ns m) (sym at.numbers) known) in
      let found = seat p i log w at k.0 k.1 k.2 in
      let state : HasState k.1 found.0 (h.locals m) = subst (λ (n : ℕ). HasState k.1 found.0 (h.locals n)) k.3 (at.each k.0 k.1 found.0 k.2 found.1) in
      record { none = state.none; stored = state.stored; used = used filled m }

  counted : TicketsAreCounted p (heap_after p log) (local_after_log p log)
  counted = log-counted p i log at.epoch

  budget : word_at (heap_after p log) 1 ≡ word_at (state_of w.row) 1
  budget = ap (λ (t : HeapState). word_at t 1) (sym at.heap)

  -- what the mutators have of tickets is what their seats have
  held : (f : Option ℕ → ℕ) → sum_by (λ m. f (local_after_log p log m).ticket) (numbers_of p.mutators) ≡ sum_by (λ x. f x.ticket) w.seats.items
  held f = ap (sum_by (λ m. f (local_after_log p log m).ticket)) (sym at.numbers)
      ∙ sum-seats (λ m. f (local_after_log p log m).ticket) (λ x. f x.ticket) w.mutators.items w.seats.items at.seats (λ k m x is there. ap f (at.each k m x is there).ticket)

  -- the tickets drawn are the Free blocks taken and the unused tickets
  pub tickets-now : free_of p.before + sum_by (λ x. tickets_in x.ticket) w.seats.items ≡ free_of (heap_after p log) + word_at (state_of w.row) 1
  tickets-now =
      let taken : ℕ = sum_by (λ m. taken_by (local_after_log p log m)) (numbers_of p.mutators) in
      let both : sum_by (λ m. taken_by (local_after_log p log m) + tickets_in (local_after_log p log m).ticket) (numbers_of p.mutators) ≡ taken + sum_by (λ m. tickets_in (local_after_log p log m).ticket) (numbers_of p.mutators) =
      sum-both (λ m. taken_by (local_after_log p log m)) (λ m. tickets_in (local_after_log p log m).ticket) (numbers_of p.mutators) in
      totals (free_of p.before) (free_of (heap_after p log)) (free_of (heap_after p log)) taken _ _ _ _ _ counted.free refl both counted.budget (held tickets_in) budget

  module _ (new : HeapState) (gives : GivesBack (state_of w.row) new) where
    gives-after : GivesBack (heap_after p log) new
    gives-after = subst (λ (t : HeapState). GivesBack t new) at.heap gives

    pub ended : AreFilled w.notes.items → Stopped p.rules (numbers_of p.mutators) p.before i (history_of p log) new (map mutator_state w.mutators.items)
    ended filled = subst (Stopped p.rules (numbers_of p.mutators) p.before i (history_of p log) new) mutators-same (log-stopped p i log new at.epoch (between filled) gives-after)

    -- the same blocks are Free
    pub free-same : free_of new ≡ free_of (heap_after p log)
    free-same =
        let same : new ≡ with_words p.before new.words = same-layout p.before new gives-after.blocks gives-after.number gives-after.base in
        let e : free_of (with_words p.before new.words) ≡ free_of (heap_after p log) = ap (λ f. count_by f (range_with_len 0 p.before.blocks))
        (fun_ext (λ k. back.kind-same p at.epoch.ready h _ (facts.end p i log w at).set (facts.moment p i log w at) new.words (subst (GivesBack (heap_after p log)) same gives-after) k kinds.Free)) in
        ap free_of same ∙ e

    -- the flags cover what is logged then
    pub flags-after : FlagsCover p.rules new w.flags.items
    flags-after =
        let same : new ≡ with_words p.before new.words = same-layout p.before new gives-after.blocks gives-after.number gives-after.base in
        let set = (facts.end p i log w at).set in
        let now = facts.moment p i log w at in
        let given : GivesBack (heap_after p log) (with_words p.before new.words) = subst (GivesBack (heap_after p log)) same gives-after in
        subst (λ (t : HeapState). FlagsCover p.rules t w.flags.items) (sym same)
        (covers-kept p.rules (heap_after p log) (with_words p.before new.words) w.flags.items refl (λ a is.
        let was : IsHeld (heap_after p log) a = back.held-before p at.epoch.ready h _ set now new.words given a is.held in
        record {
          held = was;
          old = sym (back.old-back p at.epoch.ready h _ set now new.words given a was) ∙ is.old;
          clear = sym (back.unlog-back p at.epoch.ready h _ set now new.words given a) ∙ is.clear;
        }) (subst (λ (t : HeapState). FlagsCover p.rules t w.flags.items) at.heap at.flags))

    pub tickets-drawn : free_of p.before + sum_by (λ x. tickets_in x.ticket) w.seats.items ≡ free_of new + word_at (state_of w.row) 1
    tickets-drawn = tickets-now ∙ ap (λ n. n + word_at (state_of w.row) 1) (sym free-same)

    pub tickets-allowed : free_of p.before + sum_by (λ x. tickets_below (allowance p) x.ticket) w.seats.items ≡ free_of new + smaller (word_at (state_of w.row) 1) (allowance p)
    tickets-allowed =
        let taken : ℕ = sum_by (λ m. taken_by (local_after_log p log m)) (numbers_of p.mutators) in
        let both : sum_by (λ m. taken_by (local_after_log p log m) + tickets_below (allowance p) (local_after_log p log m).ticket) (numbers_of p.mutators) ≡ taken + sum_by (λ m. tickets_below (allowance p) (local_after_log p log m).ticket) (numbers_of p.mutators) =
        sum-both (λ m. taken_by (local_after_log p log m)) (λ m. tickets_below (allowance p) (local_after_log p log m).ticket) (numbers_of p.mutators) in
        totals (free_of p.before) (free_of new) (free_of (heap_after p log)) taken _ _ _ _ _ counted.free free-same both counted.allowed (held (tickets_below (allowance p)))
        (ap (λ n. smaller n (allowance p)) budget)

-- how many blocks, seats and tickets there are
pub record AreFew (w : PlainRow) : Type 0 where
  pub free : w.counts.free ≤ 1024
  pub seats : length w.seats.items ≤ 16
  pub unused : sum_by (λ x. tickets_in x.ticket) w.seats.items ≤ 16
  pub drawn : word_at (state_of w.row) 1 ≤ w.counts.free + sum_by (λ x. tickets_in x.ticket) w.seats.items

tickets-most : (xs : List LocalSeat) → sum_by (λ x. tickets_in x.ticket) xs ≤ length xs
tickets-most [] = omega arith
tickets-most (x ∷ xs) =
    let e : sum_by (λ y. tickets_in y.ticket) (x ∷ xs) ≡ tickets_in x.ticket + sum_by (λ y. tickets_in y.ticket) xs = sum_by-cons (λ y. tickets_in y.ticket) x xs in
    let one : tickets_in x.ticket ≤ 1 = one-ticket x.ticket in
    let rest : sum_by (λ y. tickets_in y.ticket) xs ≤ length xs = tickets-most xs in
    omega arith
  where
    one-ticket : (o : Option ℕ) → tickets_in o ≤ 1
    one-ticket None = omega arith
    one-ticket (Some t) = omega arith

pub are-few : (p : Epoch) (i : IdealHeap) (log : List LogEntry) (w : PlainRow) → IsAt p i log w → AreFew w
are-few p i log w at =
    let free : w.counts.free ≡ free_of p.before = ap (λ (c : BlockCounts). c.free) at.lists.counts in
    let most : free_of p.before ≤ p.before.blocks = free-most p.before in
    let blocks : p.before.blocks ≡ w.row.layout.blocks = facts.blocks p i log w at in
    let few : w.row.layout.blocks ≤ 1024 = most-blocks p i log w at in
    let seats : length w.seats.items ≡ length w.mutators.items = at.seats in
    let named : length w.mutators.items ≡ length (numbers_of p.mutators) = sym (length-map w.mutators.items (λ m. m.number)) ∙ ap length at.numbers in
    let listed : length (numbers_of p.mutators) ≡ length p.mutators = length-map p.mutators (λ m. m.number) in
    let limit : length p.mutators ≤ 16 = at.epoch.ready.few in
    let sum : sum_by (λ x. tickets_in x.ticket) w.seats.items ≤ length w.seats.items = tickets-most w.seats.items in
    let now : free_of p.before + sum_by (λ x. tickets_in x.ticket) w.seats.items ≡ free_of (heap_after p log) + word_at (state_of w.row) 1 = tickets-now p i log w at in
    record { free = omega arith; seats = omega arith; unused = omega arith; drawn = omega arith }

pub more-words : (w : PlainRow) → IsInSomeEpoch w → 1 < length (state_of w.row).words
more-words w some =
    let many : length (state_of w.row).words ≡ row_words w.row.layout.blocks = extent some.epoch some.ideal some.log w some.at in
    omega arith

-- the large blocks stay
large-same : (rules : Rules) → FillsHoles rules.fill → (ns : List ℕ) (old : HeapState) (i : IdealHeap) (part : List Entry) (new : HeapState) (ms : List MutatorState)
    → Stopped rules ns old i part new ms → large_of new ≡ large_of old
large-same rules fills ns old i part new ms stopped =
    ap (λ n. count_by (λ k. has_kind new k kinds.LargeHead || has_kind new k kinds.LargeTail) (range_with_len 0 n)) stopped.blocks
    ∙ ap (λ f. count_by f (range_with_len 0 old.blocks)) (fun_ext (λ k.
    ap (λ b. b || has_kind new k kinds.LargeTail) (same k kinds.LargeHead (omega arith) (omega arith))
    ∙ ap (λ b. has_kind old k kinds.LargeHead || b) (same k kinds.LargeTail (omega arith) (omega arith))))
  where
    -- a kind that is neither Free nor one that mutators fill
    same : (k : ℕ) (kind : Kind) → kind_code kind ≢ 0 → 5 < kind_code kind → has_kind new k kind ≡ has_kind old k kind
    same k kind some other = elim (cases_lt k old.blocks) as (λ _. has_kind new k kind ≡ has_kind old k kind) [
      | inr past ↦ (let none : nat_lt k old.blocks ≡ false = le-ltb k old.blocks past in
          ap (λ n. nat_lt k n && nat_eq (block_word new k % 256) (kind_code kind)) stopped.blocks
          ∙ ap (λ b. b && nat_eq (block_word new k % 256) (kind_code kind)) none ∙ ap (λ b. b && nat_eq (block_word old k % 256) (kind_code kind)) (sym none))
      | inl there ↦ elim (stopped.in_block k there) as (λ _. has_kind new k kind ≡ has_kind old k kind) [
        | inr word ↦ ap (λ n. nat_lt k n && nat_eq (block_word new k % 256) (kind_code kind)) stopped.blocks
            ∙ ap (λ v. nat_lt k old.blocks && nat_eq (v % 256) (kind_code kind)) word
        | inl taken ↦ (
            let fill : kind_code rules.fill ≤ 5 = (filled-code rules.fill fills).1 in
            false_from_ne_true (has_kind new k kind) (λ is. let e : kind_code kind ≡ kind_code rules.fill = one-kind new k kind rules.fill is taken.1 in omega arith)
            ∙ sym (false_from_ne_true (has_kind old k kind) (λ is. some (one-kind old k kind kinds.Free is taken.0))))
      ]
    ]

-- the counts after the epoch
pub counts-after : (p : Epoch) (i : IdealHeap) (log : List LogEntry) (w : PlainRow) (at : IsAt p i log w) (new : HeapState) → GivesBack (state_of w.row) new
    → AreFilled w.notes.items → (free : ℕ) → free + word_at (state_of w.row) 1 ≡ w.counts.free + sum_by (λ x. tickets_in x.ticket) w.seats.items
    → counts_with w.counts.blocks free w.counts.large ≡ counts_of new
counts-after p i log w at new gives filled free is =
    let stopped = ended p i log w at new gives filled in
    let before : w.counts.free ≡ free_of p.before = ap (λ (c : BlockCounts). c.free) at.lists.counts in
    let blocks : w.counts.blocks ≡ new.blocks = ap (λ (c : BlockCounts). c.blocks) at.lists.counts ∙ sym stopped.blocks in
    let large : w.counts.large ≡ large_of new = ap (λ (c : BlockCounts). c.large) at.lists.counts
    ∙ sym (large-same p.rules (subst FillsHoles at.fill at.fills) (numbers_of p.mutators) p.before i (history_of p log) new (map mutator_state w.mutators.items) stopped) in
    let drawn : free_of p.before + sum_by (λ x. tickets_in x.ticket) w.seats.items ≡ free_of new + word_at (state_of w.row) 1 = tickets-drawn p i log w at new gives in
    let left : free ≡ free_of new = omega arith in
    ap (λ n. counts_with n free w.counts.large) blocks ∙ ap (λ n. counts_with new.blocks n w.counts.large) left ∙ ap (counts_with new.blocks (free_of new)) large

-- mutators with which a heap represents an ideal heap may use it
pub may-use : (s : HeapState) (ms : List MutatorState) (i : IdealHeap) → Represents s ms i → MayUse s ms
may-use s ms i is = record {
  mutators = is.mutators;
  registers = all-to (λ m. (d : ℕ) → d < 16 → PointsTo s (register_at m d) (i.registers m.number d)) (λ m. AreRegisters s m.registers)
      (λ m points d small. points-reference s (register_at m d) (i.registers m.number d) (points d small)) ms is.pointers.registers;
  names = is.births.held;
}

some-ticket : (o : Option LocalSeat) (t : ℕ) → ticket_of o ≡ Some t → (x : LocalSeat) × (o ≡ Some x) × (x.ticket ≡ Some t)
some-ticket None t is = absurd (let wrong : None ≡ Some t = is in cc)
some-ticket (Some x) t is = (x, refl, is)

-- an unused ticket was drawn
pub ticket-drawn : (w : PlainRow) → IsInSomeEpoch w → (k t : ℕ) → ticket_of (slice_get w.seats.items k) ≡ Some t → t < word_at (state_of w.row) 1
ticket-drawn w some k t is =
    let at = some.at in
    let x = some-ticket (slice_get w.seats.items k) t is in
    let m = get-some w.mutators.items k (subst (λ n. k < n) at.seats (get-below w.seats.items k x.0 x.1)) in
    subst (λ s. t < word_at s 1) (sym at.heap)
    ((log-counted some.epoch some.ideal some.log at.epoch).drawn m.0.number t ((at.each k m.0 x.0 m.1 x.1).ticket ∙ x.2))
