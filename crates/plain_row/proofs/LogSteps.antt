-- Several steps of the machine in a world that follows it, by the mutator whose turn it is.
use Rattle.std.proofs.Common.{◌≡◌, ◌≢◌, refl, sym, ◌∙◌, ap, subst, ℕ, suc, ◌<◌, ◌⊎◌, inl, inr, arith, List, [], ◌∷◌, ◌++◌, map, length}
use Rattle.std.specs.Prelude.{Some, slice_get, slice_index, unwrap_or}
use Rattle.std.specs.Option.{option_map}
use Rattle.std.proofs.lemmas.Bool.{cases_eq}
use Rattle.std.proofs.lemmas.List.{length-map}
use Rattle.std.proofs.lemmas.Option.{slice_get-map, get_or_from_slice_get}
use Rattle.ideal_heap.specs.Ideal.{IdealHeap}
use Rattle.object_model.specs.Objects.{HeapState, state_of, with_words, class_at}
use Rattle.mutator_core.specs.declared.state.LogEntry.{LogEntry}
use Rattle.mutator_core.specs.Machine.{Epoch, Machine, first_machine, heap_in, next}
use Rattle.mutator_core.specs.Histories.{IsLog, after}
use Rattle.mutator_core.specs.Logs.{machine_after, heap_after, local_after_log}
use Rattle.mutator_core.proofs.Regions.{after-append}
use Rattle.mutator_calls.specs.declared.need.Mutator.{Mutator}
use Rattle.plain_row.specs.declared.plain_row.PlainRow.{PlainRow}
use Rattle.local_allocators.specs.declared.local_seat.LocalSeat.{LocalSeat}
use Rattle.block_regions.specs.declared.block_notes.BlockNote.TheVariants.{Owned}
use Rattle.plain_row.specs.Rows.{IsTurn, mutator_number, number_at_turn, seat_at_turn}
use Rattle.local_allocators.specs.Seats.{blocks_of, over_of}
use Rattle.block_regions.specs.Elements.{ChangesAt}
use Rattle.block_regions.specs.Notes.{FillsHoles, FlagsCover, HasNotes, IsRegionOf}
use Rattle.plain_row.specs.Worlds.{IsAt, HasState, HasCursors, HasLists}
use Rattle.block_regions.proofs.Lists.{get-some, get-below, one-element, get-map}

-- two lists that differ at one place, and a function that does not see it
same-lists : {A : Type 0} (xs ys : List A) → length ys ≡ length xs → ((k : ℕ) → slice_get ys k ≡ slice_get xs k) → ys ≡ xs
same-lists [] [] len each = refl
same-lists [] (y ∷ ys) len each = absurd (omega arith)
same-lists (x ∷ xs) [] len each = absurd (omega arith)
same-lists (x ∷ xs) (y ∷ ys) len each =
    let first : y ≡ x = ap (λ o. unwrap_or o x) (each 0) in
    let rest : ys ≡ xs = same-lists xs ys (omega arith) (λ k. each (suc k)) in
    subst (λ z. y ∷ ys ≡ z ∷ xs) first (ap (λ zs. y ∷ zs) rest)

-- a log and more steps
pub log-longer : (p : Epoch) (h : Machine) (log more : List LogEntry) → IsLog p h log → IsLog p (after p h log) more → IsLog p h (log ++ more)
log-longer p h [] more is later = later
log-longer p h (x ∷ xs) more is later = (is.0, is.1, is.2, log-longer p (next p h x.mutator x.event) xs more is.3 later)

-- The world b after steps that leave the machine k: its row has the machine's words, and it has another mutator and
-- another seat for the one whose turn it is, with the machine's state. Its notes and
-- flags are right, and blocks keep their classes.
pub record Follows (p : Epoch) (log : List LogEntry) (a b : PlainRow) (k : Machine) : Type 0 where
  pub words : state_of b.row ≡ with_words (heap_after p log) k.words
  pub notes : HasNotes b.fill (state_of b.row) b.notes.items
  pub regions : (n c : ℕ) → IsRegionOf a.notes.items n c → IsRegionOf b.notes.items n c
  pub classes : (c : ℕ) → c < p.before.blocks → class_at (state_of b.row) c ≡ class_at (heap_after p log) c
  pub fill : b.fill ≡ a.fill
  pub young : b.young ≡ a.young
  pub allowed : b.allowance ≡ a.allowance
  pub lists : HasLists p a → HasLists p b
  pub flags : FlagsCover p.rules (state_of b.row) b.flags.items
  pub mutator : Mutator
  pub seat : LocalSeat
  pub mutators : ChangesAt a.mutators.items b.mutators.items a.turn mutator
  pub seats : ChangesAt a.seats.items b.seats.items a.turn seat
  pub number : mutator.number ≡ number_at_turn a
  pub blocks : seat.blocks ≡ blocks_of (seat_at_turn a)
  pub over : seat.over ≡ over_of (seat_at_turn a)
  pub state : HasState mutator seat (k.locals (number_at_turn a))
  pub others : (n : ℕ) → n ≢ number_at_turn a → k.locals n ≡ local_after_log p log n

-- the same blocks
pub cursors-of : (w : PlainRow) (n : ℕ) (x y : LocalSeat) → y.blocks ≡ x.blocks → y.over ≡ x.over → HasCursors w.fill w.notes.items (state_of w.row) n x
    → HasCursors w.fill w.notes.items (state_of w.row) n y
cursors-of w n x y same over is = record {
  classes = ap length same ∙ is.classes;
  each = λ class block some. is.each class block (ap (λ bs. slice_get bs class) (sym same) ∙ some);
  lined = λ block some. is.lined block (sym over ∙ some);
  over = λ lines block some. is.over lines block (sym over ∙ some);
  apart = λ lines block some here. is.apart lines block (sym over ∙ some) (ap (λ bs. slice_get bs 0) (sym same) ∙ here);
}

module _ (p : Epoch) (i : IdealHeap) (log : List LogEntry) (a : PlainRow) (at : IsAt p i log a) (turn : IsTurn a)
    (more : List LogEntry) (is : IsLog p (machine_after p log) more) (b : PlainRow) (up : Follows p log a b (after p (machine_after p log) more)) where
  abbrev m : ℕ
  m = number_at_turn a

  machine-is : machine_after p (log ++ more) ≡ after p (machine_after p log) more
  machine-is = after-append p (first_machine p) log more

  mutator : (x : Mutator) × (slice_get a.mutators.items a.turn ≡ Some x)
  mutator = get-some a.mutators.items a.turn turn.turn

  seat : (x : LocalSeat) × (slice_get a.seats.items a.turn ≡ Some x)
  seat = get-some a.seats.items a.turn (subst (λ n. a.turn < n) (sym turn.seats) turn.turn)

  number-is : number_at_turn a ≡ mutator.0.number
  number-is = ap mutator_number mutator.1

  others : (k : ℕ) (q : Mutator) (y : LocalSeat) → slice_get b.mutators.items k ≡ Some q → slice_get b.seats.items k ≡ Some y
      → ((k ≡ a.turn) × (q ≡ up.mutator) × (y ≡ up.seat)) ⊎ ((k ≢ a.turn) × (slice_get a.mutators.items k ≡ Some q) × (slice_get a.seats.items k ≡ Some y))
  others k q y e f = elim (cases_eq k a.turn) as (λ _. ((k ≡ a.turn) × (q ≡ up.mutator) × (y ≡ up.seat)) ⊎ ((k ≢ a.turn) × (slice_get a.mutators.items k ≡ Some q) × (slice_get a.seats.items k ≡ Some y))) [
    | inl here ↦ inl (
      here,
      one-element _ q up.mutator (subst (λ n. slice_get b.mutators.items n ≡ Some q) here e) up.mutators.here,
      one-element _ y up.seat (subst (λ n. slice_get b.seats.items n ≡ Some y) here f) up.seats.here,
    )
    | inr other ↦ inr (other, sym (up.mutators.others k other) ∙ e, sym (up.seats.others k other) ∙ f)
  ]

  numbers-same : (k : ℕ) → slice_get (map (λ q. q.number) b.mutators.items) k ≡ slice_get (map (λ q. q.number) a.mutators.items) k
  numbers-same k = slice_get-map (λ q. q.number) b.mutators.items k ∙ elim (cases_eq k a.turn) as (λ _. option_map (λ q. q.number) (slice_get b.mutators.items k) ≡ slice_get (map (λ q. q.number) a.mutators.items) k) [
    | inl here ↦ ap (λ n. option_map (λ q. q.number) (slice_get b.mutators.items n)) here ∙ ap (λ o. option_map (λ q. q.number) o) up.mutators.here
        ∙ ap (λ n. Some n) (up.number ∙ number-is) ∙ sym (get-map (λ q. q.number) a.mutators.items a.turn mutator.0 mutator.1) ∙ ap (λ n. slice_get (map (λ q. q.number) a.mutators.items) n) (sym here)
    | inr other ↦ ap (λ o. option_map (λ q. q.number) o) (up.mutators.others k other) ∙ sym (slice_get-map (λ q. q.number) a.mutators.items k)
  ]

  apart : (k : ℕ) (q : Mutator) → k ≢ a.turn → slice_get a.mutators.items k ≡ Some q → q.number ≢ number_at_turn a
  apart k q other is same = other (at.epoch.represents.mutators.differ k a.turn
      (subst (λ ns. k < length ns) at.numbers (subst (λ n. k < n) (sym (length-map a.mutators.items (λ z. z.number))) (get-below a.mutators.items k q is)))
      (subst (λ ns. a.turn < length ns) at.numbers (subst (λ n. a.turn < n) (sym (length-map a.mutators.items (λ z. z.number))) turn.turn))
      (subst (λ ns. slice_index ns k ≡ slice_index ns a.turn) at.numbers
      (get_or_from_slice_get (map (λ z. z.number) a.mutators.items) k q.number 0 (get-map (λ z. z.number) a.mutators.items k q is) ∙ same ∙ number-is
      ∙ sym (get_or_from_slice_get (map (λ z. z.number) a.mutators.items) a.turn mutator.0.number 0 (get-map (λ z. z.number) a.mutators.items a.turn mutator.0 mutator.1)))))

  each : (k : ℕ) (q : Mutator) (y : LocalSeat) → slice_get b.mutators.items k ≡ Some q → slice_get b.seats.items k ≡ Some y
      → HasState q y (local_after_log p (log ++ more) q.number)
  each k q y e f = subst (λ (z : Machine). HasState q y (z.locals q.number)) (sym machine-is) (elim (others k q y e f) as (λ _. HasState q y ((after p (machine_after p log) more).locals q.number)) [
    | inl mine ↦ subst (λ z. HasState z y ((after p (machine_after p log) more).locals z.number)) (sym mine.1)
        (subst (λ z. HasState up.mutator z ((after p (machine_after p log) more).locals up.mutator.number)) (sym mine.2)
        (subst (λ n. HasState up.mutator up.seat ((after p (machine_after p log) more).locals n)) (sym up.number) up.state))
    | inr theirs ↦ subst (HasState q y) (sym (up.others q.number (apart k q theirs.0 theirs.1))) (at.each k q y theirs.1 theirs.2)
  ])

  cursors-kept : (n : ℕ) (y : LocalSeat) → HasCursors a.fill a.notes.items (state_of a.row) n y → HasCursors b.fill b.notes.items (state_of b.row) n y
  cursors-kept n y was = record {
    classes = was.classes;
    each = λ class block is.
        let old = was.each class block is in
        let there : block < p.before.blocks = subst (λ j. block < j) (at.notes.len ∙ ap (λ (t : HeapState). t.blocks) at.heap)
        (get-below a.notes.items block (Owned n old.0.region) old.0.note) in
        (up.regions n block old.0, up.classes block there ∙ ap (λ (t : HeapState). class_at t block) (sym at.heap) ∙ old.1);
    lined = λ block is. up.fill ∙ was.lined block is;
    over = λ lines block is. up.regions n block (was.over (sym up.fill ∙ lines) block is);
    apart = λ lines block is. was.apart (sym up.fill ∙ lines) block is;
  }

  cursors : (k : ℕ) (q : Mutator) (y : LocalSeat) → slice_get b.mutators.items k ≡ Some q → slice_get b.seats.items k ≡ Some y → HasCursors b.fill b.notes.items (state_of b.row) q.number y
  cursors k q y e f = cursors-kept q.number y
      (elim (others k q y e f) as (λ _. HasCursors a.fill a.notes.items (state_of a.row) q.number y) [
        | inl mine ↦ subst (λ n. HasCursors a.fill a.notes.items (state_of a.row) n y) (sym number-is ∙ sym up.number ∙ ap (λ z. z.number) (sym mine.1))
            (cursors-of a mutator.0.number seat.0 y (ap (λ z. z.blocks) mine.2 ∙ up.blocks ∙ ap blocks_of seat.1)
            (ap (λ z. z.over) mine.2 ∙ up.over ∙ ap over_of seat.1)
            (at.cursors a.turn mutator.0 seat.0 mutator.1 seat.1))
        | inr theirs ↦ at.cursors k q y theirs.1 theirs.2
      ])

  pub at-follows : IsAt p i (log ++ more) b
  at-follows = record {
    epoch = record { ready = at.epoch.ready; represents = at.epoch.represents; steps = log-longer p (first_machine p) log more at.epoch.steps is };
    heap = up.words ∙ ap (λ k. heap_in p k) (sym machine-is);
    numbers = same-lists (map (λ q. q.number) a.mutators.items) (map (λ q. q.number) b.mutators.items)
        (length-map b.mutators.items (λ q. q.number) ∙ up.mutators.len ∙ sym (length-map a.mutators.items (λ q. q.number))) numbers-same ∙ at.numbers;
    seats = up.seats.len ∙ at.seats ∙ sym up.mutators.len;
    each = each;
    cursors = cursors;
    notes = up.notes;
    fill = up.fill ∙ at.fill;
    fills = subst FillsHoles (sym up.fill) at.fills;
    young = up.young ∙ at.young;
    allowed = up.allowed ∙ at.allowed;
    lists = up.lists at.lists;
    flags = up.flags;
  }
