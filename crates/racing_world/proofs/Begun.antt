-- The world as an epoch begins, and lists of its seats.
use Rattle.std.proofs.Common.{◌≡◌, ◌∙◌, refl, sym, ap, subst, ℕ, zero, suc, ◌<◌, ◌≤◌, IsTrue, List, [], ◌∷◌, ◌++◌, length, map, take, arith, inr}
use Rattle.std.specs.List.{All, Contains}
use Rattle.std.specs.Prelude.{Bool, true, false, Some, None, replicate, slice_get}
use Rattle.std.proofs.lemmas.List.{length-map, length-replicate}
use Rattle.std.proofs.lemmas.List.Elements.{All-nil, All-cons, All-head, All-tail}
use mathlib.Core.Option.{some, some-injective, some-ne-none}
use lib.ListN.{get_elem?, get_or}
use Rattle.heap_users.proofs.Cleared as cleared
use Rattle.heap_users.specs.Users.{mutator_state}
use Rattle.heap_users.specs.Beginnings.{MayUse, without_stop, epoch_of}
use Rattle.ideal_heap.specs.Ideal.{IdealHeap}
use Rattle.object_model.specs.Objects.{HeapState}
use Rattle.object_model.specs.Lawful.{IsLawful}
use Rattle.object_model.specs.Graphs.{MutatorState, Represents, numbers_of}
use Rattle.sessions.specs.Plans.{Rules, has_holes}
use Rattle.sessions.specs.Collecting.{Remembers}
use Rattle.mutator_calls.specs.declared.need.Mutator.{Mutator}
use Rattle.mutator_core.specs.declared.state.OwnedBlock.{OwnedBlock}
use Rattle.mutator_core.specs.Epochs.{EpochMayBegin}
use Rattle.mutator_core.proofs.SomeIdeal.{some-ideal}
use Rattle.mutator_rule.specs.declared.racing_row.RacingRow.{RacingRow}
use Rattle.mutator_rule.specs.declared.seat.MutatorSeat.{MutatorSeat}
use Rattle.mutator_rule.specs.declared.views.EpochStart.{EpochStart}
use Rattle.mutator_rule.specs.declared.views.MutatorView.{MutatorView}
use Rattle.mutator_rule.specs.Views.{first_view, epoch_with}
use Rattle.mutator_rule.proofs.Loops.{get-or-elem}
use Rattle.mutator_core.specs.Machine.{mutator_of}
use Rattle.mutator_rule.specs.Logs.{KnowsLog, history_seen, own_entries}
use Rattle.mutator_rule.specs.Seats.{known, IsSeatOf, HasFirstNotes, start_of}
use Rattle.mutator_core.proofs.Lists.{contains-none}
use Rattle.racing_mutator.specs.Logged.{logged_seen}
use Rattle.mutator_core.specs.Guards.{allowance}
use Rattle.mutator_core.specs.Logs.{heap_after}
use Rattle.block_regions.specs.Notes.{AreUnowned, HasNotes}
use Rattle.block_regions.proofs.Lists.{get-copy}
use Rattle.block_regions.specs.declared.block_notes.BlockNote.{BlockNote}
use Rattle.block_regions.specs.declared.block_notes.BlockNote.TheVariants.{Unowned}
use Rattle.local_allocators.specs.declared.local_seat.LocalSeat.{LocalSeat}
use Rattle.mutator_rule.specs.declared.seat_notes.SeatNotes.{SeatNotes}
use Rattle.mutator_rule.specs.FirstNotes.{first_local_seat}
use Rattle.racing_rooms.specs.Rooms.{HasRoomsIn, holdings}
use Rattle.racing_mutator.specs.RacingSeats.{MayCall}
use Rattle.racing_world.specs.Calls.{number_of, IsFresh}
use Rattle.racing_world.specs.Closing.{mutator_at}
use Rattle.racing_world.specs.ClosingNotes.{TakesNotes, EachTakesNotes}

-- a heap that mutators may use begins an epoch, and represents an ideal heap
pub ready : (r : Rules) (s : HeapState) (ms : List Mutator) → IsLawful s → IsTrue (has_holes r.fill) → Remembers r s → length ms ≤ 16 → EpochMayBegin (epoch_of r s (map mutator_state ms))
ready r s ms lawful fills remembers few = record {
  lawful = cleared.lawful-cleared s lawful;
  remembers = cleared.remembers-cleared s lawful r remembers;
  fills = fills;
  stop = cleared.stop s lawful;
  tickets = cleared.tickets s lawful;
  few = subst (λ n. n ≤ 16) (sym (length-map ms mutator_state)) few;
}

pub represents : (s : HeapState) (ms : List MutatorState) → IsLawful s → MayUse s ms → (i : IdealHeap) × Represents (without_stop s) ms i
represents s ms lawful may = let some = some-ideal s ms lawful may.mutators may.registers may.names in (some.0, cleared.represents-cleared s lawful ms some.0 some.1)

pub represents-cleared : (s : HeapState) (ms : List MutatorState) → IsLawful s → (i : IdealHeap) → Represents s ms i → Represents (without_stop s) ms i
represents-cleared s ms lawful i stands = cleared.represents-cleared s lawful ms i stands

-- each seat may call, has seen no entry, and has its mutator's number
first-known : (x : MutatorSeat) (xs : List MutatorSeat) (g : EpochStart) (m : Mutator) (ms : List Mutator) → map known (x ∷ xs) ≡ map (first_view g) (m ∷ ms) → (known x ≡ first_view g m) × (map known xs ≡ map (first_view g) ms)
first-known x xs g m ms e = let t : known x ∷ map known xs ≡ first_view g m ∷ map (first_view g) ms = e in (cc, cc)

none-known : (x : MutatorSeat) (xs : List MutatorSeat) (g : EpochStart) → map known (x ∷ xs) ≡ map (first_view g) [] → ⊥
none-known x xs g e = let t : known x ∷ map known xs ≡ [] = e in cc

-- the notes of a mutator as an epoch begins: these of the blocks, and no block and no ticket of its own
pub record AreBegunNotes (blocks allowed : ℕ) (notes : List BlockNote) (n : SeatNotes) : Type 0 where
  pub flags : n.flags.items ≡ replicate blocks false
  pub blocks_noted : n.blocks.items ≡ notes
  pub local : n.local ≡ first_local_seat
  pub allowance_is : n.allowance ≡ allowed

abbrev pub HasBegunNotes : {P : Type 0} → RacingRow P → ℕ → List BlockNote → MutatorSeat → Type 0
HasBegunNotes row allowed notes seat = AreBegunNotes row.layout.blocks allowed notes seat.notes

-- what a seat has is kept as it takes notes of the blocks
tail-each : (notes : List BlockNote) (x y : MutatorSeat) (xs ys : List MutatorSeat) → EachTakesNotes notes (x ∷ xs) (y ∷ ys) → EachTakesNotes notes xs ys
tail-each notes x y xs ys all = record {
  len = (let l : suc (length ys) ≡ suc (length xs) = all.len in omega arith);
  each = λ place a b at here. all.each (suc place) a b at here;
}

pub all-each : (notes : List BlockNote) (Q R : MutatorSeat → Type 0) → ((a b : MutatorSeat) → TakesNotes notes a b → Q a → R b) → (xs ys : List MutatorSeat) → All Q xs → EachTakesNotes notes xs ys → All R ys
all-each notes Q R step [] [] all each = All-nil R
all-each notes Q R step [] (y ∷ ys) all each = absurd (let l : suc (length ys) ≡ 0 = each.len in omega arith)
all-each notes Q R step (x ∷ xs) [] all each = absurd (let l : 0 ≡ suc (length xs) = each.len in omega arith)
all-each notes Q R step (x ∷ xs) (y ∷ ys) all each =
    All-cons R y ys (step x y (each.each 0 x y refl refl) (All-head Q x xs all)) (all-each notes Q R step xs ys (All-tail Q x xs all) (tail-each notes x y xs ys each))

pub known-each : (notes : List BlockNote) (xs ys : List MutatorSeat) → EachTakesNotes notes xs ys → map known ys ≡ map known xs
known-each notes [] [] each = refl
known-each notes [] (y ∷ ys) each = absurd (let l : suc (length ys) ≡ 0 = each.len in omega arith)
known-each notes (x ∷ xs) [] each = absurd (let l : 0 ≡ suc (length xs) = each.len in omega arith)
known-each notes (x ∷ xs) (y ∷ ys) each = λ k. (each.each 0 x y refl refl).known_stays.known_stays k ∷ known-each notes xs ys (tail-each notes x y xs ys each) k

pub seats-each : {P : Type 0} (rules : Rules) (row : RacingRow P) (notes : List BlockNote) (xs ys : List MutatorSeat) → All (IsSeatOf rules row) xs → EachTakesNotes notes xs ys → All (IsSeatOf rules row) ys
seats-each rules row notes xs ys all each = all-each notes (IsSeatOf rules row) (IsSeatOf rules row) (λ a b takes own.
    let same = sym takes.known_stays.known_stays in (
      takes.known_stays.table ∙ own.0,
      subst (λ (v : MutatorView). v.start ≡ start_of row) same own.1,
      subst (λ (v : MutatorView). KnowsLog (epoch_with rules v.start) v) same own.2,
    )) xs ys all each

pub notes-each : {P : Type 0} (row : RacingRow P) (allowed : ℕ) (notes : List BlockNote) (xs ys : List MutatorSeat) → All (HasFirstNotes row allowed) xs → EachTakesNotes notes xs ys → All (HasBegunNotes row allowed notes) ys
notes-each row allowed notes xs ys all each = all-each notes (HasFirstNotes row allowed) (HasBegunNotes row allowed notes) (λ a b takes first. record {
  flags = ap (λ (n : SeatNotes). n.flags.items) takes.rest ∙ first.flags;
  blocks_noted = takes.blocks;
  local = ap (λ (n : SeatNotes). n.local) takes.rest ∙ first.local;
  allowance_is = ap (λ (n : SeatNotes). n.allowance) takes.rest ∙ first.allowed;
}) xs ys all each

-- the notes of the beginning are right
pub first-rooms : (rules : Rules) (g : EpochStart) (m : Mutator) (n : SeatNotes) (v : MutatorView) → first_view g m ≡ v → (blocks : ℕ) (notes : List BlockNote) → HasNotes rules.fill (epoch_with rules g).before notes → AreUnowned notes
    → AreBegunNotes blocks (allowance (epoch_with rules g)) notes n
    → HasRoomsIn (epoch_with rules v.start) (heap_after (epoch_with rules v.start) v.seen) (holdings v.local) n.blocks.items n.local n.allowance
first-rooms rules g m n v is blocks notes has nobody first =
    subst (λ (u : MutatorView). HasRoomsIn (epoch_with rules u.start) (heap_after (epoch_with rules u.start) u.seen) (holdings u.local) n.blocks.items n.local n.allowance) is (record {
      allows = first.allowance_is;
      ticket = ap (λ (l : LocalSeat). l.ticket) first.local;
      len = ap (λ (xs : List BlockNote). length xs) first.blocks_noted ∙ has.len;
      unowned = λ k least note. inr (has.each k (Unowned least) (ap (λ (xs : List BlockNote). slice_get xs k) (sym first.blocks_noted) ∙ note)).none;
      owned = λ k owner region note. absurd (nobody k owner region (ap (λ (xs : List BlockNote). slice_get xs k) (sym first.blocks_noted) ∙ note));
      noted = λ o among. absurd (contains-none o among);
      classes = ap (λ (l : LocalSeat). length l.blocks) first.local;
      each = λ class k note. absurd (none-there class k (ap (λ (l : LocalSeat). slice_get l.blocks class) (sym first.local) ∙ note));
      over = λ k note. absurd (let wrong : None ≡ Some k = ap (λ (l : LocalSeat). l.over) (sym first.local) ∙ note in cc);
    })
  where
    none-there : (class k : ℕ) → slice_get (first_local_seat).blocks class ≡ Some (Some k) → ⊥
    none-there class k note = let wrong : Some k ≡ None = get-copy 19 None (Some k) class note in cc

pub first-calls : {P : Type 0} (rules : Rules) (row : RacingRow P) (g : EpochStart) (notes : List BlockNote) → HasNotes rules.fill (epoch_with rules g).before notes → AreUnowned notes
    → (xs : List MutatorSeat) (ms : List Mutator) → All (IsSeatOf rules row) xs → map known xs ≡ map (first_view g) ms → start_of row ≡ g → All (HasBegunNotes row (allowance (epoch_with rules g)) notes) xs → All (MayCall rules row) xs
first-calls rules row g notes has nobody [] ms own e same all = All-nil (MayCall rules row)
first-calls rules row g notes has nobody (x ∷ xs) [] own e same all = absurd (none-known x xs g e)
first-calls rules row g notes has nobody (x ∷ xs) (m ∷ ms) own e same all =
    let is = first-known x xs g m ms e in
    let first = All-head (HasBegunNotes row (allowance (epoch_with rules g)) notes) x xs all in
    All-cons (MayCall rules row) x xs ((
      record {
        own = All-head (IsSeatOf rules row) x xs own;
        none = ap (λ (v : MutatorView). v.local.unpublished) is.0;
        stored = ap (λ (v : MutatorView). v.local.pending) is.0;
      },
      record {
        len = ap (λ (fs : List Bool). length fs) first.flags ∙ length-replicate row.layout.blocks false ∙ ap (λ l. l.blocks) row.laid ∙ ap (λ (h : EpochStart). h.blocks) same ∙ ap (λ (v : MutatorView). v.start.blocks) (sym is.0);
        each = λ a there. absurd (contains-none a (subst (λ ls. Contains ls a) (ap (logged_seen rules) is.0) there));
      },
      record { each = λ o there free. absurd (contains-none o (subst (λ (os : List OwnedBlock). Contains os o) (ap (λ (v : MutatorView). v.local.owned) is.0) there)) },
      first-rooms rules g m x.notes (known x) (sym is.0) row.layout.blocks notes has nobody first,
    )) (first-calls rules row g notes has nobody xs ms (All-tail (IsSeatOf rules row) x xs own) is.1 same (All-tail (HasBegunNotes row (allowance (epoch_with rules g)) notes) x xs all))

none-set : (n k : ℕ) → slice_get (replicate n false) k ≡ Some true → ⊥
none-set zero k e = let wrong : None ≡ Some true = e in cc
none-set (suc n) zero e = let wrong : Some false ≡ Some true = e in cc
none-set (suc n) (suc k) e = none-set n k e

-- a seat has so many flags, none set
abbrev pub NoneOf : ℕ → MutatorSeat → Type 0
NoneOf n seat = seat.notes.flags.items ≡ replicate n false

pub first-fresh : (rules : Rules) (n : ℕ) (g : EpochStart) (xs : List MutatorSeat) (ms : List Mutator) → map known xs ≡ map (first_view g) ms → All (NoneOf n) xs → All (IsFresh rules) xs
first-fresh rules n g [] ms e flags = All-nil (IsFresh rules)
first-fresh rules n g (x ∷ xs) [] e flags = absurd (none-known x xs g e)
first-fresh rules n g (x ∷ xs) (m ∷ ms) e flags =
    let is = first-known x xs g m ms e in
    All-cons (IsFresh rules) x xs (record {
      steps = ap (λ (v : MutatorView). v.seen) is.0;
      history = ap (λ (v : MutatorView). history_seen rules v) is.0;
      calls = ap (λ (v : MutatorView). own_entries rules v) is.0;
      stop = ap (λ (v : MutatorView). v.local.stop) is.0;
      raised = ap (λ (v : MutatorView). v.local.raised) is.0;
      ticket = ap (λ (v : MutatorView). v.local.ticket) is.0;
      flags = λ k set. none-set n k (ap (λ (fs : List Bool). slice_get fs k) (sym (All-head (NoneOf n) x xs flags)) ∙ set);
    }) (first-fresh rules n g xs ms is.1 (All-tail (NoneOf n) x xs flags))

pub first-states : (g : EpochStart) (xs : List MutatorSeat) (ms : List Mutator) → map known xs ≡ map (first_view g) ms → map mutator_at xs ≡ map mutator_state ms
first-states g [] [] e = refl
first-states g [] (m ∷ ms) e = let t : [] ≡ first_view g m ∷ map (first_view g) ms = e in cc
first-states g (x ∷ xs) [] e = absurd (none-known x xs g e)
first-states g (x ∷ xs) (m ∷ ms) e =
    let is = first-known x xs g m ms e in
    (λ k. mutator_of (is.0 k).local ∷ first-states g xs ms is.1 k)

pub first-numbers : (g : EpochStart) (xs : List MutatorSeat) (ms : List Mutator) → map known xs ≡ map (first_view g) ms → map number_of xs ≡ numbers_of (map mutator_state ms)
first-numbers g [] [] e = refl
first-numbers g [] (m ∷ ms) e = let t : [] ≡ first_view g m ∷ map (first_view g) ms = e in cc
first-numbers g (x ∷ xs) [] e = absurd (none-known x xs g e)
first-numbers g (x ∷ xs) (m ∷ ms) e =
    let is = first-known x xs g m ms e in
    (λ k. (is.0 k).local.number ∷ first-numbers g xs ms is.1 k)

-- what holds of all seats holds of the one at a place
pub all-at-place : (Q : MutatorSeat → Type 0) (xs : List MutatorSeat) (k : ℕ) (x : MutatorSeat) → All Q xs → get_elem? xs k ≡ some x → Q x
all-at-place Q [] k x all e = absurd (some-ne-none x (sym e))
all-at-place Q (y ∷ ys) zero x all e = subst Q (some-injective y x e) (All-head Q y ys all)
all-at-place Q (y ∷ ys) (suc k) x all e = all-at-place Q ys k x (All-tail Q y ys all) e

-- the states of the first seats, and of one more
pub taken-more : {A B : Type 0} (f : A → B) (xs : List A) (i : ℕ) (x : A) → i < length xs → x ≡ get_or xs i x → take (suc i) (map f xs) ≡ take i (map f xs) ++ f x ∷ []
taken-more f [] i x few e = absurd (omega arith)
taken-more f (y ∷ ys) zero x few e = ap (λ z. f z ∷ []) (sym e)
taken-more f (y ∷ ys) (suc i) x few e = ap (λ zs. f y ∷ zs) (taken-more f ys i x (omega arith) e)

pub taken-all : {A B : Type 0} (f : A → B) (xs : List A) → take (length xs) (map f xs) ≡ map f xs
taken-all f [] = refl
taken-all f (x ∷ xs) = ap (λ ys. f x ∷ ys) (taken-all f xs)

-- a place of the list that has an element is one of its places, and has one
pub place-within : (xs : List MutatorSeat) (k : ℕ) (x : MutatorSeat) → get_elem? xs k ≡ some x → k < length xs
place-within [] k x e = absurd (some-ne-none x (sym e))
place-within (y ∷ ys) zero x e = omega arith
place-within (y ∷ ys) (suc k) x e = let n = place-within ys k x e in omega arith

pub same-place : (xs : List MutatorSeat) (k : ℕ) (x y : MutatorSeat) → k < length xs → y ≡ get_or xs k y → get_elem? xs k ≡ some x → x ≡ y
same-place xs k x y few here e = some-injective x y (sym e ∙ get-or-elem xs k y few here)
