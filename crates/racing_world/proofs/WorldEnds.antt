-- The heap that a world hands back.
use Rattle.std.proofs.Common.{◌≡◌, ◌∙◌, sym, ap, subst, ℕ, ◌<◌, IsTrue, List, length, map}
use Rattle.std.specs.List.{All, Contains}
use Rattle.std.specs.Prelude.{Some, true, slice_get}
use Rattle.heap_layout.specs.Blocks.{is_block_code}
use Rattle.heap_layout.specs.Zones.{BlockWords, block_at, first}
use Rattle.heap_layout.specs.declared.block.Kind.{Kind}
use Rattle.heap_layout.specs.declared.layout.Layout.{Layout}
use Rattle.object_model.specs.Objects.{HeapState, HasKind, block_word, owner_at, word_at}
use Rattle.object_model.specs.Lawful.{IsLawful, IsWellFormed}
use Rattle.object_model.specs.Graphs.{numbers_of}
use Rattle.sessions.specs.Plans.{Rules}
use Rattle.mutator_core.specs.Closing.{GivesBack}
use Rattle.mutator_core.specs.Logs.{heap_after}
use Rattle.mutator_rule.specs.declared.racing_row.RacingRow.{RacingRow}
use Rattle.mutator_rule.specs.declared.seat.MutatorSeat.{MutatorSeat}
use Rattle.mutator_rule.specs.declared.views.EpochStart.{EpochStart}
use Rattle.mutator_rule.specs.Views.{epoch_with}
use Rattle.mutator_rule.specs.Logs.{EndsWith}
use Rattle.mutator_rule.specs.Seats.{known, local_of, start_of}
use Rattle.racing_mutator.specs.RacingSeats.{MayCall, UsesItsBlocks, holdings, logged_at}
use Rattle.racing_world.specs.Calls.{number_of}
use Rattle.racing_world.specs.Closing.{EndsEpoch, IsSeatAt, mutator_at}
use Rattle.racing_world.proofs.Begun.{all-at-place}
use Rattle.racing_world.specs.ClosingNotes.{LeavesRoom}
use Rattle.racing_world.proofs.RoomLeft.{leaves-room}
use Rattle.racing_world.proofs.Closed.{IsIdle, code-at, kind-at, order-at, ends-epoch}

-- each block word is one; a block with an owner is of the kind; no word before the block words changed
abbrev pub HasCodes : HeapState → Type 0
HasCodes s = (k : ℕ) → k < s.blocks → IsTrue (is_block_code (block_word s k))

abbrev pub HasKinds : Kind → HeapState → Type 0
HasKinds fill s = (k : ℕ) → k < s.blocks → 0 < owner_at s k → HasKind s k fill

abbrev pub FrontStays : HeapState → HeapState → Type 0
FrontStays s new = (i : ℕ) → i < first s.blocks BlockWords → word_at new i ≡ word_at s i

abbrev heap_with : List ℕ → ℕ → ℕ → ℕ → HeapState
heap_with words blocks number base = record { words = words; blocks = blocks; number = number; base = base }

-- the heap of these words, with the row's layout and numbers
pub handed-same : {P : Type 0} (words : List ℕ) (row : RacingRow P) (l : Layout) (n b : ℕ) → l ≡ row.layout → n ≡ row.number → b ≡ row.base
    → heap_with words row.layout.blocks row.number row.base ≡ heap_with words l.blocks n b
handed-same words row l n b layout number base = λ k. record { words = words; blocks = (sym layout k).blocks; number = sym number k; base = sym base k }

module _ {P : Type 0} (rules : Rules) (row : RacingRow P) (seats : List MutatorSeat) (words : List ℕ) (ends : EndsWith rules (start_of row) (map known seats) words) (calls : All (MayCall rules row) seats)
    (listed : map number_of seats ≡ numbers_of (epoch_with rules (start_of row)).mutators) (many : 0 < length seats) where
  abbrev handed : HeapState
  handed = record { words = words; blocks = row.layout.blocks; number = row.number; base = row.base }

  same : heap_after (epoch_with rules (start_of row)) ends.log ≡ handed
  same = λ k. record { words = sym ends.words k; blocks = (sym row.laid k).blocks; number = sym row.numbered k; base = sym row.based k }

  idle : (k : ℕ) (seat : MutatorSeat) → IsSeatAt seats k seat → IsIdle (epoch_with rules (start_of row)) seat
  idle k seat at =
      let may = all-at-place (MayCall rules row) seats k seat calls at in
      record { none = may.0.none; stored = may.0.stored; used = subst (λ (g : EpochStart). UsesItsBlocks (epoch_with rules g) (holdings (local_of seat))) may.0.own.1 may.2 }

  -- what is to be given back
  pub handed-order : IsWellFormed handed
  handed-order = subst IsWellFormed same (order-at rules (start_of row) seats words ends idle listed many)

  blocks-are : (epoch_with rules (start_of row)).before.blocks ≡ row.layout.blocks
  blocks-are = ap (λ (l : Layout). l.blocks) (sym row.laid)

  pub handed-codes : HasCodes handed
  handed-codes k inside = subst (λ (s : HeapState). IsTrue (is_block_code (block_word s k))) same
      (code-at rules (start_of row) seats words ends idle listed many k (subst (λ (b : ℕ). k < b) (sym blocks-are) inside))

  pub handed-kinds : HasKinds rules.fill handed
  handed-kinds k inside some = subst (λ (s : HeapState). HasKind s k rules.fill) same
      (kind-at rules (start_of row) seats words ends idle listed many k (subst (λ (b : ℕ). k < b) (sym blocks-are) inside) (subst (λ (s : HeapState). 0 < owner_at s k) (sym same) some))

  module _ (new : HeapState) (gives : GivesBack handed new) (front : FrontStays handed new) where
    pub world-ends : EndsEpoch rules (epoch_with rules (start_of row)) seats new (map mutator_at seats)
    world-ends = ends-epoch rules (start_of row) seats words ends idle listed many new (subst (λ (s : HeapState). GivesBack s new) (sym same) gives)
        (λ i less. front i (subst (λ (b : ℕ). i < first b BlockWords) blocks-are less) ∙ ap (λ (s : HeapState). word_at s i) (sym same))

    pub world-room : LeavesRoom rules (epoch_with rules (start_of row)) seats new
    world-room = leaves-room rules (start_of row) seats words ends listed (λ k seat at. (all-at-place (MayCall rules row) seats k seat calls at).0.own.2) (λ k seat at. (all-at-place (MayCall rules row) seats k seat calls at).3)
        new (subst (λ (s : HeapState). GivesBack s new) (sym same) gives) (λ i less. front i (subst (λ (b : ℕ). i < first b BlockWords) blocks-are less) ∙ ap (λ (s : HeapState). word_at s i) (sym same))

    pub world-lawful : IsLawful new
    world-lawful = (world-ends.stopped ends.ideal ends.epoch.represents).lawful

-- the flag of a block in which a seat logged an object
pub seat-flag : {P : Type 0} (rules : Rules) (row : RacingRow P) (seats : List MutatorSeat) → All (MayCall rules row) seats → (k : ℕ) (seat : MutatorSeat) → IsSeatAt seats k seat → (a : ℕ) → Contains (logged_at rules seat) a
    → slice_get seat.notes.flags.items (block_at (epoch_with rules (start_of row)).before.blocks a) ≡ Some true
seat-flag rules row seats calls k seat at a there =
    let may = all-at-place (MayCall rules row) seats k seat calls at in
    (λ j. slice_get seat.notes.flags.items (block_at (epoch_with rules (sym may.0.own.1 j)).before.blocks a)) ∙ may.1.each a there
