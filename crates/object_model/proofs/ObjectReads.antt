-- Where the words of a held object of a well-formed heap lie, and how large its parts are.
use Rattle.std.proofs.Common.{◌≡◌, ℕ, ◌+◌, ◌*◌, ◌<◌, ◌≤◌, inl, inr, arith, length}
use Rattle.std.proofs.lemmas.Bool.{cases_lt}
use Rattle.heap_layout.specs.Zones.{row_words, heap_of, block_at, offset_at, first, BlockWords, IsAddress}
use Rattle.object_model.specs.Objects.{HeapState, IsHeld, size_at, blocks_for}
use Rattle.object_model.specs.Lawful.{IsWellFormed, IsReadable, LiesInBlock, LiesInRun, Lies}

-- an address lies in its block
pub place_of_address : (b a : ℕ) → IsAddress b a → (block_at b a < b) × (offset_at b a < 4096) × (a ≡ heap_of b + 4096 * block_at b a + offset_at b a)
place_of_address b a at = (omega arith, omega arith, omega arith)

-- an object within one block, or within its run, ends within the row
block_in_row : (s : HeapState) (a size : ℕ) → LiesInBlock s a size → a + size ≤ row_words s.blocks
block_in_row s a size lies =
    let place = place_of_address s.blocks a lies.address in
    let within : offset_at s.blocks a + size ≤ 4096 = lies.within in
    omega arith

run_in_row : (s : HeapState) (a size : ℕ) → LiesInRun s a size → a + size ≤ row_words s.blocks
run_in_row s a size lies =
    let place = place_of_address s.blocks a lies.address in
    let start : offset_at s.blocks a ≡ 0 = lies.start in
    let inside : block_at s.blocks a + blocks_for size ≤ s.blocks = lies.run.inside in
    omega arith

-- an object that lies where it may lie ends within the row
pub lies_in_row : (s : HeapState) (a size : ℕ) → Lies s a size → a + size ≤ row_words s.blocks
lies_in_row s a size lies = elim (cases_lt 2048 size) as (λ _. a + size ≤ row_words s.blocks) [
  | inl large ↦ run_in_row s a size (lies.large large)
  | inr small ↦ block_in_row s a size (lies.small small)
]

-- a held object ends within the row
pub ends_in_row : (s : HeapState) → IsWellFormed s → (a : ℕ) → IsHeld s a → a + size_at s a ≤ row_words s.blocks
ends_in_row s law a held = lies_in_row s a (size_at s a) (law.objects.lies a held)

-- its words are words of the row
pub in_row : (s : HeapState) → IsWellFormed s → (a i : ℕ) → IsHeld s a → i < size_at s a → a + i < row_words s.blocks
in_row s law a i held inside = let ends = ends_in_row s law a held in omega arith

pub in_words : (s : HeapState) → IsWellFormed s → (a i : ℕ) → IsHeld s a → i < size_at s a → a + i < length s.words
in_words s law a i held inside = let there = in_row s law a i held inside in let extent = law.row.extent in omega arith

-- a held object of a well-formed heap can be read
pub readable : (s : HeapState) → IsWellFormed s → (a : ℕ) → IsHeld s a → IsReadable s a
readable s law a held = record { extent = law.row.extent; held = held; object = (law.objects.headers a held).object; inside = ends_in_row s law a held }
