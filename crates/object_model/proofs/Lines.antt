-- The lines that an object touches, by its first and its last word.
use Rattle.std.proofs.Common.{◌≡◌, sym, subst, ℕ, ◌+◌, ◌*◌, ◌-◌, ◌/◌, ◌<◌, ◌≤◌, ◌⊎◌, inl, inr, arith}
use Rattle.std.proofs.lemmas.Bool.{cases_lt}
use Rattle.heap_layout.specs.Zones.{heap_of, block_at, offset_at, line_at}
use Rattle.object_model.specs.Objects.{HeapState, IsHeld, IsInExtentOf, IsInExtent, size_at}
use Rattle.object_model.specs.Lawful.{IsTouched}
use Rattle.object_model.specs.Lines.{TouchesLine}

-- an object touches the lines from that of its first word to that of its last word
pub touched-line : (b a n k : ℕ) → heap_of b ≤ a → 0 < n → line_at b a ≤ k → k ≤ line_at b (a + n - 1) → TouchesLine b a n k
touched-line b a n k inside some from to = record { from = omega arith; below = omega arith }

pub first-line : (b a n k : ℕ) → heap_of b ≤ a → TouchesLine b a n k → line_at b a ≤ k
first-line b a n k inside touches = let below : a < heap_of b + 16 * (k + 1) = touches.below in omega arith

pub last-line : (b a n k : ℕ) → heap_of b ≤ a → TouchesLine b a n k → k ≤ line_at b (a + n - 1)
last-line b a n k inside touches = let from : heap_of b + 16 * k < a + n = touches.from in omega arith

-- a line is touched or not
pub touched-or-not : (b a n k : ℕ) → TouchesLine b a n k ⊎ (TouchesLine b a n k → ⊥)
touched-or-not b a n k = elim (cases_lt (heap_of b + 16 * k) (a + n)) as (λ _. TouchesLine b a n k ⊎ (TouchesLine b a n k → ⊥)) [
  | inl from ↦ elim (cases_lt a (heap_of b + 16 * (k + 1))) as (λ _. TouchesLine b a n k ⊎ (TouchesLine b a n k → ⊥)) [
    | inl below ↦ inl (record { from = from; below = below })
    | inr past ↦ inr (λ touches. let below : a < heap_of b + 16 * (k + 1) = touches.below in omega arith)
  ]
  | inr before ↦ inr (λ touches. let from : heap_of b + 16 * k < a + n = touches.from in omega arith)
]

-- a touched line has a word of the object
pub touched-word : (b a n k : ℕ) → heap_of b ≤ a → 0 < n → TouchesLine b a n k → (i : ℕ) × IsInExtentOf a n i × (line_at b i ≡ k)
touched-word b a n k inside some touches =
    let above : heap_of b + 16 * k < a + n = touches.from in
    let below : a < heap_of b + 16 * (k + 1) = touches.below in
    elim (cases_lt a (heap_of b + 16 * k)) as (λ _. (i : ℕ) × IsInExtentOf a n i × (line_at b i ≡ k)) [
      | inl before ↦ (heap_of b + 16 * k, record { from = omega arith; below = above }, omega arith)
      | inr after ↦ (a, record { from = omega arith; below = omega arith }, omega arith)
    ]

pub word-touched : (b a n k i : ℕ) → heap_of b ≤ a → IsInExtentOf a n i → line_at b i ≡ k → TouchesLine b a n k
word-touched b a n k i inside word line =
    let from : a ≤ i = word.from in
    let below : i < a + n = word.below in
    let at : (i - heap_of b) / 16 ≡ k = line in
    record { from = omega arith; below = omega arith }

-- a touched line of block k has a word of the object in that block
pub touched-block_word : (b a n k line : ℕ) → heap_of b ≤ a → 0 < n → line < 256 → TouchesLine b a n (256 * k + line)
    → (i : ℕ) × IsInExtentOf a n i × (block_at b i ≡ k)
touched-block_word b a n k line inside some small touches =
    let word = touched-word b a n (256 * k + line) inside some touches in
    let at : (word.0 - heap_of b) / 16 ≡ 256 * k + line = word.2 in
    (word.0, word.1, omega arith)

-- if the object's words lie in one block, this is the block of the line
pub touched-block : (b a n k line : ℕ) → heap_of b ≤ a → offset_at b a + n ≤ 4096 → line < 256 → TouchesLine b a n (256 * k + line) → block_at b a ≡ k
touched-block b a n k line inside within small touches =
    let from : heap_of b + 16 * (256 * k + line) < a + n = touches.from in
    let below : a < heap_of b + 16 * (256 * k + line + 1) = touches.below in
    omega arith

-- the same of a line that some held object touches
pub held-block_word : (s : HeapState) (k line : ℕ) → line < 256 → (t : IsTouched s k line) → (i : ℕ) × IsInExtent s t.object i × (block_at s.blocks i ≡ k)
held-block_word s k line small t = touched-block_word s.blocks t.object (size_at s t.object) k line t.held.address.from (omega arith) small t.touches

pub held-block : (s : HeapState) (k line : ℕ) → line < 256 → (t : IsTouched s k line) → offset_at s.blocks t.object + size_at s t.object ≤ 4096 → block_at s.blocks t.object ≡ k
held-block s k line small t within = touched-block s.blocks t.object (size_at s t.object) k line t.held.address.from within small t.touches

-- a touched line is touched in another heap, if the object is held there with the same size
pub touched-as : (s t : HeapState) (k line : ℕ) → (touched : IsTouched s k line) → t.blocks ≡ s.blocks → IsHeld t touched.object
    → size_at t touched.object ≡ size_at s touched.object → IsTouched t k line
touched-as s t k line touched same held size = record {
  object = touched.object;
  held = held;
  touches = subst (λ b. TouchesLine b touched.object (size_at t touched.object) (256 * k + line)) (sym same)
      (subst (λ n. TouchesLine s.blocks touched.object n (256 * k + line)) (sym size) touched.touches);
}
