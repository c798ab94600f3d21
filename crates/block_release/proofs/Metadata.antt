-- What the metadata words of a block decide.
use Rattle.std.proofs.Common.{◌≡◌, ◌∙◌, ap, ℕ, ◌+◌, ◌*◌, ◌-◌, ◌/◌, ◌%◌, ◌<◌, ◌≤◌, inl, inr, arith, nat_eq}
use Rattle.std.specs.Int.{bit_at}
use Rattle.heap_layout.specs.Zones.{Zone, first, BlockWords, LineWords, StartBits, PinBits, UnlogBits, heap_of, block_at, bit_of, address_bit, IsAddress}
use Rattle.object_model.specs.Objects.{HeapState, word_at, block_word, line_marked, is_start, is_pinned, is_unlogged}
use Rattle.object_model.proofs.Marks.{mark-same}
use Rattle.block_sweeps.specs.Sweeping.{IsMetadata}

-- a word is metadata of one block
pub one-block : (b j k i : ℕ) → j < b → k < b → IsMetadata b j i → IsMetadata b k i → j ≡ k
one-block b j k i here there mine other = omega arith

-- no word of the heap is metadata
pub heap-word : (b k i : ℕ) → k < b → heap_of b ≤ i → IsMetadata b k i → ⊥
heap-word b k i there from meta = omega arith

-- In two states the metadata of block j reads the same.
pub record SameReads (s t : HeapState) (j : ℕ) : Type 0 where
  pub word : block_word t j ≡ block_word s j
  pub lines : (line : ℕ) → line < 256 → line_marked t j line ≡ line_marked s j line
  pub starts : (a : ℕ) → block_at s.blocks a ≡ j → is_start t a ≡ is_start s a
  pub pins : (a : ℕ) → block_at s.blocks a ≡ j → is_pinned t a ≡ is_pinned s a
  pub unlogs : (a : ℕ) → block_at s.blocks a ≡ j → is_unlogged t a ≡ is_unlogged s a

-- it does if its words are the same
module _ (s t : HeapState) (blocks : t.blocks ≡ s.blocks) (j : ℕ) (same : (i : ℕ) → IsMetadata s.blocks j i → word_at t i ≡ word_at s i) where
  bit-same : (z : Zone) (n : ℕ) → IsMetadata s.blocks j (first s.blocks z + n / 64) → bit_of s.blocks z t.words n ≡ bit_of s.blocks z s.words n
  bit-same z n meta = ap (λ word. nat_eq (bit_at word (n % 64)) 1) (same (first s.blocks z + n / 64) meta)

  mark-here : (z : Zone) (a : ℕ) → (IsAddress s.blocks a → IsMetadata s.blocks j (first s.blocks z + (a - heap_of s.blocks) / 64)) → address_bit t.blocks z t.words a ≡ address_bit s.blocks z s.words a
  mark-here z a meta = ap (λ b. address_bit b z t.words a) blocks ∙ mark-same s.blocks z s.words t.words a (λ there. bit-same z (a - heap_of s.blocks) (meta there))

  pub same-reads : SameReads s t j
  same-reads = record {
    word = ap (λ b. word_at t (first b BlockWords + j)) blocks ∙ same (first s.blocks BlockWords + j) (inl (inl (omega arith)));
    lines = λ line few. ap (λ b. bit_of b LineWords t.words (256 * j + line)) blocks ∙ bit-same LineWords (256 * j + line) (inl (inr (record { after = omega arith; below = omega arith })));
    starts = λ a at. mark-here StartBits a (λ there. inr (inl (record { after = omega arith; below = omega arith })));
    pins = λ a at. mark-here PinBits a (λ there. inr (inr (inl (record { after = omega arith; below = omega arith }))));
    unlogs = λ a at. mark-here UnlogBits a (λ there. inr (inr (inr (record { after = omega arith; below = omega arith }))));
  }
