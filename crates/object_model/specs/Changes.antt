-- What a step changes in a heap's row, and what it leaves unchanged.
use Rattle.std.specs.Prelude.{◌≡◌, ◌≢◌, ℕ, ◌+◌, ◌*◌, ◌-◌, ◌/◌, ◌<◌, ◌≤◌, ◌⊎◌, ◌^◌, Bool, false, IsTrue, length}
use Rattle.heap_layout.specs.Zones.{StartBits, PinBits, UnlogBits, first, heap_of, bit_of}
use Rattle.ideal_heap.specs.declared.name.Name.{Name}
use Rattle.ideal_heap.specs.Names.{name_code}
use Rattle.object_model.specs.declared.shape.TheConstants.{COLLECTOR_OFFSET, HEADER_WORDS, SHAPE_OFFSET}
use Rattle.object_model.specs.Objects.{HeapState, word_at, block_word, line_marked, is_start, is_pinned, is_unlogged}
use Rattle.object_model.specs.Objects.{IsHeld, size_of, shape_code}
use Rattle.heap_layout.specs.declared.layout.TheConstants.{BLOCK_WORDS}
use Rattle.side_meta.specs.declared.word.TheConstants.{BITS_PER_WORD}

-- Every object keeps its address, name, shape and collector word. Block words and line bits are
-- unchanged, and no unlog bit gets set. Fields, globals and pin bits may change.
pub record ObjectsStay (old new : HeapState) : Type 0 where
  pub blocks : new.blocks ≡ old.blocks
  pub number : new.number ≡ old.number
  pub base : new.base ≡ old.base
  pub extent : length new.words ≡ length old.words
  pub starts : (a : ℕ) → is_start new a ≡ is_start old a
  -- an unlog bit may be cleared, but not set
  pub unlogs : (a : ℕ) → IsTrue (is_unlogged new a) → IsTrue (is_unlogged old a)
  pub lines : (k line : ℕ) → k < old.blocks → line < 256
      → line_marked new k line ≡ line_marked old k line
  pub block_words : (k : ℕ) → k < old.blocks → block_word new k ≡ block_word old k
  pub headers : (a i : ℕ) → IsHeld old a → i < HEADER_WORDS
      → word_at new (a + i) ≡ word_at old (a + i)

-- An object of this name and shape is written at a, with a collector word of 0, nil references and
-- zero numbers, and its start bit is set. All else is unchanged.
pub record WritesObject (old new : HeapState) (a : ℕ) (n : Name) (refs nums : ℕ) : Type 0 where
  pub blocks : new.blocks ≡ old.blocks
  pub number : new.number ≡ old.number
  pub base : new.base ≡ old.base
  pub extent : length new.words ≡ length old.words
  pub words : (i : ℕ) → word_at new i < 2 ^ 64
  pub name : word_at new a ≡ name_code n
  pub shape : word_at new (a + SHAPE_OFFSET) ≡ shape_code refs nums
  pub blank : (i : ℕ) → COLLECTOR_OFFSET ≤ i → i < size_of refs nums → word_at new (a + i) ≡ 0
  pub start : IsTrue (bit_of old.blocks StartBits new.words (a - heap_of old.blocks))
  pub starts : (n : ℕ) → n < BLOCK_WORDS * old.blocks → n ≢ a - heap_of old.blocks
      → bit_of old.blocks StartBits new.words n ≡ bit_of old.blocks StartBits old.words n
  pub others : (i : ℕ) → (i < a) ⊎ (a + size_of refs nums ≤ i)
      → i ≢ first old.blocks StartBits + (a - heap_of old.blocks) / BITS_PER_WORD
      → word_at new i ≡ word_at old i

-- The pin bit of address a becomes `pinned`. All else is unchanged.
pub record SetsPin (old new : HeapState) (a : ℕ) (pinned : Bool) : Type 0 where
  pub blocks : new.blocks ≡ old.blocks
  pub number : new.number ≡ old.number
  pub base : new.base ≡ old.base
  pub extent : length new.words ≡ length old.words
  pub words : (i : ℕ) → word_at new i < 2 ^ 64
  pub pin : is_pinned new a ≡ pinned
  pub others : (x : ℕ) → x ≢ a → is_pinned new x ≡ is_pinned old x
  pub rest : (i : ℕ) → (i < first old.blocks PinBits) ⊎ (first old.blocks UnlogBits ≤ i)
      → word_at new i ≡ word_at old i

-- The unlog bit of address a becomes clear. All else is unchanged.
pub record ClearsUnlog (old new : HeapState) (a : ℕ) : Type 0 where
  pub blocks : new.blocks ≡ old.blocks
  pub number : new.number ≡ old.number
  pub base : new.base ≡ old.base
  pub extent : length new.words ≡ length old.words
  pub words : (i : ℕ) → word_at new i < 2 ^ 64
  pub clear : is_unlogged new a ≡ false
  pub others : (x : ℕ) → x ≢ a → is_unlogged new x ≡ is_unlogged old x
  pub rest : (i : ℕ) → (i < first old.blocks UnlogBits) ⊎ (heap_of old.blocks ≤ i)
      → word_at new i ≡ word_at old i
