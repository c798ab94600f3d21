-- The words that mutators loaded, against the present words of the row.
use Rattle.heap_layout.specs.declared.block_codes.TheConstants.{CLASS_UNIT, OWNER_UNIT}
use Rattle.std.specs.Prelude.{◌≡◌, ◌≢◌, ℕ, ◌+◌, ◌/◌, ◌%◌, ◌<◌, ◌⊎◌, true}
use Rattle.std.specs.List.{Contains}
use Rattle.std.specs.Int.{bit_at}
use Rattle.heap_layout.specs.declared.layout.TheConstants.{STOP_WORD}
use Rattle.heap_layout.specs.Zones.{LineWords, StartBits, HeapWords, InZone}
use Rattle.heap_layout.specs.declared.block.Kind.TheVariants as kinds
use Rattle.object_model.specs.Objects.{HeapState, word_at, HasKind, owner_at, IsHeld}
use Rattle.object_model.specs.Graphs.{numbers_of}
use Rattle.mutator_core.specs.declared.state.Local.{Local}
use Rattle.mutator_core.specs.declared.state.Loaded.{Loaded}
use Rattle.mutator_core.specs.Machine.{Epoch}

-- if the loaded block word is not that of a Free block, the block is not Free; if it has an owner,
-- the block has one
pub record IsSeen (s : HeapState) (x : Loaded) : Type 0 where
  pub used : x.word % CLASS_UNIT ≢ 0 → HasKind s x.at kinds.Free → ⊥
  pub owned : 0 < x.word / OWNER_UNIT → 0 < owner_at s x.at

-- the mutator loaded the word of block k, and it was not that of a Free block
pub record HasSeenUsed (l : Local) (k : ℕ) : Type 0 where
  pub loaded : Loaded
  pub among : Contains l.blocks loaded
  pub here : loaded.at ≡ k
  pub used : loaded.word % CLASS_UNIT ≢ 0

-- The stop word is 0, or the number of a mutator that raised a stop. Once a mutator loads it as not
-- 0, it is unchanged.
pub record AreSeen (p : Epoch) (s : HeapState) (locals : ℕ → Local) : Type 0 where
  pub stop : (word_at s STOP_WORD ≡ 0) ⊎ (Contains (numbers_of p.mutators) (word_at s STOP_WORD)
      × ((locals (word_at s STOP_WORD)).raised ≡ true))
  pub polled : (m : ℕ) → 0 < (locals m).stop → word_at s STOP_WORD ≡ (locals m).stop
  pub blocks : (m : ℕ) (x : Loaded) → Contains (locals m).blocks x → (x.at < s.blocks) × IsSeen s x

-- A line word, start word or header word that was loaded. A line word is as the epoch began. A
-- start word has all bits of the word as the epoch began, and the present word has all its bits. A
-- header word of a held object is unchanged.
pub record IsLoaded (p : Epoch) (s : HeapState) (x : Loaded) : Type 0 where
  pub line : InZone s.blocks LineWords x.at → x.word ≡ word_at p.before x.at
  pub since : InZone s.blocks StartBits x.at → (k : ℕ) → bit_at (word_at p.before x.at) k ≡ 1
      → bit_at x.word k ≡ 1
  pub still : InZone s.blocks StartBits x.at → (k : ℕ) → bit_at x.word k ≡ 1
      → bit_at (word_at s x.at) k ≡ 1
  pub header : InZone s.blocks HeapWords x.at → (a : ℕ) × (i : ℕ) × IsHeld s a × (i < 3)
      × (x.at ≡ a + i)
      × (x.word ≡ word_at s x.at)

-- line words are as the epoch began, start words only gained bits, and each loaded word is as
-- IsLoaded says
pub record AreLoaded (p : Epoch) (s : HeapState) (locals : ℕ → Local) : Type 0 where
  pub lines : (i : ℕ) → InZone s.blocks LineWords i → word_at s i ≡ word_at p.before i
  pub starts : (i : ℕ) → InZone s.blocks StartBits i → (k : ℕ) → bit_at (word_at p.before i) k ≡ 1
      → bit_at (word_at s i) k ≡ 1
  pub words : (m : ℕ) (x : Loaded) → Contains (locals m).loaded x → IsLoaded p s x
