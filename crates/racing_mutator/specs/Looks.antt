-- What a mutator knows of a block that it looked at.
use Rattle.std.specs.Prelude.{◌≡◌, ℕ, ◌+◌, ◌*◌, ◌<◌, ◌⊎◌, true, List, ◌∷◌, length, slice_index}
use Rattle.std.specs.List.{Contains}
use Rattle.heap_layout.specs.Blocks.{code_of, IsValidWord}
use Rattle.heap_layout.specs.Zones.{LineWords, StartBits, block_start, first}
use Rattle.line_marks.specs.Bits.{HasNoBit, IsLastBit}
use Rattle.object_model.specs.Objects.{block_word, size_of}
use Rattle.object_model.specs.declared.shape.TheConstants.{SHAPE_OFFSET}
use Rattle.plan_api.specs.declared.block_view.BlockView.{BlockView}
use Rattle.mutator_core.specs.declared.state.Loaded.{Loaded}
use Rattle.mutator_core.specs.declared.state.Local.{Local}
use Rattle.mutator_core.specs.Machine.{Epoch, refs_in, nums_in}
use Rattle.heap_layout.specs.declared.layout.TheConstants.{BLOCK_BIT_WORDS}
use Rattle.racing_mutator.specs.declared.looks.StartWord.{StartWord}

-- the state after the word of block k was loaded
abbrev pub with_block_word : Local → ℕ → ℕ → Local
with_block_word l k word = record l { blocks = (record { at = k; word = word }) ∷ l.blocks }

-- the state after a word of a line, of start bits or of a header was loaded
abbrev pub with_loaded : Local → ℕ → ℕ → Local
with_loaded l at word = record l { loaded = (record { at = at; word = word }) ∷ l.loaded }

-- the mutator loaded this word
abbrev pub HasLoaded : Local → ℕ → ℕ → Type 0
HasLoaded l at word = Contains l.loaded (record { at = at; word = word })

-- it is a start word of block k that the mutator loaded, or none
abbrev pub IsStartWord : Epoch → Local → ℕ → StartWord → Type 0
IsStartWord p l k held = held.index < BLOCK_BIT_WORDS
    → HasLoaded l (first p.before.blocks StartBits + 64 * k + held.index) held.word

-- `end` is that of the object of the last start bit, whose shape word the mutator loaded, or 0 if no
-- bit is set
abbrev pub HasSeenEnd : Epoch → Local → ℕ → List ℕ → ℕ → Type 0
HasSeenEnd p l k starts end = (HasNoBit starts true 0 × (end ≡ 0))
    ⊎ ((n word : ℕ) × IsLastBit starts n
    × HasLoaded l (block_start p.before.blocks k + n + SHAPE_OFFSET) word
    × (end ≡ n + size_of (refs_in word) (nums_in word)))

-- The view has the block word and the line words as the epoch began, and start words that the
-- mutator loaded.
pub record HasLooked (p : Epoch) (l : Local) (k : ℕ) (v : BlockView) : Type 0 where
  pub code : code_of v.word ≡ block_word p.before k
  pub valid : IsValidWord v.word
  pub lines : (n : ℕ) → n < 4 → slice_index v.lines n
      ≡ slice_index p.before.words (first p.before.blocks LineWords + 4 * k + n)
  pub len : length v.starts ≡ 64
  pub starts : (n : ℕ) → n < 64
      → HasLoaded l (first p.before.blocks StartBits + 64 * k + n) (slice_index v.starts n)
  pub end : HasSeenEnd p l k v.starts v.end
