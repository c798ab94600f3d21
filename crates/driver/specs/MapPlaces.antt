-- The places of a map, as its lines print them.
use Rattle.std.specs.Prelude.{◌≡◌, ℕ, ◌+◌, ◌*◌, ◌<◌, ◌≤◌, List, map}
use Rattle.std.specs.List.{All, AllPairs}
use Rattle.heap_layout.specs.declared.layout.TheConstants.{BLOCK_WORDS}
use Rattle.ideal_heap.specs.Ideal.{IdealHeap, record_of}
use Rattle.object_model.specs.declared.shape.TheConstants.{MAX_MEDIUM_WORDS}
use Rattle.driver.specs.Texts.{MapPlace}
use Rattle.driver.specs.LiveNames.{AreLiveNames, record_size}

-- Word i belongs to the place. Words are counted from word 0 of block 0 on.
pub record HasWord (p : MapPlace) (i : ℕ) : Type 0 where
  pub from : BLOCK_WORDS * p.block + p.word ≤ i
  pub below : i < BLOCK_WORDS * p.block + p.word + p.size

-- no word belongs to both places
abbrev pub AreDisjoint : MapPlace → MapPlace → Type 0
AreDisjoint p q = (i : ℕ) → HasWord p i → HasWord q i → ⊥

-- The place lies in the blocks of a heap of so many. One of at most `MAX_MEDIUM_WORDS` words ends
-- in its block; a larger one begins at its block's first word.
pub record LiesInBlocks (blocks : ℕ) (p : MapPlace) : Type 0 where
  pub inside : (i : ℕ) → HasWord p i → i < BLOCK_WORDS * blocks
  pub medium : p.size ≤ MAX_MEDIUM_WORDS → p.word + p.size ≤ BLOCK_WORDS
  pub large : MAX_MEDIUM_WORDS < p.size → p.word ≡ 0

-- The places, in a heap of so many blocks, of the objects that the ideal heap reaches: each has the
-- size of its record, and no two overlap.
pub record IsMapOf (h : IdealHeap) (blocks : ℕ) (places : List MapPlace) : Type 0 where
  pub names : AreLiveNames h (map (λ p. p.name) places)
  pub sizes : All (λ p. p.size ≡ record_size (record_of h p.name)) places
  pub inside : All (LiesInBlocks blocks) places
  pub apart : AllPairs AreDisjoint places
