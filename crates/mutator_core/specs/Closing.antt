-- The end of an epoch: mutators give back the blocks that they own.
use Rattle.heap_layout.specs.declared.block_codes.TheConstants.{OWNER_UNIT}
use Rattle.heap_layout.specs.declared.layout.TheConstants.{BLOCK_LINES}
use Rattle.std.specs.Prelude.{◌≡◌, ℕ, ◌%◌, ◌^◌, ◌<◌, ◌≤◌, ◌⊎◌, length}
use Rattle.std.specs.List.{Contains}
use Rattle.heap_layout.specs.Zones.{Globals, BlockWords, StartBits, first, block_at}
use Rattle.heap_layout.specs.declared.block.Kind.TheVariants as kinds
use Rattle.object_model.specs.Objects.{HeapState, word_at, block_word, HasKind, owner_at, line_marked}
use Rattle.object_model.specs.Lawful.{LineBitsAreExact}
use Rattle.mutator_core.specs.declared.state.Local.{Local}
use Rattle.mutator_core.specs.declared.state.OwnedBlock.{OwnedBlock}
use Rattle.mutator_core.specs.declared.state.Extent.{Extent}
use Rattle.mutator_core.specs.Machine.{Epoch, nothing_unpublished}

-- The mutator is between two calls: it has no unpublished object, it has stored into the object
-- whose unlog bit it last cleared, and each block that it took when Free holds an object that it
-- allocated.
pub record IsBetweenCalls (p : Epoch) (l : Local) : Type 0 where
  pub none : l.unpublished ≡ nothing_unpublished
  pub stored : l.pending ≡ 0
  pub used : (o : OwnedBlock) → Contains l.owned o → HasKind p.before o.block kinds.Free
      → (x : Extent) × Contains l.made x × (block_at p.before.blocks x.address ≡ o.block)

-- Each block keeps its kind and class and has no owner. The line bits of an Immix block that had an
-- owner become those of the lines that objects touch. The line bits of a block without an owner
-- stay, and so do the globals and all words from the start words on. The stop word, the budget
-- word, and the line bits of other blocks may become anything.
pub record GivesBack (old new : HeapState) : Type 0 where
  pub blocks : new.blocks ≡ old.blocks
  pub number : new.number ≡ old.number
  pub base : new.base ≡ old.base
  pub extent : length new.words ≡ length old.words
  pub words : (i : ℕ) → word_at new i < 2 ^ 64
  pub owners : (k : ℕ) → k < old.blocks → block_word new k ≡ block_word old k % OWNER_UNIT
  pub listed : (k : ℕ) → 0 < owner_at old k → LineBitsAreExact new k
  pub lines : (k line : ℕ) → k < old.blocks → line < BLOCK_LINES → owner_at old k ≡ 0
      → line_marked new k line ≡ line_marked old k line
  pub rest : (i : ℕ) → (first old.blocks Globals ≤ i) × (i < first old.blocks BlockWords)
      ⊎ (first old.blocks StartBits ≤ i) → word_at new i ≡ word_at old i
