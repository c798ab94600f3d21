-- What `relist_block` does under each plan, for a block that mutators filled.
use Rattle.std.specs.Prelude.{◌≡◌, ℕ, Bool, true, false, ◌&&◌}
use Rattle.heap_layout.specs.declared.block.Kind.TheVariants as kinds
use Rattle.object_model.specs.Objects.{HeapState, has_kind}
use Rattle.object_model.specs.Lawful.{LineBitsAreExact, AllLie}
use Rattle.block_sweeps.specs.Sweeping.{MarksTouched}
use Rattle.sessions.specs.Plans.{Rules}

-- The line bits of block k became those of the lines that objects in it touch, and nothing else
-- changed. Where all objects lie as they may, none reaches in from another block, so the line bits
-- are exact.
pub record RelistsLines (s s' : HeapState) (k : ℕ) : Type 0 where
  pub marked : MarksTouched s s' k
  pub exact : AllLie s → LineBitsAreExact s' k

-- under a plan with lines for an Immix block; in every other case nothing changes
abbrev pub RelistsIf : Bool → HeapState → HeapState → ℕ → Type 0
RelistsIf true s s' k = RelistsLines s s' k
RelistsIf false s s' k = (s'.blocks ≡ s.blocks) × (s'.words ≡ s.words)

-- block k is relisted under these rules
abbrev pub Relists : Rules → HeapState → HeapState → ℕ → Type 0
Relists r s s' k = RelistsIf (r.lines && has_kind s k kinds.Immix) s s' k
