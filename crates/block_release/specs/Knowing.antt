-- What is known of a finished tracing as its blocks are released, and what that shows of a block.
use Rattle.std.specs.Prelude.{◌≡◌, ℕ, ◌<◌, Bool, IsTrue, List, map}
use Rattle.std.specs.List.{range_with_len}
use Rattle.object_model.specs.declared.collect.Collect.{Collect}
use Rattle.object_model.specs.declared.collect.Collect.TheVariants.{Nursery}
use Rattle.object_model.specs.Objects.{HeapState, block_word}
use Rattle.sessions.specs.Collecting.{is_evacuated}
use Rattle.sessions.specs.Plans.{Rules}
use Rattle.trace_core.specs.Setups.{Setup, blocks}
use Rattle.trace_core.specs.Machine.{Event}
use Rattle.trace_core.specs.declared.run.TraceRun.{TraceRun}
use Rattle.block_release.specs.Released.{UnlogBitsMarkSurvivors, LosesNothing, LinesOfTargetsAreMarked}
use Rattle.block_release.specs.Released.{LinesOfClaimedAreMarked, LineBitsMarkSurvivors, FlagShowsEvacuation}
use Rattle.block_release.specs.declared.releasing.Known.{Known}
use Rattle.block_release.specs.declared.releasing.Known.TheVariants as known

-- The description is of a collection of this kind under these rules: which blocks the rules
-- evacuate, the kind of blocks that workers fill, and whether lines are marked. Only rules with
-- young objects have nursery collections.
pub record IsRunUnder (r : Rules) (c : Collect) (s : HeapState) (run : TraceRun) : Type 0 where
  pub collect : run.collect ≡ c
  pub young : c ≡ Nursery → IsTrue r.young
  pub from : run.from.items ≡ map (is_evacuated r c s) (range_with_len 0 s.blocks)
  pub copy : run.copy_kind ≡ r.copy
  pub lines : run.lines ≡ r.lines

-- The tracing's run is that of a collection of a heap under these rules, and the tracing began with
-- the block words of that heap.
pub record IsTracedUnder (r : Rules) (run : TraceRun) (p : Setup) : Type 0 where
  pub heap : HeapState
  pub under : IsRunUnder r run.collect heap run
  pub blocks : blocks p ≡ heap.blocks
  pub words : (k : ℕ) → k < heap.blocks → block_word p.before k ≡ block_word heap k

-- the tracing was so
abbrev pub IsKnown : Rules → TraceRun → Setup → List Event → Known → Type 0
IsKnown r run p es known.Nothing = Unit {0}
IsKnown r run p es known.Flags = IsTracedUnder r run p
IsKnown r run p es known.FlagsAndLines = IsTracedUnder r run p × LinesOfTargetsAreMarked p es
IsKnown r run p es known.FlagsAndKeptLines = IsTracedUnder r run p × LinesOfClaimedAreMarked p es
    × IsTrue run.lines

-- so the bits of block k show what lives in it, and its flag whether it is Kept
abbrev pub ShowsRelease : Known → Rules → Collect → ℕ → HeapState → ℕ → Bool → Type 0
ShowsRelease known.Nothing r c base s k flag = Unit {0}
ShowsRelease known.Flags r c base s k flag = UnlogBitsMarkSurvivors base s k
    × FlagShowsEvacuation r c s k flag
ShowsRelease known.FlagsAndLines r c base s k flag = UnlogBitsMarkSurvivors base s k
    × FlagShowsEvacuation r c s k flag × LineBitsMarkSurvivors base s k
ShowsRelease known.FlagsAndKeptLines r c base s k flag = UnlogBitsMarkSurvivors base s k
    × FlagShowsEvacuation r c s k flag
    × (LosesNothing base s k → LineBitsMarkSurvivors base s k) × IsTrue r.lines
