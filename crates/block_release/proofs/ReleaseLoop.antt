-- The blocks that were released so far.
use Rattle.std.proofs.Common.{◌≡◌, sym, subst, subst₂, ap, refl, ◌∙◌, ℕ, ◌+◌, ◌<◌, ◌^◌, Bool, false, IsTrue, List, length}
use Rattle.std.specs.Prelude.{get_or}
use Rattle.std.proofs.lemmas.List.{get_or_default}
use Rattle.std.proofs.lemmas.Option.{slice_get_within, unwrap_or-slice_get}
use Rattle.heap_layout.specs.Zones.{row_words}
use Rattle.heap_layout.specs.Blocks.{code_of, IsValidWord}
use Rattle.heap_layout.specs.declared.block.BlockWord.{BlockWord}
use Rattle.heap_layout.specs.declared.block.Kind.TheVariants as kinds
use Rattle.heap_layout.specs.declared.layout.Layout.{Layout}
use Rattle.object_model.specs.Objects.{HeapState, state_of, state_over, block_word, word_at}
use Rattle.object_model.specs.Lawful.{IsLawful}
use Rattle.object_model.specs.Releasing.{IsReleasable}
use Rattle.object_model.specs.declared.row.Row.{Row}
use Rattle.object_model.specs.declared.collect.Collect.{Collect}
use Rattle.sessions.specs.Plans.{Rules}
use Rattle.trace_core.specs.Setups.{Setup, blocks, collection}
use Rattle.trace_core.specs.Machine.{Event}
use Rattle.trace_core.specs.Traces.{IsTracing, IsFinished, machine_after, heap_after, stage_of}
use Rattle.trace_core.specs.Outcomes.{base_after_trace, image, FinishedRow}
use Rattle.trace_core.proofs.Rows.{row}
use Rattle.plan_api.specs.Releasing.{Releases}
use Rattle.trace_core.specs.Runs.{IsRunOf}
use Rattle.trace_core.specs.declared.run.TraceRun.{TraceRun}
use Rattle.plan_api.specs.Evacuation.{listed}
use Rattle.block_release.specs.Released.{ReleasesBelow, none, one_more, UnlogBitsMarkSurvivors, LinesOfTargetsAreMarked, LinesOfClaimedAreMarked, LosesNothing, LineBitsMarkSurvivors, FlagShowsEvacuation}
use Rattle.block_release.specs.Knowing.{IsTracedUnder, IsKnown, ShowsRelease}
use Rattle.block_release.specs.declared.releasing.Known.{Known}
use Rattle.block_release.specs.declared.releasing.Known.TheVariants as known
use Rattle.object_model.proofs.WordReads.{kind-shown}
use Rattle.block_release.proofs.InOrder.{next, released}
use Rattle.block_release.proofs.LawfulReleases.{lawful-with}
use Rattle.block_release.proofs.EvacuationFlags.{flag-next, flag-again}
use Rattle.block_release.proofs.UnlogBits.{marks-next, marks-again}
use Rattle.block_release.proofs.MarkedLines.{lines-next, lines-again, kept-lines-next, whole-again}
use Rattle.block_release.proofs.Numbers.{releasable-again, releases-again}

-- the blocks of the row below n are released in these words
pub record Going (r : Rules) (c : Collect) (base : ℕ) (old : Row) (words : List ℕ) (layout : Layout) (n : ℕ) : Type 0 where
  pub same : layout ≡ old.layout
  pub below : ReleasesBelow r c base (state_of old) (state_over words old.layout old.number old.base) n

pub going-first : (r : Rules) (c : Collect) (base : ℕ) (old : Row) → Going r c base old old.words old.layout 0
going-first r c base old = record { same = refl; below = none }

pub going-on : (r : Rules) (c : Collect) (base : ℕ) (old : Row) (words words' : List ℕ) (n : ℕ) → Going r c base old words old.layout n → n < old.layout.blocks
    → Releases r c base (state_over words old.layout 0 0) (state_over words' old.layout 0 0) n → Going r c base old words' old.layout (n + 1)
going-on r c base old words words' n going there releases = record {
  same = refl;
  below = one_more going.below there (releases-again r c base words words' old.layout 0 0 old.number old.base n releases);
}

pub at-end : (r : Rules) (c : Collect) (base : ℕ) (old : Row) (words : List ℕ) (n : ℕ) → n ≡ old.layout.blocks → Going r c base old words old.layout n
    → ReleasesBelow r c base (state_of old) (state_over words old.layout old.number old.base) old.layout.blocks
at-end r c base old words n all going = subst (ReleasesBelow r c base (state_of old) (state_over words old.layout old.number old.base)) all going.below

module _ (r : Rules) (c : Collect) (base : ℕ) (old : Row) (p : Setup) (es : List Event) (trace : IsTracing p es) (finished : IsFinished p (machine_after p es))
    (same : state_of old ≡ heap_after p es) (is-base : base ≡ base_after_trace p) where
  left : FinishedRow p (heap_after p es) (image (stage_of p es)) (machine_after p es).taken
  left = row p es trace finished

  blocks-same : old.layout.blocks ≡ blocks p
  blocks-same = ap (λ (s : HeapState). s.blocks) same ∙ left.layout

  module _ (words : List ℕ) (n : ℕ) (going : Going r c base old words old.layout n) where
    abbrev now : HeapState
    now = state_over words old.layout old.number old.base

    below : ReleasesBelow r c (base_after_trace p) (heap_after p es) now n
    below = subst₂ (λ b s. ReleasesBelow r c b s now n) is-base same going.below

    pub extent : length words ≡ row_words old.layout.blocks
    extent = (released p es r c now n trace finished below).extent ∙ left.extent ∙ ap row_words (sym blocks-same)

    pub releasable : n < old.layout.blocks → IsReleasable (state_over words old.layout 0 0) n
    releasable there = releasable-again words old.layout old.number old.base 0 0 n (next p es r c now n trace finished below (subst (λ b. n < b) blocks-same there))

    flags : (run : TraceRun) → run.collect ≡ c → IsTracedUnder r run p → n < old.layout.blocks → FlagShowsEvacuation r c (state_over words old.layout 0 0) n (listed run.from.items n)
    flags run is under there = flag-again r c words old.layout old.number old.base 0 0 n (listed run.from.items n)
        (subst (λ k. FlagShowsEvacuation r k now n (listed run.from.items n)) is
        (flag-next r run p es now n under trace finished (subst (λ k. ReleasesBelow r k (base_after_trace p) (heap_after p es) now n) (sym is) below) (subst (λ b. n < b) blocks-same there)))

    lines : LinesOfTargetsAreMarked p es → n < old.layout.blocks → LineBitsMarkSurvivors base (state_over words old.layout 0 0) n
    lines marked there = subst (λ b. LineBitsMarkSurvivors b (state_over words old.layout 0 0) n) (sym is-base)
        (lines-again (base_after_trace p) words old.layout old.number old.base 0 0 n (lines-next p es r c now n trace finished below (subst (λ b. n < b) blocks-same there) marked))

    kept-lines : LinesOfClaimedAreMarked p es → n < old.layout.blocks → LosesNothing base (state_over words old.layout 0 0) n → LineBitsMarkSurvivors base (state_over words old.layout 0 0) n
    kept-lines marked there whole = subst (λ b. LineBitsMarkSurvivors b (state_over words old.layout 0 0) n) (sym is-base)
        (lines-again (base_after_trace p) words old.layout old.number old.base 0 0 n
        (kept-lines-next p es r c now n trace finished below (subst (λ b. n < b) blocks-same there) marked
        (whole-again (base_after_trace p) words old.layout 0 0 old.number old.base n (subst (λ b. LosesNothing b (state_over words old.layout 0 0) n) is-base whole))))

    marks : n < old.layout.blocks → UnlogBitsMarkSurvivors base (state_over words old.layout 0 0) n
    marks there = subst (λ b. UnlogBitsMarkSurvivors b (state_over words old.layout 0 0) n) (sym is-base)
        (marks-again (base_after_trace p) words old.layout old.number old.base 0 0 n (marks-next p es r c now n trace finished below (subst (λ b. n < b) blocks-same there)))

    -- the flag of the next block is read from the run's list
    pub flag-there : (run : TraceRun) → IsRunOf p run → n < old.layout.blocks → n < length run.from.items
    flag-there run of there = slice_get_within run.from.items n (p.from n) (of.from n (subst (λ b. n < b) blocks-same there))

    pub flag-read : (run : TraceRun) → IsRunOf p run → n < old.layout.blocks → (flag : Bool) → flag ≡ get_or run.from.items n flag → listed run.from.items n ≡ flag
    flag-read run of there flag read = unwrap_or-slice_get run.from.items n false ∙ get_or_default run.from.items n false flag (flag-there run of there) ∙ sym read

    -- what is known of the trace shows of the next block
    pub shown : (run : TraceRun) → run.collect ≡ c → (k : Known) → IsKnown r run p es k → n < old.layout.blocks
        → ShowsRelease k r c base (state_over words old.layout 0 0) n (listed run.from.items n)
    shown run same-kind known.Nothing is there = tt
    shown run same-kind known.Flags is there = (marks there, flags run same-kind is there)
    shown run same-kind known.FlagsAndLines is there = (marks there, flags run same-kind is.0 there, lines is.1 there)
    shown run same-kind known.FlagsAndKeptLines is there =
        (marks there, flags run same-kind is.0 there, kept-lines is.1 there, subst (λ b. IsTrue b) is.0.under.lines is.2)

  pub lawful-after : (words : List ℕ) → ReleasesBelow r c base (state_of old) (state_over words old.layout old.number old.base) old.layout.blocks → ((i : ℕ) → word_at (state_over words old.layout old.number old.base) i < 2 ^ 64)
      → (number : ℕ) → number ≡ collection p → IsLawful (state_over words old.layout number base)
  lawful-after words all-below fits number is =
      let now : HeapState = state_over words old.layout old.number old.base in
      let all = released p es r c now (blocks p) trace finished (subst (ReleasesBelow r c (base_after_trace p) (heap_after p es) now) blocks-same (subst₂ (λ b s. ReleasesBelow r c b s now old.layout.blocks) is-base same all-below)) in
      subst₂ (λ n b. IsLawful (state_over words old.layout n b)) (sym is) (sym is-base)
      (lawful-with p es trace finished r c now fits all)

-- what is known shows of the block if it is something
module _ (r : Rules) (c : Collect) (base : ℕ) (s : HeapState) (k : ℕ) (flag : Bool) where
  pub bits-shown : (known' : Known) → (known' ≡ known.Nothing → ⊥) → ShowsRelease known' r c base s k flag → UnlogBitsMarkSurvivors base s k × FlagShowsEvacuation r c s k flag
  bits-shown known.Nothing some shows = absurd (some refl)
  bits-shown known.Flags some shows = shows
  bits-shown known.FlagsAndLines some shows = (shows.0, shows.1)
  bits-shown known.FlagsAndKeptLines some shows = (shows.0, shows.1)

  pub kept-shown : (known' : Known) → known' ≡ known.FlagsAndKeptLines → ShowsRelease known' r c base s k flag → ShowsRelease known.FlagsAndKeptLines r c base s k flag
  kept-shown known' is shows = subst (λ k'. ShowsRelease k' r c base s k flag) is shows

  pub lines-shown : (known' : Known) (w : BlockWord) → IsValidWord w → code_of w ≡ block_word s k → (w.kind ≡ kinds.Immix → known' ≡ known.FlagsAndLines)
      → ShowsRelease known' r c base s k flag → LineBitsMarkSurvivors base s k
  lines-shown known' w valid code lines shows immix =
      (subst (λ k'. ShowsRelease k' r c base s k flag) (lines (kind-shown s k kinds.Immix w valid code immix)) shows).2 immix
