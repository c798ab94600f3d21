-- After a trace that marked lines, the line bits of an Immix block show what lives in it.
use Rattle.std.proofs.Common.{◌≡◌, sym, ◌∙◌, ap, subst, ℕ, ◌+◌, ◌*◌, ◌%◌, ◌<◌, ◌⊎◌, inl, inr, arith, true, true≢false, ◌&&◌, ◌||◌, IsTrue, List, [], Some}
use Rattle.std.proofs.Math.Logic.{∥∥₁_elim, ∥∥₁_map}
use Rattle.std.proofs.lemmas.Bool.{cases_Bool, cases_eq, and_parts, or_left}
use Rattle.heap_layout.specs.Zones.{block_at, IsAddress}
use Rattle.heap_layout.specs.declared.block.Kind.TheVariants as kinds
use Rattle.heap_layout.specs.declared.layout.Layout.{Layout}
use Rattle.object_model.specs.declared.collect.Collect.{Collect}
use Rattle.object_model.specs.Objects.{HeapState, state_over, block_word, HasKind, line_marked, is_start, is_pinned, is_unlogged, IsHeld, size_at}
use Rattle.object_model.specs.Lawful.{IsTouched, IsClear}
use Rattle.object_model.specs.Ages as ages
use Rattle.object_model.proofs.Marks as marked
use Rattle.object_model.specs.Lines.{TouchesLine}
use Rattle.object_model.specs.Ages.{Lives}
use Rattle.object_model.specs.Releasing.{IsReleasable}
use Rattle.object_model.proofs.OneKind.{kind-code, kind-from, one-kind}
use Rattle.object_model.proofs.Lines.{touched-block_word}
use Rattle.sessions.specs.Plans.{Rules}
use Rattle.trace_core.specs.Setups.{Setup, blocks, held, size, stays_old}
use Rattle.trace_core.specs.Machine.{Event}
use Rattle.trace_core.specs.Traces.{IsTracing, IsFinished, machine_after, heap_after, stage_of, target_of}
use Rattle.trace_core.specs.Outcomes.{base_after_trace, image, FinishedRow}
use Rattle.trace_core.proofs.LineBits.{line-from, line-stays}
use Rattle.trace_core.proofs.Clauses.{old-target}
use Rattle.trace_core.proofs.Finished.{lives, onto, has-target}
use Rattle.trace_core.proofs.Rows.{row, same-size, target-size}
use Rattle.trace_core.proofs.Releasable.{releasable, tail-in-run}
use Rattle.block_release.specs.Released.{ReleasesBelow, LinesOfTargetsAreMarked, LinesOfClaimedAreMarked, LosesNothing, LivesOnLine, LineBitsMarkSurvivors}
use Rattle.block_release.proofs.Metadata.{SameReads}
use Rattle.block_release.proofs.Alike.{SameRest, rest-back, reads-back, size-same, kind-same, held-after, lives-after}
use Rattle.block_sweeps.specs.Sweeping.{InBlock}
use Rattle.block_sweeps.proofs.LargeRuns.{IsOfNone, some-or-none, span-tail}
use Rattle.block_release.proofs.Spans.{IsToRelease, begins-in}
use Rattle.block_release.proofs.Steps.{IsReleasedBelow, tail-word}
use Rattle.block_release.proofs.InOrder.{released-below}

module _ (p : Setup) (es : List Event) (trace : IsTracing p es) (finished : IsFinished p (machine_after p es)) where
  abbrev after : HeapState
  after = heap_after p es

  all-blocks : IsToRelease after
  all-blocks = record { blocks = releasable p es trace finished; tails = tail-in-run p es trace finished }

  -- what touches a line of an Immix block begins in the block
  begins-here : (k line t : ℕ) → HasKind after k kinds.Immix → line < 256 → IsHeld after t → TouchesLine (blocks p) t (size_at after t) (256 * k + line) → block_at (blocks p) t ≡ k
  begins-here k line t immix few held touches =
      let word = touched-block_word (blocks p) t (size_at after t) k line held.address.from (omega arith) few touches in
      let plain : HasKind after k kinds.LargeTail → ⊥ = λ tail. (let e = one-kind after k kinds.LargeTail kinds.Immix tail immix in omega arith) in
      elim (begins-in all-blocks k t word.0 plain held word.1 (inl word.2)) as (λ _. block_at (blocks p) t ≡ k) [
        | inl e ↦ e
        | inr later ↦ absurd (let e = one-kind after k kinds.LargeHead kinds.Immix later.0 immix in omega arith)
      ]

  -- the target of an object lives on the lines that it touches
  by-target : (k line : ℕ) → HasKind after k kinds.Immix → line < 256 → (x t : ℕ) → target_of p es x ≡ Some t → TouchesLine (blocks p) t (size p x) (256 * k + line)
      → LivesOnLine (base_after_trace p) after k line
  by-target k line immix few x t goes touched =
      let living : Lives (base_after_trace p) after t = lives p es trace finished x t goes in
      let touches : TouchesLine (blocks p) t (size_at after t) (256 * k + line) = subst (λ n. TouchesLine (blocks p) t n (256 * k + line)) (sym (target-size p es trace finished x t goes)) touched in
      record { object = t; lives = living; here = begins-here k line t immix few living.held touches; touches = touches }

  -- each is the target of an object
  target-there : (k line : ℕ) → (is : LivesOnLine (base_after_trace p) after k line)
      → (x : ℕ) × (target_of p es x ≡ Some is.object) × TouchesLine (blocks p) is.object (size p x) (256 * k + line)
  target-there k line is =
      let by = onto p es trace finished is.object is.lives in
      let goes : target_of p es by.0 ≡ Some is.object = has-target p es trace finished by.0 by.1 ∙ ap Some by.2 in
      (by.0, goes, subst (λ n. TouchesLine (blocks p) is.object n (256 * k + line)) (target-size p es trace finished by.0 is.object goes) is.touches)

  -- a bit that is clear is no bit of a line where something lives
  not-clear : (k line : ℕ) → (LivesOnLine (base_after_trace p) after k line → IsTrue (line_marked after k line)) → ∥ LivesOnLine (base_after_trace p) after k line ∥₁
      → IsTrue (line_marked after k line)
  not-clear k line shows some = elim (cases_Bool (line_marked after k line)) as (λ _. IsTrue (line_marked after k line)) [
    | inl set ↦ set
    | inr clear ↦ absurd (∥∥₁_elim some (λ x. absurd x) (λ is. true≢false (sym (shows is) ∙ clear)))
  ]

  -- where no bit was set as the trace began, and the lines of all targets are marked
  module _ (marks : LinesOfTargetsAreMarked p es) where
    set-lives : (k line : ℕ) → HasKind after k kinds.Immix → k < blocks p → line < 256 → IsTrue (line_marked after k line) → LivesOnLine (base_after_trace p) after k line
    set-lives k line immix there few set = elim (line-from p es trace (256 * k + line) (omega arith) set) as (λ _. LivesOnLine (base_after_trace p) after k line) [
      | inl was ↦ absurd (true≢false (sym was ∙ marks.clear k line there few))
      | inr by ↦ by-target k line immix few by.0 by.1 by.2 by.3
    ]

    lives-set : (k line : ℕ) → k < blocks p → line < 256 → LivesOnLine (base_after_trace p) after k line → IsTrue (line_marked after k line)
    lives-set k line there few is = let by = target-there k line is in marks.all by.0 is.object (256 * k + line) by.1 (omega arith) by.2

    pub lines-show : (k : ℕ) → k < blocks p → LineBitsMarkSurvivors (base_after_trace p) after k
    lines-show k there immix line few = ((λ set. ∣ set-lives k line immix there few set ∣₁), not-clear k line (lives-set k line there few))

  -- where line bits were exact, and those of claimed objects are marked
  module _ (marks : LinesOfClaimedAreMarked p es) (k : ℕ) (there : k < blocks p) where
    left : FinishedRow p after (image (stage_of p es)) (machine_after p es).taken
    left = row p es trace finished

    -- an Immix block was one before, or Free
    was-immix : HasKind after k kinds.Immix → HasKind p.before k kinds.Immix ⊎ HasKind p.before k kinds.Free
    was-immix immix = elim (cases_eq ((machine_after p es).taken k) 0) as (λ _. HasKind p.before k kinds.Immix ⊎ HasKind p.before k kinds.Free) [
      | inl nobody ↦ inl (kind-from p.before k kinds.Immix there (ap (λ v. v % 256) (sym (left.as_before k there nobody)) ∙ kind-code after k kinds.Immix immix))
      | inr some ↦ inr (left.was_free k (omega (arith, some)))
    ]

    was-clear : HasKind p.before k kinds.Free → IsClear p.before k
    was-clear free = trace.ready.lawful.free k free

    on-line : (line : ℕ) → HasKind after k kinds.Immix → line < 256 → LosesNothing (base_after_trace p) after k → IsTouched p.before k line → LivesOnLine (base_after_trace p) after k line
    on-line line immix few whole is =
        let held : IsHeld after is.object = (left.held is.object).1 (inl is.held) in
        let touches : TouchesLine (blocks p) is.object (size_at after is.object) (256 * k + line)
        = subst (λ n. TouchesLine (blocks p) is.object n (256 * k + line)) (sym (same-size p es trace finished is.object is.held)) is.touches in
        let here : block_at (blocks p) is.object ≡ k = begins-here k line is.object immix few held touches in
        record { object = is.object; lives = whole is.object (record { address = held.address; block = here }) held; here = here; touches = touches }

    set-kept : (line : ℕ) → HasKind after k kinds.Immix → line < 256 → LosesNothing (base_after_trace p) after k → IsTrue (line_marked after k line) → ∥ LivesOnLine (base_after_trace p) after k line ∥₁
    set-kept line immix few whole set = elim (line-from p es trace (256 * k + line) (omega arith) set) as (λ _. ∥ LivesOnLine (base_after_trace p) after k line ∥₁) [
      | inl was ↦ elim (was-immix immix) as (λ _. ∥ LivesOnLine (base_after_trace p) after k line ∥₁) [
        | inl before ↦ ∥∥₁_map ((marks.exact k there).marked line before few was) (on-line line immix few whole)
        | inr free ↦ absurd ((was-clear free).lines line few was)
      ]
      | inr by ↦ ∣ by-target k line immix few by.0 by.1 by.2 by.3 ∣₁
    ]

    -- an old object stays, and the lines that it touches were marked
    old-set : (line : ℕ) → HasKind after k kinds.Immix → line < 256 → (x t : ℕ) → IsTrue (stays_old p x) → target_of p es x ≡ Some t → block_at (blocks p) t ≡ k
        → TouchesLine (blocks p) t (size p x) (256 * k + line) → IsTrue (line_marked p.before k line)
    old-set line immix few x t aged goes here touches =
        let itself : t ≡ x = (let one : Some t ≡ Some x = sym goes ∙ old-target p es trace x aged in cc) in
        let start : held p x ≡ true = (and_parts (held p x) (ages.is_old p.before x) (and_parts p.nursery (held p x && ages.is_old p.before x) aged).1).0 in
        let was : IsHeld p.before x = marked.held p.before x start in
        elim (was-immix immix) as (λ _. IsTrue (line_marked p.before k line)) [
          | inl before ↦ (marks.exact k there).touched line before few (record { object = x; held = was; touches = subst (λ y. TouchesLine (blocks p) y (size p x) (256 * k + line)) itself touches })
          | inr free ↦ absurd ((was-clear free).marks x (ap (block_at (blocks p)) (sym itself) ∙ here)
              (or_left (is_start p.before x || is_pinned p.before x) (is_unlogged p.before x) (or_left (is_start p.before x) (is_pinned p.before x) start)))
        ]

    kept-set : (line : ℕ) → HasKind after k kinds.Immix → line < 256 → LivesOnLine (base_after_trace p) after k line → IsTrue (line_marked after k line)
    kept-set line immix few is =
        let by = target-there k line is in
        elim (cases_Bool (stays_old p by.0)) as (λ _. IsTrue (line_marked after k line)) [
          | inl aged ↦ line-stays p [] es trace (256 * k + line) (omega arith) (old-set line immix few by.0 is.object aged by.1 is.here by.2)
          | inr young ↦ marks.all by.0 is.object (256 * k + line) by.1 young (omega arith) by.2
        ]

    pub kept-lines-show : LosesNothing (base_after_trace p) after k → LineBitsMarkSurvivors (base_after_trace p) after k
    kept-lines-show whole immix line few = (set-kept line immix few whole, not-clear k line (kept-set line immix few))

-- a block whose metadata reads the same
module _ (base : ℕ) (s t : HeapState) (rest : SameRest s t) (k : ℕ) (same : SameReads s t k) where
  lives-on : (line : ℕ) → LivesOnLine base s k line → LivesOnLine base t k line
  lives-on line is = record {
    object = is.object;
    lives = lives-after s t rest k same base is.object is.here is.lives;
    here = ap (λ b. block_at b is.object) rest.blocks ∙ is.here;
    touches = subst (λ b. TouchesLine b is.object (size_at t is.object) (256 * k + line)) (sym rest.blocks)
        (subst (λ n. TouchesLine s.blocks is.object n (256 * k + line)) (sym (size-same s t rest is.object is.lives.held.address)) is.touches);
  }

same-lines : (base : ℕ) (s t : HeapState) (rest : SameRest s t) (k : ℕ) (same : SameReads s t k) → LineBitsMarkSurvivors base s k → LineBitsMarkSurvivors base t k
same-lines base s t rest k same was immix line few =
    let shows = was (sym (kind-same s t rest k same kinds.Immix) ∙ immix) line few in (
      (λ set. ∥∥₁_map (shows.0 (sym (same.lines line few) ∙ set)) (lives-on base s t rest k same line)),
      (λ some. same.lines line few ∙ shows.1 (∥∥₁_map some (lives-on base t s (rest-back s t rest) k (reads-back s t k rest.blocks same) line))),
    )

-- the line bits of the next block to release show the same as before the release of others
module _ (r : Rules) (c : Collect) (base : ℕ) (s : HeapState) (ready : (k : ℕ) → k < s.blocks → IsReleasable s k) (mid : HeapState) (n : ℕ) (there : n < s.blocks)
    (below : IsReleasedBelow r c base s mid n) where
  no-tail : HasKind s n kinds.LargeTail → (block_word mid n ≡ block_word s n) ⊎ (block_word mid n ≡ 0) → HasKind mid n kinds.Immix → ⊥
  no-tail tail word immix =
      let now = kind-code mid n kinds.Immix immix in
      let was = kind-code s n kinds.LargeTail tail in
      elim word as (λ _. ⊥) [ inl same ↦ omega (arith, now, was, same) | inr zero ↦ omega (arith, now, zero) ]

  -- what was held in the block lives if all that is held now does
  whole-before : IsOfNone s n n → LosesNothing base mid n → LosesNothing base s n
  whole-before apart whole a here held =
      let same : SameReads s mid n = below.later n there apart in
      let now : InBlock mid n a = record { address = subst (λ b. IsAddress b a) (sym below.rest.blocks) here.address; block = ap (λ b. block_at b a) below.rest.blocks ∙ here.block } in
      lives-after mid s (rest-back s mid below.rest) n (reads-back s mid n below.rest.blocks same) base a now.block (whole a now (held-after s mid below.rest n same a here.block held))

  lines-still : (IsOfNone s n n → LineBitsMarkSurvivors base s n) → LineBitsMarkSurvivors base mid n
  lines-still was = elim (some-or-none s n n) as (λ _. LineBitsMarkSurvivors base mid n) [
    | inl some ↦
        let tail : HasKind s n kinds.LargeTail = span-tail s ready some.0 n some.2 (λ same. let less : some.0 < n = some.1 in omega arith) in
        (λ immix. absurd (no-tail tail
        (elim (tail-word r c base s ready mid n there below tail some.0 some.1 some.2) as (λ _. (block_word mid n ≡ block_word s n) ⊎ (block_word mid n ≡ 0)) [ inl same ↦ inl same | inr freed ↦ inr freed.word ]) immix))
    | inr apart ↦ same-lines base s mid below.rest n (below.later n there apart) (was apart)
  ]

module _ (p : Setup) (es : List Event) (r : Rules) (c : Collect) (mid : HeapState) (n : ℕ) (trace : IsTracing p es) (finished : IsFinished p (machine_after p es))
    (below : ReleasesBelow r c (base_after_trace p) (heap_after p es) mid n) (there : n < blocks p) where
  all-ready : (k : ℕ) → k < blocks p → IsReleasable (heap_after p es) k
  all-ready = releasable p es trace finished

  so-far : IsReleasedBelow r c (base_after_trace p) (heap_after p es) mid n
  so-far = released-below r c (base_after_trace p) (heap_after p es) all-ready mid n below

  pub lines-next : LinesOfTargetsAreMarked p es → LineBitsMarkSurvivors (base_after_trace p) mid n
  lines-next marks = lines-still r c (base_after_trace p) (heap_after p es) all-ready mid n there so-far (λ apart. lines-show p es trace finished marks n there)

  pub kept-lines-next : LinesOfClaimedAreMarked p es → LosesNothing (base_after_trace p) mid n → LineBitsMarkSurvivors (base_after_trace p) mid n
  kept-lines-next marks whole = lines-still r c (base_after_trace p) (heap_after p es) all-ready mid n there so-far
      (λ apart. kept-lines-show p es trace finished marks n there (whole-before r c (base_after_trace p) (heap_after p es) all-ready mid n there so-far apart whole))

-- the numbers of a heap are no part of it
module _ (age : ℕ) (words : List ℕ) (l : Layout) (n b n' b' k : ℕ) where
  lives-again : (a : ℕ) → Lives age (state_over words l n b) a → Lives age (state_over words l n' b') a
  lives-again a living = record { held = record { address = living.held.address; start = living.held.start }; survives = living.survives }

  on-line-again : (line : ℕ) → LivesOnLine age (state_over words l n b) k line → LivesOnLine age (state_over words l n' b') k line
  on-line-again line is = record { object = is.object; lives = lives-again is.object is.lives; here = is.here; touches = is.touches }

  pub whole-again : LosesNothing age (state_over words l n b) k → LosesNothing age (state_over words l n' b') k
  whole-again whole a here held = lives-again a (whole a (record { address = here.address; block = here.block }) (record { address = held.address; start = held.start }))

pub lines-again : (age : ℕ) (words : List ℕ) (l : Layout) (number base number' base' k : ℕ) → LineBitsMarkSurvivors age (state_over words l number base) k → LineBitsMarkSurvivors age (state_over words l number' base') k
lines-again age words l number base number' base' k was immix line few =
    let shows = was immix line few in (
      (λ set. ∥∥₁_map (shows.0 set) (on-line-again age words l number base number' base' k line)),
      (λ some. shows.1 (∥∥₁_map some (on-line-again age words l number' base' number base k line))),
    )
