use Rattle.std.proofs.Common.{◌≡◌, ℕ, ◌+◌, ◌%◌, sym, ◌∙◌, ap, subst, arith, slice_index}
use Rattle.object_model.specs.Objects.{HeapState, state_over, block_word}
use Rattle.large_space.proofs.RunSearch as runs
use Rattle.large_space.proofs.FreeRunLaws.{apart-run}
use Rattle.large_space.proofs.search.find_run.Goals as goal
use Rattle.large_space.proofs.search.find_run.Goals.{then-get, else-get+else-block-from}

pub returns-then-block-from-clause-run : goal.returns-then-block-from-clause-run
returns-then-block-from-clause-run g c =
    let s : HeapState = state_over (g.W.Words.words c.args.words.now) c.args.layout.now 0 0 in
    let read : c.get.result ≡ block_word s c.loop-block.block = c.get.ensures ∙ ap (slice_index s.words) c.block_at.ensures in
    runs.run-found s c.args.count c.loop-block.from c.loop-block.block c.requires.least c.loop-block.invariant (omega arith)
    (ap (λ v. v % 256) (sym read) ∙ c.if-get.false) c.if-block-from.true

pub returns-then-block-from-clause-clear : goal.returns-then-block-from-clause-clear
returns-then-block-from-clause-clear g c =
    let s : HeapState = state_over (g.W.Words.words c.args.words.now) c.args.layout.now 0 0 in
    runs.clear-run s c.loop-block.from c.args.count (returns-then-block-from-clause-run g c)

pub returns-then-block-from-clause-apart : goal.returns-then-block-from-clause-apart
returns-then-block-from-clause-apart g c =
    let s : HeapState = state_over (g.W.Words.words c.args.words.now) c.args.layout.now 0 0 in
    apart-run s c.loop-block.from c.args.count (returns-then-block-from-clause-run g c).run

pub loop-block-preserved : goal.loop-block-preserved
loop-block-preserved g c =
    let s : HeapState = state_over (g.W.Words.words c.args.words.now) c.args.layout.now 0 0 in
    let read : c.get.result ≡ block_word s c.loop-block.block = c.get.ensures ∙ ap (slice_index s.words) c.block_at.ensures in
    elim c.if-get.branch as (λ _. runs.IsScanned s c.args.count c.if-get.from (c.loop-block.block + 1)) [
      | then-get w ↦ subst (λ (n : ℕ). runs.IsScanned s c.args.count n (c.loop-block.block + 1)) (sym w.from-is)
          (runs.used-block s c.args.count c.loop-block.from c.loop-block.block c.requires.least c.loop-block.invariant (λ free. w.if-get.true (ap (λ v. v % 256) read ∙ free)))
      | else-get+else-block-from w ↦ subst (λ (n : ℕ). runs.IsScanned s c.args.count n (c.loop-block.block + 1)) (sym w.from-is)
          (runs.free-block s c.args.count c.loop-block.from c.loop-block.block c.requires.least c.loop-block.invariant (omega arith)
          (ap (λ v. v % 256) (sym read) ∙ w.if-get.false) w.if-block-from.false)
    ]

pub returns-clause-run : goal.returns-clause-run
returns-clause-run g c =
    let s : HeapState = state_over (g.W.Words.words c.args.words.now) c.args.layout.now 0 0 in
    runs.no-run s c.args.count c.loop-block.from c.loop-block.block c.loop-block.invariant (omega arith)
