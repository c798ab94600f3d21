use Rattle.std.proofs.Common.{◌+◌, ◌<◌, ◌⊎◌, inl, inr, IsTrue, arith}
use Rattle.object_model.specs.Objects.{HeapState, state_over, is_start}
use Rattle.releasable_rows.proofs.TestedBlocks.{start-found, ends-at, no-object, not-inside}
use Rattle.releasable_rows.proofs.releasable.end_after.Goals.{then-size-gt-MAX_MEDIUM_WORDS-via-then-size-gt-MAX_MEDIUM_WORDS, then-size-gt-MAX_MEDIUM_WORDS-via-else-size-gt-MAX_MEDIUM_WORDS+then-offset-size-gt-BLOCK_WORDS}
use Rattle.releasable_rows.proofs.releasable.end_after.Goals as goal

pub returns-in_default-clause-none : goal.returns-in_default-clause-none
returns-in_default-clause-none g c =
    let s : HeapState = state_over (g.W.Words.words c.args.words.now) c.args.layout.now 0 0 in
    let start : IsTrue (is_start s c.address-address.result) = start-found s c.address-address.result c.marks_at-marks.result.start c.marks_at-marks.ensures.start c.if-not-marks.false in
    no-object s c.args.block c.args.offset c.args.end c.address-address.result 0 c.address-address.ensures start (c.in_default.ensures.none c.args.layout.now)

pub returns-then-size-gt-MAX_MEDIUM_WORDS-clause-none : goal.returns-then-size-gt-MAX_MEDIUM_WORDS-clause-none
returns-then-size-gt-MAX_MEDIUM_WORDS-clause-none g c =
    let s : HeapState = state_over (g.W.Words.words c.args.words.now) c.args.layout.now 0 0 in
    let start : IsTrue (is_start s c.address-address.result) = start-found s c.address-address.result c.marks_at-marks.result.start c.marks_at-marks.ensures.start c.if-not-marks.false in
    let object = c.in-Some.ensures.some c.args.layout.now in
    not-inside s c.args.block c.args.offset c.args.end c.address-address.result c.in-Some.size c.address-address.ensures start object.1
    (elim c.then-size-gt-MAX_MEDIUM_WORDS.branch as (λ _. (2048 < c.in-Some.size) ⊎ (4096 < c.args.offset + c.in-Some.size)) [
      | then-size-gt-MAX_MEDIUM_WORDS-via-then-size-gt-MAX_MEDIUM_WORDS w ↦ inl w.if-size-gt-MAX_MEDIUM_WORDS.true
      | then-size-gt-MAX_MEDIUM_WORDS-via-else-size-gt-MAX_MEDIUM_WORDS+then-offset-size-gt-BLOCK_WORDS w ↦ inr w.if-offset-size-gt-BLOCK_WORDS.true
    ])

pub returns-clause-some : goal.returns-clause-some
returns-clause-some g c =
    let s : HeapState = state_over (g.W.Words.words c.args.words.now) c.args.layout.now 0 0 in
    let start : IsTrue (is_start s c.address-address.result) = start-found s c.address-address.result c.marks_at-marks.result.start c.marks_at-marks.ensures.start c.if-not-marks.false in
    let object = c.in-Some.ensures.some c.args.layout.now in
    ends-at s c.args.block c.args.offset c.args.end c.address-address.result c.in-Some.size c.address-address.ensures start object.0 object.1 (omega arith) (omega arith) (omega arith)
