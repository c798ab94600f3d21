use Rattle.std.proofs.Common.{◌≡◌, ◌+◌, ◌*◌, ◌∙◌, sym, ap, subst, true≢false, IsTrue, arith}
use Rattle.heap_layout.specs.Zones.{block_start}
use Rattle.object_model.specs.Objects.{HeapState, state_over, is_start, size_at, blocks_for}
use Rattle.object_model.specs.Lawful.{HasObject}
use Rattle.releasable_rows.specs.BlockTests.{HasNoMark}
use Rattle.releasable_rows.proofs.TestedBlocks.{start-found}
use Rattle.releasable_rows.proofs.releasable.holds_large.Goals.{then-size-le-MAX_MEDIUM_WORDS-via-then-size-le-MAX_MEDIUM_WORDS, then-size-le-MAX_MEDIUM_WORDS-via-else-size-le-MAX_MEDIUM_WORDS+then-size-class}
use Rattle.releasable_rows.proofs.releasable.holds_large.Goals as goal

pub returns-in_default : goal.returns-in_default
returns-in_default g c =
    let s : HeapState = state_over (g.W.Words.words c.args.words.now) c.args.layout.now 0 0 in
    let at : c.address-first.result ≡ block_start s.blocks c.args.block = c.address-first.ensures ∙ (omega arith) in
    (λ wrong. absurd (true≢false (sym wrong)), λ holds. absurd (c.in_default.ensures.none c.args.layout.now (subst (HasObject s) (sym at) holds.object)))

pub overflow_add-size : goal.overflow_add-size
overflow_add-size g c =
    let object = c.in-Some.ensures.some c.args.layout.now in
    let refs = object.0.refs in
    let nums = object.0.nums in
    let size = object.1 in
    omega arith

pub returns-then-size-le-MAX_MEDIUM_WORDS : goal.returns-then-size-le-MAX_MEDIUM_WORDS
returns-then-size-le-MAX_MEDIUM_WORDS g c =
    let s : HeapState = state_over (g.W.Words.words c.args.words.now) c.args.layout.now 0 0 in
    let at : c.address-first.result ≡ block_start s.blocks c.args.block = c.address-first.ensures ∙ (omega arith) in
    let size : c.in-Some.size ≡ size_at s (block_start s.blocks c.args.block) = (c.in-Some.ensures.some c.args.layout.now).1 ∙ ap (size_at s) at in (
      λ wrong. absurd (true≢false (sym wrong)),
      λ holds. absurd (elim c.then-size-le-MAX_MEDIUM_WORDS.branch [
        | then-size-le-MAX_MEDIUM_WORDS-via-then-size-le-MAX_MEDIUM_WORDS w ↦ (let small = w.if-size-le-MAX_MEDIUM_WORDS.true in let large = holds.large in omega arith)
        | then-size-le-MAX_MEDIUM_WORDS-via-else-size-le-MAX_MEDIUM_WORDS+then-size-class w ↦ w.if-size-class.true (let class : blocks_for (size_at s (block_start s.blocks c.args.block)) ≡ c.args.class = holds.class in omega arith)
      ]),
    )

pub returns : goal.returns
returns g c =
    let s : HeapState = state_over (g.W.Words.words c.args.words.now) c.args.layout.now 0 0 in
    let at : c.address-first.result ≡ block_start s.blocks c.args.block = c.address-first.ensures ∙ (omega arith) in
    let object = c.in-Some.ensures.some c.args.layout.now in
    let size : c.in-Some.size ≡ size_at s (block_start s.blocks c.args.block) = object.1 ∙ ap (size_at s) at in (
      λ none. record {
        inside = omega arith;
        start = subst (λ x. IsTrue (is_start s x)) at (start-found s c.address-first.result c.marks_at.result.start c.marks_at.ensures.start c.if-not-marks_at.false);
        object = subst (HasObject s) at object.0;
        large = omega arith;
        class = (let class = c.if-size-class.false in omega arith);
        tails = c.are_tails.ensures.0 c.if-not-are_tails.false;
        rest = subst (λ x. HasNoMark s (x + 1) (x + 4096 * c.args.class)) at (c.has_no_mark.ensures.0 none);
      },
      λ holds. c.has_no_mark.ensures.1 (subst (λ x. HasNoMark s (x + 1) (x + 4096 * c.args.class)) (sym at) holds.rest),
    )
