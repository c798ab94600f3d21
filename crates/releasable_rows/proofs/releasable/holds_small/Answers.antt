use Rattle.std.proofs.Common.{true≢false, sym, refl, arith}
use Rattle.object_model.specs.Objects.{HeapState, state_over}
use Rattle.releasable_rows.proofs.TestedBlocks.{small-more, last-more, goes-on, small-all}
use Rattle.releasable_rows.proofs.releasable.holds_small.Goals as goal

pub returns-in_default : goal.returns-in_default
returns-in_default g c =
    let s : HeapState = state_over (g.W.Words.words c.args.words.now) c.args.layout.now 0 0 in (
      λ wrong. absurd (true≢false (sym wrong)),
      λ all. absurd (
          let on = goes-on s c.args.block c.loop-offset.offset c.loop-offset.end (omega arith) c.loop-offset.invariant.holds c.loop-offset.invariant.tight all in
          c.in_default.ensures.none on.0 on.1),
    )

pub loop-offset-preserved : goal.loop-offset-preserved
loop-offset-preserved g c =
    let s : HeapState = state_over (g.W.Words.words c.args.words.now) c.args.layout.now 0 0 in
    record {
      holds = small-more s c.args.block c.loop-offset.offset c.loop-offset.end c.in-Some.next c.loop-offset.invariant.holds c.loop-offset.invariant.tight c.in-Some.ensures.some;
      tight = last-more s c.args.block c.loop-offset.offset c.loop-offset.end c.in-Some.next c.loop-offset.invariant.holds c.loop-offset.invariant.tight c.in-Some.ensures.some;
    }

pub returns : goal.returns
returns g c =
    let s : HeapState = state_over (g.W.Words.words c.args.words.now) c.args.layout.now 0 0 in
    (λ _. small-all s c.args.block c.loop-offset.offset c.loop-offset.end (omega arith) c.loop-offset.invariant.holds, λ _. refl)
