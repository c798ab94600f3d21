use Rattle.std.proofs.Common.{◌≡◌, sym, ◌∙◌, ap, subst, ◌+◌, arith, length, Vec}
use Rattle.std.specs.Prelude.{Some, slice_get}
use Rattle.std.specs.declared.alloc.Global.{Global}
use Rattle.sessions.specs.Sessions.{is_at_meet}
use Rattle.block_regions.proofs.Elements.{read-some}
use Rattle.mm_runtime.specs.declared.progress.Progress.{Progress}
use Rattle.mm_runtime.specs.Replying.{next_if, is_meet_at, RepliesBelow}
use Rattle.mm_runtime.proofs.OkSteps as replied
use Rattle.mm_runtime.proofs.meets.reply_to_meets.Goals as goal
use Rattle.mm_runtime.proofs.meets.reply_to_meets.Goals.{then-is_at_meet, else-is_at_meet}

pub loop-m-preserved : goal.loop-m-preserved
loop-m-preserved c =
    let many : length c.loop-m.progress.items ≡ length c.args.progress.now.items = c.loop-m.invariant.count in
    let end : c.len-m-end.result ≡ length c.args.progress.now.items = omega (arith, c.len-m-end.ensures, c.args.progress.now.ok.0) in
    let at : slice_get c.loop-m.progress.items c.loop-m.m ≡ Some c.index.result.now = read-some c.loop-m.progress.items c.loop-m.m c.index.result.now (omega arith) c.index.ensures in
    let was : slice_get c.args.progress.now.items c.loop-m.m ≡ Some c.index.result.now = sym (c.loop-m.invariant.above c.loop-m.m (omega arith)) ∙ at in
    let test : is_meet_at c.args.progress.now.items c.loop-m.m ≡ c.is_at_meet.result = ap (λ o. is_at_meet (next_if o)) was ∙ sym c.is_at_meet.ensures in
    elim c.if-is_at_meet.branch [
      | then-is_at_meet w ↦ (
          let here = read-some c.loop-m.progress.items c.loop-m.m w.index_mut.result.now (omega arith) w.index_mut.ensures.value in
          subst (λ (v : Vec Progress Global). RepliesBelow (is_meet_at c.args.progress.now.items) (c.loop-m.m + 1) c.args.progress.now.items v.items) (sym w.progress-is)
          (replied.one-replied (is_meet_at c.args.progress.now.items) c.args.progress.now.items c.loop-m.m c.loop-m.progress.items w.index_mut.result.now w.reply_ok.new.progress
          c.loop-m.invariant (sym (c.loop-m.invariant.above c.loop-m.m (omega arith)) ∙ here) (test ∙ w.if-is_at_meet.true) w.reply_ok.ensures)
          )
      | else-is_at_meet w ↦ subst (λ (v : Vec Progress Global). RepliesBelow (is_meet_at c.args.progress.now.items) (c.loop-m.m + 1) c.args.progress.now.items v.items) (sym w.progress-is)
          (replied.one-passed (is_meet_at c.args.progress.now.items) c.args.progress.now.items c.loop-m.m c.loop-m.progress.items c.loop-m.invariant (test ∙ w.if-is_at_meet.false))
    ]
