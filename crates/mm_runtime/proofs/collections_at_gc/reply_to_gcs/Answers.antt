use Rattle.std.proofs.Common.{ap, sym, ◌∙◌, subst, ◌≡◌, ◌+◌, arith, length, Vec}
use Rattle.std.specs.Prelude.{Some, slice_get}
use Rattle.std.proofs.lemmas.Option.{get_or_from_slice_get}
use Rattle.std.specs.declared.alloc.Global.{Global}
use Rattle.mm_runtime.specs.declared.progress.Progress.{Progress}
use Rattle.block_regions.proofs.Elements.{read-some}
use Rattle.mm_runtime.specs.declared.progress.PartEnd.TheVariants as end
use Rattle.mm_runtime.specs.Replying.{is_gc_at, RepliesBelow}
use Rattle.mm_runtime.proofs.OkSteps as replied
use Rattle.mm_runtime.proofs.collections_at_gc.reply_to_gcs.Goals as goal
use Rattle.mm_runtime.proofs.collections_at_gc.reply_to_gcs.Goals.{in-Gc, in_default}

pub reply_ok-requires-clause-next : goal.reply_ok-requires-clause-next
reply_ok-requires-clause-next c =
    let gc : slice_get c.args.ends.now c.loop-m.m ≡ Some end.Gc = read-some c.args.ends.now c.loop-m.m end.Gc (omega arith) (sym c.in-Gc.is) in
    let many : length c.loop-m.progress.items ≡ length c.args.progress.now.items = c.loop-m.invariant.count in
    let same : length c.args.ends.now ≡ length c.args.progress.now.items = c.requires.count in
    let at = read-some c.loop-m.progress.items c.loop-m.m c.index_mut.result.now (omega arith) c.index_mut.ensures.value in
    let was = sym (c.loop-m.invariant.above c.loop-m.m (omega arith)) ∙ at in
    replied.has-next c.index_mut.result.now _ (c.requires.gcs c.loop-m.m _ was gc)

pub loop-m-preserved : goal.loop-m-preserved
loop-m-preserved c = elim c.match-end.branch [
  | in-Gc w ↦ (
      let gc : slice_get c.args.ends.now c.loop-m.m ≡ Some end.Gc = read-some c.args.ends.now c.loop-m.m end.Gc (omega arith) (sym w.in-Gc.is) in
      let many : length c.loop-m.progress.items ≡ length c.args.progress.now.items = c.loop-m.invariant.count in
      let same : length c.args.ends.now ≡ length c.args.progress.now.items = c.requires.count in
      let at = read-some c.loop-m.progress.items c.loop-m.m w.index_mut.result.now (omega arith) w.index_mut.ensures.value in
      subst (λ (v : Vec Progress Global). RepliesBelow (is_gc_at c.args.ends.now) (c.loop-m.m + 1) c.args.progress.now.items v.items) (sym w.progress-is)
      (replied.one-replied (is_gc_at c.args.ends.now) c.args.progress.now.items c.loop-m.m c.loop-m.progress.items w.index_mut.result.now w.reply_ok.new.progress
      c.loop-m.invariant (sym (c.loop-m.invariant.above c.loop-m.m (omega arith)) ∙ at) (ap replied.is-gc gc) w.reply_ok.ensures)
      )
  | in_default w ↦ subst (λ (v : Vec Progress Global). RepliesBelow (is_gc_at c.args.ends.now) (c.loop-m.m + 1) c.args.progress.now.items v.items) (sym w.progress-is)
      (replied.one-passed (is_gc_at c.args.ends.now) c.args.progress.now.items c.loop-m.m c.loop-m.progress.items c.loop-m.invariant
      (replied.not-gc (slice_get c.args.ends.now c.loop-m.m) (λ e. w.in_default.not-Gc (get_or_from_slice_get c.args.ends.now c.loop-m.m end.Gc end.Gc e))))
]
