use Rattle.std.proofs.Common.{◌≡◌, sym, ◌∙◌, ap, subst, ℕ, ◌+◌, arith, length}
use Rattle.std.proofs.lemmas.List.Sums.{count_by-le-length}
use Rattle.ideal_heap.specs.Runs.{is_full}
use Rattle.mm_runtime.specs.declared.progress.Progress.{Progress}
use Rattle.mm_runtime.proofs.Waits as waits
use Rattle.mm_runtime.proofs.Tally.{entries-are-replies}
use Rattle.mm_runtime.proofs.ReplyCounts.{SumsFirst, one-summed, all-summed}
use Rattle.mm_runtime.proofs.manager.Manager.commands.Goals as goal

pub overflow_add-count : goal.overflow_add-count
overflow_add-count g c =
    let p : Progress = c.progress-item.result in
    let i : ℕ = c.loop-progress.progress-index in
    let each = c.requires.each i p (waits.item c.args.self.now.progress.items c.deref-progress-items.result.now i p c.deref-progress-items.ensures.value c.loop-progress-test.true c.progress-item.is) in
    let within = each.within in
    let few = each.few in
    let many = c.requires.few in
    let same : length c.deref-progress-items.result.now ≡ length c.args.self.now.progress.items = ap length c.deref-progress-items.ensures.value in
    let least = count_by-le-length is_full p.replies.items in
    omega (arith, c.len-count.ensures, within, few, many, same, least, c.loop-progress-test.true, c.loop-progress.invariant.few)

pub loop-progress-preserved : goal.loop-progress-preserved
loop-progress-preserved g c =
    let p : Progress = c.progress-item.result in
    let i : ℕ = c.loop-progress.progress-index in
    let f : Progress → ℕ = λ q. length q.replies.items in
    let each = c.requires.each i p (waits.item c.args.self.now.progress.items c.deref-progress-items.result.now i p c.deref-progress-items.ensures.value c.loop-progress-test.true c.progress-item.is) in
    let within = each.within in
    let few = each.few in
    let least = count_by-le-length is_full p.replies.items in
    subst (λ (k : ℕ). SumsFirst f c.args.self.now.progress.items (i + 1) (c.loop-progress.count + k)) (sym c.len-count.ensures)
    (one-summed f c.args.self.now.progress.items c.deref-progress-items.result.now i c.loop-progress.count p c.loop-progress.invariant c.deref-progress-items.ensures.value c.loop-progress-test.true c.progress-item.is
    (omega (arith, within, few, least)))

pub returns-clause-session : goal.returns-clause-session
returns-clause-session g c t now closes =
    all-summed (λ q. length q.replies.items) c.args.self.now.progress.items c.deref-progress-items.result.now c.loop-progress.progress-index c.loop-progress.count
    c.loop-progress.invariant c.deref-progress-items.ensures.value (omega (arith, c.loop-progress-test.false))
    ∙ sym (entries-are-replies c.args.self.now.progress.items now.done closes.stands.replies)
