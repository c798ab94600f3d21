use Rattle.std.proofs.Common.{sym, ◌∙◌, ap, ◌+◌, ◌++◌}
use Rattle.ideal_heap.specs.Runs.{replies_of}
use Rattle.trace_text.specs.Text.{mutator_text}
use Rattle.driver.proofs.MutatorReplies.{replies-more}
use Rattle.driver.proofs.session_runs.text_of_replies.Goals as goal

pub loop-m-preserved : goal.loop-m-preserved
loop-m-preserved g c t last closes =
    let m = c.loop-m.m in
    c.in_ok-print_replies.ensures
    ∙ ap (λ rs. c.loop-m.text.items ++ mutator_text (m + 1) rs) (c.replies.ensures.session t last closes)
    ∙ ap (λ l. l ++ mutator_text (m + 1) (replies_of (m + 1) last.done)) (c.loop-m.invariant t last closes)
    ∙ sym (replies-more last m)
