use Rattle.std.proofs.Common.{◌≡◌, ◌∙◌, ap, ℕ, List, ◌++◌, subst}
use Rattle.ideal_heap.specs.declared.reply.Reply.{Reply}
use Rattle.ideal_heap.specs.Runs.{replies_of}
use Rattle.made_trace.specs.Counts.{AreCounts}
use Rattle.driver.specs.Texts.{counts_part, live_line}
use Rattle.driver.proofs.summary.summary_text.Goals as goal

pub returns : goal.returns
returns g c t last closes =
    let n : ℕ = c.args.commands in
    let t1 : List ℕ = c.print_counts.new.to.items in
    let replies : List Reply = replies_of 1 last.done in
    let are : AreCounts c.of.result replies = subst (AreCounts c.of.result) (c.replies.ensures.session t last closes) c.of.ensures in
    let x1 : t1 ≡ counts_part n replies = c.in_ok-print_counts.ensures replies are ∙ ap (λ l. l ++ counts_part n replies) c.new-text.ensures.items in
    let live = c.in_ok-print_live_of.ensures t last closes in record {
      live = live.0;
      are = live.1;
      printed = live.2 ∙ ap (λ l. l ++ live_line last.heap live.0) x1;
    }
