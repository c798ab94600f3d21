use Rattle.std.proofs.Common.{sym, ◌∙◌, ap, ◌%◌, ◌^◌}
use Rattle.std.specs.Prelude.{sum, sum_by}
use Rattle.ideal_heap.specs.Names.{name}
use Rattle.stored_replies.specs.Kinds.{number_replied}
use Rattle.stored_replies.specs.Replies.{Replies}
use Rattle.stored_replies.proofs.PackedReplies.{numbers-summed}
use Rattle.stored_replies.proofs.stored_replies.StoredReplies.number_sum.Goals as goal

pub returns : goal.returns
returns c =
    let inside = c.self.inside in
    c.sum_of.ensures ∙ ap (λ l. sum l % 2 ^ 64) c.deref.ensures.value
    ∙ ap (λ n. n % 2 ^ 64) (sym (numbers-summed (name 0 0) inside.kinds.items inside.names.items inside.numbers.items c.self.invariant.0))
    ∙ ap (λ (v : Replies). sum_by number_replied v.items % 2 ^ 64) c.self.view_is
