use Rattle.std.proofs.Common.{sym, ◌∙◌, ap, count_by}
use Rattle.ideal_heap.specs.Names.{name}
use Rattle.stored_replies.specs.Kinds.{is_of_index, is_of_kind}
use Rattle.stored_replies.specs.Replies.{Replies}
use Rattle.stored_replies.proofs.PackedReplies.{counted-kinds}
use Rattle.stored_replies.proofs.stored_replies.StoredReplies.kind_counts.Goals as goal

pub returns-clause-counts : goal.returns-clause-counts
returns-clause-counts c = λ i within.
    let inside = c.self.inside in
    c.index_counts.ensures.counts i within ∙ ap (count_by (is_of_index i)) c.deref.ensures.value
    ∙ sym (counted-kinds i (name 0 0) inside.kinds.items inside.names.items inside.numbers.items)
    ∙ ap (λ (v : Replies). count_by (is_of_kind i) v.items) c.self.view_is
