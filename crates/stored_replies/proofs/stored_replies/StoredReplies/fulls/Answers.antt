use Rattle.std.proofs.Common.{sym, ◌∙◌, ap, count_by}
use Rattle.ideal_heap.specs.Runs.{is_full}
use Rattle.ideal_heap.specs.Names.{name}
use Rattle.stored_replies.specs.Replies.{Replies}
use Rattle.stored_replies.proofs.PackedReplies.{full-kinds}
use Rattle.stored_replies.proofs.stored_replies.StoredReplies.fulls.Goals as goal

pub returns : goal.returns
returns c =
    let inside = c.self.inside in
    c.self.invariant.4 ∙ sym (full-kinds (name 0 0) inside.kinds.items inside.names.items inside.numbers.items)
    ∙ ap (λ (v : Replies). count_by is_full v.items) c.self.view_is
