use Rattle.std.proofs.Common.{arith}
use Rattle.ideal_heap.specs.Names.{name}
use Rattle.stored_replies.proofs.PackedReplies.{length-unpacked}
use Rattle.stored_replies.proofs.stored_replies.StoredReplies.len.Goals as goal

pub returns : goal.returns
returns c =
    let inside = c.self.inside in
    let many = length-unpacked (name 0 0) inside.kinds.items inside.names.items inside.numbers.items in
    rw (← c.self.view_is) (grind (arith, many, c.len.ensures, inside.kinds.ok))
