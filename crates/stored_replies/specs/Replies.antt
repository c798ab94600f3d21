-- What contracts see of stored replies.
use Rattle.std.specs.Prelude.{ℕ, List}
use Rattle.ideal_heap.specs.declared.reply.Reply.{Reply}

-- the replies, and how many there is room for in all
pub record Replies : Type 0 where
  pub items : List Reply
  pub capacity : ℕ
