use Rattle.heap_picture.proofs.RepliesRead.{reply_read, reply_printed}
use Rattle.heap_picture.proofs.laws.replies_are_read_as_printed.Goals as goal

pub returns : goal.returns
returns c line full = (reply_read line full, reply_printed line full)
