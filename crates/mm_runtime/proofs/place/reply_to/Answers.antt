use Rattle.std.proofs.Common.{refl}
use Rattle.mm_runtime.proofs.OneReply.{replies-here}
use Rattle.mm_runtime.proofs.place.reply_to.Goals as goal

pub returns : goal.returns
returns c = λ k is. replies-here c.args.progress.now.items k c.args.number c.index_mut.result.now
    (record { trace = c.index_mut.result.now.trace; replies = c.push_reserved.new.self }) c.args.reply is c.requires.most c.index_mut.ensures.value refl
    c.push_reserved.ensures.items c.push_reserved.ensures.capacity
