-- Each call makes the entry of its command.
use Rattle.mm_runtime.proofs.SeatReplies.{gets-reply}
use Rattle.mm_runtime.proofs.seat_calls.perform_at.Goals as goal

pub returns-in-Get : goal.returns-in-Get
returns-in-Get g c =
    gets-reply g.P.Plan.rules c.args.world.now c.args.seat.now c.get.new.seat c.args.command _ c.get.result c.args.replies.now c.push_reserved.new.self c.in-Get.is c.get.ensures.0
    c.push_reserved.ensures.items c.push_reserved.ensures.capacity

pub returns-in-Put : goal.returns-in-Put
returns-in-Put g c =
    gets-reply g.P.Plan.rules c.args.world.now c.args.seat.now c.put.new.seat c.args.command _ c.put.result c.args.replies.now c.push_reserved-in-Put.new.self c.in-Put.is c.put.ensures.enters.0
    c.push_reserved-in-Put.ensures.items c.push_reserved-in-Put.ensures.capacity

pub returns-in-Read : goal.returns-in-Read
returns-in-Read g c =
    gets-reply g.P.Plan.rules c.args.world.now c.args.seat.now c.read.new.seat c.args.command _ c.read.result c.args.replies.now c.push_reserved-in-Read.new.self c.in-Read.is c.read.ensures.0
    c.push_reserved-in-Read.ensures.items c.push_reserved-in-Read.ensures.capacity

pub returns-in-Write : goal.returns-in-Write
returns-in-Write g c =
    gets-reply g.P.Plan.rules c.args.world.now c.args.seat.now c.write.new.seat c.args.command _ c.write.result c.args.replies.now c.push_reserved-in-Write.new.self c.in-Write.is c.write.ensures.0
    c.push_reserved-in-Write.ensures.items c.push_reserved-in-Write.ensures.capacity

pub returns-in-Add : goal.returns-in-Add
returns-in-Add g c =
    gets-reply g.P.Plan.rules c.args.world.now c.args.seat.now c.add.new.seat c.args.command _ c.add.result c.args.replies.now c.push_reserved-in-Add.new.self c.in-Add.is c.add.ensures.0
    c.push_reserved-in-Add.ensures.items c.push_reserved-in-Add.ensures.capacity

pub returns-in-Swap : goal.returns-in-Swap
returns-in-Swap g c =
    gets-reply g.P.Plan.rules c.args.world.now c.args.seat.now c.swap.new.seat c.args.command _ c.swap.result c.args.replies.now c.push_reserved-in-Swap.new.self c.in-Swap.is c.swap.ensures.0
    c.push_reserved-in-Swap.ensures.items c.push_reserved-in-Swap.ensures.capacity

pub returns-in-Move : goal.returns-in-Move
returns-in-Move g c =
    gets-reply g.P.Plan.rules c.args.world.now c.args.seat.now c.move_register.new.seat c.args.command _ c.move_register.result c.args.replies.now c.push_reserved-in-Move.new.self c.in-Move.is c.move_register.ensures.0
    c.push_reserved-in-Move.ensures.items c.push_reserved-in-Move.ensures.capacity

pub returns-in-DropReg : goal.returns-in-DropReg
returns-in-DropReg g c =
    gets-reply g.P.Plan.rules c.args.world.now c.args.seat.now c.drop_register.new.seat c.args.command _ c.drop_register.result c.args.replies.now c.push_reserved-in-DropReg.new.self c.in-DropReg.is c.drop_register.ensures.0
    c.push_reserved-in-DropReg.ensures.items c.push_reserved-in-DropReg.ensures.capacity

pub returns-in-Load : goal.returns-in-Load
returns-in-Load g c =
    gets-reply g.P.Plan.rules c.args.world.now c.args.seat.now c.load.new.seat c.args.command _ c.load.result c.args.replies.now c.push_reserved-in-Load.new.self c.in-Load.is c.load.ensures.0
    c.push_reserved-in-Load.ensures.items c.push_reserved-in-Load.ensures.capacity

pub returns-in-Share : goal.returns-in-Share
returns-in-Share g c =
    gets-reply g.P.Plan.rules c.args.world.now c.args.seat.now c.share.new.seat c.args.command _ c.share.result c.args.replies.now c.push_reserved-in-Share.new.self c.in-Share.is c.share.ensures.0
    c.push_reserved-in-Share.ensures.items c.push_reserved-in-Share.ensures.capacity

pub returns-in-Pin : goal.returns-in-Pin
returns-in-Pin g c =
    gets-reply g.P.Plan.rules c.args.world.now c.args.seat.now c.pin.new.seat c.args.command _ c.pin.result c.args.replies.now c.push_reserved-in-Pin.new.self c.in-Pin.is c.pin.ensures.0
    c.push_reserved-in-Pin.ensures.items c.push_reserved-in-Pin.ensures.capacity

pub returns-in-Unpin : goal.returns-in-Unpin
returns-in-Unpin g c =
    gets-reply g.P.Plan.rules c.args.world.now c.args.seat.now c.unpin.new.seat c.args.command _ c.unpin.result c.args.replies.now c.push_reserved-in-Unpin.new.self c.in-Unpin.is c.unpin.ensures.0
    c.push_reserved-in-Unpin.ensures.items c.push_reserved-in-Unpin.ensures.capacity
