-- Each call makes the entry of its command.
use Rattle.std.proofs.Common.{refl}
use Rattle.mm_runtime.proofs.WorldAnswers.{gets-entered}
use Rattle.mm_runtime.proofs.perform.perform.Goals as goal

pub returns-in-Get : goal.returns-in-Get
returns-in-Get g c =
    gets-entered c.args.world.now c.get.new.self c.args.place c.args.command _ c.get.result _ c.args.replies.now c.push_reserved.new.self c.in-Get.is refl refl c.requires.open c.get.ensures c.push_reserved.ensures.items
    c.push_reserved.ensures.capacity

pub returns-in-Put : goal.returns-in-Put
returns-in-Put g c =
    gets-entered c.args.world.now c.put.new.self c.args.place c.args.command _ c.put.result _ c.args.replies.now c.push_reserved-in-Put.new.self c.in-Put.is refl refl c.requires.open c.put.ensures.call c.push_reserved-in-Put.ensures.items
    c.push_reserved-in-Put.ensures.capacity

pub returns-in-Read : goal.returns-in-Read
returns-in-Read g c =
    gets-entered c.args.world.now c.read.new.self c.args.place c.args.command _ c.read.result _ c.args.replies.now c.push_reserved-in-Read.new.self c.in-Read.is refl refl c.requires.open c.read.ensures c.push_reserved-in-Read.ensures.items
    c.push_reserved-in-Read.ensures.capacity

pub returns-in-Write : goal.returns-in-Write
returns-in-Write g c =
    gets-entered c.args.world.now c.write.new.self c.args.place c.args.command _ c.write.result _ c.args.replies.now c.push_reserved-in-Write.new.self c.in-Write.is refl refl c.requires.open c.write.ensures c.push_reserved-in-Write.ensures.items
    c.push_reserved-in-Write.ensures.capacity

pub returns-in-Add : goal.returns-in-Add
returns-in-Add g c =
    gets-entered c.args.world.now c.add.new.self c.args.place c.args.command _ c.add.result _ c.args.replies.now c.push_reserved-in-Add.new.self c.in-Add.is refl refl c.requires.open c.add.ensures c.push_reserved-in-Add.ensures.items
    c.push_reserved-in-Add.ensures.capacity

pub returns-in-Swap : goal.returns-in-Swap
returns-in-Swap g c =
    gets-entered c.args.world.now c.swap.new.self c.args.place c.args.command _ c.swap.result _ c.args.replies.now c.push_reserved-in-Swap.new.self c.in-Swap.is refl refl c.requires.open c.swap.ensures c.push_reserved-in-Swap.ensures.items
    c.push_reserved-in-Swap.ensures.capacity

pub returns-in-Move : goal.returns-in-Move
returns-in-Move g c =
    gets-entered c.args.world.now c.move_register.new.self c.args.place c.args.command _ c.move_register.result _ c.args.replies.now c.push_reserved-in-Move.new.self c.in-Move.is refl refl c.requires.open c.move_register.ensures c.push_reserved-in-Move.ensures.items
    c.push_reserved-in-Move.ensures.capacity

pub returns-in-DropReg : goal.returns-in-DropReg
returns-in-DropReg g c =
    gets-entered c.args.world.now c.drop_register.new.self c.args.place c.args.command _ c.drop_register.result _ c.args.replies.now c.push_reserved-in-DropReg.new.self c.in-DropReg.is refl refl c.requires.open c.drop_register.ensures c.push_reserved-in-DropReg.ensures.items
    c.push_reserved-in-DropReg.ensures.capacity

pub returns-in-Load : goal.returns-in-Load
returns-in-Load g c =
    gets-entered c.args.world.now c.load.new.self c.args.place c.args.command _ c.load.result _ c.args.replies.now c.push_reserved-in-Load.new.self c.in-Load.is refl refl c.requires.open c.load.ensures c.push_reserved-in-Load.ensures.items
    c.push_reserved-in-Load.ensures.capacity

pub returns-in-Share : goal.returns-in-Share
returns-in-Share g c =
    gets-entered c.args.world.now c.share.new.self c.args.place c.args.command _ c.share.result _ c.args.replies.now c.push_reserved-in-Share.new.self c.in-Share.is refl refl c.requires.open c.share.ensures c.push_reserved-in-Share.ensures.items
    c.push_reserved-in-Share.ensures.capacity

pub returns-in-Pin : goal.returns-in-Pin
returns-in-Pin g c =
    gets-entered c.args.world.now c.pin.new.self c.args.place c.args.command _ c.pin.result _ c.args.replies.now c.push_reserved-in-Pin.new.self c.in-Pin.is refl refl c.requires.open c.pin.ensures c.push_reserved-in-Pin.ensures.items
    c.push_reserved-in-Pin.ensures.capacity

pub returns-in-Unpin : goal.returns-in-Unpin
returns-in-Unpin g c =
    gets-entered c.args.world.now c.unpin.new.self c.args.place c.args.command _ c.unpin.result _ c.args.replies.now c.push_reserved-in-Unpin.new.self c.in-Unpin.is refl refl c.requires.open c.unpin.ensures c.push_reserved-in-Unpin.ensures.items
    c.push_reserved-in-Unpin.ensures.capacity
