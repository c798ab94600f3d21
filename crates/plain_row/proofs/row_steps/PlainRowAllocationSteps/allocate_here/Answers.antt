use Rattle.std.proofs.Common.{sym, subst, refl, arith, ℕ}
use Rattle.object_model.specs.Objects.{size_of}
use Rattle.plain_row.specs.Worlds.{MayCall}
use Rattle.plain_row.specs.Steps.{Lacks, KeepsRegion}
use Rattle.plain_row.specs.Rows.{seat_at_turn}
use Rattle.plain_row.proofs.Allocated.{allocated}
use Rattle.plain_row.proofs.RoomOffered.{room-offers, room-not-full}
use Rattle.plain_row.proofs.RegionsWithoutRoom.{own-lacks, lacks-regions}
use Rattle.plain_row.proofs.NewObjectCalls as calls
use Rattle.plain_row.proofs.Turns as turns
use Rattle.plain_row.proofs.row_steps.PlainRowAllocationSteps.allocate_here.Goals as goal

pub returns-in-Some-clause-ready : goal.returns-in-Some-clause-ready
returns-in-Some-clause-ready c =
    let born = allocated c.args.self.now c.allocate_if_room.new.self c.args.d c.in-Some.name c.args.shape.now.refs c.args.shape.now.nums c.in-Some.ensures.made in
    calls.ready c.args.self.now c.allocate_if_room.new.self c.args.d c.args.shape.now.refs c.args.shape.now.nums c.in-Some.name born
    c.in-Some.ensures.room c.requires.register c.requires.refs c.requires.nums c.requires.small c.requires.births

pub returns-in-Some-clause-goes : goal.returns-in-Some-clause-goes
returns-in-Some-clause-goes c =
    let born = allocated c.args.self.now c.allocate_if_room.new.self c.args.d c.in-Some.name c.args.shape.now.refs c.args.shape.now.nums c.in-Some.ensures.made in
    calls.goes c.args.self.now c.allocate_if_room.new.self c.args.d c.args.shape.now.refs c.args.shape.now.nums c.in-Some.name born
    c.in-Some.ensures.room c.requires.register c.requires.refs c.requires.nums c.requires.small c.requires.births

pub returns-in-Some-clause-stays : goal.returns-in-Some-clause-stays
returns-in-Some-clause-stays c =
    let born = allocated c.args.self.now c.allocate_if_room.new.self c.args.d c.in-Some.name c.args.shape.now.refs c.args.shape.now.nums c.in-Some.ensures.made in
    calls.stays c.args.self.now c.allocate_if_room.new.self c.args.d c.args.shape.now.refs c.args.shape.now.nums c.in-Some.name born
    c.in-Some.ensures.room c.requires.register c.requires.refs c.requires.nums c.requires.small c.requires.births

pub returns-in-Some-clause-still : goal.returns-in-Some-clause-still
returns-in-Some-clause-still c =
    let born = allocated c.args.self.now c.allocate_if_room.new.self c.args.d c.in-Some.name c.args.shape.now.refs c.args.shape.now.nums c.in-Some.ensures.made in
    calls.still c.args.self.now c.allocate_if_room.new.self c.args.d c.args.shape.now.refs c.args.shape.now.nums c.in-Some.name born
    c.in-Some.ensures.room c.requires.register c.requires.refs c.requires.nums c.requires.small c.requires.births

pub returns-in-Some-clause-placed : goal.returns-in-Some-clause-placed
returns-in-Some-clause-placed c =
    let born = allocated c.args.self.now c.allocate_if_room.new.self c.args.d c.in-Some.name c.args.shape.now.refs c.args.shape.now.nums c.in-Some.ensures.made in
    calls.places c.args.self.now c.allocate_if_room.new.self c.args.d c.args.shape.now.refs c.args.shape.now.nums c.in-Some.name born
    c.in-Some.ensures.room c.requires.register c.requires.refs c.requires.nums c.requires.small c.requires.births

pub returns-in-Some-clause-keeps : goal.returns-in-Some-clause-keeps
returns-in-Some-clause-keeps c =
    let born = allocated c.args.self.now c.allocate_if_room.new.self c.args.d c.in-Some.name c.args.shape.now.refs c.args.shape.now.nums c.in-Some.ensures.made in
    calls.keeps c.args.self.now c.allocate_if_room.new.self c.args.d c.args.shape.now.refs c.args.shape.now.nums c.in-Some.name born
    c.in-Some.ensures.room c.requires.register c.requires.refs c.requires.nums c.requires.small c.requires.births

pub returns-in-Some-clause-offered : goal.returns-in-Some-clause-offered
returns-in-Some-clause-offered c =
    let size = size_of c.args.shape.now.refs c.args.shape.now.nums in
    room-offers c.args.self.now size (omega arith) c.requires.small c.in-Some.ensures.room

pub returns-in-Some-clause-some : goal.returns-in-Some-clause-some
returns-in-Some-clause-some c = λ full.
    room-not-full c.args.self.now (size_of c.args.shape.now.refs c.args.shape.now.nums) (omega arith) c.requires.small c.in-Some.ensures.room full

pub returns-in-Some-clause-region : goal.returns-in-Some-clause-region
returns-in-Some-clause-region c =
    let born = allocated c.args.self.now c.allocate_if_room.new.self c.args.d c.in-Some.name c.args.shape.now.refs c.args.shape.now.nums c.in-Some.ensures.made in
    let w = c.args.self.now in
    let has = c.in-Some.ensures.room in
    let tries = turns.block-tries w.fill w.notes.items (seat_at_turn w) (size_of c.args.shape.now.refs c.args.shape.now.nums) has.block has.current in (
      has.block,
      tries,
      calls.region c.args.self.now c.allocate_if_room.new.self c.args.d c.args.shape.now.refs c.args.shape.now.nums c.in-Some.name born c.in-Some.ensures.room c.requires.register c.requires.refs c.requires.nums c.requires.small c.requires.births has.block tries,
    )

pub returns-in-None-clause-ready : goal.returns-in-None-clause-ready
returns-in-None-clause-ready c = subst MayCall (sym c.in-None.ensures.same) c.requires.ready

pub returns-in-None-clause-stays : goal.returns-in-None-clause-stays
returns-in-None-clause-stays c = subst (λ w. (n k : ℕ) → Lacks c.args.self.now n k → Lacks w n k) (sym c.in-None.ensures.same) (λ n k is. is)

pub returns-in-None-clause-keeps : goal.returns-in-None-clause-keeps
returns-in-None-clause-keeps c = λ over. subst (λ w. KeepsRegion c.args.self.now w) (sym c.in-None.ensures.same) (record { block = refl; region = refl })

pub returns-in-None-clause-full : goal.returns-in-None-clause-full
returns-in-None-clause-full c =
    let w = c.args.self.now in
    let size = size_of c.args.shape.now.refs c.args.shape.now.nums in
    record {
      own = λ not k here. own-lacks w size k c.requires.ready not c.in-None.ensures.none here;
      lines = λ lines. lacks-regions w size (omega arith) c.requires.ready lines c.in-None.ensures.none;
    }
