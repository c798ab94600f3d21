use Rattle.plain_row.proofs.Allocated.{allocated}
use Rattle.plain_row.proofs.NewObjectCalls as calls
use Rattle.plain_row.proofs.row_steps.PlainRowAllocationSteps.publish.Goals as goal

pub returns-clause-ready : goal.returns-clause-ready
returns-clause-ready c =
    let born = allocated c.args.self.now c.allocate.new.self c.args.d c.allocate.result c.args.shape.now.refs c.args.shape.now.nums c.allocate.ensures in
    calls.ready c.args.self.now c.allocate.new.self c.args.d c.args.shape.now.refs c.args.shape.now.nums c.allocate.result born
    c.requires.room c.requires.register c.requires.refs c.requires.nums c.requires.small c.requires.births

pub returns-clause-goes : goal.returns-clause-goes
returns-clause-goes c =
    let born = allocated c.args.self.now c.allocate.new.self c.args.d c.allocate.result c.args.shape.now.refs c.args.shape.now.nums c.allocate.ensures in
    calls.goes c.args.self.now c.allocate.new.self c.args.d c.args.shape.now.refs c.args.shape.now.nums c.allocate.result born
    c.requires.room c.requires.register c.requires.refs c.requires.nums c.requires.small c.requires.births

pub returns-clause-stays : goal.returns-clause-stays
returns-clause-stays c =
    let born = allocated c.args.self.now c.allocate.new.self c.args.d c.allocate.result c.args.shape.now.refs c.args.shape.now.nums c.allocate.ensures in
    calls.stays c.args.self.now c.allocate.new.self c.args.d c.args.shape.now.refs c.args.shape.now.nums c.allocate.result born
    c.requires.room c.requires.register c.requires.refs c.requires.nums c.requires.small c.requires.births

pub returns-clause-placed : goal.returns-clause-placed
returns-clause-placed c =
    let born = allocated c.args.self.now c.allocate.new.self c.args.d c.allocate.result c.args.shape.now.refs c.args.shape.now.nums c.allocate.ensures in
    calls.places c.args.self.now c.allocate.new.self c.args.d c.args.shape.now.refs c.args.shape.now.nums c.allocate.result born
    c.requires.room c.requires.register c.requires.refs c.requires.nums c.requires.small c.requires.births

pub returns-clause-still : goal.returns-clause-still
returns-clause-still c =
    let born = allocated c.args.self.now c.allocate.new.self c.args.d c.allocate.result c.args.shape.now.refs c.args.shape.now.nums c.allocate.ensures in
    calls.still c.args.self.now c.allocate.new.self c.args.d c.args.shape.now.refs c.args.shape.now.nums c.allocate.result born
    c.requires.room c.requires.register c.requires.refs c.requires.nums c.requires.small c.requires.births

pub returns-clause-region : goal.returns-clause-region
returns-clause-region c =
    let born = allocated c.args.self.now c.allocate.new.self c.args.d c.allocate.result c.args.shape.now.refs c.args.shape.now.nums c.allocate.ensures in
    calls.region c.args.self.now c.allocate.new.self c.args.d c.args.shape.now.refs c.args.shape.now.nums c.allocate.result born
    c.requires.room c.requires.register c.requires.refs c.requires.nums c.requires.small c.requires.births

pub returns-clause-keeps : goal.returns-clause-keeps
returns-clause-keeps c =
    let born = allocated c.args.self.now c.allocate.new.self c.args.d c.allocate.result c.args.shape.now.refs c.args.shape.now.nums c.allocate.ensures in
    calls.keeps c.args.self.now c.allocate.new.self c.args.d c.args.shape.now.refs c.args.shape.now.nums c.allocate.result born
    c.requires.room c.requires.register c.requires.refs c.requires.nums c.requires.small c.requires.births
