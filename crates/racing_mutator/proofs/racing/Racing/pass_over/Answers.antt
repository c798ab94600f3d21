use Rattle.std.proofs.Common.{refl, rules}
use Rattle.racing_mutator.proofs.HolesPassed.{only-passed, ready-by, rooms-by, lacks-by}
use Rattle.racing_mutator.proofs.racing.Racing.pass_over.Goals as goal

pub returns-clause-only : goal.returns-clause-only
returns-clause-only g c = only-passed g.P.Plan.rules c.args.self.now _ c.args.block c.args.least c.note_block.ensures.known refl refl c.requires.note c.note_block.ensures.rest c.note_block.ensures.blocks

pub returns-clause-ready : goal.returns-clause-ready
returns-clause-ready g c = ready-by g.P.Plan.rules c.args.self.now _ (returns-clause-only g c) c.note_block.ensures.known c.requires.ready

pub returns-clause-rooms : goal.returns-clause-rooms
returns-clause-rooms g c = rooms-by g.P.Plan.rules c.args.self.now _ c.args.block c.args.least (returns-clause-only g c) c.note_block.ensures.known c.requires.note c.note_block.ensures.rest c.note_block.ensures.blocks c.requires.ready c.requires.rooms c.requires.lacks

pub returns-clause-lacking : goal.returns-clause-lacking
returns-clause-lacking g c size lacks = lacks-by g.P.Plan.rules c.args.self.now _ c.args.block size (returns-clause-only g c) c.note_block.ensures.known lacks
