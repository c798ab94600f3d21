use Rattle.std.proofs.Common.{sym, subst}
use Rattle.ideal_heap.specs.Names.{IsName}
use Rattle.racing_mutator.specs.RacingSeats.{epoch_of_racing, view}
use Rattle.racing_rooms.proofs.Known.{next-named}
use Rattle.racing_mutator.proofs.racing.Racing.write.Goals as goal

pub store_words-requires-clause-named : goal.store_words-requires-clause-named
store_words-requires-clause-named g c = subst IsName (sym c.next_name-name.ensures)
    (next-named (epoch_of_racing g.P.Plan.rules c.args.self.now) (view c.args.self.now) c.requires.ready.own.2 c.requires.begins.few_births)
