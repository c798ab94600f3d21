use Rattle.mutator_rule.proofs.Making.{makes}
use Rattle.mutator_rule.proofs.racing_row.RacingRow.exchange_as.Goals as goal

pub compare_exchange-requires : goal.compare_exchange-requires
compare_exchange-requires g c = (c.requires.own.0, c.requires.inside, makes _ _ _ _ c.args.me.now.seat.me g.E.PicksEvent.event _ _ c.requires.own.1 c.requires.may c.requires.place c.requires.stored c.args.me.now.one)
