use Rattle.mutator_rule.proofs.Making.{stores}
use Rattle.mutator_rule.proofs.racing_row.RacingRow.put_as.Goals as goal

pub store-requires : goal.store-requires
store-requires g c = (c.requires.own.0, c.requires.inside, stores _ _ _ _ c.args.me.now.seat.me g.E.PicksEvent.event _ _ c.requires.own.1 c.requires.may c.requires.place c.requires.stored c.args.me.now.one)
