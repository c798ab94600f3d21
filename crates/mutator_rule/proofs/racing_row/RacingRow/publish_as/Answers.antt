use Rattle.mutator_rule.proofs.Making.{makes}
use Rattle.mutator_rule.proofs.racing_row.RacingRow.publish_as.Goals as goal

pub fetch_or-requires : goal.fetch_or-requires
fetch_or-requires g c = (c.requires.own.0, c.requires.inside, makes _ _ _ _ c.args.me.now.seat.me g.E.PicksEvent.event _ _ c.requires.own.1 c.requires.may c.requires.place c.requires.stored c.args.me.now.one)
