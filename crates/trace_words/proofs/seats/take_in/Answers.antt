use Rattle.trace_words.proofs.SeatSteps.{joins}
use Rattle.trace_words.proofs.seats.take_in.Goals as goal

pub join-requires : goal.join-requires
join-requires c = (c.requires.own.0, c.requires.other, c.requires.own.1, joins _ _ _ _ _ c.requires.live)
