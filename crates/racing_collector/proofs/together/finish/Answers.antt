use Rattle.std.proofs.Common.{refl}
use Rattle.std.proofs.lemmas.List.Elements.{All-weaker}
use Rattle.trace_table.specs.Seats.{IsSeat}
use Rattle.racing_collector.specs.Accounts.{IsRacer}
use Rattle.racing_collector.proofs.Finishing.{places-inside, traces-all}
use Rattle.racing_collector.proofs.together.finish.Goals as goal

pub settle-roots-requires : goal.settle-roots-requires
settle-roots-requires c = record { places = places-inside c.args.racing c.args.raced c.requires.raced.0 c.requires.raced.1 c.requires.raced.2 }

pub close-traced-requires-clause-seats : goal.close-traced-requires-clause-seats
close-traced-requires-clause-seats c = All-weaker (IsRacer c.args.racing) (IsSeat c.args.racing.table) (λ s is. is.seat) c.args.raced.seats.items c.requires.raced.2.seats

pub returns-clause-traces : goal.returns-clause-traces
returns-clause-traces c = traces-all c.args.racing c.args.raced c.requires.raced.0 c.requires.raced.1 c.requires.raced.2 c.requires.table _ c.close-traced.ensures.run refl c.close-traced.ensures.heap c.close-traced.ensures.trace
    c.settle-roots.ensures.count c.settle-roots.ensures.targets
