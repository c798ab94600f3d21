use Rattle.std.proofs.Common.{◌<◌, length, subst, sym, rules}
use Rattle.std.proofs.lemmas.List.Elements.{All-set}
use Rattle.mutator_rule.specs.declared.seat.MutatorSeat.{MutatorSeat}
use Rattle.racing_mutator.specs.RacingSeats.{MayCall}
use Rattle.racing_tests.proofs.births.check_counts.Goals as goal

pub counts-requires : goal.counts-requires
counts-requires g c =
    let few : 0 < length c.args.seats.now.items = search rules in
    subst (λ (s : MutatorSeat). MayCall g.P.Plan.rules c.args.world.now.row s) (sym c.index_mut.ensures.value) (c.requires.calls 0 c.index_mut.result.now few)

pub returns-clause-calls : goal.returns-clause-calls
returns-clause-calls g c = All-set (λ (s : MutatorSeat). MayCall g.P.Plan.rules c.args.world.now.row s) c.args.seats.now.items 0 c.counts.new.seat c.counts.ensures.call c.requires.calls
