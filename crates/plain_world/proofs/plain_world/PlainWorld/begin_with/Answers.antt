use Rattle.std.proofs.Common.{◌≡◌, ◌∙◌, ap, length, arith, replicate}
use Rattle.plain_world.specs.EmptySeats.{empty_seat}
use Rattle.plain_world.proofs.plain_world.PlainWorld.begin_with.Goals as goal

pub begin_seated-requires-clause-seats : goal.begin_seated-requires-clause-seats
begin_seated-requires-clause-seats g c =
    c.in_ok-seats.ensures ∙ ap (λ n. replicate n empty_seat) (let many : c.len.result ≡ length c.args.mutators.items = omega arith in many)

pub returns-clause-open : goal.returns-clause-open
returns-clause-open g c = c.begin_seated.ensures.open

pub returns-clause-tickets : goal.returns-clause-tickets
returns-clause-tickets g c = c.begin_seated.ensures.tickets

pub returns-clause-begins : goal.returns-clause-begins
returns-clause-begins g c = c.begin_seated.ensures.begins
