use Rattle.std.proofs.Common.{◌+◌, sym, ◌∙◌}
use Rattle.racing_mutator.proofs.racing.Racing.next_name.Goals as goal

pub returns : goal.returns
returns g c =
    let seat = c.args.self.now.seat.now in
    λ k. record { mutator = (c.number.ensures ∙ sym seat.numbered) k; birth = (c.births.ensures ∙ sym seat.born) k + 1 }
