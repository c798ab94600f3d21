use Rattle.std.proofs.Common.{◌≡◌, sym, ap, ◌∙◌, length, rules}
use Rattle.racing_world.specs.Calls.{number_of}
use Rattle.racing_tests.proofs.SameNumbers.{same-numbers}
use Rattle.racing_tests.proofs.notes.play_together.Goals as goal

pub returns-clause-all : goal.returns-clause-all
returns-clause-all g c =
    let many : length c.args.seats.now ≡ length c.for_each_mut.new.s = search rules in
    same-numbers number_of c.args.seats.now c.for_each_mut.new.s many (λ k d within.
    let at = (c.for_each_mut.ensures k d within).1 in
    ap number_of (sym at.left) ∙ at.call.1 ∙ ap number_of at.argument_is)
