use Rattle.std.proofs.Common.{◌≡◌, refl, subst, rules}
use Rattle.mutator_rule.specs.declared.seat.MutatorSeat.{MutatorSeat}
use Rattle.racing_world.specs.Answers.{AnswersNew}
use Rattle.racing_world.proofs.NewAnswered.{answer-ghost, answers-new}
use Rattle.racing_world.proofs.world.World.new_object.Goals as goal

pub returns : goal.returns
returns g c =
    let name = answer-ghost g.P.Plan.rules _ _ c.args.d c.args.refs c.args.nums c.new_object.result c.new_object.ensures.answer in
    let same : c.new_object.new.self.seat.now ≡ c.seat-1.given.0 = search rules in
    subst (λ (seat : MutatorSeat). AnswersNew g.P.Plan.rules c.args.self.now c.args.seat.now c.args.d c.args.refs c.args.nums c.new_object.result seat) same
    (answers-new g.P.Plan.rules _ _ c.args.d c.args.refs c.args.nums c.args.self.now refl c.new_object.ensures.ready c.requires.call.1 c.new_object.ensures.rooms (c.new_object.ensures.uses c.requires.call.2) c.new_object.result c.new_object.ensures.answer)
