use Rattle.std.proofs.Common.{◌≤◌, inl, rules}
use Rattle.object_model.specs.Objects.{size_of}
use Rattle.racing_mutator.proofs.RoomTaken.{room-here}
use Rattle.racing_mutator.proofs.racing.Racing.new_object.Goals as goal

pub returns-in-Some-clause-answer : goal.returns-in-Some-clause-answer
returns-in-Some-clause-answer g c =
    let small : size_of c.args.shape.now.refs c.args.shape.now.nums ≤ 2048 = search rules in record {
      makes = c.in-Some.ensures.makes;
      name = c.in-Some.ensures.name;
      births = c.in-Some.ensures.births;
      raised = c.in-Some.ensures.raised;
      small = small;
      place = c.in-Some.ensures.placed;
      takes = room-here g.P.Plan.rules c.args.self.now.seat.now c.allocate_here.new.self.seat.now (size_of c.args.shape.now.refs c.args.shape.now.nums) _ c.in-Some.ensures.kept;
      region = c.in-Some.ensures.region;
      overflow = λ over. inl (c.in-Some.ensures.hole over.over.tried.full);
    }
