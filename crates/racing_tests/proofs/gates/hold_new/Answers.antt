use Rattle.std.proofs.Common.{refl, []}
use Rattle.racing_mutator.specs.RacingSeats.{local, holdings}
use Rattle.racing_mutator.specs.SeatLaws.{makes-both}
use Rattle.racing_mutator.proofs.Searched.{uses-same}
use Rattle.racing_tests.proofs.HeldObjects.{same-row, may-call, others-kept}
use Rattle.racing_tests.proofs.gates.hold_new.Goals as goal

pub returns-in-Err-clause-call : goal.returns-in-Err-clause-call
returns-in-Err-clause-call g c =
    let may = c.requires.call in
    may-call g.P.Plan.rules c.args.racing.now c.find_room.new.self [] c.find_room.ensures.searches.makes c.args.racing.now.row.now refl
    may.1 c.find_room.ensures.ready c.find_room.ensures.rooms (uses-same g.P.Plan.rules c.args.racing.now c.find_room.new.self c.in-Err.ensures.nothing may.2)

pub returns-in-Ok-clause-call : goal.returns-in-Ok-clause-call
returns-in-Ok-clause-call g c =
    let rules = g.P.Plan.rules in
    let may = c.requires.call in
    let a = c.args.racing.now in
    let b = c.find_room.new.self in
    let w = c.write_found.new.self in
    let found = c.find_room.ensures.searches.makes in
    let wrote = c.write_found.ensures.searches.makes in
    let both = makes-both rules a b w [] [] found wrote in
    let others = others-kept rules a w (holdings (local b)) _ both.goes.start c.write_found.ensures.holds (c.in-Ok.ensures.uses may.2) in
    may-call rules w c.publish_found.new.self _ c.publish_found.ensures.makes a.row.now (same-row rules a w [] both a.row.now refl)
    (both.flags may.1) c.publish_found.ensures.ready c.publish_found.ensures.rooms (c.publish_found.ensures.uses others)
