use Rattle.std.proofs.Common.{ℕ, sym, subst, [], ◌∷◌, List, rules}
use Rattle.ideal_heap.specs.Runs.{Entry, entry}
use Rattle.ideal_heap.specs.declared.command.Command.TheVariants as command
use Rattle.ideal_heap.specs.declared.reply.Reply.TheVariants as reply
use Rattle.object_model.specs.Objects.{size_of}
use Rattle.racing_mutator.specs.RacingSeats.{local}
use Rattle.racing_mutator.specs.Searches.{TakesRoom, KeepsHoleRegion}
use Rattle.racing_mutator.proofs.Searched.{allocates-after, uses-same}
use Rattle.racing_mutator.proofs.HoleKept.{overflow-then}
use Rattle.racing_mutator.proofs.RoomTaken.{room-then, unowned-then, below-then, free-then, placed-after}
use Rattle.racing_mutator.proofs.RegionsMoved.{fills-found}
use Rattle.racing_mutator.specs.Regions.{FindsRegion, FillsRegion}
use Rattle.racing_mutator.proofs.racing.Racing.allocate_elsewhere.Goals as goal

pub returns-in-Ok-clause-answer : goal.returns-in-Ok-clause-answer
returns-in-Ok-clause-answer g c =
    let size : ℕ = size_of c.args.shape.now.refs c.args.shape.now.nums in
    let m = c.find_room.new.self in
    let b = c.allocate_found.new.self in
    let es : List Entry = entry (local m).number (command.New c.args.d c.args.shape.now.refs c.args.shape.now.nums) (reply.New c.allocate_found.result) ∷ [] in
    allocates-after g.P.Plan.rules c.args.self.now m b c.args.d c.args.shape.now.refs c.args.shape.now.nums c.allocate_found.result c.find_room.ensures.searches c.allocate_found.ensures.makes c.allocate_found.ensures.name
    c.allocate_found.ensures.births c.allocate_found.ensures.raised c.requires.small
    (placed-after g.P.Plan.rules c.args.self.now m b c.args.d size c.find_room.ensures.searches c.allocate_found.ensures.placed)
    (subst (λ (k : ℕ). TakesRoom g.P.Plan.rules c.args.self.now.seat.now size k b.seat.now) (sym c.allocate_found.ensures.here) (room-then g.P.Plan.rules c.args.self.now.seat.now m.seat.now b.seat.now size c.in-Ok.block c.allocate_found.ensures.kept (unowned-then g.P.Plan.rules m b es c.find_room.ensures.ready c.allocate_found.ensures.ready c.allocate_found.ensures.makes size)
    (λ end. below-then g.P.Plan.rules m b es c.find_room.ensures.ready c.allocate_found.ensures.ready c.allocate_found.ensures.makes end size)
    (free-then g.P.Plan.rules m b es c.find_room.ensures.ready c.allocate_found.ensures.ready c.allocate_found.ensures.makes)
    (subst (λ (n : ℕ). TakesRoom g.P.Plan.rules c.args.self.now.seat.now n c.in-Ok.block m.seat.now) c.size_words.ensures c.in-Ok.ensures.takes)))
    (subst (λ (k : ℕ). FillsRegion g.P.Plan.rules c.args.self.now.seat.now k c.args.d size b.seat.now) (sym c.allocate_found.ensures.here) (fills-found g.P.Plan.rules c.args.self.now.seat.now m.seat.now b.seat.now c.in-Ok.block c.args.d size c.find_room.ensures.searches.makes.goes.start c.allocate_found.ensures.kept
    (subst (λ (n : ℕ). FindsRegion g.P.Plan.rules c.args.self.now.seat.now n c.in-Ok.block m.seat.now) c.size_words.ensures c.in-Ok.ensures.region) c.allocate_found.ensures.front))
    (overflow-then g.P.Plan.rules c.args.self.now.seat.now m.seat.now b.seat.now size c.allocate_found.ensures.kept c.allocate_found.ensures.hole (subst (λ (n : ℕ). KeepsHoleRegion g.P.Plan.rules c.args.self.now.seat.now n m.seat.now) c.size_words.ensures c.in-Ok.ensures.overflow))

pub returns-in-Err-clause-uses : goal.returns-in-Err-clause-uses
returns-in-Err-clause-uses g c = uses-same g.P.Plan.rules c.args.self.now c.find_room.new.self c.in-Err.ensures.nothing
