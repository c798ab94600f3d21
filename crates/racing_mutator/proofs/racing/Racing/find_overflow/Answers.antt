use Rattle.std.proofs.Common.{◌≤◌, ◌∙◌, sym, inl, inr, subst, rules}
use Rattle.mutator_core.specs.Guards.{allowance}
use Rattle.mutator_rule.specs.declared.views.EpochStart.{EpochStart}
use Rattle.mutator_rule.specs.Views.{epoch_with}
use Rattle.racing_mutator.proofs.Searched.{searches-both, uses-after}
use Rattle.racing_mutator.proofs.RoomTaken.{nothing-both, tried-lines, full-same, room-of-free, room-in-vain}
use Rattle.racing_mutator.proofs.RegionsMoved.{finds-after}
use Rattle.racing_mutator.proofs.racing.Racing.find_overflow.Goals as goal

pub returns-in-Ok-clause-takes : goal.returns-in-Ok-clause-takes
returns-in-Ok-clause-takes g c = room-of-free g.P.Plan.rules c.args.self.now c.take_free_block.new.self c.args.size c.in-Ok.block c.in-Ok.ensures.takes c.in-Ok.ensures.good (tried-lines g.P.Plan.rules c.args.self.now.seat.now c.args.size c.requires.over.over.lines c.requires.full) (inl c.requires.over) c.in-Ok.ensures.lowest

pub find_hole-requires-clause-full : goal.find_hole-requires-clause-full
find_hole-requires-clause-full g c = full-same g.P.Plan.rules c.args.self.now.seat.now c.take_free_block.new.self.seat.now c.args.size c.in-Err.ensures.regions c.requires.full

pub returns-in-Some-clause-searches : goal.returns-in-Some-clause-searches
returns-in-Some-clause-searches g c = searches-both g.P.Plan.rules c.args.self.now c.take_free_block.new.self c.find_hole.new.self c.take_free_block.ensures.searches c.find_hole.ensures.searches

pub returns-in-Some-clause-uses : goal.returns-in-Some-clause-uses
returns-in-Some-clause-uses g c = uses-after g.P.Plan.rules c.args.self.now c.take_free_block.new.self c.find_hole.new.self c.in-Some.block c.in-Err.ensures.nothing c.in-Some.ensures.uses

pub returns-in-Some-clause-takes : goal.returns-in-Some-clause-takes
returns-in-Some-clause-takes g c = room-in-vain g.P.Plan.rules c.args.self.now c.find_hole.new.self c.args.size c.take_free_block.new.self c.in-Some.block c.in-Err.ticket c.in-Err.ensures.nothing c.in-Err.ensures.ticket c.in-Err.ensures.few c.requires.over
    (λ is. tried-lines g.P.Plan.rules c.args.self.now.seat.now c.args.size c.requires.over.over.lines c.requires.full) c.in-Some.ensures.takes

pub returns-in-None-clause-searches : goal.returns-in-None-clause-searches
returns-in-None-clause-searches g c = searches-both g.P.Plan.rules c.args.self.now c.take_free_block.new.self c.find_hole.new.self c.take_free_block.ensures.searches c.find_hole.ensures.searches

pub returns-in-None-clause-nothing : goal.returns-in-None-clause-nothing
returns-in-None-clause-nothing g c = nothing-both g.P.Plan.rules c.args.self.now c.take_free_block.new.self c.find_hole.new.self c.in-Err.ensures.nothing c.in-None.ensures.nothing
    (searches-both g.P.Plan.rules c.args.self.now c.take_free_block.new.self c.find_hole.new.self c.take_free_block.ensures.searches c.find_hole.ensures.searches)

pub returns-in-None-clause-cause : goal.returns-in-None-clause-cause
returns-in-None-clause-cause g c = (
  c.requires.most,
  c.in-None.ensures.ticket ∙ c.in-Err.ensures.ticket,
  subst (λ (s : EpochStart). allowance (epoch_with g.P.Plan.rules s) ≤ c.in-Err.ticket) (sym c.find_hole.ensures.searches.makes.goes.start) c.in-Err.ensures.few,
  c.in-None.ensures.lacks,
)

pub returns-in-Ok-clause-overflow : goal.returns-in-Ok-clause-overflow
returns-in-Ok-clause-overflow g c over = inl (c.in-Ok.ensures.hole over)

pub returns-in-Some-clause-overflow : goal.returns-in-Some-clause-overflow
returns-in-Some-clause-overflow g c over = inr (c.in-Err.ticket, c.in-Some.ensures.takes.ticket ∙ c.in-Err.ensures.ticket, subst (λ (s : EpochStart). allowance (epoch_with g.P.Plan.rules s) ≤ c.in-Err.ticket) c.take_free_block.ensures.searches.makes.goes.start c.in-Err.ensures.few)

pub returns-in-None-clause-regions : goal.returns-in-None-clause-regions
returns-in-None-clause-regions g c = c.in-None.ensures.regions ∙ c.in-Err.ensures.regions

pub returns-in-Some-clause-region : goal.returns-in-Some-clause-region
returns-in-Some-clause-region g c =
    let none = c.in-Err.ensures.nothing in
    finds-after g.P.Plan.rules c.args.self.now.seat.now c.take_free_block.new.self.seat.now c.find_hole.new.self.seat.now c.args.size c.in-Some.block none.searches.makes.goes.start c.in-Err.ensures.regions none.owned none.granted c.in-Some.ensures.region
