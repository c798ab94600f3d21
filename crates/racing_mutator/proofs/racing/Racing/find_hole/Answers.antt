use Rattle.std.proofs.Common.{◌≡◌, ◌∙◌, inl, inr, rules}
use Rattle.sessions.specs.Fitting.{class_for}
use Rattle.racing_mutator.specs.RacingSeats.{local, holdings, epoch_of_racing}
use Rattle.racing_rooms.specs.NoRoom.{LacksUnowned, LacksUnownedBelow, HasNoRoom, regions_at}
use Rattle.racing_mutator.specs.Searches.{TakesNothing, TakesHole, TakesOneHole}
use Rattle.racing_mutator.proofs.Allocated.{none-both}
use Rattle.racing_mutator.proofs.Noted.{uses-others}
use Rattle.racing_mutator.proofs.Searched.{searches-both, uses-same, uses-after}
use Rattle.racing_mutator.proofs.RoomTaken.{some-map, some-both, none-map, nothing-both, hole-after, tried-before, all-rooms}
use Rattle.racing_mutator.proofs.RegionsMoved.{finds-after}
use Rattle.racing_mutator.specs.Regions.{FindsRegion}
use Rattle.racing_mutator.proofs.racing.Racing.find_hole.Goals as goal

pub returns-in-Some-clause-searches : goal.returns-in-Some-clause-searches
returns-in-Some-clause-searches g c = c.take_own_hole.ensures.takes.searches

pub returns-in-Some-clause-uses : goal.returns-in-Some-clause-uses
returns-in-Some-clause-uses g c uses = uses-others (epoch_of_racing g.P.Plan.rules c.args.self.now) (holdings (local c.take_own_hole.new.self)) c.in-Some.block (uses-same g.P.Plan.rules c.args.self.now c.take_own_hole.new.self c.take_own_hole.ensures.takes uses)

pub returns-in-Some-clause-takes : goal.returns-in-Some-clause-takes
returns-in-Some-clause-takes g c = record { ticket = c.take_own_hole.ensures.ticket; takes = inl c.take_own_hole.ensures.takes }

pub returns-clause-searches : goal.returns-clause-searches
returns-clause-searches g c = searches-both g.P.Plan.rules c.args.self.now c.take_own_hole.new.self c.take_some_hole.new.self c.take_own_hole.ensures.takes.searches c.take_some_hole.ensures.searches

pub returns-clause-uses : goal.returns-clause-uses
returns-clause-uses g c = some-map _ _ c.take_some_hole.result (λ k then. uses-after g.P.Plan.rules c.args.self.now c.take_own_hole.new.self c.take_some_hole.new.self k c.take_own_hole.ensures.takes then) c.take_some_hole.ensures.uses

pub returns-clause-takes : goal.returns-clause-takes
returns-clause-takes g c = some-both (λ k. TakesHole g.P.Plan.rules c.take_own_hole.new.self c.take_some_hole.new.self k (class_for g.P.Plan.rules.fill c.args.size)) (λ k. LacksUnownedBelow g.P.Plan.rules c.take_some_hole.new.self.seat.now k c.args.size) (λ k. TakesOneHole g.P.Plan.rules c.args.self.now c.take_some_hole.new.self k c.args.size) c.take_some_hole.result
    (λ k is lowest. record {
      ticket = is.ticket ∙ c.take_own_hole.ensures.ticket;
      takes = inr (
        hole-after g.P.Plan.rules c.args.self.now c.take_own_hole.new.self c.take_some_hole.new.self k (class_for g.P.Plan.rules.fill c.args.size) c.take_own_hole.ensures.takes c.take_own_hole.ensures.ticket is,
        tried-before g.P.Plan.rules c.args.self.now c.take_own_hole.new.self c.requires.ready c.take_own_hole.ensures.ready c.requires.rooms c.take_own_hole.ensures.takes c.in_default.ensures.regions c.args.size c.requires.full c.in_default.ensures.lacks,
        lowest,
      );
    }) c.take_some_hole.ensures.takes c.take_some_hole.ensures.lowest

pub returns-clause-nothing : goal.returns-clause-nothing
returns-clause-nothing g c = none-map _ _ c.take_some_hole.result (λ is. nothing-both g.P.Plan.rules c.args.self.now c.take_own_hole.new.self c.take_some_hole.new.self c.take_own_hole.ensures.takes is (searches-both g.P.Plan.rules c.args.self.now c.take_own_hole.new.self c.take_some_hole.new.self c.take_own_hole.ensures.takes.searches c.take_some_hole.ensures.searches)) c.take_some_hole.ensures.nothing

pub returns-clause-regions : goal.returns-clause-regions
returns-clause-regions g c = none-map (regions_at c.take_some_hole.new.self.seat.now ≡ regions_at c.take_own_hole.new.self.seat.now) (regions_at c.take_some_hole.new.self.seat.now ≡ regions_at c.args.self.now.seat.now) c.take_some_hole.result (λ is. is ∙ c.in_default.ensures.regions) c.take_some_hole.ensures.regions

pub returns-clause-ticket : goal.returns-clause-ticket
returns-clause-ticket g c = none-map ((local c.take_some_hole.new.self).ticket ≡ (local c.take_own_hole.new.self).ticket) ((local c.take_some_hole.new.self).ticket ≡ (local c.args.self.now).ticket) c.take_some_hole.result (λ is. is ∙ c.take_own_hole.ensures.ticket) c.take_some_hole.ensures.ticket

pub returns-clause-lacks : goal.returns-clause-lacks
returns-clause-lacks g c =
    let b = c.take_some_hole.new.self in
    none-both (TakesNothing g.P.Plan.rules c.take_own_hole.new.self b × (regions_at b.seat.now ≡ regions_at c.take_own_hole.new.self.seat.now)) (LacksUnowned g.P.Plan.rules b.seat.now c.args.size) (HasNoRoom g.P.Plan.rules b.seat.now c.args.size) c.take_some_hole.result
    (λ both lacks. all-rooms g.P.Plan.rules c.args.self.now c.take_own_hole.new.self b c.args.size c.take_own_hole.ensures.ready c.take_some_hole.ensures.ready c.take_own_hole.ensures.rooms c.take_some_hole.ensures.rooms c.in_default.ensures.regions c.requires.full c.in_default.ensures.lacks both.0 both.1 lacks)
    (none-both (TakesNothing g.P.Plan.rules c.take_own_hole.new.self b) (regions_at b.seat.now ≡ regions_at c.take_own_hole.new.self.seat.now) _ c.take_some_hole.result (λ one two. (one, two)) c.take_some_hole.ensures.nothing c.take_some_hole.ensures.regions) c.take_some_hole.ensures.lacks

pub returns-clause-region : goal.returns-clause-region
returns-clause-region g c =
    let m = c.take_own_hole.new.self in
    let b = c.take_some_hole.new.self in
    some-map (λ k. FindsRegion g.P.Plan.rules m.seat.now c.args.size k b.seat.now) (λ k. FindsRegion g.P.Plan.rules c.args.self.now.seat.now c.args.size k b.seat.now) c.take_some_hole.result
    (λ k is. finds-after g.P.Plan.rules c.args.self.now.seat.now m.seat.now b.seat.now c.args.size k c.take_own_hole.ensures.takes.searches.makes.goes.start c.in_default.ensures.regions c.take_own_hole.ensures.takes.owned c.take_own_hole.ensures.takes.granted is)
    c.take_some_hole.ensures.region
