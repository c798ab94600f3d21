use Rattle.std.proofs.Common.{◌≡◌, ◌≤◌, ◌<◌, ◌∙◌, ℕ, false, rules}
use Rattle.std.specs.Prelude.{Some}
use Rattle.sessions.specs.Fitting.{class_for}
use Rattle.mutator_core.specs.Guards.{allowance}
use Rattle.mutator_calls.specs.declared.need.NeedCause.TheVariants.{Budget}
use Rattle.racing_mutator.specs.RacingSeats.{local, epoch_of_racing}
use Rattle.racing_rooms.specs.NoRoom.{regions_at, LacksFreeBelow, IsCauseFor}
use Rattle.racing_mutator.specs.Searches.{TakesNothing, TakesFree, TakesRoom, KeepsHoleRegion}
use Rattle.racing_mutator.proofs.Searched.{searches-both, uses-after}
use Rattle.racing_mutator.proofs.RoomTaken.{ok-map, ok-both, err-map, err-both, nothing-both, none-then, room-of-hole, room-at-last}
use Rattle.racing_mutator.proofs.RegionsMoved.{finds-after}
use Rattle.racing_mutator.specs.Regions.{FindsRegion}
use Rattle.racing_mutator.proofs.racing.Racing.find_room.Goals as goal

pub returns-in-Some-clause-takes : goal.returns-in-Some-clause-takes
returns-in-Some-clause-takes g c = room-of-hole g.P.Plan.rules c.args.self.now c.find_hole.new.self c.args.size c.in-Some.block c.in-Some.ensures.takes

pub returns-clause-searches : goal.returns-clause-searches
returns-clause-searches g c = searches-both g.P.Plan.rules c.args.self.now c.find_hole.new.self c.take_free_block.new.self c.find_hole.ensures.searches c.take_free_block.ensures.searches

pub returns-clause-uses : goal.returns-clause-uses
returns-clause-uses g c = ok-map _ _ c.take_free_block.result (λ k then. uses-after g.P.Plan.rules c.args.self.now c.find_hole.new.self c.take_free_block.new.self k c.in_default.ensures.nothing then) c.take_free_block.ensures.uses

pub returns-clause-takes : goal.returns-clause-takes
returns-clause-takes g c =
    let m = c.find_hole.new.self in
    let b = c.take_free_block.new.self in
    ok-both (λ k. (t : ℕ) → (local m).ticket ≡ Some t → t < allowance (epoch_of_racing g.P.Plan.rules m)) (λ k. TakesFree g.P.Plan.rules m b k (class_for g.P.Plan.rules.fill c.args.size) × LacksFreeBelow g.P.Plan.rules b.seat.now k) (λ k. TakesRoom g.P.Plan.rules c.args.self.now.seat.now c.args.size k b.seat.now) c.take_free_block.result
    (λ k good is. room-at-last g.P.Plan.rules c.args.self.now b c.args.size m k c.in_default.ensures.nothing c.in_default.ensures.ticket c.requires.ready c.find_hole.ensures.ready c.take_free_block.ensures.ready c.requires.rooms c.find_hole.ensures.rooms c.in_default.ensures.regions c.requires.full c.in_default.ensures.lacks c.take_free_block.ensures.searches good is.0 is.1)
    c.take_free_block.ensures.good
    (ok-both (λ k. TakesFree g.P.Plan.rules m b k (class_for g.P.Plan.rules.fill c.args.size)) (λ k. LacksFreeBelow g.P.Plan.rules b.seat.now k) _ c.take_free_block.result (λ k one two. (one, two)) c.take_free_block.ensures.takes c.take_free_block.ensures.lowest)

pub returns-clause-nothing : goal.returns-clause-nothing
returns-clause-nothing g c = err-map _ _ c.take_free_block.result (λ t is. nothing-both g.P.Plan.rules c.args.self.now c.find_hole.new.self c.take_free_block.new.self c.in_default.ensures.nothing is
    (searches-both g.P.Plan.rules c.args.self.now c.find_hole.new.self c.take_free_block.new.self c.find_hole.ensures.searches c.take_free_block.ensures.searches)) c.take_free_block.ensures.nothing

pub returns-clause-cause : goal.returns-clause-cause
returns-clause-cause g c =
    let m = c.find_hole.new.self in
    let b = c.take_free_block.new.self in
    err-both (λ t. ((local b).ticket ≡ Some t) × (allowance (epoch_of_racing g.P.Plan.rules b) ≤ t)) (λ t. TakesNothing g.P.Plan.rules m b × (regions_at b.seat.now ≡ regions_at m.seat.now)) (λ t. IsCauseFor g.P.Plan.rules b.seat.now c.args.size (Budget t)) c.take_free_block.result
    (λ t one two. (c.requires.most, one.0, one.1, none-then g.P.Plan.rules m b c.find_hole.ensures.ready c.take_free_block.ensures.ready c.find_hole.ensures.rooms two.0 two.1 c.args.size c.take_free_block.ensures.rooms c.in_default.ensures.lacks))
    (err-both (λ t. (local b).ticket ≡ Some t) (λ t. allowance (epoch_of_racing g.P.Plan.rules b) ≤ t) _ c.take_free_block.result (λ t one two. (one, two)) c.take_free_block.ensures.ticket c.take_free_block.ensures.few)
    (err-both (λ t. TakesNothing g.P.Plan.rules m b) (λ t. regions_at b.seat.now ≡ regions_at m.seat.now) _ c.take_free_block.result (λ t one two. (one, two)) c.take_free_block.ensures.nothing c.take_free_block.ensures.regions)

pub returns-in-Some-clause-overflow : goal.returns-in-Some-clause-overflow
returns-in-Some-clause-overflow g c over = absurd (let no : c.overflows.result ≡ false = search rules in c.overflows.ensures.no no over)

pub returns-clause-overflow : goal.returns-clause-overflow
returns-clause-overflow g c =
    let no : c.overflows.result ≡ false = search rules in
    ok-map (λ k. TakesFree g.P.Plan.rules c.find_hole.new.self c.take_free_block.new.self k (class_for g.P.Plan.rules.fill c.args.size)) (λ k. KeepsHoleRegion g.P.Plan.rules c.args.self.now.seat.now c.args.size c.take_free_block.new.self.seat.now) c.take_free_block.result (λ k is over. absurd (c.overflows.ensures.no no over)) c.take_free_block.ensures.takes

pub returns-clause-regions : goal.returns-clause-regions
returns-clause-regions g c = err-map (λ t. regions_at c.take_free_block.new.self.seat.now ≡ regions_at c.find_hole.new.self.seat.now) (λ t. regions_at c.take_free_block.new.self.seat.now ≡ regions_at c.args.self.now.seat.now) c.take_free_block.result
    (λ t is. is ∙ c.in_default.ensures.regions) c.take_free_block.ensures.regions

pub returns-clause-region : goal.returns-clause-region
returns-clause-region g c =
    let m = c.find_hole.new.self in
    let b = c.take_free_block.new.self in
    let none = c.in_default.ensures.nothing in
    ok-map (λ k. FindsRegion g.P.Plan.rules m.seat.now c.args.size k b.seat.now) (λ k. FindsRegion g.P.Plan.rules c.args.self.now.seat.now c.args.size k b.seat.now) c.take_free_block.result
    (λ k is. finds-after g.P.Plan.rules c.args.self.now.seat.now m.seat.now b.seat.now c.args.size k none.searches.makes.goes.start c.in_default.ensures.regions none.owned none.granted is) c.take_free_block.ensures.region
