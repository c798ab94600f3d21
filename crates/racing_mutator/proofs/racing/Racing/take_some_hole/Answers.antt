use Rattle.std.proofs.Common.{◌≡◌, ◌∙◌, ap, true, false, arith, below_more, rules}
use Rattle.sessions.specs.Fitting.{class_for}
use Rattle.mutator_rule.specs.declared.views.EpochStart.{EpochStart}
use Rattle.racing_mutator.specs.RacingSeats.{epoch_of_racing, Holdings}
use Rattle.racing_mutator.proofs.Pinned.{blocks-same}
use Rattle.racing_mutator.proofs.Searched.{searches-both, uses-after}
use Rattle.racing_mutator.proofs.HolesPassed.{only-nothing, only-both, only-takes, takes-after, lacks-later, lacks-below, regions-unchanged}
use Rattle.racing_mutator.proofs.RegionsMoved.{finds-after}
use Rattle.racing_mutator.proofs.racing.Racing.take_some_hole.Goals as goal

pub loop-block-init : goal.loop-block-init
loop-block-init g c = (c.requires.ready, c.requires.rooms, only-nothing g.P.Plan.rules c.args.self.now, λ k below. absurd (omega arith))

pub returns-then-take_hole_in-clause-searches : goal.returns-then-take_hole_in-clause-searches
returns-then-take_hole_in-clause-searches g c =
    let is : c.take_hole_in.result ≡ true = search rules in
    searches-both g.P.Plan.rules c.args.self.now c.loop-block.self c.take_hole_in.new.self c.loop-block.invariant.2.searches (c.take_hole_in.ensures.searches is)

pub returns-then-take_hole_in-clause-uses : goal.returns-then-take_hole_in-clause-uses
returns-then-take_hole_in-clause-uses g c =
    let is : c.take_hole_in.result ≡ true = search rules in
    uses-after g.P.Plan.rules c.args.self.now c.loop-block.self c.take_hole_in.new.self c.loop-block.block (only-takes g.P.Plan.rules c.args.self.now c.loop-block.self c.loop-block.invariant.2) (c.take_hole_in.ensures.uses is)

pub returns-then-take_hole_in-clause-takes : goal.returns-then-take_hole_in-clause-takes
returns-then-take_hole_in-clause-takes g c =
    let is : c.take_hole_in.result ≡ true = search rules in
    takes-after g.P.Plan.rules c.args.self.now c.loop-block.self c.take_hole_in.new.self c.loop-block.block (class_for g.P.Plan.rules.fill c.args.size) c.loop-block.invariant.2 (c.take_hole_in.ensures.takes is)

pub returns-then-take_hole_in-clause-lowest : goal.returns-then-take_hole_in-clause-lowest
returns-then-take_hole_in-clause-lowest g c =
    let is : c.take_hole_in.result ≡ true = search rules in
    let makes = (c.take_hole_in.ensures.searches is).makes in
    let end : c.blocks-block-end.result ≡ (epoch_of_racing g.P.Plan.rules c.args.self.now).before.blocks = c.blocks-block-end.ensures ∙ ap (λ l. l.blocks) c.layout.ensures ∙ blocks-same g.P.Plan.rules c.args.self.now c.requires.ready in
    let same : (epoch_of_racing g.P.Plan.rules c.loop-block.self).before.blocks ≡ (epoch_of_racing g.P.Plan.rules c.args.self.now).before.blocks = ap (λ (s : EpochStart). s.blocks) c.loop-block.invariant.2.searches.makes.goes.start in
    let later : (epoch_of_racing g.P.Plan.rules c.take_hole_in.new.self).before.blocks ≡ (epoch_of_racing g.P.Plan.rules c.loop-block.self).before.blocks = ap (λ (s : EpochStart). s.blocks) makes.goes.start in
    lacks-below g.P.Plan.rules c.take_hole_in.new.self c.loop-block.block c.args.size c.take_hole_in.ensures.ready.own.2 (omega (arith, end, same, later, c.loop-block-test.true))
    (λ k below. lacks-later g.P.Plan.rules c.loop-block.self c.take_hole_in.new.self k c.args.size makes c.take_hole_in.ensures.ready (omega (arith, below, end, same, c.loop-block-test.true)) (c.loop-block.invariant.3 k below))

pub loop-block-preserved : goal.loop-block-preserved
loop-block-preserved g c =
    let is : c.take_hole_in.result ≡ false = search rules in
    let only = c.take_hole_in.ensures.only is in
    let end : c.blocks-block-end.result ≡ (epoch_of_racing g.P.Plan.rules c.args.self.now).before.blocks = c.blocks-block-end.ensures ∙ ap (λ l. l.blocks) c.layout.ensures ∙ blocks-same g.P.Plan.rules c.args.self.now c.requires.ready in
    let same : (epoch_of_racing g.P.Plan.rules c.loop-block.self).before.blocks ≡ (epoch_of_racing g.P.Plan.rules c.args.self.now).before.blocks = ap (λ (s : EpochStart). s.blocks) c.loop-block.invariant.2.searches.makes.goes.start in (
      c.take_hole_in.ensures.ready,
      c.take_hole_in.ensures.rooms,
      only-both g.P.Plan.rules c.args.self.now c.loop-block.self c.take_hole_in.new.self c.loop-block.invariant.2 only,
      below_more _ _ (λ k below. lacks-later g.P.Plan.rules c.loop-block.self c.take_hole_in.new.self k c.args.size only.searches.makes c.take_hole_in.ensures.ready (omega (arith, below, end, same, c.loop-block-test.true)) (c.loop-block.invariant.3 k below)) (c.take_hole_in.ensures.lacks is),
    )

pub returns-clause-searches : goal.returns-clause-searches
returns-clause-searches g c = c.loop-block.invariant.2.searches

pub returns-clause-nothing : goal.returns-clause-nothing
returns-clause-nothing g c = only-takes g.P.Plan.rules c.args.self.now c.loop-block.self c.loop-block.invariant.2

pub returns-clause-ticket : goal.returns-clause-ticket
returns-clause-ticket g c = ap (λ (h : Holdings). h.ticket) c.loop-block.invariant.2.kept

pub returns-clause-regions : goal.returns-clause-regions
returns-clause-regions g c = regions-unchanged c.args.self.now.seat.now c.loop-block.self.seat.now c.loop-block.invariant.2.notes

pub returns-clause-lacks : goal.returns-clause-lacks
returns-clause-lacks g c =
    let end : c.blocks-block-end.result ≡ (epoch_of_racing g.P.Plan.rules c.args.self.now).before.blocks = c.blocks-block-end.ensures ∙ ap (λ l. l.blocks) c.layout.ensures ∙ blocks-same g.P.Plan.rules c.args.self.now c.requires.ready in
    let same : (epoch_of_racing g.P.Plan.rules c.loop-block.self).before.blocks ≡ (epoch_of_racing g.P.Plan.rules c.args.self.now).before.blocks = ap (λ (s : EpochStart). s.blocks) c.loop-block.invariant.2.searches.makes.goes.start in
    lacks-below g.P.Plan.rules c.loop-block.self (epoch_of_racing g.P.Plan.rules c.loop-block.self).before.blocks c.args.size c.loop-block.invariant.0.own.2 (omega arith) (λ k below. c.loop-block.invariant.3 k (omega (arith, below, end, same, c.loop-block-test.false)))

pub returns-then-take_hole_in-clause-region : goal.returns-then-take_hole_in-clause-region
returns-then-take_hole_in-clause-region g c =
    let is : c.take_hole_in.result ≡ true = search rules in
    let only = c.loop-block.invariant.2 in
    finds-after g.P.Plan.rules c.args.self.now.seat.now c.loop-block.self.seat.now c.take_hole_in.new.self.seat.now c.args.size c.loop-block.block only.searches.makes.goes.start
    (regions-unchanged c.args.self.now.seat.now c.loop-block.self.seat.now only.notes) (ap (λ (h : Holdings). h.owned) only.kept) (ap (λ (h : Holdings). h.granted) only.kept) (c.take_hole_in.ensures.region is)
