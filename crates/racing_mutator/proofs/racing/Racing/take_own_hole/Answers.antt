use Rattle.std.proofs.Common.{◌≡◌, ◌≤◌, ◌∙◌, ap, refl, true, false, arith, below_more, rules}
use Rattle.heap_layout.specs.declared.block.Kind.TheVariants as kinds
use Rattle.mutator_rule.specs.declared.views.EpochStart.{EpochStart}
use Rattle.racing_mutator.specs.RacingSeats.{epoch_of_racing}
use Rattle.racing_rooms.specs.Rooms.{Holdings}
use Rattle.racing_mutator.proofs.Pinned.{blocks-same}
use Rattle.racing_mutator.proofs.OwnLacks.{lacks-own}
use Rattle.racing_mutator.proofs.OwnReturns.{lacks-still, takes-twice, takes-none}
use Rattle.racing_mutator.proofs.RegionsMoved.{finds-after}
use Rattle.mutator_rule.specs.declared.seat_notes.SeatNotes.{SeatNotes}
use Rattle.local_allocators.specs.NotedSeats.{regions_in}
use Rattle.racing_mutator.proofs.racing.Racing.take_own_hole.Goals as goal

pub loop-block-init : goal.loop-block-init
loop-block-init g c = (c.requires.ready, c.requires.rooms, takes-none g.P.Plan.rules c.args.self.now, refl, refl, λ k below. absurd (omega arith))

pub returns-then-return_to-clause-takes : goal.returns-then-return_to-clause-takes
returns-then-return_to-clause-takes g c = takes-twice g.P.Plan.rules c.args.self.now c.loop-block.self c.return_to.new.self c.loop-block.invariant.2 c.return_to.ensures.takes

pub loop-block-preserved : goal.loop-block-preserved
loop-block-preserved g c =
    let is : c.return_to.result ≡ false = search rules in
    let m = c.loop-block.self in
    let n = c.return_to.new.self in
    let inv = c.loop-block.invariant in (
      c.return_to.ensures.ready,
      c.return_to.ensures.rooms,
      takes-twice g.P.Plan.rules c.args.self.now m n inv.2 c.return_to.ensures.takes,
      c.return_to.ensures.kept ∙ inv.3,
      c.return_to.ensures.notes is ∙ inv.4,
      below_more _ _ (λ k below. lacks-still g.P.Plan.rules m n k c.args.size c.return_to.ensures.takes c.return_to.ensures.kept (c.return_to.ensures.notes is) (inv.5 k below))
          (lacks-still g.P.Plan.rules m n c.loop-block.block c.args.size c.return_to.ensures.takes c.return_to.ensures.kept (c.return_to.ensures.notes is) (c.return_to.ensures.lacks is)),
    )

pub returns-clause-lacks : goal.returns-clause-lacks
returns-clause-lacks g c =
    let end : c.blocks-block-end.result ≡ (epoch_of_racing g.P.Plan.rules c.args.self.now).before.blocks = c.blocks-block-end.ensures ∙ ap (λ l. l.blocks) c.layout.ensures ∙ blocks-same g.P.Plan.rules c.args.self.now c.requires.ready in
    let same : (epoch_of_racing g.P.Plan.rules c.loop-block.self).before.blocks ≡ (epoch_of_racing g.P.Plan.rules c.args.self.now).before.blocks = ap (λ (s : EpochStart). s.blocks) c.loop-block.invariant.2.searches.makes.goes.start in
    let least : 3 ≤ c.args.size = c.requires.least in
    lacks-own g.P.Plan.rules c.loop-block.self.seat.now c.args.size c.loop-block.invariant.0.own.2 c.loop-block.invariant.1 (search rules) (omega (arith, least))
    (λ k below. c.loop-block.invariant.5 k (omega (arith, below, end, same, c.loop-block-test.false)))

pub returns-then-return_to-clause-region : goal.returns-then-return_to-clause-region
returns-then-return_to-clause-region g c =
    let is : c.return_to.result ≡ true = search rules in
    let inv = c.loop-block.invariant in
    finds-after g.P.Plan.rules c.args.self.now.seat.now c.loop-block.self.seat.now c.return_to.new.self.seat.now c.args.size c.loop-block.block inv.2.searches.makes.goes.start
    (ap (λ (n : SeatNotes). regions_in n.blocks.items n.local) inv.4) (ap (λ (h : Holdings). h.owned) inv.3) (ap (λ (h : Holdings). h.granted) inv.3) (c.return_to.ensures.region is)
