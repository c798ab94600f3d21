use Rattle.std.proofs.Common.{◌≡◌, ◌∙◌, sym, ap, subst, true, false, arith, below_more, rules}
use Rattle.mutator_rule.specs.declared.views.EpochStart.{EpochStart}
use Rattle.racing_mutator.specs.RacingSeats.{view, epoch_of_racing}
use Rattle.racing_mutator.proofs.Pinned.{blocks-same}
use Rattle.local_allocators.specs.MutatorRegions.{MutatorRegions, KeepsHole, Overflows}
use Rattle.racing_rooms.specs.NoRoom.{regions_at}
use Rattle.sessions.specs.Fitting.{class_for}
use Rattle.racing_mutator.proofs.RoomTaken.{nothing-of, free-after}
use Rattle.racing_mutator.proofs.Searched.{searches-both, seen-not-free, ticket-later, some-left}
use Rattle.racing_mutator.proofs.RegionsMoved.{finds-after}
use Rattle.racing_rooms.specs.Rooms.{Holdings}
use Rattle.racing_mutator.proofs.racing.Racing.take_some_free.Goals as goal

pub take_free_room-requires-clause-ticket : goal.take_free_room-requires-clause-ticket
take_free_room-requires-clause-ticket g c = ticket-later g.P.Plan.rules c.args.self.now c.loop-block.self c.loop-block.invariant.2 c.loop-block.invariant.3 c.requires.ticket

pub returns-then-take_free_room-clause-searches : goal.returns-then-take_free_room-clause-searches
returns-then-take_free_room-clause-searches g c = searches-both g.P.Plan.rules c.args.self.now c.loop-block.self c.take_free_room.new.self c.loop-block.invariant.2 c.take_free_room.ensures.searches

pub returns-then-take_free_room-clause-takes : goal.returns-then-take_free_room-clause-takes
returns-then-take_free_room-clause-takes g c =
    let is : c.take_free_room.result ≡ true = search rules in
    free-after g.P.Plan.rules c.args.self.now c.loop-block.self c.take_free_room.new.self c.loop-block.block (class_for g.P.Plan.rules.fill c.args.size) (nothing-of g.P.Plan.rules c.args.self.now c.loop-block.self c.loop-block.invariant.2 c.loop-block.invariant.3) (c.take_free_room.ensures.takes is)

pub returns-then-take_free_room-clause-lowest : goal.returns-then-take_free_room-clause-lowest
returns-then-take_free_room-clause-lowest g c k low = seen-not-free (epoch_of_racing g.P.Plan.rules c.take_free_room.new.self) (view c.take_free_room.new.self) c.take_free_room.ensures.ready.own.2 k (c.take_free_room.ensures.still k (c.loop-block.invariant.4 k low))

pub loop-block-preserved : goal.loop-block-preserved
loop-block-preserved g c =
    let is : c.take_free_room.result ≡ false = search rules in (
      c.take_free_room.ensures.ready,
      c.take_free_room.ensures.rooms,
      searches-both g.P.Plan.rules c.args.self.now c.loop-block.self c.take_free_room.new.self c.loop-block.invariant.2 c.take_free_room.ensures.searches,
      c.take_free_room.ensures.kept is ∙ c.loop-block.invariant.3,
      below_more _ _ (λ k below. c.take_free_room.ensures.still k (c.loop-block.invariant.4 k below)) (c.take_free_room.ensures.used is),
      c.take_free_room.ensures.regions is ∙ c.loop-block.invariant.5,
    )

pub returns-then-take_free_room-clause-hole : goal.returns-then-take_free_room-clause-hole
returns-then-take_free_room-clause-hole g c over =
    let is : c.take_free_room.result ≡ true = search rules in
    subst (λ (r : MutatorRegions). KeepsHole r (regions_at c.take_free_room.new.self.seat.now)) c.loop-block.invariant.5 (c.take_free_room.ensures.hole is (subst (λ (r : MutatorRegions). Overflows g.P.Plan.rules.fill r c.args.size) (sym c.loop-block.invariant.5) over))

pub unreachable-requires : goal.unreachable-requires
unreachable-requires g c =
    let end : c.blocks-block-end.result ≡ (epoch_of_racing g.P.Plan.rules c.args.self.now).before.blocks = c.blocks-block-end.ensures ∙ ap (λ l. l.blocks) c.layout.ensures ∙ blocks-same g.P.Plan.rules c.args.self.now c.requires.ready in
    let same : (epoch_of_racing g.P.Plan.rules c.loop-block.self).before.blocks ≡ (epoch_of_racing g.P.Plan.rules c.args.self.now).before.blocks = ap (λ (s : EpochStart). s.blocks) c.loop-block.invariant.2.makes.goes.start in
    some-left g.P.Plan.rules c.loop-block.self c.loop-block.invariant.0 (ticket-later g.P.Plan.rules c.args.self.now c.loop-block.self c.loop-block.invariant.2 c.loop-block.invariant.3 c.requires.ticket)
    (λ k below. c.loop-block.invariant.4 k (omega (arith, below, end, same, c.loop-block-test.false)))

pub returns-then-take_free_room-clause-region : goal.returns-then-take_free_room-clause-region
returns-then-take_free_room-clause-region g c =
    let is : c.take_free_room.result ≡ true = search rules in
    let inv = c.loop-block.invariant in
    finds-after g.P.Plan.rules c.args.self.now.seat.now c.loop-block.self.seat.now c.take_free_room.new.self.seat.now c.args.size c.loop-block.block inv.2.makes.goes.start
    inv.5 (ap (λ (h : Holdings). h.owned) inv.3) (ap (λ (h : Holdings). h.granted) inv.3) (c.take_free_room.ensures.region is)
