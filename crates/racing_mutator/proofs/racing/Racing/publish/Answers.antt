use Rattle.std.proofs.Common.{◌≤◌, sym, refl, ap, subst, rules}
use Rattle.heap_layout.specs.Zones.{heap_of}
use Rattle.ideal_heap.specs.declared.name.Name.{Name}
use Rattle.ideal_heap.specs.declared.reply.Reply.TheVariants as reply
use Rattle.mutator_core.specs.declared.state.Local.{Local}
use Rattle.mutator_core.specs.declared.state.Unpublished.{Unpublished}
use Rattle.racing_mutator.specs.RacingSeats.{local}
use Rattle.racing_mutator.proofs.Entered.{step-makes}
use Rattle.racing_mutator.specs.SeatLaws.{makes-nothing}
use Rattle.racing_mutator.proofs.Allocated.{start-stored, then-enters}
use Rattle.racing_mutator.proofs.Pinned.{blocks-of}
use Rattle.racing_mutator.proofs.racing.Racing.publish.Goals as goal

pub bit_at-at-requires : goal.bit_at-at-requires
bit_at-at-requires g c = subst (λ b. heap_of b ≤ c.args.address) (sym (blocks-of g.P.Plan.rules c.args.self.now c.requires.own)) c.requires.place.from

pub publish-requires-clause-stored : goal.publish-requires-clause-stored
publish-requires-clause-stored g c = start-stored g.P.Plan.rules c.args.self.now c.requires.own c.args.address c.bit_at-at.result.1 c.one_bit.result
    (ap (λ (u : Unpublished). u.address) c.requires.written) c.bit_at-at.ensures.bit c.one_bit.ensures

pub returns-clause-makes : goal.returns-clause-makes
returns-clause-makes g c = then-enters g.P.Plan.rules c.args.self.now c.args.self.now _ _ _ _ _ _ refl (ap (λ (n : Name). reply.New n) (sym c.next_name-name.ensures)) (makes-nothing g.P.Plan.rules c.args.self.now)
    (step-makes g.P.Plan.rules _ _ _ _ (search rules) (search rules) c.publish.ensures.notes refl c.publish.ensures.step.1 (λ some. ap (λ (l : Local). l.stop) c.publish.ensures.step.1.local))
