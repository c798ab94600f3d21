use Rattle.std.proofs.Common.{◌<◌, sym, ap, ◌∙◌, subst, slice_set, true, rules}
use Rattle.heap_layout.specs.declared.layout.Layout.{Layout}
use Rattle.heap_layout.specs.Zones.{IsAddress, block_at}
use Rattle.mutator_core.specs.declared.state.Local.{Local}
use Rattle.racing_mutator.proofs.Barrier.{log-store-does, has-block, register-address}
use Rattle.racing_mutator.proofs.Pinned.{blocks-same}
use Rattle.racing_mutator.proofs.Logged.{rests}
use Rattle.racing_mutator.proofs.racing.RacingMutatorSteps.log_and_store_field.Goals as goal

pub block_of-block-requires : goal.block_of-block-requires
block_of-block-requires g c = subst (λ (l : Layout). IsAddress l.blocks c.register.result) (sym c.layout.ensures)
    (register-address g.P.Plan.rules c.args.self.now c.requires.ready c.args.s c.register.result c.requires.target c.requires.shape.some c.register.ensures)

pub returns-clause-ready : goal.returns-clause-ready
returns-clause-ready g c =
    let one = c.clear.ensures.step in
    let two = c.put.ensures.step.1 in
    rests g.P.Plan.rules c.args.self.now.row.now _ _ c.set_flag.ensures.known.known_stays (c.set_flag.ensures.known.table ∙ c.put.ensures.own.0) c.put.ensures.own.1 c.put.ensures.own.2
    (ap (λ (l : Local). l.unpublished) two.local ∙ ap (λ (l : Local). l.unpublished) one.local ∙ c.requires.ready.none)
    (ap (λ (l : Local). l.pending) two.local)

pub returns-clause-goes : goal.returns-clause-goes
returns-clause-goes g c = log-store-does g.P.Plan.rules _ _ _ _ c.args.s c.args.i c.args.v _ c.put.ensures.step.0 c.block_of-block.result (search rules) (search rules)
    (c.set_flag.ensures.rest ∙ (λ k. record (c.put.ensures.notes k) { flags = c.set_flag.new.self.notes.flags }) ∙ (λ k. record (c.clear.ensures.notes k) { flags = c.set_flag.new.self.notes.flags }))
    (c.set_flag.ensures.flags ∙ (λ k. slice_set (c.put.ensures.notes k).flags.items c.block_of-block.result true) ∙ (λ k. slice_set (c.clear.ensures.notes k).flags.items c.block_of-block.result true))
    (c.block_of-block.ensures.block ∙ (λ k. block_at (c.layout.ensures k).blocks c.register.result) ∙ (λ k. block_at (blocks-same g.P.Plan.rules c.args.self.now c.requires.ready k) (c.register.ensures k)))
    (has-block g.P.Plan.rules c.args.self.now c.requires.ready c.block_of-block.result (subst (λ (l : Layout). c.block_of-block.result < l.blocks) c.layout.ensures c.block_of-block.ensures.within))
    c.clear.ensures.step
    c.put.ensures.step.1 c.set_flag.ensures.known.known_stays
