-- The epoch as it was made, with another pace.
use Rattle.mm_runtime.proofs.PaceKept as kept
use Rattle.mm_runtime.proofs.manager.Manager.advance.Goals as goal

pub commands-before-requires : goal.commands-before-requires
commands-before-requires g c = c.requires.ready.order

pub returns-clause-ready : goal.returns-clause-ready
returns-clause-ready g c = kept.closes-some g.P.Plan.rules c.in_ok-manager.manager c.after-manager.result c.in_ok-manager.ensures.ready

pub returns-clause-epoch : goal.returns-clause-epoch
returns-clause-epoch g c t now closes =
    let next = c.in_ok-manager.ensures.epoch t now closes in
    (next.0, next.1, kept.closes g.P.Plan.rules c.in_ok-manager.manager c.after-manager.result t next.0 next.2)

pub returns-clause-whole : goal.returns-clause-whole
returns-clause-whole g c ended t now closes =
    c.in_ok-manager.ensures.whole ended t now (kept.closed-before g.P.Plan.rules c.in_ok-manager.manager c.after-manager.result t now closes)
