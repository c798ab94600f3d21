use Rattle.mm_runtime.proofs.NeedsServed.{ServesBelow}
use Rattle.mm_runtime.proofs.manager.Manager.serve_needs.Given as goal

abbrev pub invariant-loop-m : goal.invariant-loop-m
invariant-loop-m g l = ServesBelow g.P.Plan.rules l.fn.self l.ends l.m l.manager
