use Rattle.managed_heap.proofs.SetRegisters.{SetsBelow}
use Rattle.managed_heap.proofs.collect.set_registers.Given as goal

abbrev pub invariant-loop-m : goal.invariant-loop-m
invariant-loop-m l = SetsBelow l.m l.roots l.fn.mutators.items l.mutators.items
