use Rattle.std.proofs.Common.{refl}
use Rattle.ideal_heap.specs.Ideal.{step}
use Rattle.ideal_heap.specs.Names.{name}
use Rattle.ideal_heap.specs.Reach.{from_register, from_global, from_field}
use Rattle.ideal_heap.proofs.examples.path_examples.Goals as goal

pub returns-clause-register : goal.returns-clause-register
unfolding step
returns-clause-register c = from_register 1 5 refl

pub returns-clause-global : goal.returns-clause-global
unfolding step
returns-clause-global c = from_global 3 refl

pub returns-clause-field : goal.returns-clause-field
unfolding step
returns-clause-field c = from_field (name 1 1) 0 (from_register 1 0 refl) refl
