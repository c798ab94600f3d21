use Rattle.std.proofs.Common.{refl, ℕ, List, [], ◌∷◌, Some}
use Rattle.ideal_heap.specs.Names.{name}
use Rattle.ideal_heap.specs.Ideal.{empty, step}
use Rattle.programs.specs.Lists.{IsListFrom, heap_after, pushes}
use Rattle.programs.proofs.examples.list_examples.Goals as goal

pub returns-clause-pushed : goal.returns-clause-pushed
unfolding step
returns-clause-pushed c = (refl, refl, (refl, refl, (refl, refl, refl)))

pub returns-clause-popped : goal.returns-clause-popped
unfolding step
returns-clause-popped c = (refl, refl, (refl, refl, refl))

pub returns-clause-shared : goal.returns-clause-shared
unfolding step
returns-clause-shared c = (refl, refl, refl)

pub returns-clause-loaded : goal.returns-clause-loaded
unfolding step
returns-clause-loaded c = (refl, refl, refl)

pub returns-clause-tail : goal.returns-clause-tail
unfolding step
returns-clause-tail c = (refl, refl, (refl, refl, refl))

pub returns-clause-other : goal.returns-clause-other
unfolding step
returns-clause-other c = (refl, refl, (refl, refl, refl))

pub returns-clause-replies : goal.returns-clause-replies
unfolding step
returns-clause-replies c = refl

-- the one element leads to itself
no-end : (xs : List ℕ) → IsListFrom (heap_after empty 1 (pushes 0 0 5)) (Some (name 1 1)) xs → ⊥
unfolding step
no-end [] list = absurd cc
no-end (x ∷ xs) list = no-end xs list.2

pub returns-clause-cycle : goal.returns-clause-cycle
unfolding step
returns-clause-cycle c xs list = no-end xs list
