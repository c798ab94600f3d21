-- The ideal heap that an executable one represents, and its number of mutators.
use Rattle.std.specs.Prelude.{ℕ}
use Rattle.ideal_heap.specs.declared.plain.Ideal.{Ideal}
use Rattle.ideal_heap.specs.Ideal.{IdealHeap}
use Rattle.ideal_heap.specs.Tables.{tables_heap, mutator_count}

unfoldable pub ideal_of : Ideal → IdealHeap
ideal_of h = tables_heap h.tables

unfoldable pub mutators_of : Ideal → ℕ
mutators_of h = mutator_count h.tables
