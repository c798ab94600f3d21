use Rattle.ideal_heap.specs.Tables.{tables_heap}
use Rattle.ideal_heap.proofs.KeptLemmas.{empty-closed}
use Rattle.ideal_heap.proofs.plain.Ideal.new.Goals as goal

pub invariant_of-result : goal.invariant_of-result
invariant_of-result c = record { closed = empty-closed (tables_heap c.in_ok-tables.tables) c.in_ok-tables.ensures.0 }
