use Rattle.std.proofs.Common.{◌≡◌, length, replicate, None}
use Rattle.ideal_heap.specs.Ideal.{empty}
use Rattle.ideal_heap.specs.Tables.{heap_of_tables}
use Rattle.ideal_heap.proofs.tables.Tables.new.Given as goal

abbrev pub invariant-loop : goal.invariant-loop
invariant-loop l = record { blank : heap_of_tables l.all.items (replicate 16 None) ≡ empty; count : length l.all.items ≡ l.counter }
