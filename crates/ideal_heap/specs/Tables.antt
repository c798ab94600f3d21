-- The ideal heap that tables represent.
use Rattle.std.specs.Prelude.{ℕ, ◌≤◌, false, List, length, Option, None, slice_get, unwrap_or, map, zero, suc}
use Rattle.std.specs.Prelude.{option_and_then}
use Rattle.std.specs.Option.{option_map, option_map_or}
use Rattle.ideal_heap.specs.declared.name.Name.{Name}
use Rattle.ideal_heap.specs.declared.tables.Object.{Object}
use Rattle.ideal_heap.specs.declared.tables.Mutator.{Mutator}
use Rattle.ideal_heap.specs.declared.tables.Tables.{Tables}
use Rattle.ideal_heap.specs.Ideal.{IdealHeap, Record, field_of}

-- element k of a list, counted from 1
abbrev pub nth_from_one : {X : Type 0} → List X → ℕ → Option X
nth_from_one xs zero = None
nth_from_one xs (suc k) = slice_get xs k

abbrev pub record_in : Object → Record
record_in x = record { refs = map field_of x.refs.items; nums = x.nums.items }

abbrev pub object_at : List Mutator → Name → Option Object
object_at ms n =
    option_and_then (λ x. nth_from_one x.objects.items n.birth) (nth_from_one ms n.mutator)

-- register or global i, nil past the end of the list
abbrev pub held_at : List (Option Name) → ℕ → Option Name
held_at xs i = unwrap_or (slice_get xs i) None

abbrev pub heap_of_tables : List Mutator → List (Option Name) → IdealHeap
heap_of_tables ms gs = record {
  records = λ n. option_map record_in (object_at ms n);
  pinned = λ n. option_map_or (λ x. x.pinned) (object_at ms n) false;
  globals = λ g. held_at gs g;
  registers = λ m d. option_map_or (λ x. held_at x.registers d) (nth_from_one ms m) None;
  births = λ m. option_map_or (λ x. length x.objects.items) (nth_from_one ms m) 0;
}

abbrev pub tables_heap : Tables → IdealHeap
tables_heap t = heap_of_tables t.mutators.items t.globals

abbrev pub mutator_count : Tables → ℕ
mutator_count t = length t.mutators.items

abbrev pub HasMutator : Tables → ℕ → Type 0
HasMutator t m = (1 ≤ m) × (m ≤ mutator_count t)
