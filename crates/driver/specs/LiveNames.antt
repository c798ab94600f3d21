-- What an ideal heap keeps alive: the names that it reaches, and the words of their records.
use Rattle.std.specs.Prelude.{◌≡◌, ℕ, ◌+◌, ◌↔◌, List, [], ◌∷◌, ◌++◌, length, codes}
use Rattle.std.specs.List.{AllPairs, Any}
use Rattle.std.specs.Fmt.{decimal}
use Rattle.ideal_heap.specs.declared.name.Name.{Name}
use Rattle.ideal_heap.specs.declared.command.Command.{Command}
use Rattle.ideal_heap.specs.Names.{IsBefore}
use Rattle.ideal_heap.specs.Ideal.{IdealHeap, Record, record_of, step}
use Rattle.ideal_heap.specs.Reach.{PathReaches}
use Rattle.object_model.specs.Objects.{size_of}
use Rattle.trace_text.specs.Text.{ended}

-- the names that the ideal heap reaches from registers and globals, each once, in rising order
pub record AreLiveNames (h : IdealHeap) (names : List Name) : Type 0 where
  pub all : (n : Name) → PathReaches h n ↔ Any (λ x. x ≡ n) names
  pub rise : AllPairs IsBefore names

-- the size in words of an object with this record
abbrev pub record_size : Record → ℕ
record_size x = size_of (length x.refs) (length x.nums)

-- the words of the objects of these names
abbrev pub count_words_named : IdealHeap → List Name → ℕ
count_words_named h [] = 0
count_words_named h (n ∷ rest) = record_size (record_of h n) + count_words_named h rest

-- the report's line on live objects, as the ideal heap has it
abbrev pub ideal_live_line : IdealHeap → List Name → List ℕ
ideal_live_line h names = ended (codes "live objects " ++ decimal (length names)
    ++ codes " words " ++ decimal (count_words_named h names))

-- the ideal heap after the commands of mutator m, which runs alone from the heap h; none is refused
abbrev pub heap_alone : IdealHeap → ℕ → List Command → IdealHeap
heap_alone h m [] = h
heap_alone h m (c ∷ cs) = heap_alone (step h m c).1 m cs
