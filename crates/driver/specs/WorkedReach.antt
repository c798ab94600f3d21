-- The ideal heap of the worked end of a session: three names that it reaches, and two that it does
-- not.
use Rattle.std.specs.Prelude.{ℕ, List, [], ◌∷◌, Some}
use Rattle.ideal_heap.specs.declared.name.Name.{Name}
use Rattle.ideal_heap.specs.declared.command.Command.{Command}
use Rattle.ideal_heap.specs.declared.command.Command.TheVariants as command
use Rattle.ideal_heap.specs.Names.{name}
use Rattle.ideal_heap.specs.Ideal.{IdealHeap, Record, At, empty, born, set_record, set_register, set_global}
use Rattle.driver.specs.Texts.{MapPlace}

-- an object whose only reference is to n
abbrev pub referrer : Name → Record
referrer n = record { refs = At n ∷ []; nums = [] }

-- 2.1 refers to the large object 1.2, and the dead 2.2 to 1.3
abbrev pub worked_objects : IdealHeap
worked_objects =
    set_record (set_record (set_record (set_record (set_record empty (name 1 1) (born 0 2))
    (name 2 1) (referrer (name 1 2))) (name 1 2) (born 0 2046)) (name 1 3) (born 1 3))
    (name 2 2) (referrer (name 1 3))

-- register 3 of mutator 2 has 2.1, and global 5 has 1.3
abbrev pub worked_ideal : IdealHeap
worked_ideal =
    set_global (set_register worked_objects 2 3 (Some (name 2 1))) 5 (Some (name 1 3))

abbrev pub worked_names : List Name
worked_names = name 1 2 ∷ name 1 3 ∷ name 2 1 ∷ []

-- a place of 1.3
abbrev pub place_at : ℕ → ℕ → ℕ → MapPlace
place_at block word size = record { name = name 1 3; block = block; word = word; size = size }

-- the map of the worked end, with this place for 1.3
abbrev pub worked_map : MapPlace → List MapPlace
worked_map p =
    record { name = name 1 2; block = 2; word = 0; size = 2049 } ∷ p
    ∷ record { name = name 2 1; block = 0; word = 5; size = 4 } ∷ []

-- Two objects, of which the first refers to the second, and the second's number is 7.
abbrev pub worked_trace : List Command
worked_trace =
    command.New 0 1 0 ∷ command.New 1 0 3 ∷ command.Put 0 0 1 ∷ command.Write 1 2 7
    ∷ command.Share 5 0
    ∷ command.DropReg 0 ∷ command.Gc ∷ []
