-- Linked lists of numbers. An element is an object: its number 0 is the element's number, its
-- reference 0 leads to the next element, and is nil in the last one.
use Rattle.std.specs.Prelude.{◌≡◌, ℕ, ◌⊎◌, List, [], ◌∷◌, Option, None, Some, unwrap_or, IsSome}
use Rattle.ideal_heap.specs.declared.name.Name.{Name}
use Rattle.ideal_heap.specs.declared.command.Command.{Command}
use Rattle.ideal_heap.specs.declared.command.Command.TheVariants as c
use Rattle.ideal_heap.specs.Ideal.{IdealHeap, Nil, name_of_field, step}
use Rattle.programs.specs.Contents.{number_of_object, field_in}

-- the name that reference 0 of the object that o names holds
abbrev pub next_of_list : IdealHeap → Option Name → Option Name
next_of_list h o = name_of_field (unwrap_or (field_in h o 0) Nil)

-- o names the first element of a list of these numbers, or is nil if there are none
abbrev pub IsListFrom : IdealHeap → Option Name → List ℕ → Type 0
IsListFrom h o [] = o ≡ None
IsListFrom h o (x ∷ xs) = (number_of_object h o 0 ≡ Some x) × IsSome (field_in h o 0)
    × IsListFrom h (next_of_list h o) xs

-- register s of mutator m holds a list of these numbers
abbrev pub IsList : IdealHeap → ℕ → ℕ → List ℕ → Type 0
IsList h m s xs = IsListFrom h (h.registers m s) xs

-- global g holds a list of these numbers
abbrev pub IsGlobalList : IdealHeap → ℕ → List ℕ → Type 0
IsGlobalList h g xs = IsListFrom h (h.globals g) xs

-- n is an element of the list of these numbers that o names
abbrev pub HasElement : IdealHeap → Option Name → List ℕ → Name → Type 0
HasElement h o [] n = ⊥
HasElement h o (x ∷ xs) n = (o ≡ Some n) ⊎ HasElement h (next_of_list h o) xs n

-- each list stays, whoever holds it
abbrev pub KeepsLists : IdealHeap → IdealHeap → Type 0
KeepsLists old new = (o : Option Name) (xs : List ℕ) → IsListFrom old o xs → IsListFrom new o xs

-- the heap after these commands of mutator m
abbrev pub heap_after : IdealHeap → ℕ → List Command → IdealHeap
heap_after h m [] = h
heap_after h m (command ∷ rest) = heap_after (step h m command).1 m rest

-- Puts x at the front of the list in register s; register d is used for the new element.
abbrev pub pushes : ℕ → ℕ → ℕ → List Command
pushes d s x = c.New d 1 1 ∷ c.Put d 0 s ∷ c.Write d 0 x ∷ c.Move s d ∷ []

-- Reads the first number of the list in register s, and takes it off.
abbrev pub pops : ℕ → List Command
pops s = c.Read s 0 ∷ c.Get s s 0 ∷ []
