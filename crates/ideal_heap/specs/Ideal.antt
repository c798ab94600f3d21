-- The ideal heap: a map from names to records, without addresses or collections. No record is ever
-- removed.
use Rattle.std.specs.Prelude.{◌≡◌, ℕ, ◌+◌, ◌%◌, ◌^◌, Bool, true, false, List, length, Option, None, Some, nat_eq}
use Rattle.std.specs.Prelude.{nat_lt, if◌then◌else◌, slice_index, slice_get, slice_set, replicate, unwrap_or, ◌≤◌, ◌<◌}
use Rattle.std.specs.Prelude.{IsSome, IsTrue, Contains}
use Rattle.ideal_heap.specs.declared.name.Name.{Name}
use Rattle.ideal_heap.specs.declared.command.Command.{Command}
use Rattle.ideal_heap.specs.declared.command.TheConstants.{REGISTERS, GLOBALS}
use Rattle.ideal_heap.specs.declared.command.Command.TheVariants as c
use Rattle.ideal_heap.specs.declared.reply.Reply.{Reply}
use Rattle.ideal_heap.specs.declared.reply.Reply.TheVariants as r
use Rattle.ideal_heap.specs.Names.{name, same_name}

-- what a reference field holds
pub data Field : Type 0 where
  Nil : Field
  At : Name → Field

pub record Record : Type 0 where
  pub refs : List Field
  pub nums : List ℕ

-- Maps are functions, so that an update has one law for its key and one for all other keys. A
-- register is given by mutator and number. births counts the objects that each mutator has
-- allocated.
pub record IdealHeap : Type 0 where
  pub records : Name → Option Record
  pub pinned : Name → Bool
  pub globals : ℕ → Option Name
  pub registers : ℕ → ℕ → Option Name
  pub births : ℕ → ℕ

abbrev pub empty : IdealHeap
empty = record {
  records = λ _. None;
  pinned = λ _. false;
  globals = λ _. None;
  registers = λ _ _. None;
  births = λ _. 0;
}

-- a function changed at one argument
abbrev pub at_number : {X : Type 0} → (ℕ → X) → ℕ → X → ℕ → X
at_number f k x q = if nat_eq q k then x else f q

abbrev pub at_name : {X : Type 0} → (Name → X) → Name → X → Name → X
at_name f k x q = if same_name q k then x else f q

abbrev pub set_register : IdealHeap → ℕ → ℕ → Option Name → IdealHeap
set_register h m d v =
    record h { registers = at_number h.registers m (at_number (h.registers m) d v) }

abbrev pub set_global : IdealHeap → ℕ → Option Name → IdealHeap
set_global h g v = record h { globals = at_number h.globals g v }

abbrev pub set_record : IdealHeap → Name → Record → IdealHeap
set_record h n x = record h { records = at_name h.records n (Some x) }

abbrev pub set_pinned : IdealHeap → Name → Bool → IdealHeap
set_pinned h n b = record h { pinned = at_name h.pinned n b }

abbrev pub no_fields : Record
no_fields = record { refs = replicate 0 Nil; nums = replicate 0 0 }

abbrev pub record_of : IdealHeap → Name → Record
record_of h n = unwrap_or (h.records n) no_fields

abbrev pub field_of : Option Name → Field
field_of None = Nil
field_of (Some n) = At n

-- the name that a register gets from a field
abbrev pub name_of_field : Field → Option Name
name_of_field Nil = None
name_of_field (At n) = Some n

-- the reply to the read of a field
abbrev pub field_reply : Field → Reply
field_reply Nil = r.Nil
field_reply (At n) = r.Ref n

-- the reply to the read of a global
abbrev pub global_reply : Option Name → Reply
global_reply None = r.Nil
global_reply (Some n) = r.Ref n

-- the reply to a command, and the heap after it
abbrev pub Outcome : Type 0
Outcome = Reply × IdealHeap

-- `null` if there is no object, else the outcome that f gives for it
abbrev pub on_object : IdealHeap → Option Name → (Name → Outcome) → Outcome
on_object h None f = (r.Null, h)
on_object h (Some n) f = f n

-- `range` if i is no index of a list of length len
abbrev pub in_range : IdealHeap → ℕ → ℕ → Outcome → Outcome
in_range h i len o = if nat_lt i len then o else (r.Range, h)

abbrev pub on_ref : IdealHeap → Option Name → ℕ → (Name → Record → Outcome) → Outcome
on_ref h o i f =
    on_object h o (λ n. in_range h i (length (record_of h n).refs) (f n (record_of h n)))

abbrev pub on_num : IdealHeap → Option Name → ℕ → (Name → Record → Outcome) → Outcome
on_num h o j f =
    on_object h o (λ n. in_range h j (length (record_of h n).nums) (f n (record_of h n)))

-- what field i holds, nil if there is none
abbrev pub field_at : Record → ℕ → Field
field_at x i = unwrap_or (slice_get x.refs i) Nil

abbrev pub put_field : Record → ℕ → Field → Record
put_field x i v = record x { refs = slice_set x.refs i v }

abbrev pub put_number : Record → ℕ → ℕ → Record
put_number x j n = record x { nums = slice_set x.nums j n }

-- the record of a new object
abbrev pub born : ℕ → ℕ → Record
born refs nums = record { refs = replicate refs Nil; nums = replicate nums 0 }

-- the heap with one more object of mutator m, which has the record x
abbrev pub with_object : IdealHeap → ℕ → Record → IdealHeap
with_object h m x =
    record (set_record h (name m (h.births m + 1)) x)
    { births = at_number h.births m (h.births m + 1) }

-- the heap with a new object of mutator m, which register d names
abbrev pub with_new : IdealHeap → ℕ → ℕ → ℕ → ℕ → IdealHeap
with_new h m d refs nums =
    set_register (with_object h m (born refs nums)) m d (Some (name m (h.births m + 1)))

-- the step of mutator m's command: the reply, and the heap after it
unfoldable pub step : IdealHeap → ℕ → Command → Outcome
step h m (c.New d refs nums) = (r.New (name m (h.births m + 1)), with_new h m d refs nums)
step h m (c.Get d s i) = on_ref h (h.registers m s) i (λ n x.
    (field_reply (field_at x i), set_register h m d (name_of_field (field_at x i))))
step h m (c.Put s i v) = on_ref h (h.registers m s) i (λ n x.
    (r.Done, set_record h n (put_field x i (field_of (h.registers m v)))))
step h m (c.Read s j) = on_num h (h.registers m s) j (λ n x. (r.Num (slice_index x.nums j), h))
step h m (c.Write s j v) =
    on_num h (h.registers m s) j (λ n x. (r.Done, set_record h n (put_number x j v)))
step h m (c.Add s j v) = on_num h (h.registers m s) j (λ n x. (
  r.Num (slice_index x.nums j),
  set_record h n
      (put_number x j ((slice_index x.nums j + v) % 2 ^ 64)),
))
step h m (c.Swap s j u v) = on_num h (h.registers m s) j
    (λ n x. if nat_eq (slice_index x.nums j) u then (r.Yes, set_record h n (put_number x j v))
    else (r.No, h))
step h m (c.Move d s) = (r.Done, set_register h m d (h.registers m s))
step h m (c.DropReg s) = (r.Done, set_register h m s None)
step h m (c.Load d g) = (global_reply (h.globals g), set_register h m d (h.globals g))
step h m (c.Share g s) = (r.Done, set_global h g (h.registers m s))
step h m (c.Pin s) =
    on_object h (h.registers m s) (λ n. ((if h.pinned n then r.No else r.Yes), set_pinned h n true))
step h m (c.Unpin s) =
    on_object h (h.registers m s)
    (λ n. ((if h.pinned n then r.Yes else r.No), set_pinned h n false))
step h m c.Gc = (r.Done, h)
step h m c.Meet = (r.Done, h)

-- n is the name of an object
abbrev pub HasRecord : IdealHeap → Name → Type 0
HasRecord h n = IsSome (h.records n)

-- all names in registers, globals and fields, and all pinned names, have records
pub record IsClosed (h : IdealHeap) : Type 0 where
  pub registers : (m d : ℕ) (n : Name) → h.registers m d ≡ Some n → HasRecord h n
  pub globals : (g : ℕ) (n : Name) → h.globals g ≡ Some n → HasRecord h n
  pub fields : (n to : Name) (i : ℕ) → field_at (record_of h n) i ≡ At to → HasRecord h to
  pub pins : (n : Name) → IsTrue (h.pinned n) → HasRecord h n

-- all but the globals and the registers of each mutator in ms are nil
pub record IsConfined (ms : List ℕ) (h : IdealHeap) : Type 0 where
  pub registers : (m d : ℕ) (n : Name) → h.registers m d ≡ Some n → (d < REGISTERS) × Contains ms m
  pub globals : (g : ℕ) (n : Name) → h.globals g ≡ Some n → g < GLOBALS

-- an ideal heap of the mutators ms
pub record IsIdeal (ms : List ℕ) (h : IdealHeap) : Type 0 where
  pub places : IsConfined ms h
  pub births : (n : Name) → HasRecord h n → (1 ≤ n.birth) × (n.birth ≤ h.births n.mutator)
  pub closed : IsClosed h

-- y has as many references as x, and as many numbers
pub record HasShapeOf (x y : Record) : Type 0 where
  pub refs : length y.refs ≡ length x.refs
  pub nums : length y.nums ≡ length x.nums
