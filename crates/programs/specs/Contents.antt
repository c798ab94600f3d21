-- What a program sees of an ideal heap: the numbers and the references of the objects that it can
-- name. Mutators are given by their numbers, counted from 1.
use Rattle.std.specs.Prelude.{ℕ, Option, None, Some, slice_get}
use Rattle.ideal_heap.specs.declared.name.Name.{Name}
use Rattle.ideal_heap.specs.declared.reply.Reply.{Reply}
use Rattle.ideal_heap.specs.declared.reply.Reply.TheVariants as r
use Rattle.ideal_heap.specs.Ideal.{IdealHeap, Field, record_of}

-- number j of the object that o names; None if o is nil or the object has no number j
abbrev pub number_of_object : IdealHeap → Option Name → ℕ → Option ℕ
number_of_object h None j = None
number_of_object h (Some n) j = slice_get (record_of h n).nums j

-- what reference i of the object that o names holds; None if o is nil or the object has no
-- reference i
abbrev pub field_in : IdealHeap → Option Name → ℕ → Option Field
field_in h None i = None
field_in h (Some n) i = slice_get (record_of h n).refs i

-- number j of the object in register s of mutator m
abbrev pub number_of : IdealHeap → ℕ → ℕ → ℕ → Option ℕ
number_of h m s j = number_of_object h (h.registers m s) j

-- what reference i of the object in register s of mutator m holds
abbrev pub field_in_heap : IdealHeap → ℕ → ℕ → ℕ → Option Field
field_in_heap h m s i = field_in h (h.registers m s) i

-- the reply to an access of a number or a reference that is not there: the register is nil, or its
-- object has none
abbrev pub missing_reply : Option Name → Reply
missing_reply None = r.Null
missing_reply (Some n) = r.Range
