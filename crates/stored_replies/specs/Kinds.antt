-- Replies as their kinds, with the names and the numbers beside.
use Rattle.std.specs.Prelude.{◌≡◌, ℕ, ◌+◌, ◌%◌, ◌^◌, Bool, true, false, List, [], ◌∷◌, drop, get_or, length, nat_eq, sum_by, if◌then◌else◌}
use Rattle.ideal_heap.specs.Names.{name, same_name}
use Rattle.ideal_heap.specs.declared.name.Name.{Name}
use Rattle.ideal_heap.specs.declared.reply.Reply.{Reply}
use Rattle.ideal_heap.specs.declared.reply.Reply.TheVariants as r
use Rattle.stored_replies.specs.declared.reply_kind.ReplyKind.{ReplyKind}
use Rattle.stored_replies.specs.declared.reply_kind.ReplyKind.TheVariants as k

abbrev pub kind_of : Reply → ReplyKind
kind_of (r.New n) = k.New
kind_of r.Full = k.Full
kind_of (r.Ref n) = k.Ref
kind_of r.Nil = k.Nil
kind_of (r.Num x) = k.Num
kind_of r.Done = k.Done
kind_of r.Yes = k.Yes
kind_of r.No = k.No
kind_of r.Null = k.Null
kind_of r.Range = k.Range

-- the name of the mutator's next object
abbrev pub next_name : Name → Name
next_name n = name n.mutator ((n.birth + 1) % 2 ^ 32)

-- the kind of a reply, if this is the name in the last `new` before it
abbrev pub kind_after : Name → Reply → ReplyKind
kind_after last (r.New n) = if same_name n (next_name last) then k.Next else k.New
kind_after last reply = kind_of reply

-- the reply of a kind, if this is the name in the last `new` before it; if a name or a number is
-- stored with it, it is the first of these
abbrev pub first_reply : Name → ReplyKind → List Name → List ℕ → Reply
first_reply last k.Next names numbers = r.New (next_name last)
first_reply last k.New names numbers = r.New (get_or names 0 (name 0 0))
first_reply last k.Full names numbers = r.Full
first_reply last k.Ref names numbers = r.Ref (get_or names 0 (name 0 0))
first_reply last k.Nil names numbers = r.Nil
first_reply last k.Num names numbers = r.Num (get_or numbers 0 0)
first_reply last k.Done names numbers = r.Done
first_reply last k.Yes names numbers = r.Yes
first_reply last k.No names numbers = r.No
first_reply last k.Null names numbers = r.Null
first_reply last k.Range names numbers = r.Range

-- the name in the last `new` after a reply of this kind
abbrev pub last_after : Name → ReplyKind → List Name → Name
last_after last k.New names = get_or names 0 (name 0 0)
last_after last k.Next names = next_name last
last_after last _ names = last

-- how many names are stored with a reply of a kind
abbrev pub names_of_kind : ReplyKind → ℕ
names_of_kind k.New = 1
names_of_kind k.Ref = 1
names_of_kind _ = 0

-- how many numbers a reply of a kind has
abbrev pub numbers_in : ReplyKind → ℕ
numbers_in k.Num = 1
numbers_in _ = 0

abbrev pub is_full_kind : ReplyKind → Bool
is_full_kind k.Full = true
is_full_kind _ = false

abbrev pub is_next_kind : ReplyKind → Bool
is_next_kind k.Next = true
is_next_kind _ = false

-- the index of a kind, where `New` and `Next` are one
abbrev pub kind_index : ReplyKind → ℕ
kind_index k.Range = 0
kind_index k.New = 1
kind_index k.Next = 1
kind_index k.Full = 2
kind_index k.Ref = 3
kind_index k.Nil = 4
kind_index k.Num = 5
kind_index k.Done = 6
kind_index k.Yes = 7
kind_index k.No = 8
kind_index k.Null = 9

abbrev pub is_of_index : ℕ → ReplyKind → Bool
is_of_index i kind = nat_eq (kind_index kind) i

-- a reply is of the kind with this index
abbrev pub is_of_kind : ℕ → Reply → Bool
is_of_kind i reply = is_of_index i (kind_of reply)

-- the number in a reply, 0 if it has none
abbrev pub number_replied : Reply → ℕ
number_replied (r.Num n) = n
number_replied _ = 0

-- the replies of some kinds, with these names and numbers in turn, if this is the name in the last
-- `new` before them
abbrev pub unpacked : Name → List ReplyKind → List Name → List ℕ → List Reply
unpacked last [] names numbers = []
unpacked last (kind ∷ kinds) names numbers = first_reply last kind names numbers
    ∷ unpacked (last_after last kind names) kinds (drop (names_of_kind kind) names)
    (drop (numbers_in kind) numbers)

-- the name in the last `new` after these replies
abbrev pub last_in : Name → List ReplyKind → List Name → Name
last_in last [] names = last
last_in last (kind ∷ kinds) names =
    last_in (last_after last kind names) kinds (drop (names_of_kind kind) names)

-- the names and numbers are as many as are stored with replies of these kinds
pub record HasParts (kinds : List ReplyKind) (names : List Name) (numbers : List ℕ) : Type 0 where
  pub name_count : sum_by names_of_kind kinds ≡ length names
  pub number_count : sum_by numbers_in kinds ≡ length numbers
