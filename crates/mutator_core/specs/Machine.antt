-- The mutator machine. A step reads the mutator's own state and one word of the row. The
-- definitions give the index of that word, the word after the step, the answer, and the mutator's
-- state after the step.
use Rattle.object_model.specs.declared.shape.TheConstants.{NUMS_UNIT, COLLECTOR_OFFSET, HEADER_WORDS, SHAPE_OFFSET}
use Rattle.std.specs.Prelude.{ℕ, zero, suc, ◌+◌, ◌/◌, ◌%◌, ◌^◌, Bool, true, false, if◌then◌else◌, nat_eq, Some, None}
use Rattle.std.specs.Prelude.{List, [], ◌∷◌, map, slice_index, slice_set}
use Rattle.std.specs.Int.{bit_at}
use Rattle.heap_layout.specs.Zones.{StopWord, BudgetWord, Globals, BlockWords, StartBits, PinBits, UnlogBits, first}
use Rattle.heap_layout.specs.Blocks.{code_of}
use Rattle.heap_layout.specs.declared.block.Kind.TheVariants as kinds
use Rattle.ideal_heap.specs.declared.command.Command.{Command}
use Rattle.ideal_heap.specs.declared.command.Command.TheVariants as c
use Rattle.ideal_heap.specs.declared.reply.Reply.TheVariants as r
use Rattle.ideal_heap.specs.declared.name.Name.{Name}
use Rattle.ideal_heap.specs.Names.{name, name_code}
use Rattle.object_model.specs.Objects.{HeapState, with_words, size_of, shape_code}
use Rattle.side_meta.specs.BitWords.{with_bit, without_bit}
use Rattle.object_model.specs.BitWords.{bit_word, bit_place}
use Rattle.object_model.specs.Graphs.{MutatorState, numbers_of}
use Rattle.sessions.specs.Plans.{Rules}
use Rattle.sessions.specs.Sessions.{block_of_kind}
use Rattle.mutator_core.specs.declared.state.Local.{Local}
use Rattle.mutator_core.specs.declared.state.Unpublished.{Unpublished}
use Rattle.mutator_core.specs.declared.state.Event.{Event}
use Rattle.mutator_core.specs.declared.state.Event.TheVariants as e
use Rattle.mutator_core.specs.declared.state.Answer.{Answer}
use Rattle.mutator_core.specs.declared.state.Answer.TheVariants.{Plain, Reference}

-- an epoch as it begins: the rules of its plan, the heap and the mutators
pub record Epoch : Type 0 where
  pub rules : Rules
  pub before : HeapState
  pub mutators : List MutatorState

-- the words of the row, and the state of each mutator, by its number
pub record Machine : Type 0 where
  pub words : List ℕ
  pub locals : ℕ → Local

-- the address that register s holds, 0 for nil
abbrev pub address_in : Local → ℕ → ℕ
address_in l s = slice_index l.registers s

-- the number, births and registers of a mutator
abbrev pub mutator_of : Local → MutatorState
mutator_of l = record { number = l.number; births = l.births; registers = l.registers }

-- the heap and the mutators of the machine
abbrev pub heap_in : Epoch → Machine → HeapState
heap_in p h = with_words p.before h.words

abbrev pub mutators_in : Epoch → Machine → List MutatorState
mutators_in p h = map (λ m. mutator_of (h.locals m)) (numbers_of p.mutators)

-- how many fields and how many numbers an object with this shape word has
abbrev pub refs_in : ℕ → ℕ
refs_in word = word % NUMS_UNIT

abbrev pub nums_in : ℕ → ℕ
nums_in word = word / NUMS_UNIT

-- in a word of side metadata, the bit of the object in register s
abbrev pub bit_of_object : Epoch → Local → ℕ → ℕ → ℕ
bit_of_object p l s word = bit_at word (bit_place p.before.blocks (address_in l s))

-- the address of number j of the object in register s, whose shape was loaded
abbrev pub number_word : Local → ℕ → ℕ → ℕ
number_word l s j = address_in l s + HEADER_WORDS + refs_in l.shape.word + j

-- the name of the mutator's next object
abbrev pub next_name : Local → Name
next_name l = name l.number (l.births + 1)

-- the initial word at this offset of an object: its name, its shape, else 0
abbrev pub birth_word : Name → ℕ → ℕ → ℕ → ℕ
birth_word n refs nums zero = name_code n
birth_word n refs nums (suc zero) = shape_code refs nums
birth_word n refs nums (suc (suc offset)) = 0

-- the block word that a mutator expects of a block that it takes, and the word that it stores
abbrev pub found_code : Epoch → ℕ → Bool → ℕ
found_code p class true = code_of (block_of_kind kinds.Free 0)
found_code p class false = code_of (block_of_kind p.rules.fill class)

abbrev pub owned_code : Epoch → Local → ℕ → ℕ
owned_code p l class = code_of (record { kind = p.rules.fill; class = class; owner = l.number })

-- the index of the word that the entry of a command reads or changes
abbrev pub place_of_command : Epoch → Local → Command → ℕ
place_of_command p l (c.New d refs nums) = bit_word p.before.blocks StartBits l.unpublished.address
place_of_command p l (c.Get d s i) = address_in l s + HEADER_WORDS + i
place_of_command p l (c.Put s i v) = address_in l s + HEADER_WORDS + i
place_of_command p l (c.Read s j) = number_word l s j
place_of_command p l (c.Write s j n) = number_word l s j
place_of_command p l (c.Add s j n) = number_word l s j
place_of_command p l (c.Swap s j was n) = number_word l s j
place_of_command p l (c.Move d s) = first p.before.blocks StopWord
place_of_command p l (c.DropReg s) = first p.before.blocks StopWord
place_of_command p l (c.Load d g) = first p.before.blocks Globals + g
place_of_command p l (c.Share g s) = first p.before.blocks Globals + g
place_of_command p l (c.Pin s) = bit_word p.before.blocks PinBits (address_in l s)
place_of_command p l (c.Unpin s) = bit_word p.before.blocks PinBits (address_in l s)
place_of_command p l c.Gc = first p.before.blocks StopWord
place_of_command p l c.Meet = first p.before.blocks StopWord

-- the index of the word that an event reads or changes
abbrev pub word_of_event : Epoch → Local → Event → ℕ
word_of_event p l (e.Perform command) = place_of_command p l command
word_of_event p l (e.Miss command) = first p.before.blocks StopWord
word_of_event p l e.Poll = first p.before.blocks StopWord
word_of_event p l (e.LoadName s) = address_in l s
word_of_event p l (e.LoadShape s) = address_in l s + SHAPE_OFFSET
word_of_event p l (e.LoadCollector s) = address_in l s + COLLECTOR_OFFSET
word_of_event p l (e.LoadShapeAt a) = a + SHAPE_OFFSET
word_of_event p l (e.LoadBlock k) = first p.before.blocks BlockWords + k
word_of_event p l (e.LoadSide i) = i
word_of_event p l (e.LoadUnlog s) = bit_word p.before.blocks UnlogBits (address_in l s)
word_of_event p l e.Raise = first p.before.blocks StopWord
word_of_event p l (e.ClearUnlog s) = bit_word p.before.blocks UnlogBits (address_in l s)
word_of_event p l (e.Initialize a refs nums offset) = a + offset
word_of_event p l e.DrawTicket = first p.before.blocks BudgetWord
word_of_event p l (e.TakeBlock k class free) = first p.before.blocks BlockWords + k

-- that word after the entry of a command, from the word n found
abbrev pub store_of_command : Epoch → Local → Command → ℕ → ℕ
store_of_command p l (c.New d refs nums) n =
    with_bit n (bit_place p.before.blocks l.unpublished.address)
store_of_command p l (c.Get d s i) n = n
store_of_command p l (c.Put s i v) n = address_in l v
store_of_command p l (c.Read s j) n = n
store_of_command p l (c.Write s j v) n = v
store_of_command p l (c.Add s j v) n = (n + v) % 2 ^ 64
store_of_command p l (c.Swap s j was v) n = if nat_eq n was then v else n
store_of_command p l (c.Move d s) n = n
store_of_command p l (c.DropReg s) n = n
store_of_command p l (c.Load d g) n = n
store_of_command p l (c.Share g s) n = address_in l s
store_of_command p l (c.Pin s) n = with_bit n (bit_place p.before.blocks (address_in l s))
store_of_command p l (c.Unpin s) n = without_bit n (bit_place p.before.blocks (address_in l s))
store_of_command p l c.Gc n = n
store_of_command p l c.Meet n = n

-- that word after an event, from the word n found
abbrev pub stored : Epoch → Local → Event → ℕ → ℕ
stored p l (e.Perform command) n = store_of_command p l command n
stored p l (e.Miss command) n = n
stored p l e.Poll n = n
stored p l (e.LoadName s) n = n
stored p l (e.LoadShape s) n = n
stored p l (e.LoadCollector s) n = n
stored p l (e.LoadShapeAt a) n = n
stored p l (e.LoadBlock k) n = n
stored p l (e.LoadSide i) n = n
stored p l (e.LoadUnlog s) n = n
stored p l e.Raise n = if nat_eq n 0 then l.number else n
stored p l (e.ClearUnlog s) n = without_bit n (bit_place p.before.blocks (address_in l s))
stored p l (e.Initialize a refs nums offset) n = birth_word (next_name l) refs nums offset
stored p l e.DrawTicket n = (n + 1) % 2 ^ 64
stored p l (e.TakeBlock k class free) n =
    if nat_eq n (found_code p class free) then owned_code p l class else n

-- the answer to a command, from the word n found
abbrev pub answer_of_command : Epoch → Local → Command → ℕ → Answer
answer_of_command p l (c.New d refs nums) n = Plain (r.New (next_name l))
answer_of_command p l (c.Get d s i) n = Reference n
answer_of_command p l (c.Put s i v) n = Plain r.Done
answer_of_command p l (c.Read s j) n = Plain (r.Num n)
answer_of_command p l (c.Write s j v) n = Plain r.Done
answer_of_command p l (c.Add s j v) n = Plain (r.Num n)
answer_of_command p l (c.Swap s j was v) n = Plain (if nat_eq n was then r.Yes else r.No)
answer_of_command p l (c.Move d s) n = Plain r.Done
answer_of_command p l (c.DropReg s) n = Plain r.Done
answer_of_command p l (c.Load d g) n = Reference n
answer_of_command p l (c.Share g s) n = Plain r.Done
answer_of_command p l (c.Pin s) n = Plain (if nat_eq (bit_of_object p l s n) 1 then r.No else r.Yes)
answer_of_command p l (c.Unpin s) n =
    Plain (if nat_eq (bit_of_object p l s n) 1 then r.Yes else r.No)
answer_of_command p l c.Gc n = Plain r.Done
answer_of_command p l c.Meet n = Plain r.Done

-- the register of the object that a command reads or changes
abbrev pub source : Command → ℕ
source (c.Get d s i) = s
source (c.Put s i v) = s
source (c.Read s j) = s
source (c.Write s j n) = s
source (c.Add s j n) = s
source (c.Swap s j was n) = s
source (c.Pin s) = s
source (c.Unpin s) = s
source _ = 0

-- the answer to an event, from the word n found; an event without an entry has the answer Done,
-- which is not used
abbrev pub answer : Epoch → Local → Event → ℕ → Answer
answer p l (e.Perform command) n = answer_of_command p l command n
answer p l (e.Miss command) n =
    Plain (if nat_eq (address_in l (source command)) 0 then r.Null else r.Range)
answer p l _ n = Plain r.Done

-- no unpublished object
abbrev pub nothing_unpublished : Unpublished
nothing_unpublished = record { address = 0; refs = 0; nums = 0; written = 0 }

-- the state with v in register d
abbrev pub with_address : Local → ℕ → ℕ → Local
with_address l d v = record l { registers = slice_set l.registers d v }

-- the state after the object is published: register d holds it, and the mutator has allocated one
-- object more
abbrev pub published : Local → ℕ → ℕ → ℕ → Local
published l d refs nums =
    record l {
      registers = slice_set l.registers d l.unpublished.address;
      births = l.births + 1;
      made = (record { address = l.unpublished.address; size = size_of refs nums }) ∷ l.made;
      unpublished = nothing_unpublished;
    }

-- the mutator's state after the entry of a command, from the word n found
abbrev pub local_after_command : Local → Command → ℕ → Local
local_after_command l (c.New d refs nums) n = published l d refs nums
local_after_command l (c.Get d s i) n = with_address l d n
local_after_command l (c.Put s i v) n = record l { pending = 0 }
local_after_command l (c.Read s j) n = l
local_after_command l (c.Write s j v) n = l
local_after_command l (c.Add s j v) n = l
local_after_command l (c.Swap s j was v) n = l
local_after_command l (c.Move d s) n = with_address l d (address_in l s)
local_after_command l (c.DropReg s) n = with_address l s 0
local_after_command l (c.Load d g) n = with_address l d n
local_after_command l (c.Share g s) n = l
local_after_command l (c.Pin s) n = l
local_after_command l (c.Unpin s) n = l
local_after_command l c.Gc n = l
local_after_command l c.Meet n = l

-- the mutator's state after it took block k, whose word was the expected one
abbrev pub taken : Epoch → Local → ℕ → ℕ → Bool → Local
taken p l k class true = record l {
  owned = (record { block = k; class = class }) ∷ l.owned;
  granted = k ∷ l.granted;
  ticket = None;
  blocks = (record { at = k; word = owned_code p l class }) ∷ l.blocks;
}
taken p l k class false = record l {
  owned = (record { block = k; class = class }) ∷ l.owned;
  blocks = (record { at = k; word = owned_code p l class }) ∷ l.blocks;
}

-- the mutator's state after an event, from the word n found
abbrev pub local_after : Epoch → Local → Event → ℕ → Local
local_after p l (e.Perform command) n = local_after_command l command n
local_after p l (e.Miss command) n = l
local_after p l e.Poll n = record l { stop = n }
local_after p l (e.LoadName s) n =
    record l { loaded = (record { at = address_in l s; word = n }) ∷ l.loaded }
local_after p l (e.LoadShape s) n = record l { shape = record { at = address_in l s; word = n } }
local_after p l (e.LoadCollector s) n =
    record l { collector = record { at = address_in l s; word = n } }
local_after p l (e.LoadShapeAt a) n =
    record l { loaded = (record { at = a + SHAPE_OFFSET; word = n }) ∷ l.loaded }
local_after p l (e.LoadBlock k) n = record l { blocks = (record { at = k; word = n }) ∷ l.blocks }
local_after p l (e.LoadSide i) n = record l { loaded = (record { at = i; word = n }) ∷ l.loaded }
local_after p l (e.LoadUnlog s) n = record l {
  logged = if nat_eq
      (bit_of_object p l s n) 1 then l.logged else address_in l s;
}
local_after p l e.Raise n = record l { raised = true }
local_after p l (e.ClearUnlog s) n = record l { logged = address_in l s; pending = address_in l s }
local_after p l (e.Initialize a refs nums offset) n = record l {
  unpublished = record {
    address = a;
    refs = refs;
    nums = nums;
    written = offset + 1;
  };
}
local_after p l e.DrawTicket n = record l { ticket = Some n }
local_after p l (e.TakeBlock k class free) n =
    if nat_eq n (found_code p class free) then taken p l k class free
    else record l { blocks = (record { at = k; word = n }) ∷ l.blocks }

-- the word that an event of mutator m finds
abbrev pub found : Epoch → Machine → ℕ → Event → ℕ
found p h m x = slice_index h.words (word_of_event p (h.locals m) x)

-- the machine after one event of mutator m
abbrev pub next : Epoch → Machine → ℕ → Event → Machine
next p h m x = record {
  words = slice_set h.words (word_of_event p (h.locals m) x)
      (stored p (h.locals m) x (found p h m x));
  locals = λ k. if nat_eq k m then local_after p (h.locals m) x (found p h m x) else h.locals k;
}

-- the answer to an event of mutator m
abbrev pub answer_at : Epoch → Machine → ℕ → Event → Answer
answer_at p h m x = answer p (h.locals m) x (found p h m x)

-- a mutator as the epoch begins: it owns no block, has loaded no word and drawn no ticket
abbrev pub first_local : MutatorState → Local
first_local m = record {
  number = m.number;
  births = m.births;
  registers = m.registers;
  owned = [];
  granted = [];
  made = [];
  unpublished = nothing_unpublished;
  ticket = None;
  shape = record { at = 0; word = 0 };
  collector = record { at = 0; word = 0 };
  logged = 0;
  pending = 0;
  loaded = [];
  blocks = [];
  stop = 0;
  raised = false;
}

-- the state of the mutator with number k as the epoch begins, or an empty state if there is none
abbrev pub first_local_of : List MutatorState → ℕ → Local
first_local_of [] k = first_local (record { number = k; births = 0; registers = [] })
first_local_of (m ∷ ms) k = if nat_eq k m.number then first_local m else first_local_of ms k

-- the machine as the epoch begins
abbrev pub first_machine : Epoch → Machine
first_machine p = record { words = p.before.words; locals = first_local_of p.mutators }
