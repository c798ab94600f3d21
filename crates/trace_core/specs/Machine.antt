-- The tracing machine: what any number of workers do to the row, one step at a time, while
-- mutators are stopped. A step changes one word at most, and what is known of objects, addresses,
-- blocks, globals and roots.
use Rattle.std.specs.Prelude.{◌≡◌, ℕ, ◌+◌, ◌-◌, Bool, true, false, ◌&&◌, not, IsTrue, if◌then◌else◌, nat_eq, nat_lt}
use Rattle.std.specs.Prelude.{nat_le, Option, Some, None, List, slice_index, slice_set, bit_or}
use Rattle.heap_layout.specs.declared.block.TheConstants.{FIRST_WORKER_OWNER}
use Rattle.object_model.specs.declared.shape.TheConstants.{COLLECTOR_OFFSET, HEADER_WORDS}
use Rattle.forward_word.specs.CollectorWords.{collector_word}
use Rattle.heap_layout.specs.Zones.{Globals, BlockWords, StartBits, UnlogBits, first}
use Rattle.heap_layout.specs.Blocks.{code_of}
use Rattle.object_model.specs.Objects.{HeapState, with_words, word_at, global_at, ref_at, is_reference}
use Rattle.side_meta.specs.BitWords.{with_bit}
use Rattle.object_model.specs.BitWords.{bit_word, bit_place}
use Rattle.trace_core.specs.Setups.{Setup, blocks, collection, size, refs, stays_old, was_logged}

-- How far an object has come. `target` is where it will be after the collection.
pub data Stage : Type 0 where
  -- no worker has claimed it
  Unclaimed : Stage
  -- a worker claimed it, and has made `steps` steps of the copying
  Copying : (target steps : ℕ) → Stage
  -- it is copied, and `fields` of its fields are scanned
  Scanning : (target fields : ℕ) → Stage

abbrev pub target : Stage → Option ℕ
target Unclaimed = None
target (Copying t k) = Some t
target (Scanning t k) = Some t

pub record Machine : Type 0 where
  pub words : List ℕ
  -- by address of an object
  pub stage : ℕ → Stage
  -- by address of a word: the object that is copied there
  pub owner : ℕ → Option ℕ
  -- by block: the worker that took it to copy into, or 0
  pub taken : ℕ → ℕ
  -- by number of a global: it has its last value
  pub set : ℕ → Bool
  -- by address: how often a root asked for the object
  pub asked : ℕ → ℕ

-- what asks for an object: a root that is no global, a global, or field i of the object at y
pub data ClaimCause : Type 0 where
  ByRoot : ClaimCause
  ByGlobal : (g : ℕ) → ClaimCause
  ByField : (y i : ℕ) → ClaimCause

pub data Event : Type 0 where
  -- a worker claims the object at x, which will be at t
  Claim : (x t : ℕ) (cause : ClaimCause) → Event
  -- a root asks for the object at x, which has its target
  Ask : (x : ℕ) → Event
  -- the next step of copying the object that was at x
  Copy : (x : ℕ) → Event
  -- the next field of the object that was at x gets its last value
  Scan : (x : ℕ) → Event
  -- the global gets its last value
  SetGlobal : (g : ℕ) → Event
  -- some line bits of one word are set, for the object that was at x
  MarkLines : (x word mask : ℕ) → Event
  -- worker w takes block b to copy into
  TakeBlock : (b w : ℕ) → Event

-- f with value v at x, and with value v from x on at n places
abbrev pub put : {B : Type 0} → (ℕ → B) → ℕ → B → ℕ → B
put f x v a = if nat_eq a x then v else f a

abbrev pub put_all : {B : Type 0} → (ℕ → B) → ℕ → ℕ → B → ℕ → B
put_all f x n v a = if nat_le x a && nat_lt a (x + n) then v else f a

-- the collector word of the object that was at x, there and at its target
abbrev pub claimed_word : Setup → ℕ → ℕ → ℕ
claimed_word p x t = if stays_old p x then word_at p.before (x + COLLECTOR_OFFSET)
    else collector_word (collection p) t

-- the word at this offset of the copy at t, before fields are scanned
abbrev pub copied_word : Setup → ℕ → ℕ → ℕ → ℕ
copied_word p x t offset =
    if nat_eq offset 2 then claimed_word p x t else word_at p.before (x + offset)

-- The words of an object are copied in order, but for the collector word, which comes last: the
-- offset of the word that step k copies, and the step that copies the word at an offset.
abbrev pub offset_of_step : ℕ → ℕ → ℕ
offset_of_step n k = if nat_lt k 2 then k else (if nat_lt (k + 1) n then k + 1 else 2)

abbrev pub step_of_offset : ℕ → ℕ → ℕ
step_of_offset n offset =
    if nat_lt offset 2 then offset else (if nat_eq offset 2 then n - 1 else offset - 1)

-- Step k of copying the object at x to t: first its words, then the unlog bit, then the start bit.
-- In place only the unlog bit is left to set. The index of the word, its value after the step if it
-- was n, and the object's stage.
abbrev pub copy_place : Setup → ℕ → Stage → ℕ
copy_place p x (Copying t k) = if nat_lt k (size p x) then t + offset_of_step (size p x) k
    else (if nat_eq k (size p x) then bit_word (blocks p) UnlogBits t else bit_word (blocks p)
    StartBits t)
copy_place p x _ = 0

abbrev pub copy_value : Setup → ℕ → Stage → ℕ → ℕ
copy_value p x (Copying t k) n =
    if nat_lt k (size p x) then copied_word p x t (offset_of_step (size p x) k)
    else with_bit n (bit_place (blocks p) t)
copy_value p x _ n = n

abbrev pub copy_stage : Setup → ℕ → Stage → Stage
copy_stage p x (Copying t k) = if nat_lt k (size p x) then Copying t (k + 1)
    else (if nat_eq k (size p x) && not (nat_eq t x) then Copying t (k + 1) else Scanning t 0)
copy_stage p x stage = stage

-- the last value of a field or global that was v: nil stays nil, and a reference is that to the
-- target
abbrev pub address_or_nil : Option ℕ → ℕ
address_or_nil None = 0
address_or_nil (Some t) = t

abbrev pub forward : (ℕ → Stage) → ℕ → ℕ
forward stage v = if is_reference v then address_or_nil (target (stage v)) else v

-- that value is known
abbrev pub IsSettled : (ℕ → Stage) → ℕ → Type 0
IsSettled stage v = IsTrue (is_reference v) → (t : ℕ) × (target (stage v) ≡ Some t)

-- the next field is scanned: the same three
abbrev pub scan_place : Stage → ℕ
scan_place (Scanning t k) = t + HEADER_WORDS + k
scan_place _ = 0

abbrev pub scan_value : Setup → (ℕ → Stage) → ℕ → Stage → ℕ → ℕ
scan_value p stage x (Scanning t k) n = forward stage (ref_at p.before x k)
scan_value p stage x _ n = n

abbrev pub scan_stage : Stage → Stage
scan_stage (Scanning t k) = Scanning t (k + 1)
scan_stage stage = stage

-- the word of a block that worker w, counted from 1, takes
abbrev pub taken_word : Setup → ℕ → ℕ
taken_word p w = code_of (record { kind = p.copy; class = 0; owner = FIRST_WORKER_OWNER - 1 + w })

-- the index of the word that an event changes, and its value after the event if it was n; Ask
-- changes none
abbrev pub word_changed_by : Setup → Machine → Event → ℕ
word_changed_by p m (Claim x t cause) = x + COLLECTOR_OFFSET
word_changed_by p m (Ask x) = x + COLLECTOR_OFFSET
word_changed_by p m (Copy x) = copy_place p x (m.stage x)
word_changed_by p m (Scan x) = scan_place (m.stage x)
word_changed_by p m (SetGlobal g) = first (blocks p) Globals + g
word_changed_by p m (MarkLines x word mask) = word
word_changed_by p m (TakeBlock b w) = first (blocks p) BlockWords + b

abbrev pub stored : Setup → Machine → Event → ℕ → ℕ
stored p m (Claim x t cause) n = collector_word (collection p) t
stored p m (Ask x) n = n
stored p m (Copy x) n = copy_value p x (m.stage x) n
stored p m (Scan x) n = scan_value p m.stage x (m.stage x) n
stored p m (SetGlobal g) n = forward m.stage (global_at p.before g)
stored p m (MarkLines x word mask) n = bit_or n mask
stored p m (TakeBlock b w) n = taken_word p w

abbrev pub stage_after : Setup → Machine → Event → ℕ → Stage
stage_after p m (Claim x t cause) = put m.stage x (Copying t (if nat_eq t x then size p x else 0))
stage_after p m (Copy x) = put m.stage x (copy_stage p x (m.stage x))
stage_after p m (Scan x) = put m.stage x (scan_stage (m.stage x))
stage_after p m _ = m.stage

abbrev pub owner_after : Setup → Machine → Event → ℕ → Option ℕ
owner_after p m (Claim x t cause) =
    if nat_eq t x then m.owner else put_all m.owner t (size p x) (Some x)
owner_after p m _ = m.owner

abbrev pub taken_after : Machine → Event → ℕ → ℕ
taken_after m (TakeBlock b w) = put m.taken b w
taken_after m _ = m.taken

abbrev pub set_after : Machine → Event → ℕ → Bool
set_after m (SetGlobal g) = put m.set g true
set_after m _ = m.set

abbrev pub asks_after : Machine → Event → ℕ → ℕ
asks_after m (Claim x t ByRoot) = put m.asked x (m.asked x + 1)
asks_after m (Ask x) = put m.asked x (m.asked x + 1)
asks_after m _ = m.asked

-- the machine after an event
abbrev pub next : Setup → Machine → Event → Machine
next p m e = record {
  words = slice_set m.words (word_changed_by p m e)
      (stored p m e (slice_index m.words (word_changed_by p m e)));
  stage = stage_after p m e;
  owner = owner_after p m e;
  taken = taken_after m e;
  set = set_after m e;
  asked = asks_after m e;
}

-- As the tracing begins nothing is claimed. Old objects of a nursery collection stay in place: the
-- fields of a logged one are to be scanned, those of the others are as if they were.
abbrev pub first_stage : Setup → ℕ → Stage
first_stage p x =
    if stays_old p x then Scanning x (if was_logged p x then 0 else refs p x) else Unclaimed

abbrev pub first_machine : Setup → Machine
first_machine p = record {
  words = p.before.words;
  stage = first_stage p;
  owner = λ a. None;
  taken = λ b. 0;
  set = λ g. false;
  asked = λ x. 0;
}

-- the heap as it is now, with the numbers that it had
abbrev pub heap_in : Setup → Machine → HeapState
heap_in p m = with_words p.before m.words
