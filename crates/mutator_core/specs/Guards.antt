-- When a mutator may make a step. A guard depends only on the epoch's beginning and on the
-- mutator's own state, so it can be proved before the step.
use Rattle.heap_layout.specs.declared.layout.TheConstants.{BLOCK_WORDS}
use Rattle.ideal_heap.specs.declared.command.TheConstants.{REGISTERS, GLOBALS, MAX_REFS, MAX_NUMS}
use Rattle.object_model.specs.declared.shape.TheConstants.{MAX_MEDIUM_WORDS}
use Rattle.std.specs.Prelude.{◌≡◌, ℕ, ◌+◌, ◌*◌, ◌^◌, ◌<◌, ◌≤◌, ◌⊎◌, Bool, false, ◌&&◌, IsTrue, Some, None, List}
use Rattle.std.specs.List.{Contains}
use Rattle.std.specs.Int.{bit_at}
use Rattle.forward_word.specs.CollectorWords.{is_old_word}
use Rattle.heap_layout.specs.Zones.{LineWords, StartBits, InZone, block_at, offset_at, IsAddress}
use Rattle.heap_layout.specs.Blocks.{IsValidWord}
use Rattle.heap_layout.specs.declared.block.Kind.TheVariants as kinds
use Rattle.ideal_heap.specs.declared.command.Command.{Command}
use Rattle.ideal_heap.specs.declared.command.Command.TheVariants as c
use Rattle.object_model.specs.Objects.{HasKind, size_of, cell_words}
use Rattle.sessions.specs.Fitting.{HasHole, LiesInHole, class_of, allowance_of}
use Rattle.mutator_core.specs.declared.state.Local.{Local}
use Rattle.mutator_core.specs.declared.state.Loaded.{Loaded}
use Rattle.mutator_core.specs.declared.state.Extent.{Extent}
use Rattle.mutator_core.specs.declared.state.OwnedBlock.{OwnedBlock}
use Rattle.mutator_core.specs.declared.state.Event.{Event}
use Rattle.mutator_core.specs.declared.state.Event.TheVariants as e
use Rattle.mutator_core.specs.Machine.{Epoch, address_in, refs_in, nums_in, nothing_unpublished}
use Rattle.object_model.specs.BitWords.{bit_word, bit_place}

-- register s holds an object, and the shape last loaded is that object's
abbrev pub HasLoadedShape : Local → ℕ → Type 0
HasLoadedShape l s = (s < REGISTERS) × (0 < address_in l s) × (l.shape.at ≡ address_in l s)

-- the object in register s has a field i, or a number j
abbrev pub HasField : Local → ℕ → ℕ → Type 0
HasField l s i = HasLoadedShape l s × (i < refs_in l.shape.word)

abbrev pub HasNumber : Local → ℕ → ℕ → Type 0
HasNumber l s j = HasLoadedShape l s × (j < nums_in l.shape.word)

-- register s is nil, or its object has no field i, or no number j
abbrev pub LacksField : Local → ℕ → ℕ → Type 0
LacksField l s i = (s < REGISTERS)
    × ((address_in l s ≡ 0) ⊎ (HasLoadedShape l s × (refs_in l.shape.word ≤ i)))

abbrev pub LacksNumber : Local → ℕ → ℕ → Type 0
LacksNumber l s j = (s < REGISTERS)
    × ((address_in l s ≡ 0) ⊎ (HasLoadedShape l s × (nums_in l.shape.word ≤ j)))

-- register s is nil
abbrev pub LacksObject : Local → ℕ → Type 0
LacksObject l s = (s < REGISTERS) × (address_in l s ≡ 0)

-- the command has no effect: its object, field or number does not exist
abbrev pub IsMiss : Local → Command → Type 0
IsMiss l (c.Get d s i) = LacksField l s i
IsMiss l (c.Put s i v) = LacksField l s i
IsMiss l (c.Read s j) = LacksNumber l s j
IsMiss l (c.Write s j n) = LacksNumber l s j
IsMiss l (c.Add s j n) = LacksNumber l s j
IsMiss l (c.Swap s j was n) = LacksNumber l s j
IsMiss l (c.Pin s) = LacksObject l s
IsMiss l (c.Unpin s) = LacksObject l s
IsMiss l _ = ⊥

-- the plan is generational, and an object with this collector word is old
abbrev pub is_old_word_under : Epoch → ℕ → Bool
is_old_word_under p word = p.rules.young && is_old_word p.before.base word

-- the collector word last loaded is that of the object in register s, which is not old
abbrev pub IsNotOld : Epoch → Local → ℕ → Type 0
IsNotOld p l s = (l.collector.at ≡ address_in l s) × (is_old_word_under p l.collector.word ≡ false)

-- A reference may be stored into the object in register s: the plan is not generational, the object
-- is not old, or its unlog bit is known to be clear.
abbrev pub MayStoreReference : Epoch → Local → ℕ → Type 0
MayStoreReference p l s = (p.rules.young ≡ false) ⊎ IsNotOld p l s ⊎ (l.logged ≡ address_in l s)

-- the address is that of a cell of this class, which is the class for the size
pub record IsCell (a size blocks class : ℕ) : Type 0 where
  pub fits : class_of size ≡ Some class
  pub index : ℕ
  pub start : offset_at blocks a ≡ index * cell_words class
  pub inside : offset_at blocks a + cell_words class ≤ BLOCK_WORDS

-- A mutator that owns these blocks may have an object of this size at address a: in an owned block
-- that was Free as the epoch began, or that had a hole there.
pub record IsPlaceOfMutator (p : Epoch) (blocks : List OwnedBlock) (a size : ℕ) : Type 0 where
  pub address : IsAddress p.before.blocks a
  pub inside : offset_at p.before.blocks a + size ≤ BLOCK_WORDS
  pub owned : OwnedBlock
  pub among : Contains blocks owned
  pub here : owned.block ≡ block_at p.before.blocks a
  pub hole : HasKind p.before (block_at p.before.blocks a) kinds.Free
      ⊎ LiesInHole p.rules.fill p.before (block_at p.before.blocks a)
      (offset_at p.before.blocks a) size
  pub cell : p.rules.fill ≡ kinds.Cells → IsCell a size p.before.blocks owned.class

-- the mutator may write such an object there: it overlaps none that the mutator allocated
pub record IsAvailable (p : Epoch) (blocks : List OwnedBlock) (made : List Extent) (a size : ℕ)
    : Type 0 where
  pub place : IsPlaceOfMutator p blocks a size
  pub beside : (x : Extent) → Contains made x → (x.address + x.size ≤ a) ⊎ (a + size ≤ x.address)

-- An object of this size at address a begins at the start of a hole of the epoch's beginning, at
-- the start of a block that was Free, or directly after an object that the mutator allocated in the
-- block. In cells each object has its own.
abbrev pub BeginsRegion : Epoch → List Extent → ℕ → ℕ → Type 0
BeginsRegion p made a size = (p.rules.fill ≡ kinds.Cells)
    ⊎ HasHole p.rules.fill p.before (block_at p.before.blocks a) (offset_at p.before.blocks a) size
    ⊎ (HasKind p.before (block_at p.before.blocks a) kinds.Free × (offset_at p.before.blocks a ≡ 0))
    ⊎ ((x : Extent) × Contains made x
    × (block_at p.before.blocks x.address ≡ block_at p.before.blocks a)
    × (x.address + x.size ≡ a))

-- the unpublished object is at address a, and its first `written` words are stored
abbrev pub IsWriting : Local → ℕ → ℕ → ℕ → ℕ → Type 0
IsWriting l a refs nums written = l.unpublished ≡ record {
  address = a;
  refs = refs;
  nums = nums;
  written = written;
}

-- The first word of an object may be stored at address a: no other object is unpublished, the name
-- is in range, the object is small, it may lie there, and it begins a region or follows an object
-- there.
pub record MayBegin (p : Epoch) (l : Local) (a refs nums : ℕ) : Type 0 where
  pub none : l.unpublished ≡ nothing_unpublished
  pub few_births : l.births + 1 < 2 ^ 32
  pub few_refs : refs ≤ MAX_REFS
  pub few_nums : nums ≤ MAX_NUMS
  pub small : size_of refs nums ≤ MAX_MEDIUM_WORDS
  pub available : IsAvailable p l.owned l.made a (size_of refs nums)
  pub region : BeginsRegion p l.made a (size_of refs nums)

-- the next word of an unpublished object may be stored: its first word, or the word after those
-- stored so far
abbrev pub MayInitialize : Epoch → Local → ℕ → ℕ → ℕ → ℕ → Type 0
MayInitialize p l a refs nums offset =
    (offset < size_of refs nums) × (((offset ≡ 0) × MayBegin p l a refs nums)
    ⊎ ((0 < offset) × (0 < a) × IsWriting l a refs nums offset))

-- the number of Free blocks that mutators may take in the epoch
abbrev pub allowance : Epoch → ℕ
allowance p = allowance_of p.rules.reserve p.before

-- the mutator has an unused ticket below the allowance of the epoch
abbrev pub HasTicket : Epoch → Local → Type 0
HasTicket p l = (t : ℕ) × (l.ticket ≡ Some t) × (t < allowance p)

-- The mutator may try to take block k. The class is one that blocks of the kind have. A Free block
-- requires a ticket.
abbrev pub MayTake : Epoch → Local → ℕ → ℕ → Bool → Type 0
MayTake p l k class free =
    (k < p.before.blocks)
    × IsValidWord (record { kind = p.rules.fill; class = class; owner = l.number })
    × (IsTrue free → HasTicket p l)

-- the mutator loaded a start word with the bit of address a set
abbrev pub HasSeenStart : Epoch → Local → ℕ → Type 0
HasSeenStart p l a = (x : Loaded) × Contains l.loaded x
    × (x.at ≡ bit_word p.before.blocks StartBits a)
    × (bit_at x.word (bit_place p.before.blocks a) ≡ 1)

-- The mutator may make the entry of the command. `gc` and `meet` have no entry in an epoch.
abbrev pub MayPerform : Epoch → Local → Command → Type 0
MayPerform p l (c.New d refs nums) = (d < REGISTERS) × (0 < l.unpublished.address)
    × IsWriting l l.unpublished.address refs nums (size_of refs nums)
MayPerform p l (c.Get d s i) = (d < REGISTERS) × HasField l s i
MayPerform p l (c.Put s i v) = (v < REGISTERS) × HasField l s i × MayStoreReference p l s
    × ((l.pending ≡ 0) ⊎ (l.pending ≡ address_in l s))
MayPerform p l (c.Read s j) = HasNumber l s j
MayPerform p l (c.Write s j n) = HasNumber l s j × (n < 2 ^ 64)
MayPerform p l (c.Add s j n) = HasNumber l s j × (n < 2 ^ 64)
MayPerform p l (c.Swap s j was n) = HasNumber l s j × (n < 2 ^ 64)
MayPerform p l (c.Move d s) = (d < REGISTERS) × (s < REGISTERS)
MayPerform p l (c.DropReg s) = s < REGISTERS
MayPerform p l (c.Load d g) = (d < REGISTERS) × (g < GLOBALS)
MayPerform p l (c.Share g s) = (g < GLOBALS) × (s < REGISTERS)
MayPerform p l (c.Pin s) = (s < REGISTERS) × (0 < address_in l s)
MayPerform p l (c.Unpin s) = (s < REGISTERS) × (0 < address_in l s)
MayPerform p l c.Gc = ⊥
MayPerform p l c.Meet = ⊥

-- register s holds an object
abbrev pub HasObjectIn : Local → ℕ → Type 0
HasObjectIn l s = (s < REGISTERS) × (0 < address_in l s)

-- the mutator may make this step
abbrev pub MayStep : Epoch → Local → Event → Type 0
MayStep p l (e.Perform command) = MayPerform p l command
MayStep p l (e.Miss command) = IsMiss l command
MayStep p l e.Poll = Unit {0}
MayStep p l (e.LoadName s) = HasObjectIn l s
MayStep p l (e.LoadShape s) = HasObjectIn l s
MayStep p l (e.LoadCollector s) = HasObjectIn l s
MayStep p l (e.LoadShapeAt a) = IsAddress p.before.blocks a × HasSeenStart p l a
MayStep p l (e.LoadBlock k) = k < p.before.blocks
MayStep p l (e.LoadSide i) = InZone p.before.blocks LineWords i ⊎ InZone p.before.blocks StartBits i
MayStep p l (e.LoadUnlog s) = HasObjectIn l s
MayStep p l e.Raise = Unit {0}
-- The mutator clears no other unlog bit before it stores a reference into this object.
MayStep p l (e.ClearUnlog s) = HasObjectIn l s × (l.pending ≡ 0)
MayStep p l (e.Initialize a refs nums offset) = MayInitialize p l a refs nums offset
MayStep p l e.DrawTicket = l.ticket ≡ None
MayStep p l (e.TakeBlock k class free) = MayTake p l k class free
