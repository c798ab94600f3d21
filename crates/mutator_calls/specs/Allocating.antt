-- What an allocation does, and why it stops.
use Rattle.std.specs.Prelude.{◌≡◌, ◌≢◌, ℕ, ◌<◌, ◌≤◌, ◌⊎◌, true, false, Option, Some, None, List, [], ◌∷◌}
use Rattle.ideal_heap.specs.declared.command.Command.TheVariants as c
use Rattle.ideal_heap.specs.declared.reply.Reply.TheVariants as r
use Rattle.ideal_heap.specs.declared.name.Name.{Name}
use Rattle.object_model.specs.declared.shape.TheConstants.{MAX_MEDIUM_WORDS}
use Rattle.object_model.specs.Objects.{size_of}
use Rattle.mutator_calls.specs.declared.need.NeedCause.{NeedCause}
use Rattle.mutator_calls.specs.declared.need.NeedCause.TheVariants.{Large, Budget}
use Rattle.mutator_calls.specs.declared.need.Need.{Need}
use Rattle.mutator_calls.specs.declared.need.Allocated.{Allocated}
use Rattle.mutator_calls.specs.declared.need.Allocated.TheVariants.{Made, Stop}
use Rattle.mutator_calls.specs.Effects.{Effect, nothing, takes, draws}

-- A mutator's accounts in an epoch.
pub record Books : Type 0 where
  -- the number of blocks of the heap
  pub blocks : ℕ
  -- the number of Free blocks that mutators may take in the epoch
  pub allowance : ℕ
  -- the number of objects that the mutator has allocated
  pub births : ℕ
  -- the ticket with which the mutator has taken no block
  pub ticket : Option ℕ

-- the effect of an allocation that takes these blocks, of which these were Free, and draws so many
-- tickets
abbrev pub births_with : ℕ → ℕ → ℕ → Name → List ℕ → List ℕ → ℕ → Effect
births_with d refs nums n taken granted drawn = record {
  entries = (record { command = c.New d refs nums; reply = r.New n }) ∷ [];
  logged = [];
  taken = taken;
  granted = granted;
  drawn = drawn;
  raised = false;
  moved = true;
}

-- the effect of a search for room that takes these blocks, of which these were Free, and draws so
-- many tickets
abbrev pub searches : List ℕ → List ℕ → ℕ → Effect
searches taken granted drawn = record (takes taken) { granted = granted; drawn = drawn }

-- the effect of an allocation in a region of the mutator
abbrev pub births : ℕ → ℕ → ℕ → Name → Effect
births d refs nums n = births_with d refs nums n [] [] 0

-- Ticket t is the next one: t tickets are drawn in a state that steps without effect lead to.
pub record IsNextTicket {S : Type 0} (makes_steps : S → Effect → S → Type 0)
    (has_budget : S → ℕ → Type 0) (old : S) (t : ℕ) : Type 0 where
  pub later : S
  pub steps : makes_steps old nothing later
  pub budget : has_budget later t

-- A ticket is drawn only if the mutator has none: `old` is its ticket before, `new` after. The
-- ticket is a `next` one: as many were drawn before.
abbrev pub Draws : (ℕ → Type 0) → Option ℕ → Option ℕ → ℕ → Type 0
Draws next old new drawn = ((drawn ≡ 0) × (new ≡ old))
    ⊎ ((drawn ≡ 1) × (old ≡ None) × ((t : ℕ) × (new ≡ Some t) × next t))

-- No block in which a region is tried has room.
abbrev pub IsSpent : (ℕ → Type 0) → (ℕ → Type 0) → Type 0
IsSpent tried lacks = (j : ℕ) → tried j → lacks j

-- What a search for room of a size reads: blocks and regions, the mutator's and all, before it and
-- after it.
pub record Search : Type 1 where
  -- the block has no room after it
  pub lacks : ℕ → Type 0
  -- the block is not Free after it
  pub used : ℕ → Type 0
  -- a region in the block was tried before it
  pub before : ℕ → Type 0
  -- a region in the block is tried after it
  pub now : ℕ → Type 0
  -- the ticket is the next one
  pub next : ℕ → Type 0
  -- no region that was tried before it had room
  pub full : Type 0
  -- no block in which a region was tried before it had room
  pub spent : Type 0
  -- an object of the size overflows the hole region
  pub overflow : Type 0
  -- the hole region stayed
  pub kept : Type 0
  -- the number of blocks of the heap
  pub blocks : ℕ
  -- the number of Free blocks that mutators may take in the epoch
  pub allowance : ℕ
  -- the mutator's ticket before it
  pub old : Option ℕ
  -- the mutator's ticket after it
  pub new : Option ℕ

-- How a search comes to look for holes.
pub data ComesToHoles (s : Search) (drawn : ℕ) : Type 0 where
  -- at once
  at_once : (s.overflow → ⊥) → drawn ≡ 0 → s.new ≡ s.old → ComesToHoles s drawn
  -- in overflow allocation, after the mutator's ticket was seen to be not below the allowance, so
  -- that no Free block may be taken
  in_vain : (t : ℕ) → s.overflow → Draws s.next s.old (Some t) drawn → s.new ≡ Some t
      → s.allowance ≤ t → ComesToHoles s drawn

-- A region that was tried has room: nothing is taken.
pub record RoomInRegion (s : Search) (taken granted : List ℕ) (drawn : ℕ) : Type 0 where
  pub block : ℕ
  pub before : s.before block
  pub now : s.now block
  pub room : s.full → ⊥
  -- overflow allocation keeps the hole region
  pub kept : s.overflow → s.kept
  pub none_taken : taken ≡ []
  pub none_granted : granted ≡ []
  pub none_drawn : drawn ≡ 0
  pub ticket : s.new ≡ s.old

-- No region that was tried has room; a hole has.
pub record RoomInHole (s : Search) (taken granted : List ℕ) (drawn : ℕ) : Type 0 where
  pub block : ℕ
  pub now : s.now block
  -- the block is the mutator's, or it takes it
  pub takes : (taken ≡ []) ⊎ (taken ≡ block ∷ [])
  pub none_granted : granted ≡ []
  pub full : s.full
  pub comes : ComesToHoles s drawn
  -- it is a block of the mutator's with a region; or, if these have no room, the first that has
  pub first : s.before block ⊎ (s.spent × ((j : ℕ) → j < block → s.lacks j))

-- No region that was tried has room: the first Free block is taken, with a ticket below the
-- allowance that is used up then.
pub record RoomInFreeBlock (s : Search) (taken granted : List ℕ) (drawn : ℕ) : Type 0 where
  pub block : ℕ
  pub now : s.now block
  pub takes : taken ≡ block ∷ []
  pub grants : granted ≡ block ∷ []
  pub full : s.full
  pub ticket : ℕ
  pub draws : Draws s.next s.old (Some ticket) drawn
  pub good : ticket < s.allowance
  pub used_up : s.new ≡ None
  pub lowest : (j : ℕ) → j < block → s.used j
  -- in overflow allocation it comes before holes, and the hole region stays; else after them
  pub last_resort : (s.overflow × s.kept)
      ⊎ ((s.overflow → ⊥) × s.spent × ((j : ℕ) → j < s.blocks → j ≢ block → s.lacks j))

-- Where an allocation finds room, which blocks it takes for that, which of these were Free, and how
-- many tickets it draws.
pub data FindsRoom (s : Search) (taken granted : List ℕ) (drawn : ℕ) : Type 0 where
  in_region : RoomInRegion s taken granted drawn → FindsRoom s taken granted drawn
  in_hole : RoomInHole s taken granted drawn → FindsRoom s taken granted drawn
  in_free_block : RoomInFreeBlock s taken granted drawn → FindsRoom s taken granted drawn

-- Why an allocation of this size stops: the object is large; or no block has room that the mutator
-- may fill, and its ticket is not below the allowance.
abbrev pub IsCause : Books → (ℕ → Type 0) → ℕ → NeedCause → Type 0
IsCause books lacks size Large = MAX_MEDIUM_WORDS < size
IsCause books lacks size (Budget t) = (size ≤ MAX_MEDIUM_WORDS)
    × ((k : ℕ) → k < books.blocks → lacks k)
    × (books.ticket ≡ Some t) × (books.allowance ≤ t)

-- No Free block was taken: the mutator's ticket is this one, and it is not below the allowance.
pub record IsShort (books : Books) (t : ℕ) : Type 0 where
  pub ticket : books.ticket ≡ Some t
  pub few : books.allowance ≤ t

-- The Free block k was taken with a ticket below the allowance, one drawn before or the next one;
-- every block before it was used.
pub record TakesFree (used now next : ℕ → Type 0) (old new : Books) (k drawn : ℕ) : Type 0 where
  pub ticket : ℕ
  pub draws : Draws next old.ticket (Some ticket) drawn
  pub few : ticket < new.allowance
  pub none : new.ticket ≡ None
  pub here : now k
  pub lower : (j : ℕ) → j < k → used j

-- the need has the numbers of the call
pub record IsNeedOf (d r q : ℕ) (need : Need) : Type 0 where
  pub register : need.register ≡ d
  pub refs : need.refs ≡ r
  pub nums : need.nums ≡ q

-- one fact for an object made, the other for a stop
abbrev pub MatchAllocated : Allocated → (Name → Type 0) → (Need → Type 0) → Type 0
MatchAllocated (Made n) P Q = P n
MatchAllocated (Stop need) P Q = Q need

-- What an allocation's promise reads of a mutator's states: ghost members of `AllocationSteps` and
-- `makes_steps`, under their names.
pub record AllocationReads (S : Type 0) : Type 1 where
  pub makes_steps : S → Effect → S → Type 0
  pub has_no_room : S → ℕ → ℕ → Type 0
  pub is_used : S → ℕ → Type 0
  pub allocates_in : S → ℕ → ℕ → Type 0
  pub is_full : S → ℕ → Type 0
  pub is_overflow : S → ℕ → Type 0
  pub keeps_hole : S → S → Type 0
  pub offers_room : S → S → ℕ → Type 0
  pub places : S → S → ℕ → ℕ → Type 0
  pub has_budget : S → ℕ → Type 0
  pub books : S → Books

abbrev pub allocation_reads : {S : Type 0} → (S → Effect → S → Type 0) → (S → ℕ → ℕ → Type 0)
    → (S → ℕ → Type 0) → (S → ℕ → ℕ → Type 0) → (S → ℕ → Type 0) → (S → ℕ → Type 0)
    → (S → S → Type 0) → (S → S → ℕ → Type 0) → (S → S → ℕ → ℕ → Type 0) → (S → ℕ → Type 0)
    → (S → Books) → AllocationReads S
allocation_reads {S} makes_steps has_no_room is_used allocates_in is_full is_overflow keeps_hole
    offers_room places has_budget books = record {
      makes_steps = makes_steps;
      has_no_room = has_no_room;
      is_used = is_used;
      allocates_in = allocates_in;
      is_full = is_full;
      is_overflow = is_overflow;
      keeps_hole = keeps_hole;
      offers_room = offers_room;
      places = places;
      has_budget = has_budget;
      books = books;
    }

-- what a search reads that leads from the one state to the other, for room of a size
abbrev pub search_of : {S : Type 0} → AllocationReads S → S → ℕ → S → Search
search_of {S} reads before size after = record {
  lacks = reads.has_no_room after size;
  used = reads.is_used after;
  before = reads.allocates_in before size;
  now = reads.allocates_in after size;
  next = IsNextTicket reads.makes_steps reads.has_budget before;
  full = reads.is_full before size;
  spent = IsSpent (reads.allocates_in before size) (reads.has_no_room before size);
  overflow = reads.is_overflow before size;
  kept = reads.keeps_hole before after;
  blocks = (reads.books after).blocks;
  allowance = (reads.books after).allowance;
  old = (reads.books before).ticket;
  new = (reads.books after).ticket;
}

-- A search has made a region with room of the size, by steps of this effect. If it kept the hole
-- region, an object of the size would overflow it still.
pub record MakesRoom {S : Type 0} (reads : AllocationReads S) (old : S) (size : ℕ) (new : S)
    : Type 0 where
  pub taken : List ℕ
  pub granted : List ℕ
  pub drawn : ℕ
  pub effect : reads.makes_steps old (searches taken granted drawn) new
  pub finds : FindsRoom (record (search_of reads old size new) {
    kept = reads.keeps_hole old new × reads.is_overflow new size;
  }) taken granted drawn

-- An object of this name was allocated in register d.
pub record MakesObject {S : Type 0} (reads : AllocationReads S) (old : S) (d refs nums : ℕ)
    (n : Name) (new : S) : Type 0 where
  pub taken : List ℕ
  pub granted : List ℕ
  pub drawn : ℕ
  pub effect : reads.makes_steps old (births_with d refs nums n taken granted drawn) new
  pub finds : FindsRoom (search_of reads old (size_of refs nums) new) taken granted drawn
  -- a state in which room was offered for it
  pub offer : S
  pub offered : reads.offers_room old offer (size_of refs nums)
  pub placed : reads.places offer new d (size_of refs nums)
  pub small : size_of refs nums ≤ MAX_MEDIUM_WORDS

-- No object was allocated: the mutator is to stop with this need.
pub record StopsWithNeed {S : Type 0} (reads : AllocationReads S) (old : S) (d refs nums : ℕ)
    (need : Need) (new : S) : Type 0 where
  pub drawn : ℕ
  pub effect : reads.makes_steps old (draws drawn) new
  pub tickets : Draws (IsNextTicket reads.makes_steps reads.has_budget old)
      (reads.books old).ticket (reads.books new).ticket drawn
  pub large : MAX_MEDIUM_WORDS < size_of refs nums → drawn ≡ 0
  -- no region that was tried has room, nor has a block with such a region
  pub full : size_of refs nums ≤ MAX_MEDIUM_WORDS → reads.is_full old (size_of refs nums)
  pub spent : size_of refs nums ≤ MAX_MEDIUM_WORDS
      → IsSpent (reads.allocates_in old (size_of refs nums))
      (reads.has_no_room old (size_of refs nums))
  pub is_of_call : IsNeedOf d refs nums need
  pub cause : IsCause (reads.books new) (reads.has_no_room new (size_of refs nums))
      (size_of refs nums) need.cause

-- the answer to an allocation: an object made, or a stop
abbrev pub AnswersAllocation : {S : Type 0} → AllocationReads S → S → ℕ → ℕ → ℕ → Allocated → S
    → Type 0
AnswersAllocation {S} reads old d refs nums answer new = MatchAllocated answer
    (λ n. MakesObject reads old d refs nums n new)
    (λ need. StopsWithNeed reads old d refs nums need new)
