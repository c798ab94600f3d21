-- What a share needs for a step, and what the step shows.
use Rattle.std.specs.Prelude.{◌≡◌, ◌≢◌, ℕ, ◌+◌, ◌-◌, ◌*◌, ◌<◌, ◌≤◌, ◌⊎◌, false, true, IsTrue, Bool, List, [], length}
use Rattle.std.specs.Prelude.{count_by, Some}
use Rattle.std.specs.Int.{bit_at}
use Rattle.forward_word.specs.CollectorWords.{number_in, target_in, is_old_word}
use Rattle.heap_layout.specs.Zones.{InZone, LineWords, first, bit_of, block_start}
use Rattle.heap_layout.specs.declared.layout.TheConstants.{GLOBALS, BLOCK_WORDS, BLOCK_LINES}
use Rattle.object_model.specs.BitWords.{bit_place}
use Rattle.object_model.specs.Lines.{TouchesLine}
use Rattle.object_model.specs.Objects.{IsHeld, word_at, global_at, ref_at}
use Rattle.object_model.specs.Times.{times, one_if}
use Rattle.object_model.specs.declared.shape.TheConstants.{COLLECTOR_OFFSET, MAX_MEDIUM_WORDS}
use Rattle.side_meta.specs.declared.word.TheConstants.{BITS_PER_WORD}
use Rattle.trace_core.specs.Setups.{Setup, blocks, collection, held, size, refs, stays_old, keeps_its_words}
use Rattle.trace_core.specs.Setups.{may_be_moved}
use Rattle.trace_core.specs.Machine.{Event, ClaimCause, ByRoot, ByGlobal, ByField}
use Rattle.trace_core.specs.Traces.{IsTracing, IsFinished, machine_after, heap_after, target_of, is_scan_of}
use Rattle.trace_core.specs.Outcomes.{base_after_trace}
use Rattle.trace_core.specs.Rooms.{IsFilled, NoneFree}
use Rattle.trace_core.specs.Views.{Holds, hits}
use Rattle.trace_words.specs.declared.event.TraceEvent.{TraceEvent}
use Rattle.trace_words.specs.declared.share.Share.{Share}
use Rattle.trace_words.specs.Shares.{view_of, learns, claims_here, claims_moved, sees_busy}
use Rattle.trace_words.specs.Rule.{SeatShare, HasLined, times_listed, times_made}

-- A load of a word of unlog bits shows that an object has its target, itself, if its bit is set. A
-- clear bit shows nothing.
abbrev pub ShowsBit : Setup → ℕ → SeatShare → ℕ → SeatShare → Type 0
ShowsBit p x me found now =
    (bit_at found (bit_place (blocks p) x) ≡ 1 → now ≡ (learns x x me.0, me.1))
    × (bit_at found (bit_place (blocks p) x) ≢ 1 → now ≡ me)

-- A load of a collector word shows that the object is claimed and not old, or is old and stays, or
-- was not claimed.
abbrev pub ShowsClaim : Setup → ℕ → SeatShare → ℕ → SeatShare → Type 0
ShowsClaim p x me found now =
    (number_in found ≡ collection p
    → (stays_old p x ≡ false) × (now ≡ (learns x (target_in found) me.0, me.1)))
    × (number_in found ≢ collection p → is_old_word (base_after_trace p) found ≡ true
    → IsTrue (stays_old p x) × (now ≡ (learns x x me.0, me.1)))
    × (number_in found ≢ collection p → is_old_word (base_after_trace p) found ≡ false
    → (found ≡ word_at p.before (x + COLLECTOR_OFFSET)) × (now ≡ me))

-- the share knows what asks for the object at x
abbrev pub AsksFor : Setup → Share → ℕ → ClaimCause → Type 0
AsksFor p v x ByRoot = Unit {0}
AsksFor p v x (ByGlobal g) = (g < GLOBALS) × (global_at p.before g ≡ x)
AsksFor p v x (ByField y i) = (i < refs p y) × (ref_at p.before y i ≡ x)
    × ((t : ℕ) × (0 < hits y t v.known))

-- The share may try to claim the object at x, whose collector word was `old` when it looked.
pub record MayClaim (p : Setup) (v : Share) (x : ℕ) (cause : ClaimCause) (old : ℕ) : Type 0 where
  pub live : 0 < v.parts
  pub held : IsHeld p.before x
  pub before : old ≡ word_at p.before (x + COLLECTOR_OFFSET)
  pub other : number_in old ≢ collection p
  pub young : is_old_word (base_after_trace p) old ≡ false
  pub asks : AsksFor p v x cause

-- The share has seen that no block is Free.
abbrev pub SawNoneFree : Setup → Share → Type 0
SawNoneFree p v = (b : ℕ) → b < blocks p → 0 < times b v.busy

-- The object at x does not fit the room of the share, nor is there another block for it.
pub record LacksRoom (p : Setup) (v : Share) (x : ℕ) : Type 0 where
  pub tight : v.limit < v.front + size p x
  pub none : SawNoneFree p v

-- The object at x fits the room of the share, and may move.
pub record FitsRoom (p : Setup) (v : Share) (x : ℕ) : Type 0 where
  pub moves : IsTrue (may_be_moved p x)
  pub fits : v.front + size p x ≤ v.limit

-- another seat had claimed the object, and its target is known
abbrev pub ShowsWinner : Setup → ℕ → SeatShare → ℕ → SeatShare → Type 0
ShowsWinner p x me found now =
    (number_in found ≡ collection p) × (now ≡ (learns x (target_in found) me.0, me.1))

-- The exchange claimed the object, which stays, or goes to the front of the room. Or it lost.
abbrev pub ClaimsHere : Setup → ℕ → ClaimCause → ℕ → SeatShare → ℕ → SeatShare → Type 0
ClaimsHere p x cause old me found now =
    (found ≡ old → now ≡ (claims_here p x cause me.0, me.1))
    × (found ≢ old → ShowsWinner p x me found now)

abbrev pub ClaimsMoved : Setup → ℕ → ClaimCause → ℕ → SeatShare → ℕ → SeatShare → Type 0
ClaimsMoved p x cause old me found now =
    (found ≡ old → now ≡ (claims_moved p x cause me.0, me.1))
    × (found ≢ old → ShowsWinner p x me found now)

-- k steps of the copying of the object from x to t are made
pub record MayCopy (p : Setup) (v : Share) (x t k : ℕ) : Type 0 where
  pub live : 0 < v.parts
  pub right : 0 < hits x k v.won
  pub target : 0 < hits x t v.known

-- each object that the share copied was held as the trace began, and it copied it once
abbrev pub CopiesHeldOnce : Setup → Share → Type 0
CopiesHeldOnce p v = (x : ℕ) → times x v.copied ≤ one_if (held p x)

-- field k of the object that was at x, and is at t, is to be scanned next
pub record MayScan (p : Setup) (v : Share) (x t k : ℕ) : Type 0 where
  pub live : 0 < v.parts
  pub right : 0 < hits x k v.grey
  pub target : 0 < hits x t v.known
  pub field : k < refs p x

pub record MaySet (p : Setup) (v : Share) (g : ℕ) : Type 0 where
  pub live : 0 < v.parts
  pub right : 0 < times g v.unset

-- the share knows that this is the last value of a field or a global that was v
abbrev pub IsLast : Share → ℕ → ℕ → Type 0
IsLast s v value = ((v ≡ 0) × (value ≡ 0)) ⊎ ((v ≢ 0) × (0 < hits v value s.known))

-- the mask has lines of the object that was at x, and is at t
pub record MayMark (p : Setup) (v : Share) (x t word mask : ℕ) : Type 0 where
  pub live : 0 < v.parts
  pub target : 0 < hits x t v.known
  pub zone : InZone (blocks p) LineWords word
  pub lines : (k : ℕ) → bit_at mask k ≡ 1 → (k < BITS_PER_WORD)
      × TouchesLine (blocks p) t (size p x)
      (BITS_PER_WORD * (word - first (blocks p) LineWords) + k)

-- the share knows the target of the object at x
pub record Knows (p : Setup) (v : Share) (x t : ℕ) : Type 0 where
  pub live : 0 < v.parts
  pub target : 0 < hits x t v.known

-- a load of a block word shows that the block is not Free if it is not 0, and else nothing
abbrev pub ShowsBlock : ℕ → SeatShare → ℕ → SeatShare → Type 0
ShowsBlock b me found now =
    (found ≡ 0 → now ≡ me) × (found ≢ 0 → now ≡ (sees_busy b me.0, me.1))

-- The room of the share is the end of block c, which some size up to MAX_MEDIUM_WORDS doesn't fit.
pub record LeavesFull (p : Setup) (v : Share) (c : ℕ) : Type 0 where
  pub limit : v.limit ≡ block_start (blocks p) c + BLOCK_WORDS
  pub words : ℕ
  pub small : words ≤ MAX_MEDIUM_WORDS
  pub tight : v.limit < v.front + words

abbrev pub MayLeave : Setup → Share → Type 0
MayLeave p v = (c : ℕ) → 0 < times c v.filling → LeavesFull p v c

-- the exchange took block b, so that the share became `taken`, or found that it is not Free
abbrev pub TakesBlock : ℕ → (Share → Share) → SeatShare → ℕ → SeatShare → Type 0
TakesBlock b taken me found now =
    (found ≡ 0 → now ≡ (taken me.0, me.1)) × (found ≢ 0 → now ≡ (sees_busy b me.0, me.1))

-- The share is that of no worker. It has all parts, and took in as many tokens as it gave.
pub record IsWhole (p : Setup) (v : Share) : Type 0 where
  pub parts : v.parts ≡ p.workers + 1
  pub token : v.token ≡ 0
  pub worker : v.worker ≡ 0
  pub tokens : v.gave ≡ v.took

-- Nothing is left to do for the share.
pub record IsDone (p : Setup) (v : Share) : Type 0 where
  pub won : v.won ≡ []
  pub unset : v.unset ≡ []
  pub grey : (x k : ℕ) → 0 < hits x k v.grey → k ≡ refs p x

-- each field of each object that has its target was scanned once
abbrev pub ScansOnce : Setup → List Event → Type 0
ScansOnce p es = (x t : ℕ) → target_of p es x ≡ Some t → keeps_its_words p x ≡ false
    → count_by (is_scan_of x) es ≡ refs p x

-- The share has all rights of the trace.
pub record HasWholeTrace (p : Setup) (es : List Event) (v : Share) : Type 0 where
  pub holds : Holds p (machine_after p es) (view_of v)
  -- it made each event
  pub made : (test : TraceEvent → Bool) → times_listed test es ≡ times_made test v
  -- each block that was taken was filled still by a worker as it was taken in, or has more than
  -- MAX_MEDIUM_WORDS kept words, or was left with fewer on demand
  pub taken : (b : ℕ) → 0 < (machine_after p es).taken b → (0 < times b v.last)
      ⊎ ((0 < times b v.sparse)
      ⊎ IsFilled p (machine_after p es) b (MAX_MEDIUM_WORDS + 1))
  -- the former are one for each worker, at most
  pub few : length v.last ≤ p.workers
  pub finished : IsDone p v → IsFinished p (machine_after p es)
  pub once : IsDone p v → ScansOnce p es

-- The words after a trace that a share was left with.
pub record LeavesTrace (p : Setup) (words : List ℕ) (v : Share) : Type 0 where
  pub events : List Event
  pub trace : IsTracing p events
  pub words_are : words ≡ (machine_after p events).words
  -- line bits that were set, or seen set, are set
  pub lined : (line : ℕ) → line < BLOCK_LINES * blocks p → HasLined p v line
      → IsTrue (bit_of (blocks p) LineWords words line)
  -- An object that may move is in place only if no block is Free.
  pub stays : (x : ℕ) → target_of p events x ≡ Some x → stays_old p x ≡ false
      → IsTrue (may_be_moved p x) → NoneFree (heap_after p events)
  -- each block that was taken to copy into is owned by the worker that took it
  pub owner : (b : ℕ) → 0 < times b v.blocks → (k : ℕ) × (0 < hits b k v.owned)
  pub owners : (b k : ℕ) → 0 < hits b k v.owned → (machine_after p events).taken b ≡ k
  pub whole : IsWhole p v → HasWholeTrace p events v
