-- When an event of the tracing machine may come, and the tracings that begin with a collection.
use Rattle.std.specs.Prelude.{◌≡◌, ◌≢◌, ℕ, ◌+◌, ◌-◌, ◌*◌, ◌<◌, ◌≤◌, ◌⊎◌, Bool, false, IsTrue, nat_eq, Option, Some}
use Rattle.std.specs.Prelude.{None, List, [], ◌∷◌}
use Rattle.std.specs.Int.{bit_at}
use Rattle.heap_layout.specs.Zones.{LineWords, first, InZone, block_at, offset_at, IsAddress}
use Rattle.heap_layout.specs.declared.layout.TheConstants.{BLOCK_WORDS, GLOBALS}
use Rattle.heap_layout.specs.declared.block.Kind.TheVariants as kinds
use Rattle.object_model.specs.Objects.{HeapState, HasKind, global_at, ref_at, is_reference, IsInExtentOf}
use Rattle.object_model.specs.Lines.{TouchesLine}
use Rattle.side_meta.specs.declared.word.TheConstants.{BITS_PER_WORD}
use Rattle.trace_core.specs.Setups.{Setup, TraceMayBegin, blocks, held, size, refs, stays_old, may_be_moved}
use Rattle.trace_core.specs.Machine.{Stage, Unclaimed, Copying, Scanning, target, Machine, ClaimCause, ByRoot, ByGlobal}
use Rattle.trace_core.specs.Machine.{ByField, Event, Claim, Ask, Copy, Scan, SetGlobal, MarkLines, TakeBlock, IsSettled}
use Rattle.trace_core.specs.Machine.{next, first_machine, heap_in}

-- each block that was Free is taken
abbrev pub NoneIsFree : Setup → (ℕ → ℕ) → Type 0
NoneIsFree p taken = (b : ℕ) → HasKind p.before b kinds.Free → 0 < taken b

-- t is the address of room for the object at x in one block that a worker took, and the object may
-- move
pub record HasCopyRoom (p : Setup) (taken : ℕ → ℕ) (x t : ℕ) : Type 0 where
  pub moves : IsTrue (may_be_moved p x)
  pub address : IsAddress (blocks p) t
  pub block : 0 < taken (block_at (blocks p) t)
  pub within : offset_at (blocks p) t + size p x ≤ BLOCK_WORDS

-- The object at x stays in place: it may not move, or there is no Free block.
pub record Stays (p : Setup) (taken : ℕ → ℕ) (x t : ℕ) : Type 0 where
  pub same : t ≡ x
  pub reason : IsTrue (may_be_moved p x) → NoneIsFree p taken

-- The object at x goes to t, where no object is copied to.
pub record MovesObject (p : Setup) (m : Machine) (x t : ℕ) : Type 0 where
  pub room : HasCopyRoom p m.taken x t
  pub unowned : (i : ℕ) → IsInExtentOf t (size p x) i → m.owner i ≡ None

-- the object at x was asked for: as a root, by a global, or by a field of an object that has its
-- target
abbrev pub IsAskedBy : Setup → Machine → ℕ → ClaimCause → Type 0
IsAskedBy p m x ByRoot = Unit {0}
IsAskedBy p m x (ByGlobal g) = (g < GLOBALS) × (global_at p.before g ≡ x)
IsAskedBy p m x (ByField y i) = (i < refs p y) × (ref_at p.before y i ≡ x)
    × ((t : ℕ) × (target (m.stage y) ≡ Some t))

-- The event may come next. What loses a race changes nothing, so it is no event.
abbrev pub May : Setup → Machine → Event → Type 0
May p m (Claim x t cause) = IsTrue (held p x) × (m.stage x ≡ Unclaimed) × IsAskedBy p m x cause
    × (Stays p m.taken x t ⊎ MovesObject p m x t)
May p m (Ask x) = (t : ℕ) × (target (m.stage x) ≡ Some t)
May p m (Copy x) = (t k : ℕ) × (m.stage x ≡ Copying t k)
May p m (Scan x) = (t k : ℕ) × (m.stage x ≡ Scanning t k) × (k < refs p x)
    × IsSettled m.stage (ref_at p.before x k)
May p m (SetGlobal g) = (g < GLOBALS) × (m.set g ≡ false) × IsSettled m.stage (global_at p.before g)
May p m (MarkLines x word mask) = InZone (blocks p) LineWords word
    × ((t : ℕ) × (target (m.stage x) ≡ Some t)
    × ((k : ℕ) → bit_at mask k ≡ 1
    → (k < BITS_PER_WORD)
    × TouchesLine (blocks p) t (size p x)
    (BITS_PER_WORD * (word - first (blocks p) LineWords) + k)))
May p m (TakeBlock b w) = HasKind p.before b kinds.Free × (m.taken b ≡ 0) × (0 < w)
    × (w ≤ p.workers) × (p.copy ≢ kinds.Free)

-- the machine after a list of events, in order, from the machine m on
abbrev pub after : Setup → Machine → List Event → Machine
after p m [] = m
after p m (e ∷ es) = after p (next p m e) es

abbrev pub AreNext : Setup → Machine → List Event → Type 0
AreNext p m [] = Unit {0}
AreNext p m (e ∷ es) = May p m e × AreNext p (next p m e) es

-- the machine after a list of events from the beginning, its heap, and where the object at x will
-- be
abbrev pub machine_after : Setup → List Event → Machine
machine_after p es = after p (first_machine p) es

abbrev pub heap_after : Setup → List Event → HeapState
heap_after p es = heap_in p (machine_after p es)

abbrev pub stage_of : Setup → List Event → ℕ → Stage
stage_of p es x = (machine_after p es).stage x

abbrev pub target_of : Setup → List Event → ℕ → Option ℕ
target_of p es x = target (stage_of p es x)

-- the events are those of a tracing, by any workers in any order, up to some moment
pub record IsTracing (p : Setup) (es : List Event) : Type 0 where
  pub ready : TraceMayBegin p
  pub events : AreNext p (first_machine p) es

-- An object that a tracing keeps: a root, a global or, in a nursery collection, an old object leads
-- to it.
pub data TraceKeeps (p : Setup) (asked : ℕ → ℕ) : ℕ → Type 0 where
  FromRoot : (x : ℕ) → 0 < asked x → TraceKeeps p asked x
  FromGlobal : (g : ℕ) → g < GLOBALS → IsTrue (is_reference (global_at p.before g))
      → TraceKeeps p asked (global_at p.before g)
  FromOld : (x : ℕ) → IsTrue (stays_old p x) → TraceKeeps p asked x
  ByReference : (y i : ℕ) → TraceKeeps p asked y → i < refs p y
      → IsTrue (is_reference (ref_at p.before y i))
      → TraceKeeps p asked (ref_at p.before y i)

-- how many fields of an object at this stage are scanned
abbrev pub fields_scanned : Stage → ℕ
fields_scanned (Scanning t k) = k
fields_scanned _ = 0

-- The tracing is finished: each global has its last value, and each claimed or old object is copied
-- and has its fields scanned. A root that is no global is set as soon as it asked.
pub record IsFinished (p : Setup) (m : Machine) : Type 0 where
  pub globals : (g : ℕ) → g < GLOBALS → IsTrue (m.set g)
  pub objects : (x t : ℕ) → target (m.stage x) ≡ Some t → m.stage x ≡ Scanning t (refs p x)

-- the event claims the object at x, or scans a field of it
abbrev pub is_claim_of : ℕ → Event → Bool
is_claim_of x (Claim y t cause) = nat_eq y x
is_claim_of x _ = false

abbrev pub is_scan_of : ℕ → Event → Bool
is_scan_of x (Scan y) = nat_eq y x
is_scan_of x _ = false
