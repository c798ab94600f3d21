-- A tracer and the tracing that it makes.
use Rattle.std.specs.Prelude.{◌≡◌, ℕ, ◌+◌, ◌<◌, ◌≤◌, ◌⊎◌, Bool, false, IsTrue, List, [], ◌∷◌, ◌++◌, length, Option}
use Rattle.std.specs.Prelude.{Some, None, All}
use Rattle.heap_layout.specs.declared.block.TheConstants.{FIRST_WORKER_OWNER}
use Rattle.heap_layout.specs.Zones.{block_start}
use Rattle.heap_layout.specs.declared.layout.TheConstants.{BLOCK_WORDS}
use Rattle.object_model.specs.declared.shape.TheConstants.{MAX_MEDIUM_WORDS}
use Rattle.object_model.specs.Births.{with_block}
use Rattle.object_model.specs.Objects.{HasKind, state_of, with_words}
use Rattle.trace_core.specs.Setups.{Setup, blocks, size, refs, stays_old}
use Rattle.trace_core.specs.Machine.{Event, ClaimCause, ByRoot, Claim, Ask, IsSettled, forward}
use Rattle.trace_core.specs.Traces.{IsTracing, machine_after, heap_after, target_of, stage_of}
use Rattle.trace_core.specs.Views.{View, Holds, asked_view, claimed_view, scanned_view, set_view}
use Rattle.object_model.specs.Times.{times}
use Rattle.trace_core.specs.declared.run.Traced.{Traced}
use Rattle.plain_tracer.specs.declared.tokens.Won.{Won}
use Rattle.plain_tracer.specs.declared.tokens.Grey.{Grey}
use Rattle.plain_tracer.specs.declared.plain_trace.PlainTrace.{PlainTrace}
use Rattle.plain_tracer.specs.TokenRights.{Pushes, Scanned}
use Rattle.trace_core.specs.Runs.{IsRunOf}
use Rattle.trace_core.specs.Rooms.{IsFilled, IsCopyRoom, AreLeft, StayWithoutRoom}
use Rattle.trace_core.specs.CallEvents.{block_taken, taken_in, left_in_block, Follows, Scans, Sets}
use Rattle.heap_layout.specs.declared.block.Kind.TheVariants as kinds
use Rattle.plain_tracer.specs.declared.tokens.Claim as answers
use Rattle.plain_tracer.specs.declared.tokens.Claim.TheVariants as answer

-- The tracer made these events, which left its row, and has all rights of a view.
pub record Tracks (p : Setup) (es : List Event) (t : PlainTrace) (v : View) : Type 0 where
  pub trace : IsTracing p es
  pub run : IsRunOf p t.run
  pub row : state_of t.row ≡ heap_after p es
  pub holds : Holds p (machine_after p es) v
  pub room : IsCopyRoom p (machine_after p es) v.blocks t.block t.room
  pub left : AreLeft p (machine_after p es) v.sparse v.blocks
  pub stayed : StayWithoutRoom p (machine_after p es) t.room
  -- of the blocks before the next one to try none is Free, and no later one was taken
  pub passed : (b : ℕ) → b < t.next_block → HasKind p.before b kinds.Free
      → 0 < (machine_after p es).taken b
  pub ahead : (b : ℕ) → 0 < (machine_after p es).taken b → b < t.next_block

-- The tracer traces some collection, and a view of it has the right to a call.
pub record TracerHolds (t : PlainTrace) (Right : Setup → List Event → View → Type 0) : Type 0 where
  pub setup : Setup
  pub events : List Event
  pub view : View
  pub tracks : Tracks setup events t view
  pub right : Right setup events view

-- The worker took block b, which was Free. It begins anew with its room.
pub record TakesCopyBlock (old new : PlainTrace) (b : ℕ) : Type 0 where
  -- the word of the block says that it is of the kind of copies, and the worker's
  pub row : state_of new.row ≡ with_block (state_of old.row) b
      (record { kind = old.run.copy_kind; class = 0; owner = FIRST_WORKER_OWNER })
  pub run : new.run ≡ old.run
  pub globals : new.globals_taken ≡ old.globals_taken
  pub logged : new.logged_taken ≡ old.logged_taken
  pub block : new.block ≡ b
  pub room : new.room ≡ record { next = 0; end = BLOCK_WORDS }
  pub next_block : new.next_block ≡ b + 1
  pub free : HasKind (state_of old.row) b kinds.Free
  pub from : old.next_block ≤ b
  pub lower : (c : ℕ) → old.next_block ≤ c → c < b → HasKind (state_of old.row) c kinds.Free → ⊥

-- No block from the next one on is Free.
pub record FindsNone (old new : PlainTrace) : Type 0 where
  pub row : new.row ≡ old.row
  pub run : new.run ≡ old.run
  pub globals : new.globals_taken ≡ old.globals_taken
  pub logged : new.logged_taken ≡ old.logged_taken
  pub block : new.block ≡ old.block
  pub room : new.room ≡ old.room
  pub next_block : new.next_block ≡ old.row.layout.blocks
  pub none : (c : ℕ) → old.next_block ≤ c → HasKind (state_of old.row) c kinds.Free → ⊥

-- the row has these words now, and all else is as it was
pub record ChangesWords (old new : PlainTrace) (words : List ℕ) : Type 0 where
  pub row : state_of new.row ≡ with_words (state_of old.row) words
  pub run : new.run ≡ old.run
  pub block : new.block ≡ old.block
  pub room : new.room ≡ old.room
  pub next_block : new.next_block ≡ old.next_block
  pub globals : new.globals_taken ≡ old.globals_taken
  pub logged : new.logged_taken ≡ old.logged_taken

-- what the tracer was given, and whether it gave the tokens of globals and of logged objects, is as
-- it was
pub record KeepsRun (old new : PlainTrace) : Type 0 where
  pub run : new.run ≡ old.run
  pub globals : new.globals_taken ≡ old.globals_taken
  pub logged : new.logged_taken ≡ old.logged_taken

-- A block is taken only if an object of this size does not fit the worker's room. It is the lowest
-- Free one that is left.
pub record IsNeeded (p : Setup) (es : List Event) (old : PlainTrace) (taken : Option ℕ) (size : ℕ)
    : Type 0 where
  pub tight : (b : ℕ) → taken ≡ Some b → old.room.end < old.room.next + size
  pub lowest : (b c : ℕ) → taken ≡ Some b → c < b → HasKind (heap_after p es) c kinds.Free → ⊥

-- t is where the worker puts the next copy: the front of its room or, if a block is taken, the
-- start of that block.
pub record IsFront (p : Setup) (old : PlainTrace) (taken : Option ℕ) (t : ℕ) : Type 0 where
  pub room : taken ≡ None → t ≡ block_start (blocks p) old.block + old.room.next
  pub block : (b : ℕ) → taken ≡ Some b → t ≡ block_start (blocks p) b

-- The front of room for an object of this size. A block was taken first if the room was too small.
pub record Fronts (p : Setup) (es : List Event) (v : View) (old new : PlainTrace) (size t : ℕ)
    : Type 0 where
  pub taken : Option ℕ
  pub tracks : Tracks p (es ++ block_taken taken) new (left_in_block taken v)
  pub room : new.room.next + size ≤ new.room.end
  pub front : t ≡ block_start (blocks p) new.block + new.room.next
  pub place : IsFront p old taken t
  pub needed : IsNeeded p es old taken size

-- An object is claimed: the events, the view and the token. It stays where it is, or goes to the
-- front of the worker's room. A block is taken first only if it does not fit there.
pub record Wins (p : Setup) (es : List Event) (v : View) (old new : PlainTrace)
    (taken : Option ℕ) (x : ℕ)
    (cause : ClaimCause)
    (won : Won) : Type 0 where
  pub unclaimed : target_of p es x ≡ None
  pub place : ((won.target ≡ x) × (taken ≡ None)) ⊎ IsFront p old taken won.target
  pub needed : IsNeeded p es old taken (size p x)
  pub object : won.object ≡ x
  pub size : won.size ≡ size p x
  pub refs : won.refs ≡ refs p x
  pub tracks : Tracks p (es ++ (block_taken taken ++ Claim x won.target cause
      ∷ [])) new (claimed_view p x won.target cause (taken_in taken v))

-- the answer to a claim of the object at x, which something asks for
abbrev pub Claims : Setup → List Event → View → PlainTrace → PlainTrace → ℕ → ClaimCause
    → answers.Claim → Type 0
Claims p es v old new x cause answer.Old = IsTrue (stays_old p x) × Tracks p es new v
Claims p es v old new x cause (answer.Seen t) = (stays_old p x ≡ false)
    × (target_of p es x ≡ Some t)
    × Tracks p es new v
Claims p es v old new x cause (answer.Won won) = (taken : Option ℕ)
    × Wins p es v old new taken x cause won

-- the answer to a claim of the object at x by a root, which is set with it
abbrev pub ClaimsRoot : Setup → List Event → View → PlainTrace → PlainTrace → ℕ
    → answers.Claim → Type 0
ClaimsRoot p es v old new x answer.Old = IsTrue (stays_old p x)
    × Tracks p (es ++ Ask x ∷ []) new (asked_view x x v)
ClaimsRoot p es v old new x (answer.Seen t) = (stays_old p x ≡ false) × (target_of p es x ≡ Some t)
    × Tracks p (es
    ++ Ask x ∷ []) new (asked_view x t v)
ClaimsRoot p es v old new x (answer.Won won) = (taken : Option ℕ)
    × Wins p es v old new taken x ByRoot won

-- the tracer made more events, each of these kinds
pub record MakesEvents (p : Setup) (es : List Event) (new : PlainTrace) (v : View) (IsEvent : Event
    → Type 0) : Type 0 where
  pub events : List Event
  pub all : All IsEvent events
  pub tracks : Tracks p (es ++ events) new v

-- Tokens were pushed behind those before, at most so many.
pub record PushesAtMost (most : ℕ) (before after : List Grey) : Type 0 where
  pub pushed : List Grey
  pub out : after ≡ before ++ pushed
  pub few : length pushed ≤ most

-- A reference was followed. A token was pushed if its object was not claimed before.
pub record Forwards (p : Setup) (es : List Event) (v : View) (new : PlainTrace)
    (reference value : ℕ) (cause : ClaimCause) (before after : List Grey) : Type 0 where
  -- the events of a reference that is followed led to a view
  pub view : View
  pub grows : MakesEvents p es new view (Follows cause)
  -- a token was pushed, or none; the view has its right more
  pub tokens : PushesAtMost 1 before after
  pub pushes : Pushes p v view tokens.pushed
  -- the reference is settled, and its last value is its target's address
  pub settled : IsSettled (stage_of p (es ++ grows.events)) reference
  pub last : value ≡ forward (stage_of p (es ++ grows.events)) reference

-- Field k of an object was scanned.
pub record ScansField (p : Setup) (es : List Event) (v : View) (new : PlainTrace) (grey : Grey)
    (k : ℕ) (before after : List Grey) : Type 0 where
  -- the events of a scan of the object, of which field k was scanned last, led from a view
  pub view : View
  pub grows : MakesEvents p es new (scanned_view grey.object k view) (Scans false grey.object)
  -- a token was pushed, or none; the view has its right more
  pub tokens : PushesAtMost 1 before after
  pub pushes : Pushes p v view tokens.pushed

-- The fields of an object were scanned, up to field k, and its lines may be marked.
pub record ScansFields (p : Setup) (es : List Event) (v : View) (new : PlainTrace) (lines : Bool)
    (grey : Grey) (k : ℕ) (before after : List Grey) : Type 0 where
  -- the events of a scan of the object led to a view
  pub view : View
  pub grows : MakesEvents p es new view (Scans lines grey.object)
  -- at most a token for each field was pushed
  pub tokens : PushesAtMost k before after
  -- the view has their rights more, and of the object the right to scan field k, not the first
  pub scanned : Scanned p grey.object k v view tokens.pushed

-- A global was set.
pub record SetsGlobal (p : Setup) (es : List Event) (v : View) (new : PlainTrace) (g : ℕ)
    (before after : List Grey) : Type 0 where
  -- the events of a set of the global, which was set last, led from a view
  pub view : View
  pub grows : MakesEvents p es new (set_view g view) (Sets g)
  -- a token was pushed, or none; the view has its right more
  pub tokens : PushesAtMost 1 before after
  pub pushes : Pushes p v view tokens.pushed

-- The row after a tracing that made these events. Each block that was taken to copy into is the
-- last one of a worker, is sparse, or has more than 2,048 words of targets. Each was the lowest
-- Free one that was left.
pub record IsTraced (p : Setup) (es : List Event) (v : View) (traced : Traced) : Type 0 where
  pub trace : IsTracing p es
  pub run : IsRunOf p traced.run
  pub row : state_of traced.row ≡ heap_after p es
  pub holds : Holds p (machine_after p es) v
  pub last : List ℕ
  pub few : length last ≤ p.workers
  pub full : (b : ℕ) → 0 < (machine_after p es).taken b
      → (0 < times b last) ⊎ ((0 < times b v.sparse)
      ⊎ ((n : ℕ) × (MAX_MEDIUM_WORDS < n) × IsFilled p (machine_after p es) b n))
  pub left : AreLeft p (machine_after p es) v.sparse v.blocks
  pub lowest : (b c : ℕ) → 0 < (machine_after p es).taken b → c < b → HasKind p.before c kinds.Free
      → 0 < (machine_after p es).taken c
