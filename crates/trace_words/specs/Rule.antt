-- The rule that each atomic step of a racing trace keeps.
use Rattle.std.specs.Prelude.{◌≡◌, ℕ, Bool, false, nat_eq, count_by, length, ◌+◌, ◌*◌, ◌/◌, ◌%◌, ◌<◌, ◌≤◌, IsTrue, ◌⊎◌}
use Rattle.std.specs.Prelude.{◌&&◌, not, nat_le, nat_lt, is_some, Option, List, []}
use Rattle.atomic_table.specs.Table.{State, Me}
use mathlib.Core.Option.{some}
use lib.ListN.{get_elem?}
use Rattle.std.specs.Int.{bit_at}
use Rattle.side_meta.specs.declared.word.TheConstants.{BITS_PER_WORD}
use Rattle.heap_layout.specs.Zones.{LineWords, first, bit_of, block_at, block_start}
use Rattle.heap_layout.specs.declared.block.Kind.TheVariants as kinds
use Rattle.heap_layout.specs.declared.layout.TheConstants.{BLOCK_WORDS, BLOCK_LINES}
use Rattle.object_model.specs.Objects.{HasKind, HeapState}
use Rattle.object_model.specs.Times.{times, one_if}
use Rattle.object_model.specs.declared.shape.TheConstants.{MAX_MEDIUM_WORDS}
use Rattle.trace_core.specs.Setups.{Setup, blocks}
use Rattle.trace_core.specs.Machine.{Event, Machine}
use Rattle.trace_core.specs.Traces.{IsTracing, machine_after}
use Rattle.trace_core.specs.Views.{Holds, hits}
use Rattle.trace_core.specs.Rooms.{IsFilled}
use Rattle.trace_core.specs.Runs.{is_nursery, is_some_true}
use Rattle.trace_core.specs.declared.run.TraceRun.{TraceRun}
use Rattle.std.specs.Prelude.{slice_get}
use Rattle.trace_words.specs.declared.event.TraceEvent.{TraceEvent}
use Rattle.trace_words.specs.declared.event.TraceEvent.TheVariants as event
use Rattle.trace_words.specs.declared.share.Share.{Share}
use Rattle.trace_words.specs.declared.rule.TraceKey.{TraceKey}
use Rattle.trace_words.specs.Shares.{pooled, total, listed}

abbrev pub TraceState : Type 0
TraceState = State (Unit {0}) Share

-- a seat's share, and the slots that it has, which are none
abbrev pub SeatShare : Type 0
SeatShare = Me (Unit {0}) Share

-- a share with no right, whatever it knows
pub record HasNoRight (s : Share) : Type 0 where
  pub won : s.won ≡ []
  pub grey : s.grey ≡ []
  pub copied : s.copied ≡ []
  pub unset : s.unset ≡ []
  pub set : s.set ≡ []
  pub asked : s.asked ≡ []
  pub blocks : s.blocks ≡ []

-- Without parts a share gave and took no token, made no event, and has no right unless it is a
-- token.
pub record IsToken (s : Share) : Type 0 where
  pub gave : s.gave ≡ 0
  pub took : s.took ≡ 0
  pub made : s.made ≡ []
  pub spent : s.token ≡ 0 → HasNoRight s

-- The room is the end of block b, which the share's worker took, and which is filled up to the
-- front of the room.
pub record IsEndOf (p : Setup) (m : Machine) (s : Share) (b : ℕ) : Type 0 where
  pub from : block_start (blocks p) b ≤ s.front
  pub limit : s.limit ≡ block_start (blocks p) b + BLOCK_WORDS
  pub words : ℕ
  pub front : s.front ≡ block_start (blocks p) b + words
  pub filled : IsFilled p m b words
  pub owner : 0 < hits b s.worker s.owned

-- the share set the bit of this line, or saw it set
abbrev pub HasLined : Setup → Share → ℕ → Type 0
HasLined p s line = (mask : ℕ) × (bit_at mask (line % BITS_PER_WORD) ≡ 1)
    × (0 < hits (first (blocks p) LineWords + line / BITS_PER_WORD) mask s.lined)

-- What is so of one share, whatever the others do.
pub record IsShareOf (p : Setup) (m : Machine) (s : Share) : Type 0 where
  pub token : s.parts ≡ 0 → IsToken s
  -- blocks seen not to be Free
  pub busy : (b : ℕ) → 0 < times b s.busy → HasKind p.before b kinds.Free → 0 < m.taken b
  -- blocks left with more than MAX_MEDIUM_WORDS kept words
  pub full : (b : ℕ) → 0 < times b s.full → IsFilled p m b (MAX_MEDIUM_WORDS + 1)
  pub room : 0 < s.limit → (b : ℕ) × IsEndOf p m s b
  -- line bits that it set, or saw set, are set
  pub lined : (line : ℕ) → line < BLOCK_LINES * blocks p → HasLined p s line
      → IsTrue (bit_of (blocks p) LineWords m.words line)
  -- its number, and those that it may give, are numbers of workers
  pub number : s.worker ≤ p.workers
  pub numbers : (k : ℕ) → 0 < times k s.numbers → (0 < k) × (k ≤ p.workers)
  -- the word of each block that it took names the worker that took it
  pub owned : (b k : ℕ) → 0 < hits b k s.owned → (0 < k) × (m.taken b ≡ k)
  pub owner : (b : ℕ) → 0 < times b s.blocks → (k : ℕ) × (0 < hits b k s.owned)
  -- each block that it took is filled now, or was as another was taken in, or was left
  pub listed : (b : ℕ) → 0 < times b s.blocks → (0 < times b s.filling)
      ⊎ ((0 < times b s.last) ⊎ ((0 < times b s.full) ⊎ (0 < times b s.sparse)))
  -- It fills one block at most, and none if it is no worker's. Fewer shares that were filling a
  -- block were taken in than it has parts.
  pub one : length s.filling ≤ 1
  pub none : s.worker ≡ 0 → s.filling ≡ []
  pub few : length s.last + length s.filling ≤ s.parts
  pub fewer : 0 < s.parts → length s.last < s.parts

-- how often shares list the events that pass a test, and how often one share does
abbrev pub times_listed : (TraceEvent → Bool) → List Event → ℕ
times_listed test es = count_by (λ e. test (listed e)) es

abbrev pub times_made : (TraceEvent → Bool) → Share → ℕ
times_made test s = count_by test s.made

-- the event claims the object at x
abbrev pub claims_object : ℕ → TraceEvent → Bool
claims_object x (event.Claim y t cause) = nat_eq y x
claims_object x _ = false

-- how often k is the number of a share, or one that it may give
abbrev pub has_number : ℕ → Share → ℕ
has_number k s = times k s.numbers + one_if (nat_eq k s.worker)

-- an address lies in the room of a share, and in a block that was taken, where nothing is copied
abbrev pub rooms_at : ℕ → Share → ℕ
rooms_at a s = one_if (nat_le s.front a && nat_lt a s.limit)

abbrev pub free_at : Setup → (ℕ → Option ℕ) → (ℕ → ℕ) → ℕ → ℕ
free_at p owner taken a =
    one_if (nat_lt 0 (taken (block_at (blocks p) a)) && not (is_some (owner a)))

-- Words and shares show one state of the tracing machine, to which its events lead. The shares
-- together have all its rights, each once.
pub record KeepsTrace (p : Setup) (s : TraceState) : Type 0 where
  pub events : List Event
  pub trace : IsTracing p events
  pub words : s.words ≡ (machine_after p events).words
  -- the events are those that the shares made, each once
  pub made : (test : TraceEvent → Bool)
      → times_listed test events ≡ total (times_made test) s.views
  pub holds : Holds p (machine_after p events) (pooled s.views)
  pub parts : total (λ v. v.parts) s.views ≡ p.workers + 1
  -- no two workers have one number
  pub numbers : (k : ℕ) → 0 < k → total (has_number k) s.views ≤ 1
  -- each token that was given was taken, or is about
  pub tokens : total (λ v. v.gave) s.views
      ≡ total (λ v. v.took) s.views + total (λ v. v.token) s.views
  pub shares : (j : ℕ) (v : Share) → get_elem? s.views j ≡ some v
      → IsShareOf p (machine_after p events) v
  -- rooms have no word in common, and are where nothing is copied
  pub rooms : (a : ℕ) → total (rooms_at a) s.views
      ≤ free_at p (machine_after p events).owner (machine_after p events).taken a

-- the collection that traces a row from this state on
abbrev pub tracing_of : HeapState → TraceRun → ℕ → Setup
tracing_of s run workers = record {
  before = s;
  nursery = is_nursery run.collect;
  logged = λ a. nat_lt 0 (times a run.logged.items);
  from = λ b. is_some_true (slice_get run.from.items b);
  copy = run.copy_kind;
  workers = workers;
}

abbrev pub setup_in : TraceKey → Setup
setup_in key = tracing_of (record {
  words = key.words.value;
  blocks = key.blocks;
  number = key.number;
  base = key.base;
}) key.run key.workers
