-- A table, the seats of its workers and its tokens, and what calls do to the share of a seat.
use Rattle.std.specs.Prelude.{◌≡◌, ◌≢◌, ℕ, ◌+◌, ◌<◌, ◌≤◌, ◌⊎◌, Bool, true, false, IsTrue, List, [], ◌∷◌, ◌++◌, All, length, map}
use Rattle.forward_word.specs.CollectorWords.{number_in, is_old_word}
use Rattle.heap_layout.specs.Zones.{row_words, heap_of, block_start}
use Rattle.heap_layout.specs.declared.layout.TheConstants.{BLOCK_WORDS, GLOBALS}
use Rattle.object_model.specs.Objects.{IsHeld, word_at}
use Rattle.object_model.specs.Times.{times}
use Rattle.object_model.specs.declared.shape.TheConstants.{COLLECTOR_OFFSET}
use Rattle.trace_core.specs.Setups.{Setup, TraceMayBegin, blocks, collection, size, refs, stays_old, may_be_moved}
use Rattle.trace_core.specs.Machine.{ClaimCause, ByRoot}
use Rattle.trace_core.specs.Outcomes.{base_after_trace}
use Rattle.trace_core.specs.Runs.{IsRunOf}
use Rattle.trace_core.specs.Views.{hits, is_pair, without, steps_at_claim, asked_roots}
use Rattle.trace_words.specs.declared.event.TraceEvent.{TraceEvent}
use Rattle.trace_words.specs.declared.event.TraceEvent.TheVariants as events
use Rattle.trace_words.specs.declared.share.Share.{Share}
use Rattle.trace_words.specs.Rule.{SeatShare, setup_in, times_made}
use Rattle.trace_words.specs.Shares.{learns, ends_copy, sets_global, scan_token, global_token, takes_at_any_time}
use Rattle.trace_words.specs.Steps.{LacksRoom}
use Rattle.trace_table.specs.declared.table.TraceTable.{TraceTable}
use Rattle.trace_table.specs.declared.table.WorkerSeat.{WorkerSeat}
use Rattle.trace_table.specs.declared.tokens.Claim.{Claim}
use Rattle.trace_table.specs.declared.tokens.Claim.TheVariants as claims
use Rattle.trace_table.specs.declared.tokens.Found.{Found}
use Rattle.trace_table.specs.declared.tokens.Found.TheVariants as found
use Rattle.trace_table.specs.declared.tokens.GlobalRoot.{GlobalRoot}
use Rattle.trace_table.specs.declared.tokens.Grey.{Grey}
use Rattle.trace_table.specs.declared.tokens.Won.{Won}

-- the collection that is traced on the table
abbrev pub setup_at : TraceTable → Setup
setup_at t = setup_in t.row.words.key

pub record IsTable (t : TraceTable) : Type 0 where
  pub words : t.row.words.table_id.words ≡ row_words (blocks (setup_at t))
  pub layout : t.layout.blocks ≡ blocks (setup_at t)
  pub ready : TraceMayBegin (setup_at t)
  pub run : IsRunOf (setup_at t) t.run
  pub number : t.number ≡ (setup_at t).before.number
  pub base : t.base ≡ (setup_at t).before.base
  -- the keeper's seat has a part
  pub keeper : t.keeper.table_id ≡ t.row.words.table_id
  pub live : 0 < t.keeper.me.0.parts

-- the seat of a worker of the table
pub record IsSeat (t : TraceTable) (s : WorkerSeat) : Type 0 where
  pub table : s.seat.table_id ≡ t.row.words.table_id
  pub live : 0 < s.seat.me.0.parts
  pub worker : s.worker ≡ s.seat.me.0.worker
  pub some : 0 < s.worker
  pub few : s.worker ≤ (setup_at t).workers
  pub front : s.front ≡ s.seat.me.0.front
  pub limit : s.limit ≡ s.seat.me.0.limit
  pub order : s.front ≤ s.limit
  pub from : s.front < s.limit → heap_of (blocks (setup_at t)) ≤ s.front
  pub within : s.limit ≤ row_words (blocks (setup_at t))
  pub filling : (c : ℕ) → 0 < times c s.seat.me.0.filling
      → s.limit ≡ block_start (blocks (setup_at t)) c + BLOCK_WORDS
  pub seen : (c : ℕ) → c < s.next_block → 0 < times c s.seat.me.0.busy
  pub next : s.next_block ≤ blocks (setup_at t)

-- a look at the collector word of an object: it stays as an old one, is not old and has its
-- target, or was not claimed
abbrev pub Finds : Setup → ℕ → SeatShare → Found → SeatShare → Type 0
Finds p x me found.Old now = IsTrue (stays_old p x) × (now ≡ (learns x x me.0, me.1))
Finds p x me (found.Seen t) now = (stays_old p x ≡ false) × (now ≡ (learns x t me.0, me.1))
Finds p x me (found.Waits word) now = (now ≡ me)
    × (word ≡ word_at p.before (x + COLLECTOR_OFFSET))
    × (number_in word ≢ collection p) × (is_old_word (base_after_trace p) word ≡ false)

-- The share keeps its parts, numbers and tokens, and forgets nothing.
pub record Keeps (v w : Share) : Type 0 where
  pub parts : w.parts ≡ v.parts
  pub token : w.token ≡ v.token
  pub worker : w.worker ≡ v.worker
  pub numbers : w.numbers ≡ v.numbers
  pub unset : w.unset ≡ v.unset
  pub last : w.last ≡ v.last
  pub known : (x t : ℕ) → 0 < hits x t v.known → 0 < hits x t w.known
  pub lined : (i m : ℕ) → 0 < hits i m v.lined → 0 < hits i m w.lined
  pub busy : (b : ℕ) → 0 < times b v.busy → 0 < times b w.busy
  pub sparse : w.sparse ≡ v.sparse

abbrev pub is_line_mark : TraceEvent → Bool
is_line_mark (events.MarkLines x word mask) = true
is_line_mark _ = false

-- the share marked no line
abbrev pub MarksNoLine : Share → Share → Type 0
MarksNoLine v w = times_made is_line_mark w ≡ times_made is_line_mark v

-- nothing but what it knows, and the lines that it marked, has changed
pub record MarksOnly (v w : Share) : Type 0 where
  pub keeps : Keeps v w
  pub gave : w.gave ≡ v.gave
  pub took : w.took ≡ v.took
  pub won : w.won ≡ v.won
  pub grey : w.grey ≡ v.grey
  pub copied : w.copied ≡ v.copied
  pub asked : w.asked ≡ v.asked

-- nothing but what it knows, and its room, has changed
pub record Looks (v w : Share) : Type 0 where
  pub keeps : Keeps v w
  pub gave : w.gave ≡ v.gave
  pub took : w.took ≡ v.took
  pub won : w.won ≡ v.won
  pub grey : w.grey ≡ v.grey
  pub copied : w.copied ≡ v.copied
  pub asked : w.asked ≡ v.asked
  pub unmarked : MarksNoLine v w

-- the share has the same room, and its parts and number
pub record SameRoom (v w : Share) : Type 0 where
  pub parts : w.parts ≡ v.parts
  pub worker : w.worker ≡ v.worker
  pub front : w.front ≡ v.front
  pub limit : w.limit ≡ v.limit
  pub filling : w.filling ≡ v.filling

-- the share fills the block that it filled before
abbrev pub SameBlock : Share → Share → Type 0
SameBlock v w = (w.limit ≡ v.limit) × (w.filling ≡ v.filling)

-- No block was taken if the object at x may not move, or fits the room.
pub record TakesBlockIfNeeded (p : Setup) (x : ℕ) (v w : Share) : Type 0 where
  pub stays : may_be_moved p x ≡ false → SameBlock v w
  pub fits : v.front + size p x ≤ v.limit → SameBlock v w

-- The share took block b to copy into, after it had looked at those before, which are not Free.
pub record TakesLowest (p : Setup) (v w : Share) (b : ℕ) : Type 0 where
  pub before : Share
  pub looks : Looks v before
  pub room : SameRoom v before
  pub taken : w ≡ takes_at_any_time p b before
  pub lowest : (c : ℕ) → c < b → 0 < times c w.busy

-- the token has the shape of an object that is not old, and a target with room for it
pub record IsShapeOf (p : Setup) (token : Won) : Type 0 where
  pub held : IsHeld p.before token.object
  pub young : stays_old p token.object ≡ false
  pub size : token.size ≡ size p token.object
  pub refs : token.refs ≡ refs p token.object
  pub start : heap_of (blocks p) ≤ token.target
  pub within : token.target + token.size ≤ row_words (blocks p)

-- the object at x is its own target, since it may not move or lacks room
abbrev pub StaysInPlace : Setup → ℕ → Share → Won → Type 0
StaysInPlace p x w token =
    (token.target ≡ x) × (IsTrue (may_be_moved p x) → LacksRoom p w x)

-- its target is where the room began, which has its words
pub record MovesToFront (p : Setup) (x : ℕ) (w : Share) (token : Won) : Type 0 where
  pub moves : IsTrue (may_be_moved p x)
  pub front : w.front ≡ token.target + size p x
  pub fits : w.front ≤ w.limit

-- The claim gave the object at x its target.
pub record Wins (p : Setup) (x : ℕ) (cause : ClaimCause) (v w : Share) (token : Won) : Type 0 where
  pub keeps : Keeps v w
  pub gave : w.gave ≡ v.gave
  pub took : w.took ≡ v.took
  pub won : w.won ≡ (x, steps_at_claim p x token.target) ∷ []
  pub grey : w.grey ≡ v.grey
  pub copied : w.copied ≡ v.copied
  pub asked : w.asked ≡ asked_roots x cause v.asked
  pub unmarked : MarksNoLine v w
  pub target : 0 < hits x token.target w.known
  pub place : StaysInPlace p x w token ⊎ MovesToFront p x w token
  pub object : token.object ≡ x
  pub shape : IsShapeOf p token

-- A root asked for the object at x.
pub record Asks (x : ℕ) (v w : Share) : Type 0 where
  pub keeps : Keeps v w
  pub gave : w.gave ≡ v.gave
  pub took : w.took ≡ v.took
  pub won : w.won ≡ v.won
  pub grey : w.grey ≡ v.grey
  pub copied : w.copied ≡ v.copied
  pub asked : w.asked ≡ x ∷ v.asked
  pub unmarked : MarksNoLine v w

-- the share is to copy the object of the token next
pub record IsWon (p : Setup) (v : Share) (token : Won) : Type 0 where
  pub live : 0 < v.parts
  pub won : v.won ≡ (token.object, steps_at_claim p token.object token.target) ∷ []
  pub target : 0 < hits token.object token.target v.known
  pub shape : IsShapeOf p token

-- k steps of the copying of the object at x were made, from v to w;
pub record Copying (x k : ℕ) (v w : Share) : Type 0 where
  pub keeps : Keeps v w
  pub room : SameRoom v w
  pub gave : w.gave ≡ v.gave
  pub took : w.took ≡ v.took
  pub won : w.won ≡ (x, k) ∷ []
  pub grey : w.grey ≡ v.grey
  pub copied : w.copied ≡ v.copied
  pub asked : w.asked ≡ v.asked
  pub unmarked : MarksNoLine v w

-- the last step was made
pub record Copied (x : ℕ) (v w : Share) : Type 0 where
  pub steps : ℕ
  pub before : Share
  pub copying : Copying x steps v before
  pub after : w ≡ ends_copy x steps before

-- and its token given
pub record Copies (x : ℕ) (v w : Share) : Type 0 where
  pub keeps : Keeps v w
  pub room : SameRoom v w
  pub gave : w.gave ≡ v.gave + 1
  pub took : w.took ≡ v.took
  pub won : w.won ≡ []
  pub grey : w.grey ≡ v.grey
  pub copied : w.copied ≡ x ∷ v.copied
  pub asked : w.asked ≡ v.asked
  pub unmarked : MarksNoLine v w

-- A claim: the object stays as an old one, or is not old and has its target, which is known, or it
-- got its target.
abbrev pub ClaimsFor : Setup → ℕ → ClaimCause → Share → Share → Claim → Type 0
ClaimsFor p x cause v w claims.Old =
    Looks v w × (0 < hits x x w.known) × IsTrue (stays_old p x)
ClaimsFor p x cause v w (claims.Seen t) =
    Looks v w × (0 < hits x t w.known) × (stays_old p x ≡ false)
ClaimsFor p x cause v w (claims.Won won) = Wins p x cause v w won

-- A claim for a root, which asks for an object that has its target.
abbrev pub ClaimsRoot : Setup → ℕ → Share → Share → Claim → Type 0
ClaimsRoot p x v w claims.Old =
    Asks x v w × (0 < hits x x w.known) × IsTrue (stays_old p x)
ClaimsRoot p x v w (claims.Seen t) =
    Asks x v w × (0 < hits x t w.known) × (stays_old p x ≡ false)
ClaimsRoot p x v w (claims.Won won) = Wins p x ByRoot v w won

-- the token is the right to scan an object
pub record IsGrey (t : TraceTable) (g : Grey) : Type 0 where
  pub table : g.seat.table_id ≡ t.row.words.table_id
  pub me : g.seat.me ≡ (scan_token g.object g.target, [])
  pub held : IsHeld (setup_at t).before g.object
  pub size : g.size ≡ size (setup_at t) g.object
  pub refs : g.refs ≡ refs (setup_at t) g.object
  pub start : heap_of (blocks (setup_at t)) ≤ g.target
  pub within : g.target + g.size ≤ row_words (blocks (setup_at t))

-- the token is the right to set a global
pub record IsGlobalRoot (t : TraceTable) (g : GlobalRoot) : Type 0 where
  pub table : g.seat.table_id ≡ t.row.words.table_id
  pub me : g.seat.me ≡ (global_token g.global, [])
  pub below : g.global < GLOBALS

-- From v to w references were followed, and tokens pushed: the objects of those were copied.
pub record Pushes (v w : Share) (before after : List Grey) : Type 0 where
  pub keeps : Keeps v w
  pub pushed : List Grey
  pub out : after ≡ before ++ pushed
  pub gave : w.gave ≡ v.gave + length pushed
  pub many : length w.copied ≡ length v.copied + length pushed
  pub copied : (x : ℕ) → times x w.copied ≡ times x (map (λ g. g.object) pushed) + times x v.copied
  pub targets : All (λ g. 0 < hits g.object g.target w.known) pushed
  pub asked : w.asked ≡ v.asked

-- A reference to the object at r was followed. Its target is t.
pub record Follows (r t : ℕ) (v w : Share) (before after : List Grey) : Type 0 where
  pub pushes : Pushes v w before after
  pub took : w.took ≡ v.took
  pub won : w.won ≡ []
  pub grey : w.grey ≡ v.grey
  pub unmarked : MarksNoLine v w
  pub target : 0 < hits r t w.known

-- the share has nothing to do but to scan the object that was at x from field k on
pub record IsScanning (p : Setup) (x t k : ℕ) (v : Share) : Type 0 where
  pub right : 0 < hits x k v.grey
  pub target : 0 < hits x t v.known
  pub won : v.won ≡ []
  pub unset : v.unset ≡ []
  pub rest : (y j : ℕ) → 0 < hits y j (without (is_pair x k) v.grey) → j ≡ refs p y

-- the share has no object to scan, or scanned, but this one, and those that it had
abbrev pub ScansNoOther : ℕ → Share → Share → Type 0
ScansNoOther x v w = (y k : ℕ) → 0 < hits y k w.grey → (y ≡ x) ⊎ (0 < hits y k v.grey)

-- fields were scanned, n tokens were taken in, and others pushed
pub record Scans (n : ℕ) (v w : Share) (before after : List Grey) : Type 0 where
  pub pushes : Pushes v w before after
  pub took : w.took ≡ v.took + n

-- the share has nothing to do but to set global g
pub record IsSetting (p : Setup) (g : ℕ) (v : Share) : Type 0 where
  pub unset : v.unset ≡ g ∷ []
  pub won : v.won ≡ []
  pub rest : (x k : ℕ) → 0 < hits x k v.grey → k ≡ refs p x

-- Global g was set. What it refers to was followed first.
pub record Sets (g : ℕ) (v w : Share) (before after : List Grey) : Type 0 where
  pub now : Share
  pub scans : Scans 0 v now before after
  pub set : w ≡ sets_global g now
