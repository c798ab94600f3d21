-- Shares of a trace: what they are together, and how one changes, is cut in two, or takes in
-- another.
use Rattle.std.specs.Prelude.{◌≡◌, ℕ, ◌+◌, ◌-◌, nat_eq, List, [], ◌∷◌, ◌++◌}
use Rattle.std.specs.List.{range_with_len}
use Rattle.heap_layout.specs.Zones.{block_start}
use Rattle.heap_layout.specs.declared.layout.TheConstants.{BLOCK_WORDS}
use Rattle.trace_core.specs.Setups.{Setup, blocks, size}
use Rattle.trace_core.specs.Machine.{ClaimCause, ByRoot, ByGlobal, ByField, Event, Claim, Ask, Copy, Scan, SetGlobal}
use Rattle.trace_core.specs.Machine.{MarkLines, TakeBlock}
use Rattle.trace_core.specs.Views.{View, is_pair, without, claimed_view, scanned_view, set_view, asked_view, taken_view}
use Rattle.trace_core.specs.Views.{first_view}
use Rattle.trace_core.specs.declared.run.TraceRun.{TraceRun}
use Rattle.trace_words.specs.declared.event.TraceCause.{TraceCause}
use Rattle.trace_words.specs.declared.event.TraceCause.TheVariants as causes
use Rattle.trace_words.specs.declared.event.TraceEvent.{TraceEvent}
use Rattle.trace_words.specs.declared.event.TraceEvent.TheVariants as events
use Rattle.trace_words.specs.declared.share.Share.{Share}

-- an event of the machine, as shares list it
abbrev pub listed_cause : ClaimCause → TraceCause
listed_cause ByRoot = causes.Root
listed_cause (ByGlobal g) = causes.Global g
listed_cause (ByField y i) = causes.Field y i

abbrev pub listed : Event → TraceEvent
listed (Claim x t cause) = events.Claim x t (listed_cause cause)
listed (Ask x) = events.Ask x
listed (Copy x) = events.Copy x
listed (Scan x) = events.Scan x
listed (SetGlobal g) = events.SetGlobal g
listed (MarkLines x word mask) = events.MarkLines x word mask
listed (TakeBlock b k) = events.TakeBlock b k

-- the part of a share that is a tracer's view
abbrev pub view_of : Share → View
view_of s = record {
  won = s.won;
  grey = s.grey;
  copied = s.copied;
  unset = s.unset;
  set = s.set;
  asked = s.asked;
  known = s.known;
  blocks = s.blocks;
  sparse = s.sparse;
}

abbrev pub with_view : Share → View → Share
with_view s v = record s {
  won = v.won;
  grey = v.grey;
  copied = v.copied;
  unset = v.unset;
  set = v.set;
  asked = v.asked;
  known = v.known;
  blocks = v.blocks;
  sparse = v.sparse;
}

-- the views of all shares are one
abbrev pub no_view : View
no_view = record {
  won = [];
  grey = [];
  copied = [];
  unset = [];
  set = [];
  asked = [];
  known = [];
  blocks = [];
  sparse = [];
}

abbrev pub both_views : View → View → View
both_views v w = record {
  won = v.won ++ w.won;
  grey = v.grey ++ w.grey;
  copied = v.copied ++ w.copied;
  unset = v.unset ++ w.unset;
  set = v.set ++ w.set;
  asked = v.asked ++ w.asked;
  known = v.known ++ w.known;
  blocks = v.blocks ++ w.blocks;
  sparse = v.sparse ++ w.sparse;
}

abbrev pub pooled : List Share → View
pooled [] = no_view
pooled (s ∷ ss) = both_views (view_of s) (pooled ss)

-- the sum of a number over all shares
abbrev pub total : (Share → ℕ) → List Share → ℕ
total f [] = 0
total f (s ∷ ss) = f s + total f ss

-- a share with no right and no part
abbrev pub empty_share : Share
empty_share = record {
  parts = 0;
  token = 0;
  worker = 0;
  numbers = [];
  made = [];
  gave = 0;
  took = 0;
  front = 0;
  limit = 0;
  won = [];
  grey = [];
  copied = [];
  unset = [];
  set = [];
  asked = [];
  known = [];
  blocks = [];
  sparse = [];
  filling = [];
  full = [];
  last = [];
  owned = [];
  lined = [];
  busy = [];
}

-- the share as a trace begins, which has all parts and all rights
abbrev pub first_share : TraceRun → ℕ → Share
first_share run workers = with_view (record empty_share {
  parts = workers + 1;
  numbers = range_with_len 1 workers;
}) (first_view run)

-- a worker's share as it begins, and the tokens of an object to scan and of a global to set
abbrev pub worker_share : ℕ → ℕ → Share
worker_share parts k = record empty_share { parts = parts; worker = k }

abbrev pub scan_token : ℕ → ℕ → Share
scan_token x t = record empty_share { token = 1; grey = (x, 0) ∷ []; known = (x, t) ∷ [] }

abbrev pub global_token : ℕ → Share
global_token g = record empty_share { token = 1; unset = g ∷ [] }

-- what is left of a share of which these were split off
abbrev pub gives_parts : ℕ → ℕ → Share → Share
gives_parts parts k s = record s {
  parts = s.parts - parts;
  numbers = without (nat_eq k) s.numbers;
}

abbrev pub gives_scan : ℕ → Share → Share
gives_scan x s = record s { gave = s.gave + 1; grey = without (is_pair x 0) s.grey }

abbrev pub gives_global : ℕ → Share → Share
gives_global g s = record s { gave = s.gave + 1; unset = without (nat_eq g) s.unset }

-- A share takes in another. The room of the other is given up, and the block that it filled. Its
-- worker's number is not given again.
abbrev pub both_shares : Share → Share → Share
both_shares v w = with_view (record v {
  parts = v.parts + w.parts;
  numbers = v.numbers ++ w.numbers;
  made = v.made ++ w.made;
  gave = v.gave + w.gave;
  took = v.took + w.took + w.token;
  last = v.last ++ (w.filling ++ w.last);
  full = v.full ++ w.full;
  owned = v.owned ++ w.owned;
  lined = v.lined ++ w.lined;
  busy = v.busy ++ w.busy;
}) (both_views (view_of v) (view_of w))

-- A share makes an event, after which its view is v.
abbrev pub makes : Event → View → Share → Share
makes e v s = record (with_view s v) { made = listed e ∷ s.made }

-- The share learns the target of an object;
abbrev pub learns : ℕ → ℕ → Share → Share
learns x t s = with_view s (record (view_of s) { known = (x, t) ∷ s.known })

-- that a block is not Free;
abbrev pub sees_busy : ℕ → Share → Share
sees_busy b s = record s { busy = b ∷ s.busy }

-- it claims an object that stays, or that goes to the front of its room;
abbrev pub claims_here : Setup → ℕ → ClaimCause → Share → Share
claims_here p x cause s = makes (Claim x x cause) (claimed_view p x x cause (view_of s)) s

abbrev pub claims_moved : Setup → ℕ → ClaimCause → Share → Share
claims_moved p x cause s =
    record (makes (Claim x s.front cause) (claimed_view p x s.front cause (view_of s)) s) {
      front = s.front + size p x;
    }

-- it makes step k of the copying of an object, which is not the last one, or the last one;
abbrev pub copies_on : ℕ → ℕ → Share → Share
copies_on x k s = makes (Copy x) (record (view_of s) {
  won = (x, k + 1) ∷ without (is_pair x k) s.won;
}) s

abbrev pub ends_copy : ℕ → ℕ → Share → Share
ends_copy x k s = makes (Copy x) (record (view_of s) {
  won = without (is_pair x k) s.won;
  grey = (x, 0) ∷ s.grey;
  copied = x ∷ s.copied;
}) s

-- it scans field k of an object, sets a global, asks as a root for an object;
abbrev pub scans_field : ℕ → ℕ → Share → Share
scans_field x k s = makes (Scan x) (scanned_view x k (view_of s)) s

abbrev pub sets_global : ℕ → Share → Share
sets_global g s = makes (SetGlobal g) (set_view g (view_of s)) s

abbrev pub asks_for : ℕ → ℕ → Share → Share
asks_for x t s = makes (Ask x) (asked_view x t (view_of s)) s

-- it sets bits of a line word for an object;
abbrev pub sets_lines : ℕ → ℕ → ℕ → Share → Share
sets_lines x word mask s = record s {
  lined = (word, mask) ∷ s.lined;
  made = listed (MarkLines x word mask) ∷ s.made;
}

-- it sees which bits of a line word are set;
abbrev pub sees_lines : ℕ → ℕ → Share → Share
sees_lines word found s = record s { lined = (word, found) ∷ s.lined }

-- it takes block b for its worker. The block's words are the room, and the share leaves the block
-- that it filled, which has more than MAX_MEDIUM_WORDS kept words, or may have few.
abbrev pub fills_next : Setup → ℕ → Share → Share
fills_next p b s = record (makes (TakeBlock b s.worker) (taken_view b (view_of s)) s) {
  front = block_start (blocks p) b;
  limit = block_start (blocks p) b + BLOCK_WORDS;
  filling = b ∷ [];
  owned = (b, s.worker) ∷ s.owned;
}

abbrev pub takes_after_full : Setup → ℕ → Share → Share
takes_after_full p b s = record (fills_next p b s) { full = s.filling ++ s.full }

abbrev pub takes_at_any_time : Setup → ℕ → Share → Share
takes_at_any_time p b s = record (fills_next p b s) { sparse = s.filling ++ s.sparse }

-- parts, tokens and numbers are as they were
pub record SameCounts (v w : Share) : Type 0 where
  pub parts : w.parts ≡ v.parts
  pub token : w.token ≡ v.token
  pub gave : w.gave ≡ v.gave
  pub took : w.took ≡ v.took
  pub worker : w.worker ≡ v.worker
  pub numbers : w.numbers ≡ v.numbers
