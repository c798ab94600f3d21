-- What the workers of a trace have done together.
use Rattle.std.specs.Prelude.{◌≡◌, ℕ, ◌+◌, ◌<◌, true, List, [], All, length}
use Rattle.object_model.specs.Times.{times}
use Rattle.trace_words.specs.Shares.{total}
use Rattle.trace_words.specs.declared.share.Share.{Share}
use Rattle.trace_table.specs.Ends.{joined, left_share, shares_of}
use Rattle.trace_table.specs.Seats.{setup_at}
use Rattle.work_packets.specs.declared.packet.Packet.{Packet}
use Rattle.racing_collector.specs.declared.item.RaceItem.{RaceItem}
use Rattle.racing_collector.specs.declared.raced.Raced.{Raced}
use Rattle.racing_collector.specs.declared.racing.Racing.{Racing}
use Rattle.racing_collector.specs.Accounts.{Accounts, IsAccounted, IsRacer, places}
use Rattle.racing_collector.specs.Items.{items_of, registers, tokens}

-- The workers served these packets of roots, and all that they pushed.
pub record HasRaced (r : Racing) (first : List (Packet RaceItem)) (raced : Raced) : Type 0 where
  pub seats : All (IsRacer r) raced.seats.items
  pub count : length raced.seats.items ≡ (setup_at r.table).workers
  -- they took in the tokens of the roots, and all that they gave
  pub tokens : total (λ v. v.gave) (shares_of raced.seats.items) + tokens (items_of first)
      ≡ total (λ v. v.took) (shares_of raced.seats.items)
  -- each root was served as often as it is an item of the packets
  pub roots : (i : ℕ) → times i (places raced.served.items) ≡ registers i (items_of first)
  -- with a share that did nothing they account for all of it
  pub accounts : (v : Share) → Accounts r v [] []
      → IsAccounted r (joined (shares_of raced.seats.items) v) raced.served.items raced.tally

-- All tokens of globals and of logged objects are in these packets, and each root is once.
pub record HoldAll (r : Racing) (first : List (Packet RaceItem)) : Type 0 where
  pub left : r.table.keeper.me ≡ (left_share r.table, [])
  pub globals : r.table.globals_taken ≡ true
  pub logged : r.table.logged_taken ≡ true
  pub tokens : tokens (items_of first) ≡ (left_share r.table).gave
  pub roots : (i : ℕ) → i < length r.roots.items → registers i (items_of first) ≡ 1
