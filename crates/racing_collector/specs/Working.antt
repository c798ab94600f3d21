-- What a racing worker does with a packet.
use Rattle.std.specs.Prelude.{◌≡◌, ℕ, ◌+◌, ◌-◌, List, All, length}
use Rattle.object_model.specs.Times.{times, one_if}
use Rattle.trace_core.specs.Setups.{Setup, blocks, held}
use Rattle.trace_table.specs.Seats.{setup_at}
use Rattle.trace_words.specs.declared.share.Share.{Share}
use Rattle.work_packets.specs.declared.packet.Packet.{Packet}
use Rattle.racing_collector.specs.declared.item.RaceItem.{RaceItem}
use Rattle.racing_collector.specs.declared.racing.Racing.{Racing}
use Rattle.racing_collector.specs.declared.served.Served.{Served}
use Rattle.racing_collector.specs.declared.tally.Tally.{Tally}
use Rattle.racing_collector.specs.Accounts.{IsAccounted, places}
use Rattle.racing_collector.specs.Items.{AreScans, IsCut, items_of, registers, tokens}
use Rattle.racing_collector.specs.Together.{total}

-- A worker's share, the roots that it served, and its counts.
pub record Worked : Type 0 where
  pub share : Share
  pub served : List Served
  pub tally : Tally

abbrev pub worked : Share → List Served → Tally → Worked
worked share served tally = record { share = share; served = served; tally = tally }

abbrev pub IsWorked : Racing → Worked → Type 0
IsWorked r w = IsAccounted r w.share w.served w.tally

-- how many objects were held as the trace began, and how many of them the share did not copy
abbrev pub held_count : Setup → ℕ
held_count p = total (blocks p) (λ x. one_if (held p x))

abbrev pub uncopied : Racing → Share → ℕ
uncopied r v = held_count (setup_at r.table) - length v.copied

-- The worker served the items of a packet and pushed these packets.
pub record RunsPacket (r : Racing) (before : Worked) (p : Packet RaceItem)
    (q : List (Packet RaceItem)) (after : Worked) : Type 0 where
  -- it took in the tokens of the packet, and gave those that it pushed
  pub took : after.share.took ≡ before.share.took + tokens p.items.items
  pub gave : after.share.gave ≡ before.share.gave + tokens (items_of q)
  -- each root of the packet has its target now
  pub roots : (i : ℕ) → times i (places after.served)
      ≡ times i (places before.served) + registers i p.items.items
  pub scans : All (AreScans r.table) q
  pub cut : All IsCut q
  pub accounts : IsWorked r before → IsWorked r after
