-- Workers with their deques and their tickets.
use Rattle.std.specs.Prelude.{◌≡◌, ℕ, ◌+◌, List, [], ◌∷◌, ◌++◌, All, length, map}
use Rattle.std.specs.List.{flat_map}
use Rattle.std.specs.declared.alloc.Global.{Global}
use Rattle.atomic_blocks.specs.Lent.{RowsId}
use Rattle.crossbeam_deque.specs.Handles.{worker_deque, worker_view}
use Rattle.crossbeam_utils.specs.Padded.{padded_value}
use Rattle.work_packets.specs.declared.packet.Packet.{Packet}
use Rattle.work_packets.specs.declared.packet.Bucket.{Bucket}
use Rattle.work_packets.specs.declared.share.Share.{Share}
use Rattle.steal_pool.specs.declared.desk.Desk.{Desk}
use Rattle.steal_pool.specs.declared.seats.Seat.{Seat}
use Rattle.steal_pool.specs.Ends.{IsOwner, Keeps, AreTickets, puts, takings, stolen}
use Rattle.steal_pool.specs.Served.{IsServed, IsFitting, AwaitsAny}

-- what no exchange of tickets changes
pub record Account (T W : Type 0) : Type 0 where
  pub worker : W
  pub deque : RowsId × Global
  pub put : List (Packet T)
  pub backlog : List (Packet T)
  pub later : List (Packet T)

module _ {T W K : Type 0} where
  abbrev pub desk_of : Seat T W K → Desk T W K
  desk_of s = padded_value s.desk

  abbrev pub account : Seat T W K → Account T W
  account s = record {
    worker = (desk_of s).worker;
    deque = worker_deque (desk_of s).own;
    put = puts (desk_of s).own;
    backlog = (desk_of s).backlog.items;
    later = (desk_of s).later.items;
  }

  abbrev pub deques : List (Seat T W K) → List (RowsId × Global)
  deques seats = map (λ s. worker_deque (desk_of s).own) seats

  -- what the worker took, from its deque and from others
  abbrev pub got_by : Seat T W K → List (Packet T)
  got_by s = takings (desk_of s).own ++ flat_map stolen s.tickets.items

  -- the owner of its deque, with so many parts
  abbrev pub HasParts : ℕ → Seat T W K → Type 0
  HasParts n s = IsOwner (desk_of s).own × ((worker_view (desk_of s).own).parts ≡ n)

  -- a ticket for each deque
  abbrev pub HasTickets : List (RowsId × Global) → Seat T W K → Type 0
  HasTickets ds s = AreTickets ds s.tickets.items × (length s.tickets.items ≡ length ds)

module _ {T W H : Type 0} (home : W → H) (takes : H → Packet T → Type 0)
    (steps : W → Packet T → List (Packet T) → W → Type 0) (b : Bucket) where
  -- its packets were put into its deque, or refused
  abbrev pub HasBegun : Share T W → Account T W → Type 0
  HasBegun share a = (a.worker ≡ share.worker)
      × IsServed home takes steps b share.worker share.packets.items
      a.worker a.put [] a.backlog a.later

module _ {T W K H : Type 0} (home : W → H) (takes : H → Packet T → Type 0)
    (steps : W → Packet T → List (Packet T) → W → Type 0) (b : Bucket) where
  -- the worker went on from the first seat to the second, and has run all that it had
  pub record GoesOnTo (old new : Seat T W K) : Type 0 where
    pub keeps : Keeps (desk_of old).own (desk_of new).own
    pub same_home : home (desk_of new).worker ≡ home (desk_of old).worker
    pub none : (desk_of new).backlog.items ≡ []
    -- whatever was dealt to it
    pub served : (w : W) (first : List (Packet T))
        → IsServed home takes steps b w first (desk_of old).worker
        (puts (desk_of old).own) (got_by old) (desk_of old).backlog.items (desk_of old).later.items
        → IsServed home takes steps b w first (desk_of new).worker
        (puts (desk_of new).own) (got_by new) [] (desk_of new).later.items

module _ {T W K H S : Type 0} (fits : Packet T → Type 0) (b : Bucket) (home : W → H)
    (takes : H → Packet T → Type 0) (awaits : S → W → List (Packet T) → Type 0)
    (ds : List (RowsId × Global)) where
  -- the worker can run its packets and those of the deques
  pub record IsServable (seat : Seat T W K) : Type 0 where
    pub owner : IsOwner (desk_of seat).own
    pub fitting : IsFitting fits b takes (home (desk_of seat).worker)
    pub fit : All fits (desk_of seat).backlog.items
    pub awaited : AwaitsAny awaits
    pub tickets : HasTickets ds seat
