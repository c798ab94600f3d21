-- The owner's end of a deque, and the thieves' tickets.
use Rattle.std.specs.Prelude.{◌≡◌, ℕ, ◌<◌, List, [], ◌∷◌}
use Rattle.crossbeam_deque.specs.Handles.{worker_deque, worker_flavor, worker_port, worker_view, Pass, IsPassOf, view}
use Rattle.crossbeam_deque.specs.declared.handles.Worker.{Worker}
use Rattle.atomic_blocks.specs.Lent.{RowsId}
use Rattle.work_packets.specs.declared.packet.Packet.{Packet}
use Rattle.steal_pool.specs.declared.rule.Hand.{Hand}

module _ {T A P : Type 0} where
  -- it is an owner's end of a deque from which the owner takes what it put last
  abbrev pub IsOwner : Worker (Packet T) A (Hand T) P → Type 0
  IsOwner w = (worker_port w ≡ 0) × (worker_flavor w ≡ 1) × (0 < (worker_view w).parts)

  -- the same deque, with the same parts
  abbrev pub Keeps : Worker (Packet T) A (Hand T) P → Worker (Packet T) A (Hand T) P → Type 0
  Keeps old new = (worker_deque new ≡ worker_deque old) × (worker_port new ≡ worker_port old)
      × (worker_flavor new ≡ worker_flavor old)
      × ((worker_view new).parts ≡ (worker_view old).parts)

  -- what the owner put into the deque, and took from it
  abbrev pub puts : Worker (Packet T) A (Hand T) P → List (Packet T)
  puts w = (worker_view w).put

  abbrev pub takings : Worker (Packet T) A (Hand T) P → List (Packet T)
  takings w = (worker_view w).taken

module _ {T A : Type 0} where
  -- what the thief took
  abbrev pub stolen : Pass (Packet T) (Hand T) A → List (Packet T)
  stolen ticket = (view ticket).taken

  -- a ticket for this deque
  abbrev pub IsTicketFor : RowsId × A → Pass (Packet T) (Hand T) A → Type 0
  IsTicketFor deque ticket = IsPassOf deque ticket × ((view ticket).parts ≡ 1)

  -- tickets for the deques in order, as far as they go
  abbrev pub AreTickets : List (RowsId × A) → List (Pass (Packet T) (Hand T) A) → Type 0
  AreTickets deques [] = Unit {0}
  AreTickets [] (t ∷ ts) = ⊥
  AreTickets (d ∷ ds) (t ∷ ts) = IsTicketFor d t × AreTickets ds ts
