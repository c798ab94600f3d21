-- Tickets for the deques, one after another.
use Rattle.std.proofs.Common.{ℕ, zero, suc, ◌+◌, ◌<◌, ◌≤◌, List, [], ◌∷◌, ◌++◌, length, set, get_or, arith}
use Rattle.atomic_blocks.specs.Lent.{RowsId}
use Rattle.crossbeam_deque.specs.Handles.{Pass}
use Rattle.work_packets.specs.declared.packet.Packet.{Packet}
use Rattle.steal_pool.specs.declared.rule.Hand.{Hand}
use Rattle.steal_pool.specs.Ends.{IsTicketFor, AreTickets}

module _ {T A : Type 0} where
  pub ticket-more : (ds : List (RowsId × A)) (ts : List (Pass (Packet T) (Hand T) A)) (t : Pass (Packet T) (Hand T) A) (d : RowsId × A) → AreTickets ds ts → length ts < length ds → IsTicketFor (get_or ds (length ts) d) t → AreTickets ds (ts ++ t ∷ [])
  ticket-more [] ts t d h lt is = absurd (omega arith)
  ticket-more (d' ∷ ds) [] t d h lt is = (is, tt)
  ticket-more (d' ∷ ds) (t' ∷ ts) t d h lt is = (h.0, ticket-more ds ts t d h.1 (omega arith) is)

  pub ticket-last : (ds : List (RowsId × A)) (ts : List (Pass (Packet T) (Hand T) A)) (t : Pass (Packet T) (Hand T) A) (d : RowsId × A) → AreTickets ds (ts ++ t ∷ []) → AreTickets ds ts × IsTicketFor (get_or ds (length ts) d) t
  ticket-last [] [] t d h = absurd h
  ticket-last [] (t' ∷ ts) t d h = absurd h
  ticket-last (d' ∷ ds) [] t d h = (tt, h.0)
  ticket-last (d' ∷ ds) (t' ∷ ts) t d h = let rest = ticket-last ds ts t d h.1 in ((h.0, rest.0), rest.1)

  pub ticket-at : (ds : List (RowsId × A)) (ts : List (Pass (Packet T) (Hand T) A)) (i : ℕ) (d : RowsId × A) (e : Pass (Packet T) (Hand T) A) → AreTickets ds ts → i < length ts → IsTicketFor (get_or ds i d) (get_or ts i e)
  ticket-at ds [] i d e h lt = absurd (omega arith)
  ticket-at [] (t ∷ ts) i d e h lt = absurd h
  ticket-at (d' ∷ ds) (t ∷ ts) zero d e h lt = h.0
  ticket-at (d' ∷ ds) (t ∷ ts) (suc i) d e h lt = ticket-at ds ts i d e h.1 (omega arith)

  pub ticket-set : (ds : List (RowsId × A)) (ts : List (Pass (Packet T) (Hand T) A)) (i : ℕ) (t : Pass (Packet T) (Hand T) A) (d : RowsId × A) → AreTickets ds ts → i < length ts → IsTicketFor (get_or ds i d) t → AreTickets ds (set ts i t)
  ticket-set ds [] i t d h lt is = absurd (omega arith)
  ticket-set [] (t' ∷ ts) i t d h lt is = absurd h
  ticket-set (d' ∷ ds) (t' ∷ ts) zero t d h lt is = (is, h.1)
  ticket-set (d' ∷ ds) (t' ∷ ts) (suc i) t d h lt is = (h.0, ticket-set ds ts i t d h.1 (omega arith) is)

  pub not-more : (ds : List (RowsId × A)) (ts : List (Pass (Packet T) (Hand T) A)) → AreTickets ds ts → length ts ≤ length ds
  not-more ds [] h = omega arith
  not-more [] (t ∷ ts) h = absurd h
  not-more (d ∷ ds) (t ∷ ts) h = let rest = not-more ds ts h.1 in omega arith
