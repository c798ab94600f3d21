-- Places may go to another thread, and be looked at by several, where what they hold may.
use Rattle.shared_row.proofs.Names.{List, [], ◌∷◌, Bool, true, false, Ty, full_share, Fml, ftrue, Keyless, u64, RattleType, Ptr, block_ptr, null_ptr, block_of, count_of, lies_at, room_for, in_block, ◌+ₚ◌, IsSend, IsSync, Common, part_keyless, sendable, Struct, shape, slots_ptr, slots_len, slots_items, slots_filled, bytes_of, slot, slots, slot_lent, slots_lent, frees, send, sync}
use Rattle.core.specs.contracts.slots.Slots as places
use Rattle.shared_row.specs.contracts.rows.WordRow as plain
use Rattle.shared_row.proofs.Leases.{right_sent, right_shared}

module _ (R : RattleType) where
  within : (p : Ptr) (F : Fml) → Keyless F → Keyless (in_block p F)
  within (block_ptr b o) F k = k
  within null_ptr F k = tt

  room_keyless : (τ : Ty) (p : Ptr) → Keyless (room_for τ p)
  room_keyless τ (block_ptr b o) = tt
  room_keyless τ null_ptr = tt

  module _ (s : IsSend R) where
    lying_keyless : (p : Ptr) (x : R.Denot) → Keyless (lies_at R full_share p x)
    lying_keyless (block_ptr b o) x = part_keyless R s full_share x b o
    lying_keyless null_ptr x = tt

    slot_keyless : (f : Bool) (p : Ptr) (x : R.Denot) → Keyless (slot R f p x)
    slot_keyless true p x = lying_keyless p x
    slot_keyless false p x = room_keyless _ p

    slots_keyless : (p : Ptr) (xs : List R.Denot) (fs : List Bool) → Keyless (slots R p xs fs)
    slots_keyless p [] fs = tt
    slots_keyless p (x ∷ xs) [] = tt
    slots_keyless p (x ∷ xs) (f ∷ fs) = (slot_keyless f p x, slots_keyless (p +ₚ bytes_of R) xs fs)

    places_sent : IsSend (places.the_row R)
    places_sent = let fields : IsSend (Struct (shape (places.the_type R))) = search sendable depth 20 in
        record { owned = λ d vs. (fields.owned (slots_ptr d, (slots_len d, tt)) vs, (tt, within (slots_ptr d) _ (slots_keyless (slots_ptr d) (slots_items d) (slots_filled d)))); leaving = λ k f vs. tt }

  module _ (s : IsSync R) where
    slot_common : (f : Bool) (p : Ptr) (x : R.Denot) → Common (slot_lent R f p x)
    slot_common true p x κ = (within p ftrue tt, s.shared x (block_of p) (count_of p) κ)
    slot_common false p x κ = tt

    slots_common : (p : Ptr) (xs : List R.Denot) (fs : List Bool) → Common (slots_lent R p xs fs)
    slots_common p [] fs κ = tt
    slots_common p (x ∷ xs) [] κ = tt
    slots_common p (x ∷ xs) (f ∷ fs) κ = (slot_common f p x κ, slots_common (p +ₚ bytes_of R) xs fs κ)

    places_shared : IsSync (places.the_row R)
    places_shared = let fields : IsSync (Struct (shape (places.the_type R))) = search sendable depth 20 in
        record { shared = λ d b o κ. (fields.shared (slots_ptr d, (slots_len d, tt)) b o κ, (tt, slots_common (slots_ptr d) (slots_items d) (slots_filled d) κ)) }

pub words_sent : IsSend (places.the_row u64)
words_sent = let numbers : IsSend u64 = search sendable in places_sent u64 numbers

pub words_shared : IsSync (places.the_row u64)
words_shared = let numbers : IsSync u64 = search sendable in places_shared u64 numbers

ruleset parts = (tt, sendable, words_sent, words_shared, right_sent, right_shared, frees, send, sync)

pub row_sent : IsSend plain.the_row
row_sent = let inside : IsSend plain.TheInside.the_row = search parts depth 30 in record { owned = λ d vs x. (inside.owned x.0 vs, tt); leaving = λ k d w. tt }

pub row_shared : IsSync plain.the_row
row_shared = let inside : IsSync plain.TheInside.the_row = search parts depth 30 in record { shared = λ d b o κ x. (inside.shared x.0 b o κ, tt) }
