-- A walk over the reachable objects: what it has visited so far.
use Rattle.std.specs.Prelude.{◌≡◌, ◌≢◌, ℕ, ◌<◌, Bool, List, ◌++◌, nat_eq, slice_index, IsTrue}
use Rattle.std.specs.List.{All, IsDistinct, list_any}
use Rattle.heap_layout.specs.Zones.{IsAddress}
use Rattle.heap_graph.specs.declared.walk.Walk.{Walk}
use Rattle.heap_graph.specs.AddressSets.{has_address}
use Rattle.object_model.specs.Objects.{HeapState, IsHeld, refs_at, ref_at}
use Rattle.object_model.specs.Graphs.{IsReachable}

-- the addresses that the walk has visited, in order
abbrev pub met : Walk → List ℕ
met w = w.addresses.items

abbrev pub is_among : List ℕ → ℕ → Bool
is_among xs a = list_any (nat_eq a) xs

-- The objects are held and different, and the set has their addresses and no others.
pub record IsWalk (s : HeapState) (w : Walk) : Type 0 where
  pub blocks : w.visited.layout.blocks ≡ s.blocks
  pub visited : (a : ℕ) → IsAddress s.blocks a → has_address w.visited a ≡ is_among (met w) a
  pub held : All (IsHeld s) (met w)
  pub apart : IsDistinct nat_eq (met w)

-- Addresses are appended, each of them one of f 0 to f (n - 1) and not nil. Of f 0 to f (n - 1),
-- all but nil are in the new list.
pub record Adds (f : ℕ → ℕ) (n : ℕ) (old new : List ℕ) : Type 0 where
  pub more : List ℕ
  pub is : new ≡ old ++ more
  pub only : All (λ a. (i : ℕ) × (i < n) × (f i ≡ a) × (a ≢ 0)) more
  pub there : (i : ℕ) → i < n → f i ≢ 0 → IsTrue (is_among new (f i))

-- each object that the one at a refers to is in the list
abbrev pub HasFields : HeapState → List ℕ → ℕ → Type 0
HasFields s xs a = (i : ℕ) → i < refs_at s a → ref_at s a i ≢ 0
    → IsTrue (is_among xs (ref_at s a i))

-- Addresses that fields lead to are added, at least all that the fields of the first n objects of
-- the new list hold.
pub record ClosesFields (s : HeapState) (n : ℕ) (old new : List ℕ) : Type 0 where
  pub kept : (a : ℕ) → IsTrue (is_among old a) → IsTrue (is_among new a)
  pub closed : (k : ℕ) → k < n → HasFields s new (slice_index new k)
  pub reached : (roots : List ℕ) → All (IsReachable s roots) old → All (IsReachable s roots) new
