-- A heap with one large object more: it has room for it, and remembers its young objects then.
use Rattle.std.proofs.Common.{◌≡◌, ◌≢◌, refl, sym, subst, subst₂, ℕ, zero, suc, ◌+◌, ◌<◌, ◌≤◌, arith, map, List, [], ◌∷◌, length}
use Rattle.std.specs.Prelude.{Option, Some, None, IfSome, MatchOption, slice_get}
use Rattle.ideal_heap.specs.declared.name.Name.{Name}
use Rattle.ideal_heap.specs.Names.{IsName}
use Rattle.object_model.specs.Objects.{HeapState, HasKind, IsHeld, name_at, shown, size_of, blocks_for}
use Rattle.object_model.specs.Lawful.{IsLawful}
use Rattle.object_model.specs.Ages.{RemembersYoung}
use Rattle.object_model.specs.Births.{IsLargeRoom, MakesRun, WritesLargeObject}
use Rattle.object_model.specs.Changes.{WritesObject}
use Rattle.heap_layout.specs.Zones.{block_start}
use Rattle.heap_layout.specs.declared.layout.Layout.{Layout}
use Rattle.heap_layout.specs.declared.block.Kind.TheVariants as kinds
use Rattle.object_model.proofs.BornHeaps as born
use Rattle.mutator_calls.specs.declared.need.Mutator.{Mutator}
use Rattle.heap_users.specs.Users.{mutator_state}
use Rattle.heap_users.specs.Beginnings.{MayUse}
use Rattle.heap_users.proofs.UserLists.{any-get}
use Rattle.sessions.specs.Fitting.{IsFreeRun}
use Rattle.large_space.specs.FreeRuns.{IsFirstRun, HasNoRun}
use Rattle.sessions.specs.Plans.{GenCopy, rules_of}
use Rattle.sessions.proofs.PlacedLargeObjects as placing
use Rattle.sessions.proofs.CollectedMoments.{remembers-placed}

-- a place where a list has an element is below its length
pub below-length : (ms : List Mutator) (k : ℕ) (u : Mutator) → slice_get ms k ≡ Some u → k < length ms
below-length [] k u is = let wrong : None ≡ Some u = is in cc
below-length (m ∷ ms) zero u is = omega arith
below-length (m ∷ ms) (suc k) u is = let less : k < length ms = below-length ms k u is in omega arith

-- a name with a birth number after those of all mutators is no object's
pub new-name : (s : HeapState) (ms : List Mutator) (n : Name) → MayUse s (map mutator_state ms) → ((k : ℕ) (u : Mutator) → slice_get ms k ≡ Some u → u.births < n.birth)
    → (x : ℕ) → IsHeld s x → name_at s x ≢ n
new-name s ms n users later x holds same =
    let there = any-get (λ m. ((name_at s x).mutator ≡ m.number) × ((name_at s x).birth ≤ m.births)) ms (users.names x holds) in
    let most : (name_at s x).birth ≤ there.1.births = there.3.1 in
    let least : there.1.births < n.birth = later there.0 there.1 there.2 in
    let over : there.1.births < (name_at s x).birth = subst (λ (q : Name). there.1.births < q.birth) (sym same) least in
    omega arith

-- whether blocks are Free does not depend on the collection numbers
pub free-in : (s : HeapState) (words : List ℕ) (l : Layout) (k n : ℕ) → words ≡ s.words → l.blocks ≡ s.blocks → IsFreeRun (shown words l) k n → IsFreeRun s k n
free-in s words l k n same layout run = record {
  inside = subst (λ (b : ℕ). k + n ≤ b) layout run.inside;
  free = λ j less. subst₂ (λ (ws : List ℕ) (b : ℕ). HasKind (record { words = ws; blocks = b; number = 0; base = 0 }) (k + j) kinds.Free) same layout (run.free j less);
}

pub large-room : (s : HeapState) (k count refs nums : ℕ) (n : Name) → IsLawful s → IsFreeRun s k count → count ≡ blocks_for (size_of refs nums) → IsName n → refs ≤ 1024
    → 2048 < nums → nums ≤ 60000 → ((x : ℕ) → IsHeld s x → name_at s x ≢ n) → IsLargeRoom s k n refs nums
large-room s k count refs nums n lawful run is named few_refs large few_nums fresh =
    let run' : IsFreeRun s k (blocks_for (size_of refs nums)) = subst (λ (c : ℕ). IsFreeRun s k c) is run in
    record {
      named = named;
      few_refs = few_refs;
      few_nums = few_nums;
      large = omega arith;
      inside = run'.inside;
      free = run'.free;
      clear = λ j less. lawful.but_lines.free (k + j) (run'.free j less);
      fresh = fresh;
    }

pub first-name : (n : Name) → n.mutator ≡ 1 → 1 ≤ n.birth → n.birth ≤ 1000000 → IsName n
first-name n first born few = record { least = omega arith; most = omega arith; born = born; fits = omega arith }

-- the first run that a search found has room
pub some-room : (s : HeapState) (words : List ℕ) (l : Layout) (count refs nums : ℕ) (n : Name) → IsLawful s → words ≡ s.words → l.blocks ≡ s.blocks
    → count ≡ blocks_for (size_of refs nums) → IsName n → refs ≤ 1024 → 2048 < nums → nums ≤ 60000 → ((x : ℕ) → IsHeld s x → name_at s x ≢ n)
    → (found : Option ℕ) → MatchOption found (HasNoRun (shown words l) count) (λ k. IsFirstRun (shown words l) k count) → IfSome found (λ k. IsLargeRoom s k n refs nums)
some-room s words l count refs nums n lawful same layout counts named few large most fresh None searched = tt
some-room s words l count refs nums n lawful same layout counts named few large most fresh (Some k) searched =
    large-room s k count refs nums n lawful (free-in s words l k count same layout searched.run) counts named few large most fresh

module _ (s new : HeapState) (k refs nums : ℕ) (n : Name) (lawful : IsLawful s) (room : IsLargeRoom s k n refs nums) (writes : WritesLargeObject s new k n refs nums) where
  pub still-remembers : RemembersYoung s → RemembersYoung new
  still-remembers young =
      let from = born.from s writes.between new k refs nums n lawful.but_lines.order room writes.run writes.object in
      remembers-placed (rules_of GenCopy) s new _ refs nums (λ _. young)
      (placing.placed-adds s writes.between new k refs nums n lawful.but_lines.order room writes.run writes.object) from.base refl

-- a run was made and the object written at its start
module _ (s between new : HeapState) (k count a refs nums : ℕ) (n : Name) where
  abbrev pub is-written : count ≡ blocks_for (size_of refs nums) → a ≡ block_start s.blocks k + 0 → MakesRun s between k count → WritesObject between new a n refs nums
      → WritesLargeObject s new k n refs nums
  is-written counts start makes writes = record {
    between = between;
    run = subst (λ (c : ℕ). MakesRun s between k c) counts makes;
    object = subst (λ (x : ℕ). WritesObject between new x n refs nums) (let at = start in omega arith) writes;
  }

  pub is-lawful : IsLawful s → IsLargeRoom s k n refs nums → count ≡ blocks_for (size_of refs nums) → a ≡ block_start s.blocks k + 0 → MakesRun s between k count
      → WritesObject between new a n refs nums → IsLawful new
  is-lawful lawful room counts start makes writes =
      let both = is-written counts start makes writes in
      born.lawful-large s between new k refs nums n lawful.but_lines.order room both.run both.object lawful
