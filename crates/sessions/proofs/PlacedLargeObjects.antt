-- A large object is placed: how its allocation in a run of Free blocks changes the heap.
use Rattle.std.proofs.Common.{sym, ◌∙◌, ℕ, ◌+◌, ◌<◌, ◌≤◌, ◌⊎◌, inl, inr, arith, List}
use Rattle.std.proofs.lemmas.Bool.{or_left, or_right}
use Rattle.heap_layout.specs.Zones.{heap_of, block_start}
use Rattle.ideal_heap.specs.declared.name.Name.{Name}
use Rattle.object_model.specs.Objects.{HeapState, with_words, is_pinned, is_unlogged, IsHeld, size_of, blocks_for}
use Rattle.object_model.specs.Lawful.{IsWellFormed}
use Rattle.object_model.specs.Changes.{WritesObject}
use Rattle.object_model.specs.Births.{IsLargeRoom, MakesRun}
use Rattle.object_model.proofs.Births as births
use Rattle.object_model.proofs.Births.{Adds}
use Rattle.object_model.proofs.BornHeaps as born
use Rattle.object_model.proofs.LargeBirths as large
use Rattle.sessions.specs.Sessions.{AddsObject, UsesRun, ChangesBlocks}

module _ (s : HeapState) (w1 w2 : List ℕ) (k : ℕ) (n : Name) (refs nums : ℕ) (order : IsWellFormed s) (room : IsLargeRoom s k n refs nums)
    (makes : MakesRun s (with_words s w1) k (blocks_for (size_of refs nums))) (writes : WritesObject (with_words s w1) (with_words s w2) (block_start s.blocks k) n refs nums) where
  abbrev after : HeapState
  after = with_words s w2

  abbrev a : ℕ
  a = block_start s.blocks k

  run : ℕ
  run = blocks_for (size_of refs nums)

  put : Adds s w2 a n refs nums
  put = large.one_more s w1 w2 k n refs nums order room makes writes

  fresh : IsHeld s a → ⊥
  fresh = births.not-held s w2 a n refs nums put (large.vacant s w1 w2 k n refs nums order room makes writes)

  adds : AddsObject s after a refs nums
  adds = let vacant = large.vacant s w1 w2 k n refs nums order room makes writes in record {
    held = births.held-new s w2 a n refs nums put vacant;
    fresh = fresh;
    others = λ x other. (births.held-after s w2 a n refs nums put vacant x, births.held-before s w2 a n refs nums put vacant x other);
    shape = writes.shape;
    blank = writes.blank;
    unmarked = (
      (λ is. fresh (order.objects.marks a (or_left (is_pinned s a) (is_unlogged s a) (sym (put.pins a) ∙ is)))),
      (λ is. fresh (order.objects.marks a (or_right (is_pinned s a) (is_unlogged s a) (sym (put.unlogs a) ∙ is)))),
    );
    words = λ x i holds less. births.object-word s w2 a n refs nums put vacant x i holds less;
    bits = λ x holds. (put.pins x, put.unlogs x);
  }

  uses : UsesRun s after k (blocks_for (size_of refs nums))
  uses = record {
    head = large.same_words s w1 w2 k n refs nums order room makes writes k (large.there s w1 w2 k n refs nums order room makes writes) ∙ makes.head;
    tails = λ j some less. let inside : k + blocks_for (size_of refs nums) ≤ s.blocks = room.inside in
        large.same_words s w1 w2 k n refs nums order room makes writes (k + j) (omega arith) ∙ makes.tails j some less;
    others = large.other-word s w1 w2 k n refs nums order room makes writes;
  }

  changes : ChangesBlocks s after k (blocks_for (size_of refs nums))
  changes =
      let inside : k + blocks_for (size_of refs nums) ≤ s.blocks = room.inside in
      let more : 2048 < size_of refs nums = room.large in
      let address = large.address s w1 w2 k n refs nums order room makes writes in
      let zone = births.start-in-zone (with_words s w1) w2 a n refs nums writes address in
      record {
        front = λ i before. births.zone-word (with_words s w1) w2 a n refs nums writes address i (omega arith) (λ e. let after = zone.1 in omega arith) ∙ makes.others i (inl (omega arith));
        elsewhere = λ i there away.
            let from : heap_of s.blocks ≤ i = there.from in
            let outside : (i < a) ⊎ (a + size_of refs nums ≤ i) = elim away as (λ _. (i < a) ⊎ (a + size_of refs nums ≤ i)) [ inl before ↦ inl (omega arith) | inr beyond ↦ inr (omega arith) ] in
            writes.others i outside (λ e. let before = zone.0 in omega arith) ∙ makes.others i (inr (omega arith));
      }

-- from heap to heap
module _ (s between new : HeapState) (k refs nums : ℕ) (n : Name) (order : IsWellFormed s) (room : IsLargeRoom s k n refs nums)
    (makes : MakesRun s between k (blocks_for (size_of refs nums))) (writes : WritesObject between new (block_start s.blocks k) n refs nums) where
  makes' : MakesRun s (with_words s between.words) k (blocks_for (size_of refs nums))
  makes' = born.makes-in s between new k refs nums n order room makes writes

  writes' : WritesObject (with_words s between.words) (with_words s new.words) (block_start s.blocks k) n refs nums
  writes' = born.writes-in s between new k refs nums n order room makes writes

  moved : (P : HeapState → Type 0) → P (with_words s new.words) → P new
  moved P = let from = born.from s between new k refs nums n order room makes writes in born.in-layout P s new from.blocks from.number from.base

  pub placed-adds : AddsObject s new (block_start s.blocks k) refs nums
  placed-adds = moved (λ (x : HeapState). AddsObject s x (block_start s.blocks k) refs nums) (adds s between.words new.words k n refs nums order room makes' writes')

  pub placed-uses : UsesRun s new k (blocks_for (size_of refs nums))
  placed-uses = moved (λ (x : HeapState). UsesRun s x k (blocks_for (size_of refs nums))) (uses s between.words new.words k n refs nums order room makes' writes')

  pub placed-changes : ChangesBlocks s new k (blocks_for (size_of refs nums))
  placed-changes = moved (λ (x : HeapState). ChangesBlocks s x k (blocks_for (size_of refs nums))) (changes s between.words new.words k n refs nums order room makes' writes')
