-- Flags of blocks cover the logged objects: of a new list, after more flags were set, and while objects stay.
use Rattle.std.proofs.Common.{◌≡◌, refl, sym, ◌∙◌, ap, subst, ℕ, ◌+◌, ◌/◌, ◌^◌, ◌<◌, ◌≤◌, ◌⊎◌, inl, inr, arith, ◌&&◌, not, Bool, true, false, IsTrue, List, length, replicate, nat_lt, nat_le}
use Rattle.std.specs.Prelude.{Some, slice_get, slice_set}
use Rattle.std.proofs.lemmas.Bool.{cases_eq, and_parts, and_from, ltb-true, leb-true}
use Rattle.std.proofs.lemmas.List.{length-replicate, length-set}
use Rattle.heap_layout.specs.Zones.{heap_of, row_words, block_at}
use Rattle.ideal_heap.specs.declared.name.Name.{Name}
use Rattle.object_model.specs.Objects.{HeapState, with_words, word_at, is_start, is_unlogged, IsHeld, size_at}
use Rattle.object_model.specs.Ages.{is_old, is_logged}
use Rattle.object_model.specs.Births.{IsVacant}
use Rattle.object_model.proofs.Births as births
use Rattle.object_model.proofs.Births.{Adds}
use Rattle.object_model.proofs.Marks as marks
use Rattle.sessions.specs.Plans.{Rules}
use Rattle.sessions.specs.Collecting.{is_logged_under}
use Rattle.sessions.specs.Sessions.{AddsObject}
use Rattle.write_barrier.specs.Listed.{CoverLogged}
use Rattle.block_regions.specs.Notes.{FlagsCover, NoneIsLogged, PlacesInBlock}
use Rattle.block_regions.proofs.Elements.{set-here, set-other}
use Rattle.block_regions.proofs.Lists.{get-some, get-below, get-copy}

-- the object is held, old and logged
pub record WasLogged (s : HeapState) (a : ℕ) : Type 0 where
  pub held : IsHeld s a
  pub old : IsTrue (is_old s a)
  pub clear : is_unlogged s a ≡ false

not-true : (b : Bool) → not b ≡ true → b ≡ false
not-true true is = let wrong : false ≡ true = is in cc
not-true false is = refl

logged-parts : (r : Rules) (s : HeapState) (a : ℕ) → IsTrue (is_logged_under r s a) → IsTrue r.young × WasLogged s a
logged-parts r s a logged =
    let all = and_parts r.young (is_start s a && is_old s a && not (is_unlogged s a)) logged in
    let most = and_parts (is_start s a && is_old s a) (not (is_unlogged s a)) all.1 in
    let both = and_parts (is_start s a) (is_old s a) most.0 in
    (all.0, record { held = marks.held s a both.0; old = both.1; clear = not-true (is_unlogged s a) most.1 })

logged-from : (r : Rules) (s : HeapState) (a : ℕ) → IsTrue r.young → WasLogged s a → IsTrue (is_logged_under r s a)
logged-from r s a young is = and_from r.young (is_logged s a) young
    (and_from (is_start s a && is_old s a) (not (is_unlogged s a)) (and_from (is_start s a) (is_old s a) is.held.start is.old) (ap not is.clear))

-- each logged object was logged, or its block is flagged
pub covers-after : (r : Rules) (s t : HeapState) (flags : List Bool) → t.blocks ≡ s.blocks
    → ((a : ℕ) → WasLogged t a → WasLogged s a ⊎ (slice_get flags (block_at s.blocks a) ≡ Some true)) → FlagsCover r s flags → FlagsCover r t flags
covers-after r s t flags blocks before cover = record {
  len = cover.len ∙ sym blocks;
  each = λ a logged.
      let parts = logged-parts r t a logged in
      ap (λ n. slice_get flags (block_at n a)) blocks ∙ (elim (before a parts.1) as (λ _. slice_get flags (block_at s.blocks a) ≡ Some true) [
        | inl was ↦ cover.each a (logged-from r s a parts.0 was)
        | inr flagged ↦ flagged
      ]);
}

pub covers-kept : (r : Rules) (s t : HeapState) (flags : List Bool) → t.blocks ≡ s.blocks → ((a : ℕ) → WasLogged t a → WasLogged s a)
    → FlagsCover r s flags → FlagsCover r t flags
covers-kept r s t flags blocks before = covers-after r s t flags blocks (λ a is. inl (before a is))

-- the rules count by whether the plan has young objects
pub covers-young : (r q : Rules) (s : HeapState) (flags : List Bool) → q.young ≡ r.young → FlagsCover r s flags → FlagsCover q s flags
covers-young r q s flags same cover = record {
  len = cover.len;
  each = λ a logged. cover.each a (subst (λ b. IsTrue (b && is_logged s a)) same logged);
}

-- under rules with young objects every logged object counts
pub covers-logged : (r : Rules) (s : HeapState) (flags : List Bool) → FlagsCover r s flags → IsTrue r.young → CoverLogged s flags
covers-logged r s flags cover young = record { len = cover.len; each = λ a logged. cover.each a (and_from r.young (is_logged s a) young logged) }

-- one more flag
pub covers-set : (r : Rules) (s : HeapState) (flags : List Bool) (k : ℕ) → FlagsCover r s flags → FlagsCover r s (slice_set flags k true)
covers-set r s flags k cover = record {
  len = length-set flags k true ∙ cover.len;
  each = λ a logged.
      let is = cover.each a logged in
      let n = block_at s.blocks a in
      elim (cases_eq n k) as (λ _. slice_get (slice_set flags k true) n ≡ Some true) [
        | inl here ↦ subst (λ q. slice_get (slice_set flags q true) n ≡ Some true) here (set-here flags n true (get-below flags n true is))
        | inr other ↦ set-other flags k true n other ∙ is
      ];
}

-- all flags are set
pub covers-all : (r : Rules) (s : HeapState) → FlagsCover r s (replicate s.blocks true)
covers-all r s = record {
  len = length-replicate s.blocks true;
  each = λ a logged.
      let held = (logged-parts r s a logged).1.held in
      let from : heap_of s.blocks ≤ a = held.address.from in
      let below : a < row_words s.blocks = held.address.below in
      let inside : block_at s.blocks a < length (replicate s.blocks true) = (let many = length-replicate s.blocks true in omega arith) in
      let some = get-some (replicate s.blocks true) (block_at s.blocks a) inside in
      some.1 ∙ ap (λ b. Some b) (get-copy s.blocks true some.0 (block_at s.blocks a) some.1);
}

-- none is set
pub covers-none : (r : Rules) (s : HeapState) → NoneIsLogged r s → FlagsCover r s (replicate s.blocks false)
covers-none r s none = record { len = length-replicate s.blocks false; each = λ a logged. absurd (none a logged) }

-- a new object is young
new-young : (t : HeapState) (a : ℕ) → word_at t (a + 2) ≡ 0 → IsTrue (is_old t a) → ⊥
new-young t a blank aged =
    let both = and_parts (nat_lt 0 t.base) (nat_le t.base (word_at t (a + 2) / 2 ^ 24)) aged in
    let some : 0 < t.base = ltb-true 0 t.base both.0 in
    let least : t.base ≤ word_at t (a + 2) / 2 ^ 24 = leb-true t.base (word_at t (a + 2) / 2 ^ 24) both.1 in
    omega arith

-- so it is not logged
pub covers-placed : (r : Rules) (s t : HeapState) (flags : List Bool) (a refs nums : ℕ) → t.blocks ≡ s.blocks → t.base ≡ s.base → AddsObject s t a refs nums
    → FlagsCover r s flags → FlagsCover r t flags
covers-placed r s t flags a refs nums blocks base adds = covers-kept r s t flags blocks (λ x is. elim (cases_eq x a) as (λ _. WasLogged s x) [
  | inl here ↦ absurd (new-young t a (adds.blank 2 (omega arith) (omega arith)) (subst (λ q. IsTrue (is_old t q)) here is.old))
  | inr other ↦ (
      let was : IsHeld s x = (adds.others x other).1 is.held in
      let word : word_at t (x + 2) ≡ word_at s (x + 2) = adds.words x 2 was (omega arith) in
      record {
        held = was;
        old = ap (λ b. nat_lt 0 b && nat_le b (word_at s (x + 2) / 2 ^ 24)) (sym base) ∙ ap (λ v. nat_lt 0 t.base && nat_le t.base (v / 2 ^ 24)) (sym word) ∙ is.old;
        clear = sym (adds.bits x was).1 ∙ is.clear;
      })
])

pub covers-new : (r : Rules) (s : HeapState) (w : List ℕ) (a : ℕ) (n : Name) (refs nums : ℕ) → Adds s w a n refs nums → IsVacant s a n refs nums → (flags : List Bool)
    → FlagsCover r s flags → FlagsCover r (with_words s w) flags
covers-new r s w a n refs nums adds vacant flags = covers-kept r s (with_words s w) flags refl (λ x is.
    elim (births.held-cases s w a n refs nums adds vacant x is.held) as (λ _. WasLogged s x) [
      | inl here ↦ absurd (new-young (with_words s w) a (adds.blank 2 (omega arith) (omega arith)) (subst (λ q. IsTrue (is_old (with_words s w) q)) here is.old))
      | inr was ↦ record {
        held = was;
        old = ap (λ v. nat_lt 0 s.base && nat_le s.base (v / 2 ^ 24)) (sym (births.object-word s w a n refs nums adds vacant x 2 was (omega arith))) ∙ is.old;
        clear = sym (adds.unlogs x) ∙ is.clear;
      }
    ])

pub covers-in-block : (r : Rules) (s t : HeapState) (flags : List Bool) (a refs nums block : ℕ) (was_free : Bool) → FlagsCover r s flags
    → PlacesInBlock r s t a refs nums block was_free → FlagsCover r t flags
covers-in-block r s t flags a refs nums block was_free cover placed = covers-placed r s t flags a refs nums placed.layout.0 placed.layout.2 placed.object cover
