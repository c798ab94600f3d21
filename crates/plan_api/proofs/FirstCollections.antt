-- Which collection comes first, by the blocks with young objects.
use Rattle.std.proofs.Common.{◌≡◌, sym, ◌∙◌, ap, refl, ℕ, ◌+◌, ◌*◌, ◌<◌, ◌≤◌, Bool, true, false, ◌&&◌, nat_lt, nat_le}
use Rattle.std.specs.Prelude.{not, if◌then◌else◌}
use Rattle.std.specs.List.{range_with_len, list_any}
use Rattle.std.proofs.lemmas.Bool.{and_from, and_left, and_right, lt-ltb, le-leb, lt-leb}
use Rattle.heap_layout.specs.declared.block.Kind.TheVariants as kinds
use Rattle.heap_layout.specs.Zones.{block_start}
use Rattle.object_model.specs.declared.collect.Collect.{Collect}
use Rattle.object_model.specs.declared.collect.Collect.TheVariants.{Nursery, Full}
use Rattle.object_model.specs.Objects.{HeapState, has_kind, is_start, is_unlogged, block_count}
use Rattle.object_model.specs.Ages.{is_old, RemembersYoung}
use Rattle.object_model.proofs.LawfulTests.{held-at}
use Rattle.sessions.specs.Plans.{Rules}
use Rattle.sessions.specs.Fitting.{used_of}
use Rattle.sessions.specs.Collecting.{first_collection, has_young, is_old_under}
use Rattle.plan_api.specs.Ages.{is_young, begins_young}

-- a block that counts for the quarter
abbrev pub is_counted : HeapState → ℕ → Bool
is_counted s k = begins_young s k && not (has_kind s k kinds.LargeHead)

abbrev is_first_young : Bool → HeapState → (ℕ → Bool) → Bool
is_first_young young s has = young && nat_lt 0 s.base && list_any has (range_with_len 0 s.blocks)
    && nat_le (used_of s) (4 * block_count s (λ k. has k && not (has_kind s k kinds.LargeHead)))

abbrev first_by : Bool → Collect
first_by nursery = if nursery then Nursery else Full

-- an unlog bit is set only at an old object, so that the bit of a young one is clear
both : (start unlogged old : Bool) → (start ≡ true → unlogged ≡ true → old ≡ true) → (start && not old) ≡ (start && not unlogged && not old)
both true true old marked = ap not (marked refl refl)
both true false old marked = refl
both false unlogged old marked = refl

module _ (r : Rules) (s : HeapState) (young : r.young ≡ true) (remembers : RemembersYoung s) where
  same-age : (a : ℕ) → (is_start s a && not (is_old_under r s a)) ≡ is_young s a
  same-age a =
      ap (λ y. is_start s a && not (y && is_old s a)) young ∙ both (is_start s a) (is_unlogged s a) (is_old s a) (λ begins set. remembers.marked a (held-at s a begins) set)

  same-blocks : has_young r s ≡ begins_young s
  same-blocks =
      let each : (λ (k w : ℕ). is_start s (block_start s.blocks k + w) && not (is_old_under r s (block_start s.blocks k + w))) ≡ (λ (k w : ℕ). is_young s (block_start s.blocks k + w)) =
      λ i k w. same-age (block_start s.blocks k + w) i in
      let test : (ℕ → ℕ → Bool) → ℕ → Bool = λ p k. list_any (p k) (range_with_len 0 4096) in
      ap test each

  same-first : first_collection r s ≡ first_by (is_first_young true s (begins_young s))
  same-first = ap (λ y. first_by (is_first_young y s (has_young r s))) young ∙ ap (λ has. first_by (is_first_young true s has)) same-blocks

  -- no full collection was made
  pub first-of-all : s.base ≡ 0 → Full ≡ first_collection r s
  first-of-all none = sym (same-first ∙ ap first_by (and_left (nat_lt 0 s.base && list_any (begins_young s) (range_with_len 0 s.blocks)) _ (and_left (nat_lt 0 s.base) _ (ap (nat_lt 0) none))))

  -- no object is young
  pub none-young : list_any (begins_young s) (range_with_len 0 s.blocks) ≡ false → Full ≡ first_collection r s
  none-young none = sym (same-first ∙ ap first_by (and_left (nat_lt 0 s.base && list_any (begins_young s) (range_with_len 0 s.blocks)) _ (and_right (nat_lt 0 s.base) _ none)))

  -- fewer than a quarter of the used blocks have young objects
  pub few-young : 4 * block_count s (is_counted s) < used_of s → Full ≡ first_collection r s
  few-young few = sym (same-first ∙ ap first_by (and_right (nat_lt 0 s.base && list_any (begins_young s) (range_with_len 0 s.blocks)) _ (lt-leb (used_of s) (4 * block_count s (is_counted s)) few)))

  pub many-young : 0 < s.base → list_any (begins_young s) (range_with_len 0 s.blocks) ≡ true → used_of s ≤ 4 * block_count s (is_counted s) → Nursery ≡ first_collection r s
  many-young base some many = sym (same-first ∙ ap first_by (and_from (nat_lt 0 s.base && list_any (begins_young s) (range_with_len 0 s.blocks)) _
      (and_from (nat_lt 0 s.base) _ (lt-ltb 0 s.base base) some) (le-leb (used_of s) (4 * block_count s (is_counted s)) many)))
