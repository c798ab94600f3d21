-- Blocks that are evacuated, and those that are Kept.
use Rattle.std.proofs.Common.{◌≡◌, refl, sym, ap, ◌∙◌, subst, inl, inr, ℕ, ◌<◌, Bool, true, false, ◌&&◌, ◌||◌, not, nat_lt, nat_le, IsTrue, List, map, nat_eq, arith}
use Rattle.std.specs.List.{range_with_len}
use Rattle.std.proofs.lemmas.Bool.{and_parts, and_from, or_cases, or_left, true≢false, eq-eqb, ne_eqb, cases_Bool}
use Rattle.std.proofs.lemmas.Option.{unwrap_or-slice_get}
use Rattle.std.proofs.lemmas.List.FromFn.{get_or-map-range_with_len}
use Rattle.heap_layout.specs.Zones.{block_at}
use Rattle.heap_layout.specs.declared.block.Kind.{Kind}
use Rattle.heap_layout.specs.declared.block.Kind.TheVariants as kinds
use Rattle.heap_layout.specs.Blocks.{kind_code}
use Rattle.object_model.specs.declared.collect.Collect.{Collect}
use Rattle.object_model.specs.declared.collect.Collect.TheVariants.{Nursery, Full}
use Rattle.object_model.specs.Objects.{HeapState, has_kind, HasKind, owner_at, IsHeld, is_pinned, size_at}
use Rattle.object_model.specs.Preserving.{may_leave}
use Rattle.object_model.specs.declared.shape.TheConstants.{MAX_MEDIUM_WORDS}
use Rattle.object_model.proofs.OneKind.{one-kind}
use Rattle.object_model.proofs.ObjectReads.{place_of_address}
use Rattle.sessions.specs.Plans as plans
use Rattle.sessions.specs.Plans.{Rules, Plan, rules_of}
use Rattle.sessions.specs.Collecting.{is_evacuated, is_evacuated_by, is_recyclable, is_candidate, marked_in, may_move}
use Rattle.plan_api.specs.Evacuation.{listed}
use Rattle.plan_api.specs.Releasing.{is_kept_kind, is_kept_after}

abbrev is_large : HeapState → ℕ → Bool
is_large s k = has_kind s k kinds.LargeHead || has_kind s k kinds.LargeTail

-- a block of a kind with a number below 6, or Kept, is not large
not-large : (s : HeapState) (k : ℕ) (kind : Kind) → nat_eq (kind_code kind) 6 ≡ false → nat_eq (kind_code kind) 7 ≡ false → HasKind s k kind → IsTrue (is_large s k) → ⊥
not-large s k kind head tail is large = elim (or_cases (has_kind s k kinds.LargeHead) (has_kind s k kinds.LargeTail) large) as (λ _. ⊥) [
  | inl is' ↦ true≢false (sym (eq-eqb _ _ (one-kind s k kind kinds.LargeHead is is')) ∙ head)
  | inr is' ↦ true≢false (sym (eq-eqb _ _ (one-kind s k kind kinds.LargeTail is is')) ∙ tail)
]

three : (s : HeapState) (k : ℕ) (a b : Kind) → nat_eq (kind_code a) 6 ≡ false → nat_eq (kind_code a) 7 ≡ false → nat_eq (kind_code b) 6 ≡ false → nat_eq (kind_code b) 7 ≡ false
    → IsTrue (has_kind s k a || has_kind s k b || has_kind s k kinds.Kept) → IsTrue (is_large s k) → ⊥
three s k a b a6 a7 b6 b7 is large = elim (or_cases (has_kind s k a || has_kind s k b) (has_kind s k kinds.Kept) is) as (λ _. ⊥) [
  | inl either ↦ elim (or_cases (has_kind s k a) (has_kind s k b) either) as (λ _. ⊥) [
    | inl first ↦ not-large s k a a6 a7 first large
    | inr second ↦ not-large s k b b6 b7 second large
  ]
  | inr kept ↦ not-large s k kinds.Kept refl refl kept large
]

recycled : (s : HeapState) (k : ℕ) → IsTrue (is_evacuated (rules_of plans.Immix) Full s k) → IsTrue (is_large s k) → ⊥
recycled s k is large = not-large s k kinds.Immix refl refl (and_parts _ _ (and_parts _ _ (and_parts (is_recyclable s k) _ is).0).0).0 large

pub none-large : (p : Plan) (c : Collect) (s : HeapState) (k : ℕ) → IsTrue (is_evacuated (rules_of p) c s k) → IsTrue (is_large s k) → ⊥
none-large plans.NoGc c s k is large = true≢false (sym is)
none-large plans.MarkSweep c s k is large = true≢false (sym is)
none-large plans.SemiSpace Full s k is large = three s k kinds.Bump kinds.Bump refl refl refl refl is large
none-large plans.SemiSpace Nursery s k is large = true≢false (sym is)
none-large plans.GenCopy Full s k is large = three s k kinds.Young kinds.Mature refl refl refl refl is large
none-large plans.GenCopy Nursery s k is large = not-large s k kinds.Young refl refl is large
none-large plans.Immix Full s k is large = recycled s k is large
none-large plans.Immix Nursery s k is large = true≢false (sym is)
none-large plans.StickyImmix Full s k is large = recycled s k is large
none-large plans.StickyImmix Nursery s k is large = true≢false (sym is)

-- the flag of a block in the list
pub flag-of : (f : ℕ → Bool) (n k : ℕ) → k < n → listed (map f (range_with_len 0 n)) k ≡ f k
flag-of f n k below = unwrap_or-slice_get _ k false ∙ get_or-map-range_with_len f 0 n k k false below (omega arith)

pub listed-moves : (r : Rules) (c : Collect) (s : HeapState) (from : List Bool) (a : ℕ) → from ≡ map (is_evacuated r c s) (range_with_len 0 s.blocks) → IsHeld s a
    → (r.moves && may_leave (listed from) s a) ≡ may_move r c s a
listed-moves r c s from a is there =
    let below : block_at s.blocks a < s.blocks = (place_of_address s.blocks a there.address).0 in
    let flag : listed from (block_at s.blocks a) ≡ is_evacuated r c s (block_at s.blocks a) = ap (λ l. listed l (block_at s.blocks a)) is ∙ flag-of (is_evacuated r c s) s.blocks (block_at s.blocks a) below in
    ap (λ t. r.moves && (t && not (is_pinned s a) && nat_le (size_at s a) MAX_MEDIUM_WORDS)) flag

pub or-right : (a b : Bool) → b ≡ true → (a || b) ≡ true
or-right false b is = is
or-right true b is = refl

pub and-false : (t u : Bool) → u ≡ false → (t && u) ≡ false
and-false true u none = none
and-false false u none = refl

-- a block of a kept kind that is evacuated, without owner
pub kept-if : (r : Rules) (c : Collect) (s : HeapState) (k : ℕ) → IsTrue (is_kept_kind s k) → IsTrue (is_evacuated r c s k) → owner_at s k ≡ 0 → is_kept_after r c s k ≡ true
kept-if r c s k kind from none = and_from (is_kept_kind s k) _ kind (and_from (is_evacuated r c s k) _ from (eq-eqb _ _ none))

-- a block that is not evacuated if it is of a kept kind is none
pub not-kept : (r : Rules) (c : Collect) (s : HeapState) (k : ℕ) → (IsTrue (is_kept_kind s k) → IsTrue (is_evacuated r c s k) → ⊥) → is_kept_after r c s k ≡ false
not-kept r c s k none = elim (cases_Bool (is_kept_after r c s k)) as (λ _. is_kept_after r c s k ≡ false) [
  | inl is ↦ absurd (none (and_parts (is_kept_kind s k) _ is).0 (and_parts (is_evacuated r c s k) _ (and_parts (is_kept_kind s k) _ is).1).0)
  | inr is ↦ is
]

pub kind-kept : (s : HeapState) (k : ℕ) (kind other : Kind) → HasKind s k kind → HasKind s k other → nat_eq (kind_code kind) (kind_code other) ≡ false → ⊥
kind-kept s k kind other is is' differ = true≢false (sym (eq-eqb _ _ (one-kind s k kind other is is')) ∙ differ)

-- a block whose kind has another number than the kept kinds is of none of them
pub other-kind : (s : HeapState) (k : ℕ) (kind : Kind) → nat_eq (kind_code kind) 1 ≡ false → nat_eq (kind_code kind) 2 ≡ false → nat_eq (kind_code kind) 3 ≡ false
    → nat_eq (kind_code kind) 8 ≡ false → HasKind s k kind → IsTrue (is_kept_kind s k) → ⊥
other-kind s k kind not1 not2 not3 not8 is kept = elim (or_cases (has_kind s k kinds.Bump || has_kind s k kinds.Young || has_kind s k kinds.Mature) (has_kind s k kinds.Kept) kept) as (λ _. ⊥) [
  | inl first ↦ elim (or_cases (has_kind s k kinds.Bump || has_kind s k kinds.Young) (has_kind s k kinds.Mature) first) as (λ _. ⊥) [
    | inl second ↦ elim (or_cases (has_kind s k kinds.Bump) (has_kind s k kinds.Young) second) as (λ _. ⊥) [
      | inl bump ↦ kind-kept s k kind kinds.Bump is bump not1
      | inr young ↦ kind-kept s k kind kinds.Young is young not2
    ]
    | inr mature ↦ kind-kept s k kind kinds.Mature is mature not3
  ]
  | inr last ↦ kind-kept s k kind kinds.Kept is last not8
]

pub immix-kept : (s : HeapState) (k : ℕ) → HasKind s k kinds.Immix → IsTrue (is_kept_kind s k) → ⊥
immix-kept s k is = other-kind s k kinds.Immix refl refl refl refl is

-- a candidate is an Immix block
pub candidate-immix : (s : HeapState) (k : ℕ) → IsTrue (is_candidate s k) → HasKind s k kinds.Immix
candidate-immix s k is = (and_parts (has_kind s k kinds.Immix) _ (and_parts (has_kind s k kinds.Immix && nat_lt 0 (marked_in s k)) _ (and_parts (is_recyclable s k) _ is).0).0).0

pub no-candidate : (r : Rules) (c : Collect) (s : HeapState) (k : ℕ) → r.reserve ≡ plans.Headroom → is_kept_after r c s k ≡ false
no-candidate r Full s k holds = not-kept r Full s k (λ kind from. immix-kept s k (candidate-immix s k (subst (λ reserve. IsTrue (is_evacuated_by reserve r Full s k)) holds from)) kind)
no-candidate r Nursery s k holds = not-kept r Nursery s k (λ kind from. true≢false (sym (subst (λ reserve. IsTrue (is_evacuated_by reserve r Nursery s k)) holds from)))

pub none-from : (r : Rules) (c : Collect) (s : HeapState) (k : ℕ) → r.reserve ≡ plans.Nothing → is_kept_after r c s k ≡ false
none-from r c s k holds = not-kept r c s k (λ kind from. true≢false (sym (subst (λ reserve. IsTrue (is_evacuated_by reserve r c s k)) holds from)))

pub bump-kept : (s : HeapState) (k : ℕ) → HasKind s k kinds.Bump → owner_at s k ≡ 0 → is_kept_after (rules_of plans.SemiSpace) Full s k ≡ true
bump-kept s k is none = kept-if (rules_of plans.SemiSpace) Full s k (or_left _ _ (or_left _ _ (or_left _ _ is))) (or_left _ _ (or_left _ _ is)) none

pub kept-kept : (s : HeapState) (k : ℕ) → HasKind s k kinds.Kept → owner_at s k ≡ 0 → is_kept_after (rules_of plans.SemiSpace) Full s k ≡ true
kept-kept s k is none = kept-if (rules_of plans.SemiSpace) Full s k (or-right _ _ is) (or-right _ _ is) none

pub copies-not-kept : (r : Rules) (c : Collect) (s : HeapState) (k : ℕ) → 0 < owner_at s k → is_kept_after r c s k ≡ false
copies-not-kept r c s k some = and-false (is_kept_kind s k) _ (and-false (is_evacuated r c s k) _ (ne_eqb (owner_at s k) 0 (λ none. omega arith)))

pub young-kept : (s : HeapState) (k : ℕ) → HasKind s k kinds.Young → owner_at s k ≡ 0 → is_kept_after (rules_of plans.GenCopy) Nursery s k ≡ true
young-kept s k is none = kept-if (rules_of plans.GenCopy) Nursery s k (or_left _ _ (or_left _ _ (or-right _ _ is))) is none

pub old-not-kept : (s : HeapState) (k : ℕ) → HasKind s k kinds.Mature → is_kept_after (rules_of plans.GenCopy) Nursery s k ≡ false
old-not-kept s k is = not-kept (rules_of plans.GenCopy) Nursery s k (λ kind from. kind-kept s k kinds.Mature kinds.Young is from refl)

pub mature-kept : (s : HeapState) (k : ℕ) → HasKind s k kinds.Mature → owner_at s k ≡ 0 → is_kept_after (rules_of plans.GenCopy) Full s k ≡ true
mature-kept s k is none = kept-if (rules_of plans.GenCopy) Full s k (or_left _ _ (or-right _ _ is)) (or_left _ _ (or-right _ _ is)) none
