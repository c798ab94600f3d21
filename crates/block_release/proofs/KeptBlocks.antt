-- The block word after a release depends on the block's own word alone.
use Rattle.std.proofs.Common.{◌≡◌, sym, ◌∙◌, ap, ap₂, refl, ℕ, ◌/◌, ◌%◌, inl, inr, Bool, true, false, true≢false, ◌&&◌, ◌||◌, IsTrue, nat_eq, nat_lt, if◌then◌else◌}
use Rattle.std.proofs.lemmas.Bool.{cases_Bool, and_parts, and_left}
use Rattle.heap_layout.specs.declared.block.Kind.{Kind}
use Rattle.heap_layout.specs.declared.block.Kind.TheVariants as kinds
use Rattle.heap_layout.specs.Blocks.{kind_code}
use Rattle.object_model.specs.declared.collect.Collect.{Collect}
use Rattle.object_model.specs.declared.collect.Collect.TheVariants.{Full, Nursery}
use Rattle.object_model.specs.Objects.{HeapState, block_word, has_kind, HasKind}
use Rattle.object_model.proofs.OneKind.{kind-code}
use Rattle.sessions.specs.Plans.{Rules, Reserve, Nothing, Copies, Headroom}
use Rattle.sessions.specs.Collecting.{is_copied_out, is_candidate, is_recyclable, marked_in, is_evacuated_by}
use Rattle.plan_api.specs.Releasing.{is_kept_kind, is_kept_after, word_after}

-- the test by whether the block is one of the heap's, and the code of its kind
abbrev is_kept_code : Bool → ℕ → Bool
is_kept_code there code = (there && nat_eq code 1) || (there && nat_eq code 2) || (there && nat_eq code 3) || (there && nat_eq code 8)

-- an Immix block is not of such a kind, and no other block is a candidate
pub immix-not-kept : (s : HeapState) (k : ℕ) → HasKind s k kinds.Immix → is_kept_kind s k ≡ false
immix-not-kept s k immix = ap (λ t. is_kept_code t (block_word s k % 256)) (and_parts (nat_lt k s.blocks) _ immix).0 ∙ ap (is_kept_code true) (kind-code s k kinds.Immix immix)

no-candidate : (s : HeapState) (k : ℕ) → IsTrue (is_kept_kind s k) → is_candidate s k ≡ false
no-candidate s k kept = elim (cases_Bool (has_kind s k kinds.Immix)) as (λ _. is_candidate s k ≡ false) [
  | inl immix ↦ absurd (true≢false (sym kept ∙ immix-not-kept s k immix))
  | inr other ↦ and_left (is_recyclable s k) _ (and_left (has_kind s k kinds.Immix && nat_lt 0 (marked_in s k)) _ (and_left (has_kind s k kinds.Immix) _ other))
]

module _ (r : Rules) (s t : HeapState) (k : ℕ) (blocks : t.blocks ≡ s.blocks) (word : block_word t k ≡ block_word s k) where
  kind-same : (kind : Kind) → has_kind t k kind ≡ has_kind s k kind
  kind-same kind = ap₂ (λ b w. nat_lt k b && nat_eq (w % 256) (kind_code kind)) blocks word

  pub kept_kind-same : is_kept_kind t k ≡ is_kept_kind s k
  kept_kind-same = ap₂ (λ b w. is_kept_code (nat_lt k b) (w % 256)) blocks word

  copied-same : (c : Collect) → is_copied_out r c t k ≡ is_copied_out r c s k
  copied-same Full = ap₂ (λ x y. x || y) (ap₂ (λ x y. x || y) (kind-same r.fill) (kind-same r.copy)) (kind-same kinds.Kept)
  copied-same Nursery = ap (λ filled. r.young && filled) (kind-same r.fill)

  pub evacuated-same : (reserve : Reserve) (c : Collect) → IsTrue (is_kept_kind s k) → is_evacuated_by reserve r c t k ≡ is_evacuated_by reserve r c s k
  evacuated-same Nothing c kept = refl
  evacuated-same Copies c kept = copied-same c
  evacuated-same Headroom Full kept = no-candidate t k (kept_kind-same ∙ kept) ∙ sym (no-candidate s k kept)
  evacuated-same Headroom Nursery kept = refl

  kept-same : (c : Collect) → is_kept_after r c t k ≡ is_kept_after r c s k
  kept-same c = elim (cases_Bool (is_kept_kind s k)) as (λ _. is_kept_after r c t k ≡ is_kept_after r c s k) [
    | inl kept ↦ ap₂ (λ x y. x && y) kept_kind-same (ap₂ (λ evacuated w. evacuated && nat_eq (w / 65536) 0) (evacuated-same r.reserve c kept) word)
    | inr other ↦ and_left (is_kept_kind t k) _ (kept_kind-same ∙ other) ∙ sym (and_left (is_kept_kind s k) _ other)
  ]

  pub after-same : (c : Collect) → word_after r c t k ≡ word_after r c s k
  after-same c = ap₂ (λ kept w. if kept then kind_code kinds.Kept else w % 65536) (kept-same c) word
