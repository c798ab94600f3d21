-- What fits on the empty heap.
use Rattle.std.proofs.Common.{◌≡◌, refl, sym, ◌∙◌, ap, subst, ℕ, suc, ◌+◌, ◌%◌, ◌<◌, ◌≤◌, inl, inr, arith, Bool, true, ◌||◌, IsTrue, List, [], ◌∷◌, length, slice_index, zero-add}
use Rattle.std.specs.Prelude.{MatchBool, count_by}
use Rattle.std.specs.List.{range_with_len}
use Rattle.std.proofs.lemmas.Bool.{le-leb, or_cases, false_from_ne_true}
use Rattle.std.proofs.lemmas.List.FromFn.{get_or-range_with_len, length-range_with_len}
use Rattle.heap_layout.specs.Blocks.{kind_code}
use Rattle.heap_layout.specs.declared.block.Kind.TheVariants as kinds
use Rattle.object_model.specs.Objects.{HeapState, empty_heap, block_word, has_kind, HasKind, size_of, blocks_for}
use Rattle.object_model.proofs.OneKind.{kind-code, kind-from}
use Rattle.object_model.proofs.Zeros as zeros
use Rattle.sessions.specs.Plans.{Plan, rules_of, Reserve, Nothing, Copies, Headroom}
use Rattle.sessions.specs.Fitting.{free_of, large_of, MayGrant, Fits, FitsSmall, FitsLarge}
use Rattle.sessions.specs.Sessions as sessions
use Rattle.sessions.specs.Sessions.{Setting, Moment, Places, ServesNeed}
use Rattle.sessions.proofs.PlacedSmallObjects.{one_if, count-cons, count-none}

-- if each element passes, the count is the length
count-all : (p : ℕ → Bool) (xs : List ℕ) → ((i : ℕ) → i < length xs → p (slice_index xs i) ≡ true) → count_by p xs ≡ length xs
count-all p [] all = refl
count-all p (x ∷ xs) all =
    let e : count_by p (x ∷ xs) ≡ one_if (p x) + count_by p xs = count-cons p x xs in
    let f : one_if (p x) ≡ 1 = ap one_if (all 0 (omega arith)) in
    let rest : count_by p xs ≡ length xs = count-all p xs (λ i less. all (suc i) (omega arith)) in
    omega arith

module _ (b : ℕ) where
  abbrev s : HeapState
  s = empty_heap b

  many : length (range_with_len 0 b) ≡ b
  many = length-range_with_len 0 b

  -- the number at each place is the place
  at : (i : ℕ) → i < length (range_with_len 0 b) → slice_index (range_with_len 0 b) i ≡ i
  at i less = get_or-range_with_len 0 b i 0 (let e : length (range_with_len 0 b) ≡ b = many in omega arith) ∙ zero-add i

  code : (k : ℕ) → block_word s k % 256 ≡ 0
  code k = ap (λ x. x % 256) (zeros.zero_word b _)

  pub is-free : (k : ℕ) → k < b → HasKind s k kinds.Free
  is-free k there = kind-from s k kinds.Free there (code k)

  not-large : (k : ℕ) → IsTrue (has_kind s k kinds.LargeHead || has_kind s k kinds.LargeTail) → ⊥
  not-large k is = elim (or_cases (has_kind s k kinds.LargeHead) (has_kind s k kinds.LargeTail) is) as (λ _. ⊥) [
    | inl head ↦ (let wrong : kind_code kinds.LargeHead ≡ 0 = sym (kind-code s k kinds.LargeHead head) ∙ code k in omega arith)
    | inr tail ↦ (let wrong : kind_code kinds.LargeTail ≡ 0 = sym (kind-code s k kinds.LargeTail tail) ∙ code k in omega arith)
  ]

  pub all-free : free_of s ≡ b
  all-free = count-all (λ k. has_kind s k kinds.Free) (range_with_len 0 b)
      (λ i less. ap (λ k. has_kind s k kinds.Free) (at i less) ∙ is-free i (let e : length (range_with_len 0 b) ≡ b = many in omega arith)) ∙ many

  pub none-large : large_of s ≡ 0
  none-large = count-none (λ k. has_kind s k kinds.LargeHead || has_kind s k kinds.LargeTail) (range_with_len 0 b)
      (λ i less. ap (λ k. has_kind s k kinds.LargeHead || has_kind s k kinds.LargeTail) (at i less) ∙ false_from_ne_true _ (not-large i))

  -- a block may be granted, under each reserve
  granted : 4 ≤ b → (reserve : Reserve) → MayGrant reserve s
  granted least Nothing = (let e : free_of s ≡ b = all-free in omega arith)
  granted least Copies = (let e : free_of s ≡ b = all-free in let f : large_of s ≡ 0 = none-large in omega arith)
  granted least Headroom = (let e : free_of s ≡ b = all-free in omega arith)

  pub small-fits : 4 ≤ b → (p : Plan) (size : ℕ) → size ≤ 2048 → Fits (rules_of p) s size
  small-fits least p size small = subst (λ (x : Bool). MatchBool x (FitsSmall (rules_of p) s size) (FitsLarge (rules_of p) s (blocks_for size))) (sym (le-leb size 2048 small)) (inr (granted least (rules_of p).reserve))

-- so a need on the empty heap is served at once
pub served-at-once : (t : Setting) (p : Plan) (b m d refs nums : ℕ) (before now : Moment) → 4 ≤ b → t.rules ≡ rules_of p → before.heap ≡ empty_heap b → size_of refs nums ≤ 2048
    → ServesNeed t m d refs nums before now → Places t m d refs nums before now
served-at-once t p b m d refs nums before now least rules heap small serves =
    let fits : Fits t.rules before.heap (size_of refs nums) =
    subst (λ r. Fits r before.heap (size_of refs nums)) (sym rules) (subst (λ (x : HeapState). Fits (rules_of p) x (size_of refs nums)) (sym heap) (small-fits b least p (size_of refs nums) small)) in
    elim serves as (λ _. Places t m d refs nums before now) [
      | sessions.at_once places ↦ places
      | sessions.after_nursery mid no_fit first makes places ↦ absurd (no_fit fits)
      | sessions.after_full mid late no_fit first makes places ↦ absurd (no_fit fits)
      | sessions.refused mid late no_fit first makes no_fit_after replies ↦ absurd (no_fit fits)
    ]
