-- How many blocks are Free, and what changes where a small object is written.
use Rattle.std.proofs.Common.{◌≡◌, ◌≢◌, refl, sym, ◌∙◌, ap, subst, ℕ, zero, suc, ◌+◌, ◌<◌, ◌≤◌, ◌⊎◌, inl, inr, arith, Bool, true, false, ◌||◌, IsTrue, List, [], ◌∷◌, length, slice_index, cond, zero-add}
use Rattle.std.specs.Prelude.{count_by}
use Rattle.std.specs.List.{range_with_len}
use Rattle.std.proofs.lemmas.Bool.{or_left, or_right, false_from_ne_true}
use Rattle.std.proofs.lemmas.List.Sums.{sum_by-cons}
use Rattle.std.proofs.lemmas.List.FromFn.{get_or-range_with_len, length-range_with_len}
use Rattle.heap_layout.specs.Zones.{BlockWords, first, heap_of, block_at, offset_at}
use Rattle.heap_layout.specs.declared.block.Kind.TheVariants as kinds
use Rattle.ideal_heap.specs.declared.name.Name.{Name}
use Rattle.object_model.specs.Objects.{HeapState, with_words, word_at, block_word, has_kind, HasKind, is_pinned, is_unlogged, IsHeld, size_of}
use Rattle.object_model.specs.Lawful.{IsWellFormed}
use Rattle.object_model.specs.Changes.{WritesObject}
use Rattle.object_model.proofs.Births as births
use Rattle.object_model.proofs.Births.{Adds}
use Rattle.object_model.specs.Births.{IsRoom}
use Rattle.object_model.proofs.Blocks as blocks
use Rattle.object_model.proofs.Blocks.{SameHeap}
use Rattle.object_model.proofs.OneKind.{kind-within}
use Rattle.sessions.specs.Fitting.{free_of}
use Rattle.sessions.specs.Sessions.{ChangesBlocks, AddsObject}

-- an element that passes is counted, and if none passes the count is 0
abbrev pub one_if : Bool → ℕ
one_if b = cond b 1 0

pub count-cons : (p : ℕ → Bool) (x : ℕ) (xs : List ℕ) → count_by p (x ∷ xs) ≡ one_if (p x) + count_by p xs
count-cons p x xs = sum_by-cons (λ y. one_if (p y)) x xs

pub count-some : (p : ℕ → Bool) (xs : List ℕ) (i : ℕ) → i < length xs → p (slice_index xs i) ≡ true → 1 ≤ count_by p xs
count-some p [] i within is = absurd (omega arith)
count-some p (x ∷ xs) zero within is = (let e : count_by p (x ∷ xs) ≡ one_if (p x) + count_by p xs = count-cons p x xs in let f : one_if (p x) ≡ 1 = ap one_if is in omega arith)
count-some p (x ∷ xs) (suc i) within is = (let e : count_by p (x ∷ xs) ≡ one_if (p x) + count_by p xs = count-cons p x xs in let rest : 1 ≤ count_by p xs = count-some p xs i (omega arith) is in omega arith)

pub count-none : (p : ℕ → Bool) (xs : List ℕ) → ((i : ℕ) → i < length xs → p (slice_index xs i) ≡ false) → count_by p xs ≡ 0
count-none p [] none = refl
count-none p (x ∷ xs) none =
    let e : count_by p (x ∷ xs) ≡ one_if (p x) + count_by p xs = count-cons p x xs in
    let f : one_if (p x) ≡ 0 = ap one_if (none 0 (omega arith)) in
    let rest : count_by p xs ≡ 0 = count-none p xs (λ i less. none (suc i) (omega arith)) in
    omega arith

pub free-some : (s : HeapState) (k : ℕ) → HasKind s k kinds.Free → 1 ≤ free_of s
free-some s k is =
    let there : k < s.blocks = kind-within s k kinds.Free is in
    let e : slice_index (range_with_len 0 s.blocks) k ≡ k = get_or-range_with_len 0 s.blocks k 0 there ∙ zero-add k in
    count-some (λ q. has_kind s q kinds.Free) (range_with_len 0 s.blocks) k (let many : length (range_with_len 0 s.blocks) ≡ s.blocks = length-range_with_len 0 s.blocks in omega arith)
    (ap (λ q. has_kind s q kinds.Free) e ∙ is)

pub free-none : (s : HeapState) → ((k : ℕ) → k < s.blocks → HasKind s k kinds.Free → ⊥) → free_of s ≡ 0
free-none s none = count-none (λ q. has_kind s q kinds.Free) (range_with_len 0 s.blocks)
    (λ i less. let there : i < s.blocks = (let many : length (range_with_len 0 s.blocks) ≡ s.blocks = length-range_with_len 0 s.blocks in omega arith) in
    let e : slice_index (range_with_len 0 s.blocks) i ≡ i = get_or-range_with_len 0 s.blocks i 0 there ∙ zero-add i in
    ap (λ q. has_kind s q kinds.Free) e ∙ false_from_ne_true (has_kind s i kinds.Free) (none i there))

-- A small object that is written at the front of the tail of block low, from a heap in which that block is unchanged, or was Free.
module _ (s : HeapState) (w1 w2 : List ℕ) (same : SameHeap s w1) (low : ℕ) (front : (i : ℕ) → i < first s.blocks BlockWords → word_at (with_words s w1) i ≡ word_at s i)
    (others : (k : ℕ) → k < s.blocks → k ≢ low → block_word (with_words s w1) k ≡ block_word s k)
    (a : ℕ) (n : Name) (refs nums : ℕ) (writes : WritesObject (with_words s w1) (with_words s w2) a n refs nums)
    (order : IsWellFormed (with_words s w1)) (room : IsRoom (with_words s w1) a n refs nums) (in_low : block_at s.blocks a ≡ low) where
  abbrev between : HeapState
  between = with_words s w1

  abbrev after : HeapState
  after = with_words s w2

  put : Adds between w2 a n refs nums
  put = births.adds between w2 a n refs nums writes room.vacant.address

  held-between : (x : ℕ) → IsHeld s x → IsHeld between x
  held-between x holds = blocks.held-after s w1 same x holds

  fresh : IsHeld s a → ⊥
  fresh holds = births.not-held between w2 a n refs nums put room.vacant (held-between a holds)

  unmarked : (x : ℕ) → IsTrue (is_pinned between x || is_unlogged between x) → x ≢ a
  unmarked x h e = births.not-held between w2 a n refs nums put room.vacant (subst (IsHeld between) e (order.objects.marks x h))

  pub adds : AddsObject s after a refs nums
  adds = record {
    held = births.held-new between w2 a n refs nums put room.vacant;
    fresh = fresh;
    others = λ x other. (
      (λ holds. births.held-after between w2 a n refs nums put room.vacant x (held-between x holds)),
      (λ holds. blocks.held-before s w1 same x (births.held-before between w2 a n refs nums put room.vacant x other holds)),
    );
    shape = writes.shape;
    blank = writes.blank;
    unmarked = (
      (λ is. unmarked a (or_left (is_pinned between a) (is_unlogged between a) (sym (put.pins a) ∙ is)) refl),
      (λ is. unmarked a (or_right (is_pinned between a) (is_unlogged between a) (sym (put.unlogs a) ∙ is)) refl),
    );
    words = λ x i holds less. births.object-word between w2 a n refs nums put room.vacant x i (held-between x holds)
        (subst (λ (q : ℕ). i < q) (sym (blocks.size-same s w1 same x holds)) less) ∙ blocks.at s w1 same x i holds;
    bits = λ x holds. (put.pins x ∙ same.pins x, put.unlogs x ∙ same.unlogs x);
  }

  pub block-same : (k : ℕ) → k < s.blocks → block_word after k ≡ block_word between k
  block-same = births.block_words between w2 a n refs nums writes room.vacant.address

  pub block-other : (k : ℕ) → k < s.blocks → k ≢ low → block_word after k ≡ block_word s k
  block-other k there other = block-same k there ∙ others k there other

  pub changes : ChangesBlocks s after low 1
  changes = record {
    front = λ i before. births.zone-word between w2 a n refs nums writes room.vacant.address i (omega arith) (λ e. omega arith) ∙ front i before;
    elsewhere = λ i address away.
        let base : heap_of s.blocks ≤ i = address.from in
        let base' : heap_of s.blocks ≤ a = room.vacant.address.from in
        let within : offset_at s.blocks a + size_of refs nums ≤ 4096 = room.place.within in
        let in_block : block_at s.blocks a ≡ low = in_low in
        let outside : (i < a) ⊎ (a + size_of refs nums ≤ i) = elim away as (λ _. (i < a) ⊎ (a + size_of refs nums ≤ i)) [ inl before ↦ inl (omega arith) | inr beyond ↦ inr (omega arith) ] in
        writes.others i outside (λ e. let zone = (births.start-in-zone between w2 a n refs nums writes room.vacant.address).0 in omega arith) ∙ same.words i base;
  }
