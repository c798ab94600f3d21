-- Counts of blocks, a block at a time.
use Rattle.std.proofs.Common.{◌≡◌, sym, ◌∙◌, ap, ℕ, zero, suc, ◌+◌, ◌%◌, ◌<◌, ◌≤◌, arith, Bool, true, false, ◌&&◌, ◌||◌, nat_eq}
use Rattle.std.specs.Prelude.{count_by}
use Rattle.std.specs.List.{range_with_len}
use Rattle.std.proofs.lemmas.Bool.{lt-ltb}
use Rattle.heap_layout.specs.declared.block.Kind.{Kind}
use Rattle.heap_layout.specs.declared.block.Kind.TheVariants as kinds
use Rattle.heap_layout.specs.declared.block.BlockWord.{BlockWord}
use Rattle.heap_layout.specs.Blocks.{kind_code, code_of, IsValidWord}
use Rattle.heap_layout.proofs.BlockLemmas.{parts_of_code, kind_code_of}
use Rattle.object_model.specs.Objects.{HeapState, block_word, has_kind}
use Rattle.sessions.proofs.PlacedSmallObjects.{one_if, count-cons}

-- a range with one more number
pub count-more : (p : ℕ → Bool) (a n : ℕ) → count_by p (range_with_len a (suc n)) ≡ count_by p (range_with_len a n) + one_if (p (a + n))
count-more p a zero = (let e : one_if (p (a + zero)) ≡ one_if (p a) = ap (λ (q : ℕ). one_if (p q)) (let z : a + zero ≡ a = omega arith in z) in omega arith)
count-more p a (suc n) =
    let long : count_by p (range_with_len a (suc (suc n))) ≡ one_if (p a) + count_by p (range_with_len (a + 1) (suc n)) = count-cons p a (range_with_len (a + 1) (suc n)) in
    let short : count_by p (range_with_len a (suc n)) ≡ one_if (p a) + count_by p (range_with_len (a + 1) n) = count-cons p a (range_with_len (a + 1) n) in
    let rest : count_by p (range_with_len (a + 1) (suc n)) ≡ count_by p (range_with_len (a + 1) n) + one_if (p (a + 1 + n)) = count-more p (a + 1) n in
    let e : one_if (p (a + 1 + n)) ≡ one_if (p (a + suc n)) = ap (λ (q : ℕ). one_if (p q)) (let z : a + 1 + n ≡ a + suc n = omega arith in z) in
    omega arith

-- the count among the first n blocks
abbrev pub count_below : (ℕ → Bool) → ℕ → ℕ
count_below p n = count_by p (range_with_len 0 n)

pub count-next : (p : ℕ → Bool) (n : ℕ) → count_below p (n + 1) ≡ count_below p n + one_if (p n)
count-next p n = (let e : count_below p (n + 1) ≡ count_below p (suc n) = ap (count_below p) (let z : n + 1 ≡ suc n = omega arith in z) in
    let z : one_if (p (0 + n)) ≡ one_if (p n) = ap (λ (q : ℕ). one_if (p q)) (let z : 0 + n ≡ n = omega arith in z) in
    e ∙ count-more p 0 n ∙ ap (λ (q : ℕ). count_below p n + q) z)

-- the kind in a block word
module _ (s : HeapState) (k : ℕ) (w : BlockWord) (there : k < s.blocks) (valid : IsValidWord w) (code : code_of w ≡ block_word s k) where
  pub kind-of-word : block_word s k % 256 ≡ kind_code w.kind
  kind-of-word = sym (kind_code_of (block_word s k % 256) w.kind (parts_of_code w (block_word s k) valid code).0)

  pub has-kind : (kind : Kind) → has_kind s k kind ≡ nat_eq (kind_code w.kind) (kind_code kind)
  has-kind kind = ap (λ (b : Bool). b && nat_eq (block_word s k % 256) (kind_code kind)) (lt-ltb k s.blocks there) ∙ ap (λ (n : ℕ). nat_eq n (kind_code kind)) kind-of-word

  pub free-one : one_if (has_kind s k kinds.Free) ≡ one_if (nat_eq (kind_code w.kind) 0)
  free-one = ap (λ (b : Bool). one_if b) (has-kind kinds.Free)

  pub large-one : one_if (has_kind s k kinds.LargeHead || has_kind s k kinds.LargeTail) ≡ one_if (nat_eq (kind_code w.kind) 6 || nat_eq (kind_code w.kind) 7)
  large-one = ap (λ (b : Bool). one_if (b || has_kind s k kinds.LargeTail)) (has-kind kinds.LargeHead) ∙ ap (λ (b : Bool). one_if (nat_eq (kind_code w.kind) 6 || b)) (has-kind kinds.LargeTail)

pub one-most : (b : Bool) → one_if b ≤ 1
one-most true = omega arith
one-most false = omega arith
