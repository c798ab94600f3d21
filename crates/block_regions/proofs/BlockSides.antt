-- A heap of which only words of blocks and of lines changed, and no kind and no class.
use Rattle.std.proofs.Common.{◌≡◌, refl, sym, ◌∙◌, ap, subst, ℕ, ◌+◌, ◌-◌, ◌/◌, ◌%◌, ◌^◌, ◌<◌, ◌≤◌, ◌⊎◌, inl, inr, arith, ◌&&◌, IsTrue, length, nat_eq, nat_lt}
use Rattle.std.specs.Int.{bit_at}
use Rattle.std.proofs.Math.Logic.{∥∥₁_map}
use Rattle.std.proofs.lemmas.Bool.{cases_lt, and_left, le-ltb}
use Rattle.heap_layout.specs.Zones.{Zone, Globals, BlockWords, StartBits, PinBits, UnlogBits, first, heap_of, address_bit}
use Rattle.std.specs.Prelude.{Option, Some, None}
use Rattle.heap_layout.specs.Blocks.{kind_code, kind_of_code, is_valid_for, is_valid_for_some, is_block_code}
use Rattle.heap_layout.specs.declared.block.Kind.{Kind}
use Rattle.heap_layout.specs.declared.block.Kind.TheVariants as kinds
use Rattle.object_model.specs.Objects.{HeapState, with_words, word_at, block_word, has_kind, HasKind, class_at, line_marked}
use Rattle.object_model.specs.Lawful.{IsWellFormed, LineBitsAreExact}
use Rattle.object_model.proofs.Blocks as blocks
use Rattle.object_model.proofs.Blocks.{SameHeap}
use Rattle.object_model.proofs.Frames.{same-layout}
use Rattle.object_model.proofs.Marks.{mark-same}
use Rattle.object_model.proofs.OwnedBlocks as owners
use Rattle.block_regions.proofs.BlockFrames.{SameBlock, SameLines}

-- From s to t only words of blocks and of lines changed, and each block keeps its kind and class.
pub record ChangesSides (s t : HeapState) : Type 0 where
  pub blocks : t.blocks ≡ s.blocks
  pub number : t.number ≡ s.number
  pub base : t.base ≡ s.base
  pub extent : length t.words ≡ length s.words
  pub words : (i : ℕ) → word_at t i < 2 ^ 64
  pub rest : (i : ℕ) → (i < first s.blocks BlockWords) ⊎ (first s.blocks StartBits ≤ i) → word_at t i ≡ word_at s i
  pub low : (k : ℕ) → k < s.blocks → block_word t k % 65536 ≡ block_word s k % 65536

low-kind : (v : ℕ) → v % 65536 % 256 ≡ v % 256
low-kind v = omega arith

low-class : (v : ℕ) → v % 65536 / 256 % 256 ≡ v / 256 % 256
low-class v = omega arith

module _ (s t : HeapState) (sides : ChangesSides s t) where
  abbrev u : HeapState
  u = with_words s t.words

  same-state : t ≡ u
  same-state = same-layout s t sides.blocks sides.number sides.base

  zone-word : (z : Zone) (k : ℕ) → first s.blocks StartBits ≤ first s.blocks z → word_at u (first s.blocks z + k) ≡ word_at s (first s.blocks z + k)
  zone-word z k beyond = sides.rest (first s.blocks z + k) (inr (omega arith))

  marks : (z : Zone) (x : ℕ) → first s.blocks StartBits ≤ first s.blocks z → address_bit s.blocks z t.words x ≡ address_bit s.blocks z s.words x
  marks z x beyond = mark-same s.blocks z s.words t.words x (λ there. ap (λ word. nat_eq (bit_at word ((x - heap_of s.blocks) % 64)) 1) (zone-word z ((x - heap_of s.blocks) / 64) beyond))

  same : SameHeap s t.words
  same = record {
    words = λ k from. sides.rest k (inr (omega arith));
    globals = λ g few. sides.rest (first s.blocks Globals + g) (inl (omega arith));
    starts = λ x. marks StartBits x (omega arith);
    pins = λ x. marks PinBits x (omega arith);
    unlogs = λ x. marks UnlogBits x (omega arith);
  }

  code-same : (j : ℕ) → j < s.blocks → block_word u j % 256 ≡ block_word s j % 256
  code-same j there = sym (low-kind (block_word u j)) ∙ ap (λ v. v % 256) (sides.low j there) ∙ low-kind (block_word s j)

  kind-same : (j : ℕ) (kind : Kind) → has_kind u j kind ≡ has_kind s j kind
  kind-same j kind = elim (cases_lt j s.blocks) as (λ _. has_kind u j kind ≡ has_kind s j kind) [
    | inl there ↦ ap (λ v. nat_lt j s.blocks && nat_eq v (kind_code kind)) (code-same j there)
    | inr past ↦ and_left (nat_lt j s.blocks) _ (le-ltb j s.blocks past) ∙ sym (and_left (nat_lt j s.blocks) _ (le-ltb j s.blocks past))
  ]

  class-same : (j : ℕ) → j < s.blocks → class_at u j ≡ class_at s j
  class-same j there = sym (low-class (block_word u j)) ∙ ap (λ v. v / 256 % 256) (sides.low j there) ∙ low-class (block_word s j)

  -- it is well formed as before
  pub order-kept : IsWellFormed s → IsWellFormed t
  order-kept order = subst IsWellFormed (sym same-state) (owners.order-same s t.words same kind-same class-same order sides.extent sides.words)

  -- each block has its objects
  pub block-kept : (k : ℕ) → k < s.blocks → SameBlock s t k
  block-kept k there = subst (λ (x : HeapState). SameBlock s x k) (sym same-state) (record {
    there = there;
    blocks = refl;
    word = sides.low k there;
    held = λ x holds here. (blocks.held-after s t.words same x holds, blocks.size-same s t.words same x holds);
    back = λ x holds here. blocks.held-before s t.words same x holds;
  })

  -- and exact line bits stay exact where they stay
  pub exact-kept : (k : ℕ) → SameLines s t k → LineBitsAreExact s k → LineBitsAreExact t k
  exact-kept k lines exact = subst (λ (x : HeapState). LineBitsAreExact x k) (sym same-state) (record {
    marked = λ line is few marked. ∥∥₁_map (exact.marked line (before is) few (sym (now line few) ∙ marked)) (blocks.touched-after s t.words same k line);
    touched = λ line is few touched. now line few ∙ exact.touched line (before is) few (blocks.touched-before s t.words same k line touched);
  })
    where
      before : HasKind u k kinds.Immix → HasKind s k kinds.Immix
      before is = sym (kind-same k kinds.Immix) ∙ is

      now : (line : ℕ) → line < 256 → line_marked u k line ≡ line_marked s k line
      now line few = ap (λ (x : HeapState). line_marked x k line) (sym same-state) ∙ lines line few

-- a code without its owner is a code
ownerless : (kind : Kind) (class owner : ℕ) → IsTrue (is_valid_for kind class owner) → IsTrue (is_valid_for kind class 0)
ownerless kind class owner valid = grind arith

some-ownerless : (o : Option Kind) (class owner : ℕ) → IsTrue (is_valid_for_some o class owner) → IsTrue (is_valid_for_some o class 0)
some-ownerless None class owner valid = valid
some-ownerless (Some kind) class owner valid = ownerless kind class owner valid

pub low-code : (v : ℕ) → IsTrue (is_block_code v) → IsTrue (is_block_code (v % 65536))
low-code v code =
    let none : 0 ≡ v % 65536 / 65536 = omega arith in
    subst (λ (n : ℕ). IsTrue (is_valid_for_some (kind_of_code n) (v % 65536 / 256 % 256) (v % 65536 / 65536))) (sym (low-kind v))
    (subst (λ (n : ℕ). IsTrue (is_valid_for_some (kind_of_code (v % 256)) n (v % 65536 / 65536))) (sym (low-class v))
    (subst (λ (n : ℕ). IsTrue (is_valid_for_some (kind_of_code (v % 256)) (v / 256 % 256) n)) none
    (some-ownerless (kind_of_code (v % 256)) (v / 256 % 256) (v / 65536) code)))
