-- Laws of the codes of block words.
use Rattle.std.proofs.Common.{ℕ, ◌≤◌, ◌+◌, ◌*◌, ◌/◌, ◌%◌, ◌≡◌, refl, ap, ◌∙◌, arith, IsTrue, Some}
use Rattle.heap_layout.specs.declared.block.Kind.{Kind}
use Rattle.heap_layout.specs.declared.block.Kind.TheVariants.{Free, Bump, Young, Mature, Immix, Cells, LargeHead, LargeTail, Kept}
use Rattle.heap_layout.specs.declared.block.BlockWord.{BlockWord}
use Rattle.heap_layout.specs.Blocks.{kind_code, kind_of_code, code_of, is_valid_for, IsValidWord, is_block_code}

-- a kind's number decodes to it
pub kind_of_code-kind_code : (k : Kind) → kind_of_code (kind_code k) ≡ Some k
kind_of_code-kind_code Free = refl
kind_of_code-kind_code Bump = refl
kind_of_code-kind_code Young = refl
kind_of_code-kind_code Mature = refl
kind_of_code-kind_code Immix = refl
kind_of_code-kind_code Cells = refl
kind_of_code-kind_code LargeHead = refl
kind_of_code-kind_code LargeTail = refl
kind_of_code-kind_code Kept = refl

-- a kind's number is at most 8
pub kind_code_most : (k : Kind) → kind_code k ≤ 8
kind_code_most k = grind arith

-- the upper bounds of a valid class and owner
pub valid_most : (k : Kind) (class owner : ℕ) → IsTrue (is_valid_for k class owner) → (class ≤ 18) × (owner ≤ 32)
valid_most k class owner h = grind arith

-- a code's three parts
pub code_parts : (k class owner v : ℕ) → k ≤ 8 → class ≤ 18 → k + 256 * class + 65536 * owner ≡ v → (v % 256 ≡ k) × (v / 256 % 256 ≡ class) × (v / 65536 ≡ owner)
code_parts k class owner v small few same = (omega arith, omega arith, omega arith)

-- the parts of a valid block word's code
pub parts_of_code : (w : BlockWord) (v : ℕ) → IsValidWord w → code_of w ≡ v → (kind_of_code (v % 256) ≡ Some w.kind) × (v / 256 % 256 ≡ w.class) × (v / 65536 ≡ w.owner)
parts_of_code w v valid same =
    let parts = code_parts (kind_code w.kind) w.class w.owner v (kind_code_most w.kind) (valid_most w.kind w.class w.owner valid).0 same in
    (ap kind_of_code parts.0 ∙ kind_of_code-kind_code w.kind, parts.1, parts.2)

-- a valid block word's code is one
pub is_block_code-code_of : (w : BlockWord) (v : ℕ) → IsValidWord w → code_of w ≡ v → IsTrue (is_block_code v)
is_block_code-code_of w v valid same =
    let parts = parts_of_code w v valid same in
    rw (parts.0, parts.1, parts.2) valid

-- block words with the same three parts are the same
pub block_word_same : (x y : BlockWord) → x.kind ≡ y.kind → x.class ≡ y.class → x.owner ≡ y.owner → x ≡ y
block_word_same x y kind class owner =
    ap (λ (k : Kind). let w : BlockWord = record { kind = k; class = x.class; owner = x.owner } in w) kind
    ∙ (ap (λ (n : ℕ). let w : BlockWord = record { kind = y.kind; class = n; owner = x.owner } in w) class
    ∙ ap (λ (n : ℕ). let w : BlockWord = record { kind = y.kind; class = y.class; owner = n } in w) owner)

-- a valid block word is the one that its code's three parts make
pub block_word_of_code : (kind : Kind) (owner v : ℕ) (w : BlockWord) → kind_of_code (v % 256) ≡ Some kind → owner ≡ v / 65536 → IsValidWord w → code_of w ≡ v → record { kind = kind; class = v / 256 % 256; owner = owner } ≡ w
block_word_of_code kind owner v w there high valid same =
    let parts = parts_of_code w v valid same in
    let is : kind ≡ w.kind = cc in
    block_word_same (record { kind = kind; class = v / 256 % 256; owner = owner }) w is parts.1 (high ∙ parts.2)

-- a number that represents a kind is the code of that kind
pub kind_code_of : (n : ℕ) (k : Kind) → kind_of_code n ≡ Some k → kind_code k ≡ n
kind_code_of n k there = grind arith
