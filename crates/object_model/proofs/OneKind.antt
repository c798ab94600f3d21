-- A block has one kind.
use Rattle.std.proofs.Common.{◌≡◌, sym, ◌∙◌, ap, ℕ, ◌%◌, ◌<◌, Bool, true, false, ◌&&◌, ◌||◌, nat_eq, nat_lt}
use Rattle.std.proofs.lemmas.Bool.{and_parts, eqb-true, ltb-true, lt-ltb, eq-eqb, and_from}
use Rattle.heap_layout.specs.declared.block.Kind.{Kind}
use Rattle.heap_layout.specs.declared.block.Kind.TheVariants as kinds
use Rattle.heap_layout.specs.Blocks.{kind_code}
use Rattle.object_model.specs.Objects.{HeapState, block_word, HasKind}
use Rattle.object_model.specs.Lawful.{has_small}

pub kind-code : (s : HeapState) (k : ℕ) (kind : Kind) → HasKind s k kind → block_word s k % 256 ≡ kind_code kind
kind-code s k kind is = eqb-true _ _ (and_parts (nat_lt k s.blocks) _ is).1

pub kind-within : (s : HeapState) (k : ℕ) (kind : Kind) → HasKind s k kind → k < s.blocks
kind-within s k kind is = ltb-true k s.blocks (and_parts (nat_lt k s.blocks) _ is).0

pub kind-from : (s : HeapState) (k : ℕ) (kind : Kind) → k < s.blocks → block_word s k % 256 ≡ kind_code kind → HasKind s k kind
kind-from s k kind there code = and_from (nat_lt k s.blocks) _ (lt-ltb k s.blocks there) (eq-eqb _ _ code)

pub one-kind : (s : HeapState) (k : ℕ) (kind kind' : Kind) → HasKind s k kind → HasKind s k kind' → kind_code kind ≡ kind_code kind'
one-kind s k kind kind' is is' = sym (kind-code s k kind is) ∙ kind-code s k kind' is'

-- the test by whether the block is one of the heap's, and the code of its kind
abbrev pub is_small_code : Bool → ℕ → Bool
is_small_code there code = (there && nat_eq code 1) || (there && nat_eq code 2) || (there && nat_eq code 3) || (there && nat_eq code 4) || (there && nat_eq code 5) || (there && nat_eq code 8)

pub has_small-code : (s : HeapState) (k : ℕ) (kind : Kind) → HasKind s k kind → has_small s k ≡ is_small_code true (kind_code kind)
has_small-code s k kind is =
    ap (λ t. is_small_code t (block_word s k % 256)) (and_parts (nat_lt k s.blocks) _ is).0 ∙ ap (is_small_code true) (kind-code s k kind is)

-- a Free block has no small objects
pub has_small-free : (s : HeapState) (k : ℕ) → HasKind s k kinds.Free → has_small s k ≡ false
has_small-free s k is = has_small-code s k kinds.Free is
