-- Block words, and the numbers that encode them.
use Rattle.std.specs.Prelude.{ℕ, ◌+◌, ◌-◌, ◌*◌, ◌/◌, ◌%◌, Bool, false, ◌&&◌, nat_eq, nat_le, IsTrue, List, [], ◌∷◌}
use Rattle.std.specs.Prelude.{Option, Some, None, slice_get}
use Rattle.heap_layout.specs.declared.block.TheConstants.{CLASSES, LAST_OWNER}
use Rattle.heap_layout.specs.declared.block_codes.TheConstants.{CLASS_UNIT, OWNER_UNIT}
use Rattle.heap_layout.specs.declared.block.Kind.{Kind}
use Rattle.heap_layout.specs.declared.block.Kind.TheVariants.{Free, Bump, Young, Mature, Immix, Cells, LargeHead}
use Rattle.heap_layout.specs.declared.block.Kind.TheVariants.{LargeTail, Kept}
use Rattle.heap_layout.specs.declared.block.BlockWord.{BlockWord}

-- the number that encodes a kind
abbrev pub kind_code : Kind → ℕ
kind_code Free = 0
kind_code Bump = 1
kind_code Young = 2
kind_code Mature = 3
kind_code Immix = 4
kind_code Cells = 5
kind_code LargeHead = 6
kind_code LargeTail = 7
kind_code Kept = 8

-- the kinds, in the order of their numbers
abbrev pub all_kinds : List Kind
all_kinds = Free ∷ Bump ∷ Young ∷ Mature ∷ Immix ∷ Cells ∷ LargeHead ∷ LargeTail ∷ Kept ∷ []

-- the kind that a number encodes
abbrev pub kind_of_code : ℕ → Option Kind
kind_of_code n = slice_get all_kinds n

-- the number that encodes a block word
abbrev pub code_of : BlockWord → ℕ
code_of w = kind_code w.kind + CLASS_UNIT * w.class + OWNER_UNIT * w.owner

-- The kind allows this class and this owner. BlockWord in src/block.rt lists their values.
abbrev pub is_valid_for : Kind → ℕ → ℕ → Bool
is_valid_for Free class owner = nat_eq class 0 && nat_eq owner 0
is_valid_for Bump class owner = nat_eq class 0 && nat_le owner LAST_OWNER
is_valid_for Young class owner = nat_eq class 0 && nat_le owner LAST_OWNER
is_valid_for Mature class owner = nat_eq class 0 && nat_le owner LAST_OWNER
is_valid_for Immix class owner = nat_eq class 0 && nat_le owner LAST_OWNER
is_valid_for Cells class owner = nat_le class (CLASSES - 1) && nat_le owner LAST_OWNER
is_valid_for LargeHead class owner = nat_le 1 class && nat_le class 15 && nat_eq owner 0
is_valid_for LargeTail class owner = nat_eq class 0 && nat_eq owner 0
is_valid_for Kept class owner = nat_eq class 0 && nat_eq owner 0

abbrev pub IsValidWord : BlockWord → Type 0
IsValidWord w = IsTrue (is_valid_for w.kind w.class w.owner)

-- there is a kind, and it allows this class and this owner
abbrev pub is_valid_for_some : Option Kind → ℕ → ℕ → Bool
is_valid_for_some None class owner = false
is_valid_for_some (Some kind) class owner = is_valid_for kind class owner

-- v encodes a valid block word
abbrev pub is_block_code : ℕ → Bool
is_block_code v =
    is_valid_for_some (kind_of_code (v % CLASS_UNIT)) (v / CLASS_UNIT % 256) (v / OWNER_UNIT)
