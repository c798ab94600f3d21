-- The flags of a plan's rules.
use Rattle.std.specs.Prelude.{ℕ, ◌+◌, Bool, true, false, if◌then◌else◌}
use Rattle.heap_layout.specs.declared.block.Kind.{Kind}
use Rattle.heap_layout.specs.declared.block.Kind.TheVariants as kinds
use Rattle.sessions.specs.Plans.{Rules}

-- blocks of this kind have cells
abbrev pub has_cells : Kind → Bool
has_cells kinds.Cells = true
has_cells kinds.Free = false
has_cells kinds.Bump = false
has_cells kinds.Young = false
has_cells kinds.Mature = false
has_cells kinds.Immix = false
has_cells kinds.LargeHead = false
has_cells kinds.LargeTail = false
has_cells kinds.Kept = false

-- the sum of 1 if objects move, 2 if they are young or old, 4 if clear lines are filled, and 8 if
-- cells are
abbrev pub flags_of : Rules → ℕ
flags_of r = (if r.moves then 1 else 0) + (if r.young then 2 else 0)
    + (if r.lines then 4 else 0) + (if has_cells r.fill then 8 else 0)
