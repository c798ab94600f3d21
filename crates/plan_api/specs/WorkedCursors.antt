-- Worked cursors.
use Rattle.std.specs.Prelude.{ℕ}
use Rattle.plan_api.specs.declared.cursors.Cursors.{Cursors}

-- A hole region up to offset 30 of block 1, and an overflow region up to offset 200 of block 2.
-- They begin at these offsets.
abbrev pub cursors_with : ℕ → ℕ → Cursors
cursors_with hole over = record {
  hole = record { next = hole; end = 30 };
  hole_block = 1;
  over = record { next = over; end = 200 };
  over_block = 2;
}
