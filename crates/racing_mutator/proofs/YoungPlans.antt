-- The flag of a plan with young objects.
use Rattle.std.proofs.Common.{◌≡◌, refl, ◌+◌, ◌==◌, Bool, true, false, bit_and}
use Rattle.std.specs.Prelude.{if◌then◌else◌}
use Rattle.sessions.specs.Plans.{Rules}
use Rattle.plan_api.specs.Flags.{flags_of, has_cells}

young-of : (moves young lines cells : Bool) → (bit_and ((if moves then 1 else 0) + (if young then 2 else 0) + (if lines then 4 else 0) + (if cells then 8 else 0)) 2 == 2) ≡ young
young-of true true true true = refl
young-of true true true false = refl
young-of true true false true = refl
young-of true true false false = refl
young-of true false true true = refl
young-of true false true false = refl
young-of true false false true = refl
young-of true false false false = refl
young-of false true true true = refl
young-of false true true false = refl
young-of false true false true = refl
young-of false true false false = refl
young-of false false true true = refl
young-of false false true false = refl
young-of false false false true = refl
young-of false false false false = refl

pub young-flag : (r : Rules) → (bit_and (flags_of r) 2 == 2) ≡ r.young
young-flag r = young-of r.moves r.young r.lines (has_cells r.fill)
