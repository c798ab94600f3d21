-- The blocks to evacuate as a list, and the kinds that a plan's rules name.
use Rattle.std.specs.Prelude.{◌≡◌, ℕ, Bool, false, List, slice_get, unwrap_or}
use Rattle.sessions.specs.Plans.{Rules}
use Rattle.plan_api.specs.declared.blocks_to_copy.Fills.{Fills}

-- block k is in the list, which has a flag for each block
abbrev pub listed : List Bool → ℕ → Bool
listed from k = unwrap_or (slice_get from k) false

-- the rules name these kinds of blocks
pub record HasFills (r : Rules) (f : Fills) : Type 0 where
  pub fill : r.fill ≡ f.fill
  pub copy : r.copy ≡ f.copy
  pub young : r.young ≡ f.young
