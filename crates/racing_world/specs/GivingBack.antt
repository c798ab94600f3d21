-- A block that is given back as an epoch ends.
use Rattle.std.specs.Prelude.{◌≡◌, ℕ, ◌<◌}
use Rattle.object_model.specs.Objects.{HeapState, owner_at}
use Rattle.plan_api.specs.Relisting.{Relists}
use Rattle.sessions.specs.Plans.{Rules}
use Rattle.block_regions.specs.Notes.{without_owner}

-- A block that has an owner loses it, keeps its kind and class, and is relisted then. A block that
-- has none stays as it is. So do all others.
pub data GivesBackOne (rules : Rules) (old new : HeapState) (block : ℕ) : Type 0 where
  nobody : owner_at old block ≡ 0 → new ≡ old → GivesBackOne rules old new block
  given : 0 < owner_at old block → Relists rules (without_owner old block) new block
      → new.number ≡ old.number → new.base ≡ old.base → GivesBackOne rules old new block
