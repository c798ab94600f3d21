use Rattle.std.proofs.Common.{sym, subst}
use Rattle.object_model.specs.Objects.{state_of}
use Rattle.object_model.specs.Ages.{RemembersYoung}
use Rattle.object_model.proofs.LawfulStores as stores
use Rattle.object_model.proofs.LoggedObjects.{still-remembers}
use Rattle.world_tests.proofs.ages.log_at.Goals as goal

pub from_row-requires : goal.from_row-requires
from_row-requires g c =
    stores.log (state_of c.into_row-row.result) _ c.args.address c.into_row-row.ensures.lawful
    (c.log.ensures.clears c.into_row-row.result.number c.into_row-row.result.base)

pub returns : goal.returns
returns g c rules before young =
    subst RemembersYoung (sym c.from_row.ensures)
    (still-remembers (state_of c.into_row-row.result) _ c.args.address (c.log.ensures.clears c.into_row-row.result.number c.into_row-row.result.base)
    (subst RemembersYoung (sym c.into_row-row.ensures.state) (before young)))
