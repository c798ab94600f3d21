use Rattle.shared_row.proofs.Drawing.{draws_one}
use Rattle.shared_row.proofs.tests.worked.draw.Goals as goal

pub fetch_add-requires : goal.fetch_add-requires
fetch_add-requires c = (c.requires.0, c.requires.1, draws_one _ _ _ _ c.requires.2)
