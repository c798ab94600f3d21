use Rattle.std.proofs.Common.{refl}
use Rattle.made_trace.proofs.laws.made_rows.Goals as goal

pub returns : goal.returns
returns c = refl
