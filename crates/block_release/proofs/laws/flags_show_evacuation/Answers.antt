use Rattle.std.proofs.Common.{ap, subst, false}
use Rattle.std.specs.Prelude.{unwrap_or}
use Rattle.trace_core.specs.Traces.{heap_after}
use Rattle.block_release.specs.Released.{FlagShowsEvacuation}
use Rattle.block_release.proofs.EvacuationFlags.{flag-shows}
use Rattle.block_release.proofs.laws.flags_show_evacuation.Goals as goal

pub returns : goal.returns
returns c r run p es k flag under trace finished there is =
    subst (FlagShowsEvacuation r run.collect (heap_after p es) k) (ap (λ o. unwrap_or o false) is) (flag-shows r run p es under trace finished k there)
