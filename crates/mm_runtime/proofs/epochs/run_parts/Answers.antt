-- The parts belong to the epoch before and after.
use Rattle.std.proofs.Common.{sym, subst, List}
use Rattle.std.specs.Prelude.{All}
use Rattle.mm_runtime.specs.declared.seat_part.Part.{Part}
use Rattle.mm_runtime.specs.SeatParts.{IsPartOf}
use Rattle.mm_runtime.proofs.PartsLater as later
use Rattle.mm_runtime.proofs.epochs.run_parts.Goals as goal

pub run_side_by_side-requires-clause-parts : goal.run_side_by_side-requires-clause-parts
run_side_by_side-requires-clause-parts g c κs within =
    let ready = c.requires.ready in
    subst (λ (ps : List Part). All (IsPartOf g.P.Plan.rules c.args.epoch.now.world) ps) (sym c.as_mut_slice.ensures.value)
    (later.all-belong g.P.Plan.rules ready.0 c.args.epoch.now c.args.parts.now.items ready.2)

pub returns-clause-runs : goal.returns-clause-runs
returns-clause-runs g c = later.ran-lent g.P.Plan.rules c.args.epoch.now.world c.args.parts.now.items c.run_side_by_side.new.parts c.as_mut_slice.result.now c.args.parts.now.len
    c.as_mut_slice.ensures.value c.args.parts.now.ok.0 c.run_side_by_side.ensures

pub returns-clause-epoch : goal.returns-clause-epoch
returns-clause-epoch g c old is =
    later.later g.P.Plan.rules old c.args.epoch.now c.args.parts.now.items _ is (returns-clause-runs g c)
