use Rattle.std.proofs.Common.{refl, Some}
use Rattle.mm_runtime.proofs.PartsRun.{part-none, since-ran}
use Rattle.mm_runtime.proofs.seat_part.run_part_at.Goals as goal

pub returns-then-is_some-clause-runs : goal.returns-then-is_some-clause-runs
returns-then-is_some-clause-runs g c = part-none g.P.Plan.rules c.args.world.now c.args.part.now c.requires

pub returns-clause-since : goal.returns-clause-since
returns-clause-since g c before since = since-ran g.P.Plan.rules c.args.world.now c.args.part.now
    (record { mutator = c.args.part.now.mutator; progress = c.run_seat-end.new.progress; seat = c.run_seat-end.new.seat; end = Some c.run_seat-end.result }) c.requires
    (record { mutator = refl; runs = c.run_seat-end.ensures.runs }) before since
