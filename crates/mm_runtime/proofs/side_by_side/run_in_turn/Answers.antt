-- One part more is run.
use Rattle.std.proofs.Common.{◌<◌, length, arith}
use Rattle.std.specs.Prelude.{slice_index_or}
use Rattle.std.proofs.lemmas.Option.{slice_get-get_or}
use Rattle.mm_runtime.specs.declared.seat_part.Part.{Part}
use Rattle.mm_runtime.proofs.PartsLater as later
use Rattle.mm_runtime.proofs.side_by_side.run_in_turn.Goals as goal

pub loop-k-init : goal.loop-k-init
loop-k-init g c = later.ran-none g.P.Plan.rules c.args.world.now c.args.parts.now

pub loop-k-preserved : goal.loop-k-preserved
loop-k-preserved g c =
    let ran = c.loop-k.invariant in
    let below : c.loop-k.k < length c.loop-k.parts = (let test = c.loop-k-test.true in let count = ran.count in omega arith) in
    let part : Part = slice_index_or c.loop-k.parts c.loop-k.k c.index-parts-k.result in
    let there = slice_get-get_or c.loop-k.parts c.loop-k.k c.index-parts-k.result below in
    let run = c.run_part_at.ensures in
    later.ran-more g.P.Plan.rules c.args.world.now c.loop-k.k c.args.parts.now c.loop-k.parts part c.run_part_at.new.part ran there
    (record { part = run.part; ended = run.ended; mutator = run.runs.mutator; since = run.since })

pub returns : goal.returns
returns g c =
    later.ran-all g.P.Plan.rules c.args.world.now c.loop-k.k c.args.parts.now c.loop-k.parts c.loop-k.invariant
    (let test = c.loop-k-test.false in omega arith)
