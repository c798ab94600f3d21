use Rattle.std.proofs.Common.{◌≡◌, refl, arith, ◌+◌, ◌<◌, length, slice_index_or}
use Rattle.std.proofs.lemmas.Option.{slice_get-get_or}
use Rattle.mm_runtime.specs.declared.progress.PartEnd.TheVariants as end
use Rattle.mm_runtime.proofs.NeedsServed as served
use Rattle.mm_runtime.proofs.manager.Manager.serve_needs.Goals as goal

pub serve_end-requires-clause-stop : goal.serve_end-requires-clause-stop
serve_end-requires-clause-stop g c κs within =
    served.stop-below g.P.Plan.rules c.args.self c.args.ends.now c.loop-m.m c.loop-m.manager c.loop-m.invariant c.requires.stop

pub serve_end-requires-clause-next : goal.serve_end-requires-clause-next
serve_end-requires-clause-next g c κs within =
    let below : c.loop-m.m < length c.args.ends.now = omega arith in
    served.next-below g.P.Plan.rules c.args.self c.args.ends.now c.loop-m.m c.loop-m.manager c.loop-m.invariant c.requires.stop
    (slice_index_or c.args.ends.now c.loop-m.m end.Gc) (slice_get-get_or c.args.ends.now c.loop-m.m end.Gc below) c.requires.count c.requires.needs (c.loop-m.m + 1) refl

pub loop-m-preserved : goal.loop-m-preserved
loop-m-preserved g c =
    let below : c.loop-m.m < length c.args.ends.now = omega arith in
    served.below-more g.P.Plan.rules c.args.self c.args.ends.now c.loop-m.m c.loop-m.manager c.loop-m.invariant c.requires.stop
    (slice_index_or c.args.ends.now c.loop-m.m end.Gc) (slice_get-get_or c.args.ends.now c.loop-m.m end.Gc below) c.requires.count c.requires.needs
    c.in_ok-manager.manager c.in_ok-manager.ensures.order c.in_ok-manager.ensures.serves c.in_ok-manager.ensures.replies

pub returns-clause-needs : goal.returns-clause-needs
returns-clause-needs g c =
    let all : c.loop-m.m ≡ length c.args.ends.now = omega arith in
    served.serves-all g.P.Plan.rules c.args.self c.loop-m.manager c.args.ends.now c.loop-m.m all c.requires.count c.loop-m.invariant
