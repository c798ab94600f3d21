use Rattle.std.proofs.Common.{refl}
use Rattle.collector.proofs.OneWorker.{idle, finished-trace}
use Rattle.collector.proofs.collecting.close.Goals as goal

pub returns : goal.returns
returns c start done = finished-trace start c.args.trace done _ c.close.ensures.run (c.close.ensures.traced _ _ _ done.awaited.tracer.tracks)
    (c.close.ensures.finished _ _ _ done.awaited.tracer.tracks (idle start c.args.trace done)) refl refl
