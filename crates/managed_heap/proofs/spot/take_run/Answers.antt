use Rattle.managed_heap.proofs.spot.take_run.Goals as goal

pub returns : goal.returns
returns c = c.place_large.ensures c.args.row.number c.args.row.base
