use Rattle.object_model.proofs.heap.Heap.held.Goals as goal

pub returns : goal.returns
returns c = c.is_held.ensures c.args.self.now.row.number c.args.self.now.row.base
