use Rattle.std.proofs.Common.{refl}
use Rattle.std.proofs.lemmas.Result.{err_from_is_err_and}
use Rattle.ideal_heap.proofs.TableLemmas.{nth_from_one-read, heap-push, heap-same}
use Rattle.ideal_heap.proofs.tables.Tables.store.Goals as goal

pub returns-in_err-push-clause-heap : goal.returns-in_err-push-clause-heap
returns-in_err-push-clause-heap c = let p = err_from_is_err_and c.from_residual.result c.from_residual.ensures.1 in rw (p.1)
    (heap-same c.args.self.now.mutators.items c.args.self.now.globals c.args.mutator c.index_mut.result.now _ c.requires.mutator.0 c.requires.mutator.1
    (nth_from_one-read c.args.self.now.mutators.items c.args.mutator c.index_mut.result.now c.requires.mutator.0 c.requires.mutator.1 c.index_mut.ensures.value)
    refl c.in_err-push.ensures.items)

pub returns-clause-heap : goal.returns-clause-heap
returns-clause-heap c = heap-push c.args.self.now.mutators.items c.args.self.now.globals c.args.mutator c.index_mut.result.now _ c.args.object
    c.requires.mutator.0 c.requires.mutator.1
    (nth_from_one-read c.args.self.now.mutators.items c.args.mutator c.index_mut.result.now c.requires.mutator.0 c.requires.mutator.1 c.index_mut.ensures.value)
    refl c.in_ok-push.ensures.items c.requires.unpinned
