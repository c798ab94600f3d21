use Rattle.std.proofs.Common.{refl, rules}
use Rattle.ideal_heap.proofs.TableLemmas.{nth_from_one-read, heap-registers}
use Rattle.ideal_heap.proofs.tables.Tables.set_register.Goals as goal

pub returns-clause-heap : goal.returns-clause-heap
returns-clause-heap c = heap-registers c.args.self.now.mutators.items c.args.self.now.globals c.args.mutator c.args.register c.args.value c.index_mut.result.now _
    c.requires.mutator.0 c.requires.mutator.1
    (nth_from_one-read c.args.self.now.mutators.items c.args.mutator c.index_mut.result.now c.requires.mutator.0 c.requires.mutator.1 c.index_mut.ensures.value)
    (search rules) refl refl
