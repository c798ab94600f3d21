use Rattle.std.proofs.Common.{sym, ◌∙◌}
use Rattle.ideal_heap.specs.Tables.{tables_heap}
use Rattle.ideal_heap.proofs.CommandLemmas.{below-from, past-from, read-null, read-past, read-done}
use Rattle.ideal_heap.proofs.tables.Tables.read.Goals as goal

pub returns-in_default : goal.returns-in_default
returns-in_default c = read-null (tables_heap c.args.self.now) c.args.mutator c.args.register c.args.index (sym c.register.ensures ∙ c.in_default.is)

pub returns-in-Some-get : goal.returns-in-Some-get
returns-in-Some-get c = read-done (tables_heap c.args.self.now) c.args.mutator c.args.register c.args.index c.in-Some.name c.nums.result.now c.in-Some-get.number.now (sym c.register.ensures ∙ c.in-Some.is) c.nums.ensures
    (below-from c.args.index _ c.in-Some-get.ensures.lookup.0) c.in-Some-get.ensures.lookup.1

pub returns-in-None : goal.returns-in-None
returns-in-None c = read-past (tables_heap c.args.self.now) c.args.mutator c.args.register c.args.index c.in-Some.name c.nums.result.now (sym c.register.ensures ∙ c.in-Some.is) c.nums.ensures (past-from c.args.index _ c.in-None.ensures.lookup.0)
