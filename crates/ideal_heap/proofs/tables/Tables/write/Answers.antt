use Rattle.std.proofs.Common.{sym, ◌∙◌}
use Rattle.ideal_heap.specs.Tables.{tables_heap}
use Rattle.ideal_heap.proofs.CommandLemmas.{write-null, write-past, write-done}
use Rattle.ideal_heap.proofs.tables.Tables.write.Goals as goal

pub returns-in_default-clause-step : goal.returns-in_default-clause-step
returns-in_default-clause-step c = write-null (tables_heap c.args.self.now) c.args.mutator c.args.register c.args.index c.args.number (sym c.register.ensures ∙ c.in_default.is)

pub returns-then-index-nums-clause-step : goal.returns-then-index-nums-clause-step
returns-then-index-nums-clause-step c = write-past (tables_heap c.args.self.now) c.args.mutator c.args.register c.args.index c.args.number c.in-Some.name c.nums.result.now (sym c.register.ensures ∙ c.in-Some.is) c.nums.ensures c.if-index-nums.true

pub returns-clause-step : goal.returns-clause-step
returns-clause-step c = write-done (tables_heap c.args.self.now) (tables_heap c.set_number.new.self) c.args.mutator c.args.register c.args.index c.args.number c.in-Some.name c.nums.result.now (sym c.register.ensures ∙ c.in-Some.is) c.nums.ensures c.if-index-nums.false c.set_number.ensures.heap
