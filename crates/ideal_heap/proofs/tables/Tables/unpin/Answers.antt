use Rattle.std.proofs.Common.{sym, ◌∙◌}
use Rattle.ideal_heap.specs.Tables.{tables_heap}
use Rattle.ideal_heap.proofs.CommandLemmas.{unpin-null, unpin-was, unpin-was_not}
use Rattle.ideal_heap.proofs.tables.Tables.unpin.Goals as goal

pub returns-in_default-clause-step : goal.returns-in_default-clause-step
returns-in_default-clause-step c = unpin-null (tables_heap c.args.self.now) c.args.mutator c.args.register (sym c.register.ensures ∙ c.in_default.is)

pub returns-then-was-clause-step : goal.returns-then-was-clause-step
returns-then-was-clause-step c = unpin-was (tables_heap c.args.self.now) (tables_heap c.set_pinned.new.self) c.args.mutator c.args.register c.in-Some.name (sym c.register.ensures ∙ c.in-Some.is)
    (sym c.is_pinned-was.ensures ∙ c.if-was.true) c.set_pinned.ensures.heap

pub returns-else-was-clause-step : goal.returns-else-was-clause-step
returns-else-was-clause-step c = unpin-was_not (tables_heap c.args.self.now) (tables_heap c.set_pinned.new.self) c.args.mutator c.args.register c.in-Some.name (sym c.register.ensures ∙ c.in-Some.is)
    (sym c.is_pinned-was.ensures ∙ c.if-was.false) c.set_pinned.ensures.heap
