use Rattle.std.proofs.Common.{sym, ◌∙◌}
use Rattle.ideal_heap.specs.Tables.{tables_heap}
use Rattle.ideal_heap.proofs.CommandLemmas.{put-null, put-past, put-done}
use Rattle.ideal_heap.proofs.tables.Tables.put.Goals as goal

pub returns-in_default-clause-step : goal.returns-in_default-clause-step
returns-in_default-clause-step c = put-null (tables_heap c.args.self.now) c.args.mutator c.args.register c.args.index c.args.source (sym c.register.ensures ∙ c.in_default.is)

pub returns-then-index-refs-clause-step : goal.returns-then-index-refs-clause-step
returns-then-index-refs-clause-step c = put-past (tables_heap c.args.self.now) c.args.mutator c.args.register c.args.index c.args.source c.in-Some.name c.refs.result.now (sym c.register.ensures ∙ c.in-Some.is) c.refs.ensures c.if-index-refs.true

pub returns-clause-step : goal.returns-clause-step
returns-clause-step c = put-done (tables_heap c.args.self.now) (tables_heap c.set_field.new.self) c.args.mutator c.args.register c.args.index c.args.source c.in-Some.name c.refs.result.now c.register-value.result
    (sym c.register.ensures ∙ c.in-Some.is) c.refs.ensures c.if-index-refs.false c.register-value.ensures c.set_field.ensures.heap
