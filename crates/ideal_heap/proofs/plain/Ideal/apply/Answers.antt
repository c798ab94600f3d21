use Rattle.ideal_heap.specs.Tables.{tables_heap}
use Rattle.ideal_heap.proofs.KeptLemmas.{outcome-closed}
use Rattle.ideal_heap.proofs.plain.Ideal.apply.Goals as goal

pub invariant_of-self : goal.invariant_of-self
invariant_of-self c = record {
  closed = outcome-closed (tables_heap c.args.self.now.tables) (tables_heap c.apply.new.self) c.args.mutator c.args.command.now c.apply.result
      c.args.self.now.closed c.apply.ensures.step;
}
