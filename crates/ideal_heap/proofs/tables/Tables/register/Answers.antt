use Rattle.std.proofs.Common.{ap, ◌∙◌, sym}
use Rattle.ideal_heap.proofs.TableLemmas.{nth_from_one-read, held-get, register_in}
use Rattle.ideal_heap.proofs.tables.Tables.register.Goals as goal

pub returns : goal.returns
returns c = held-get c.index.result.now.registers c.args.register
    ∙ sym (ap (register_in c.args.register) (nth_from_one-read c.args.self.now.mutators.items c.args.mutator c.index.result.now c.requires.mutator.0 c.requires.mutator.1 c.index.ensures))
