-- The machine loads the shape word, and then its step is that of a command on nothing.
use Rattle.plain_row.proofs.LoadSteps.{enters-range}
use Rattle.plain_row.proofs.row_steps.PlainRowMutatorSteps.answer_range.Goals as goal

pub returns-clause-goes : goal.returns-clause-goes
returns-clause-goes c = enters-range c.args.self.now c.requires.ready c.args._command.now c.args._shape.now c.requires.shape c.requires.lacks
