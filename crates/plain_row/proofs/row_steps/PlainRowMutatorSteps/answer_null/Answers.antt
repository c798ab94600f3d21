-- The machine's step is that of a command on nothing.
use Rattle.plain_row.proofs.LoadSteps.{enters-null}
use Rattle.plain_row.proofs.row_steps.PlainRowMutatorSteps.answer_null.Goals as goal

pub returns-clause-goes : goal.returns-clause-goes
returns-clause-goes c = enters-null c.args.self.now c.requires.ready c.args._command.now c.requires.access c.requires.none
