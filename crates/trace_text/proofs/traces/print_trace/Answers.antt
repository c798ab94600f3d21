use Rattle.trace_text.proofs.WholeTraces.{printed_again, printed_alone}
use Rattle.trace_text.proofs.traces.print_trace.Goals as goal

pub returns-clause-again : goal.returns-clause-again
returns-clause-again c = printed_again c.args.commands.now c.text_of.result c.requires.valid c.requires.few c.text_of.ensures

pub returns-clause-alone : goal.returns-clause-alone
returns-clause-alone c = printed_alone c.args.commands.now c.text_of.result c.text_of.ensures
