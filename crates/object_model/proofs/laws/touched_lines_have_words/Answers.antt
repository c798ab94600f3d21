use Rattle.object_model.proofs.Lines.{touched-word, word-touched}
use Rattle.object_model.proofs.laws.touched_lines_have_words.Goals as goal

pub returns-clause-word : goal.returns-clause-word
returns-clause-word c = touched-word

pub returns-clause-touched : goal.returns-clause-touched
returns-clause-touched c = word-touched
