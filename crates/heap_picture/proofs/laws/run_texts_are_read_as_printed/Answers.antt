use Rattle.heap_picture.proofs.Whole.{printed_is_read, read_is_printed}
use Rattle.heap_picture.proofs.laws.run_texts_are_read_as_printed.Goals as goal

pub returns-clause-printed : goal.returns-clause-printed
returns-clause-printed c report places text is = printed_is_read report places text is

pub returns-clause-read : goal.returns-clause-read
returns-clause-read c text s e = read_is_printed text s e
