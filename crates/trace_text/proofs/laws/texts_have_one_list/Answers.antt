use Rattle.trace_text.proofs.ReplyTexts.{one_list, refused_in, full_in, refused_or_more, full_in_text}
use Rattle.trace_text.proofs.laws.texts_have_one_list.Goals as goal

pub returns-clause-one : goal.returns-clause-one
returns-clause-one c = one_list

pub returns-clause-full : goal.returns-clause-full
returns-clause-full c m xs = (refused_in m xs, full_in m xs)

pub returns-clause-longer : goal.returns-clause-longer
returns-clause-longer c m xs more = (refused_or_more m xs more, full_in_text m xs more)
