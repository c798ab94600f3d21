use Rattle.trace_words.proofs.laws.rooms_are_in_blocks_of_their_workers.Goals as goal

pub returns : goal.returns
returns c = λ p s keeps j v at some-word. let is = keeps.shares j v at in let end = is.room some-word in (end.0, end.1.from, end.1.limit, (is.owned end.0 v.worker end.1.owner).1)
