use Rattle.heap_users.proofs.StopWords.{stopped-before}
use Rattle.heap_users.proofs.user_laws.stops_see_no_stop_word.Goals as goal

pub returns : goal.returns
returns c = λ rules numbers s new i part ms lawful. stopped-before s lawful rules numbers new i part ms
