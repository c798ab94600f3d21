use Rattle.trace_core.specs.Machine.{ByRoot}
use Rattle.trace_words.specs.Rule.{setup_in}
use Rattle.trace_words.proofs.tests.race.Given as goal

abbrev pub ghosts-give_parts : goal.ghosts-give_parts
ghosts-give_parts g a = record { setup = setup_in a.row.now.key; cause = ByRoot; object = 0; target = 0; index = 1; worker = 1 }
