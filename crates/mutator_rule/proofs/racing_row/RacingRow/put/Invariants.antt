use Rattle.mutator_rule.proofs.racing_row.RacingRow.put.Given as goal

abbrev pub ghosts-finds_as : goal.ghosts-finds_as
ghosts-finds_as g a = record { event = a._event.now }

abbrev pub ghosts-put_as : goal.ghosts-put_as
ghosts-put_as g a = record { event = a._event.now }
