use Rattle.mutator_rule.proofs.racing_row.RacingRow.copy.Given as goal

abbrev pub ghosts-copy_as : goal.ghosts-copy_as
ghosts-copy_as g a = record { event = a._event.now }
