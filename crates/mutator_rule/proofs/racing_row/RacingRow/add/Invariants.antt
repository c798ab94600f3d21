use Rattle.mutator_rule.proofs.racing_row.RacingRow.add.Given as goal

abbrev pub ghosts-add_as : goal.ghosts-add_as
ghosts-add_as g a = record { event = a._event.now }
