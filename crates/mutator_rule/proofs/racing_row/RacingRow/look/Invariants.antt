use Rattle.mutator_rule.proofs.racing_row.RacingRow.look.Given as goal

abbrev pub ghosts-look_as : goal.ghosts-look_as
ghosts-look_as g a = record { event = a._event.now }
