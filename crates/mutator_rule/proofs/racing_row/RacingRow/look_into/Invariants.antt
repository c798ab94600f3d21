use Rattle.mutator_rule.proofs.racing_row.RacingRow.look_into.Given as goal

abbrev pub ghosts-look_into_as : goal.ghosts-look_into_as
ghosts-look_into_as g a = record { event = a._event.now }
