use Rattle.mutator_rule.proofs.racing_row.RacingRow.publish.Given as goal

abbrev pub ghosts-publish_as : goal.ghosts-publish_as
ghosts-publish_as g a = record { event = a._event.now }
