use Rattle.mutator_rule.proofs.racing_row.RacingRow.exchange.Given as goal

abbrev pub ghosts-exchange_as : goal.ghosts-exchange_as
ghosts-exchange_as g a = record { event = a._event.now }
