use Rattle.command_line.proofs.Spelled.{spelled, split_of_spelled}
use Rattle.command_line.proofs.laws.spelled_command_lines.Goals as goal

pub returns-clause-spelled : goal.returns-clause-spelled
returns-clause-spelled c words l e = spelled words l e

pub returns-clause-read : goal.returns-clause-read
returns-clause-read c settings files words spells = split_of_spelled settings files words spells
