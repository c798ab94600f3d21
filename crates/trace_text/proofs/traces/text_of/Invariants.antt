use Rattle.std.proofs.Common.{◌≡◌, ◌++◌, take}
use Rattle.std.specs.List.{flat_map}
use Rattle.trace_text.specs.Grammar.{header}
use Rattle.trace_text.specs.Text.{command_text, ended}
use Rattle.trace_text.proofs.traces.text_of.Given as goal

abbrev pub invariant-loop-command : goal.invariant-loop-command
invariant-loop-command l = l.text.items ≡ ended header ++ flat_map (λ c. ended (command_text c)) (take l.command-index l.commands)
