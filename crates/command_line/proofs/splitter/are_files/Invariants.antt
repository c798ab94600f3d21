use Rattle.std.proofs.Common.{◌≡◌, drop}
use Rattle.std.specs.List.{list_all}
use Rattle.command_line.specs.Words.{is_file}
use Rattle.command_line.specs.Orders.{texts}
use Rattle.command_line.proofs.splitter.are_files.Given as goal

-- the result depends on the rest alone
abbrev pub invariant-loop-word : goal.invariant-loop-word
invariant-loop-word l = list_all is_file (texts (drop l.word-index l.words)) ≡ list_all is_file (texts l.words)
