use Rattle.std.proofs.Common.{◌≡◌, drop, map}
use Rattle.command_line.specs.Words.{value_of}
use Rattle.command_line.specs.Orders.{setting_in}
use Rattle.command_line.proofs.splitter.value_of.Given as goal

-- the value in the rest is the value in the whole
abbrev pub invariant-loop-pair : goal.invariant-loop-pair
invariant-loop-pair l = value_of l.name (map setting_in (drop l.pair-index l.settings)) ≡ value_of l.name (map setting_in l.settings)
