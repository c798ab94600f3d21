use Rattle.std.proofs.Common.{◌≡◌, drop, map}
use Rattle.command_line.specs.Words.{are_single}
use Rattle.command_line.specs.Orders.{setting_in}
use Rattle.command_line.proofs.splitter.are_all_single.Given as goal

-- the result depends on the rest alone
abbrev pub invariant-loop-i : goal.invariant-loop-i
invariant-loop-i l = are_single (map setting_in (drop l.i l.settings)) ≡ are_single (map setting_in l.settings)
