use Rattle.std.proofs.Common.{◌≡◌, length, map}
use Rattle.std.specs.Prelude.{option_map}
use Rattle.command_line.specs.Words.{split_line}
use Rattle.command_line.specs.Orders.{setting_in, texts}
use Rattle.command_line.proofs.Settings.{with_all}
use Rattle.command_line.proofs.splitter.split_words.Given as goal

-- the result is the settings so far, followed by those of the rest
abbrev pub invariant-loop-pair : goal.invariant-loop-pair
invariant-loop-pair l = split_line (texts l.words) ≡ option_map (with_all (map setting_in l.settings.items)) (split_line (texts l.rest))

abbrev pub decreases-loop-pair : goal.decreases-loop-pair
decreases-loop-pair l = length l.rest
