use Rattle.std.proofs.Common.{◌≡◌, ◌-◌, ◌≤◌, true, take, drop}
use Rattle.std.specs.Char.{is_ascii_digit}
use Rattle.std.specs.List.{list_all}
use Rattle.std.specs.Str.Parse.{digits_value}
use Rattle.trace_text.proofs.tokens.number_after.Given as goal

-- the bytes so far are digits, and their number is known
abbrev pub invariant-loop-k : goal.invariant-loop-k
invariant-loop-k l = record {
  room : l.k ≤ l.count;
  digits : list_all is_ascii_digit (take l.k (drop l.from l.text)) ≡ true;
  exact : l.value ≡ digits_value 10 (take l.k (drop l.from l.text));
  within : l.value ≤ l.most;
}

abbrev pub decreases-loop-k : goal.decreases-loop-k
decreases-loop-k l = l.count - l.k
