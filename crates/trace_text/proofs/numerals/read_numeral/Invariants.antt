use Rattle.std.proofs.Common.{◌≡◌, true, take}
use Rattle.std.specs.Char.{is_ascii_digit}
use Rattle.std.specs.List.{list_all}
use Rattle.std.specs.Str.Parse.{digits_value}
use Rattle.trace_text.specs.Parts.{IsUpTo}
use Rattle.trace_text.proofs.numerals.read_numeral.Given as goal

-- the bytes so far are digits, and their number is known or too large
abbrev pub invariant-loop-b : goal.invariant-loop-b
invariant-loop-b l = record {
  digits : list_all is_ascii_digit (take l.b-index l.word) ≡ true;
  sum : IsUpTo l.most (digits_value 10 (take l.b-index l.word)) l.value;
}
