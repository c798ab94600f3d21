use Rattle.std.proofs.Common.{◌≡◌, ◌+◌, ◌≤◌, ◌++◌, take}
use Rattle.std.specs.Prelude.{vec_len, vec_capacity}
use Rattle.trace_text.proofs.digits.put.Given as goal

abbrev pub invariant-loop-b : goal.invariant-loop-b
invariant-loop-b l = record {
  items : l.to.items ≡ l.fn.to.items ++ take l.b-index l.text;
  count : vec_len l.to ≡ vec_len l.fn.to + l.b-index;
  capacity : vec_capacity l.fn.to ≤ vec_capacity l.to;
}
