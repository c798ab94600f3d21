use Rattle.std.proofs.Common.{◌≡◌, ◌++◌, take}
use Rattle.std.specs.List.{flat_map}
use Rattle.std.specs.Fmt.{decimal}
use Rattle.trace_text.specs.Text.{ended}
use Rattle.driver.proofs.summary.print_lines.Given as goal

abbrev pub invariant-loop-line : goal.invariant-loop-line
invariant-loop-line l = l.to.items ≡ l.fn.to.items ++ flat_map (λ p. ended (p.0.now ++ decimal p.1)) (take l.line-index l.lines)
