use Rattle.std.proofs.Common.{◌≡◌, ◌++◌, take}
use Rattle.std.specs.List.{flat_map}
use Rattle.object_model.specs.Heaps.{heap_state}
use Rattle.driver.specs.Texts.{map_line}
use Rattle.driver.proofs.report.print_map.Given as goal

abbrev pub invariant-loop-place : goal.invariant-loop-place
invariant-loop-place l = l.to.items ≡ l.fn.to.items ++ flat_map (λ p. map_line (heap_state l.fn.heap) p.at) (take l.place-index l.live)
