use Rattle.std.proofs.Common.{◌≡◌, ◌++◌, take}
use Rattle.std.specs.List.{flat_map}
use Rattle.heap_picture.specs.Drawn.{part_text}
use Rattle.heap_picture.proofs.parts.draw_parts.Given as goal

abbrev pub invariant-loop-part : goal.invariant-loop-part
invariant-loop-part l = l.to.items ≡ l.fn.to.items ++ flat_map part_text (take l.part-index l.parts)
