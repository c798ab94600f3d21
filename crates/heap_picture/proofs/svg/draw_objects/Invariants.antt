use Rattle.std.proofs.Common.{◌≡◌, ◌++◌, take}
use Rattle.std.specs.List.{flat_map}
use Rattle.heap_picture.specs.Drawn.{bar_text}
use Rattle.heap_picture.proofs.svg.draw_objects.Given as goal

abbrev pub invariant-loop-place : goal.invariant-loop-place
invariant-loop-place l = l.to.items ≡ l.fn.to.items ++ flat_map (bar_text l.names l.blocks) (take l.place-index l.places)
