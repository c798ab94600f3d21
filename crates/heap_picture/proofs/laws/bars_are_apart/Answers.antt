use Rattle.heap_picture.proofs.MapBars.{map-bars, room-bars}
use Rattle.heap_picture.proofs.laws.bars_are_apart.Goals as goal

pub returns-clause-map : goal.returns-clause-map
returns-clause-map c h mutators blocks places is each = map-bars h mutators blocks places is each

pub returns-clause-read : goal.returns-clause-read
returns-clause-read c report places text is = room-bars report.mutators report.blocks places is.apart is.each
