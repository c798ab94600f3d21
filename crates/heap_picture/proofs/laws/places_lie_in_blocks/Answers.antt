use Rattle.heap_picture.proofs.Lies.{place_lies}
use Rattle.heap_picture.proofs.laws.places_lie_in_blocks.Goals as goal

pub returns-clause-lie : goal.returns-clause-lie
returns-clause-lie c blocks p holds = (place_lies blocks p holds).0

pub returns-clause-most : goal.returns-clause-most
returns-clause-most c blocks p holds = (place_lies blocks p holds).1
