use Rattle.std.proofs.Common.{◌∙◌, ap, sym}
use Rattle.heap_picture.specs.Forms.{place_in}
use Rattle.heap_picture.proofs.PlacesRead.{place_read, place_again, place_line_is}
use Rattle.heap_picture.proofs.laws.places_are_read_as_printed.Goals as goal

pub returns-clause-read : goal.returns-clause-read
returns-clause-read c line p = (place_read line p, λ is. ap place_in is.0 ∙ place_again p is.1)

pub returns-clause-line : goal.returns-clause-line
returns-clause-line c p = sym (place_line_is p)
