use Rattle.heap_picture.proofs.SessionPlaces.{sound-read}
use Rattle.heap_picture.proofs.SessionTexts.{map-is, replies-are, report-is}
use Rattle.heap_picture.proofs.laws.session_texts_are_read.Goals as goal

pub returns-clause-replies : goal.returns-clause-replies
returns-clause-replies c n last = replies-are n last

pub returns-clause-report : goal.returns-clause-report
returns-clause-report c plan n last live = report-is plan n last live

pub returns-clause-map : goal.returns-clause-map
returns-clause-map c last live = map-is last live

pub returns-clause-read : goal.returns-clause-read
returns-clause-read c t plan last text same sound ended some few brief s fit =
    let map = c.maps_show_the_ideal_heap.ensures.places t last s.live sound s.are in
    sound-read t plan last text same sound ended some few brief s map.inside map.apart fit
