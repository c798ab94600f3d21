use Rattle.std.proofs.Common.{◌∙◌, ap, map, ◌++◌}
use Rattle.driver.specs.Texts.{replies_part, report_part}
use Rattle.driver.specs.Texts.{place_of}
use Rattle.driver.proofs.MapPlaces.{map-lines, map-of}
use Rattle.driver.proofs.report_laws.maps_show_the_ideal_heap.Goals as goal

pub returns-clause-lines : goal.returns-clause-lines
returns-clause-lines c = map-lines

pub returns-clause-places : goal.returns-clause-places
returns-clause-places c = map-of

pub returns-clause-text : goal.returns-clause-text
returns-clause-text c t plan n last text sound is = (
  replies_part n last ++ report_part plan n last is.live,
  map (place_of last.heap) is.live,
  map-of t last is.live sound is.are,
  is.printed ∙ ap (λ l. replies_part n last ++ report_part plan n last is.live ++ l) (map-lines last is.live),
)
