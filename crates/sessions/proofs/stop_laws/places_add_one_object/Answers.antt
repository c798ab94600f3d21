use Rattle.sessions.proofs.PlacedObjects as placed
use Rattle.sessions.proofs.stop_laws.places_add_one_object.Goals as goal

pub returns-clause-entry : goal.returns-clause-entry
returns-clause-entry c = placed.placed-entry

pub returns-clause-counts : goal.returns-clause-counts
returns-clause-counts c = placed.placed-counts

pub returns-clause-fits : goal.returns-clause-fits
returns-clause-fits c t m d refs nums before now misfits places = misfits places.fits

pub returns-clause-globals : goal.returns-clause-globals
returns-clause-globals c = placed.placed-globals

pub returns-clause-small_kind : goal.returns-clause-small_kind
returns-clause-small_kind c = placed.small-kind

pub returns-clause-small_blocks : goal.returns-clause-small_blocks
returns-clause-small_blocks c = placed.small-blocks

pub returns-clause-small_words : goal.returns-clause-small_words
returns-clause-small_words c = placed.small-words

pub returns-clause-large_block : goal.returns-clause-large_block
returns-clause-large_block c = placed.large-block

pub returns-clause-large_words : goal.returns-clause-large_words
returns-clause-large_words c = placed.large-words
