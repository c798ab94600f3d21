use Rattle.sessions.proofs.PlacedObjects as placed
use Rattle.sessions.proofs.stop_laws.places_are_determined.Goals as goal

pub returns-clause-small : goal.returns-clause-small
returns-clause-small c = placed.one-small

pub returns-clause-large : goal.returns-clause-large
returns-clause-large c = placed.one-large

pub returns-clause-hole : goal.returns-clause-hole
returns-clause-hole c s a k at size there rules places = placed.before-hole s a k size there rules places at

pub returns-clause-free : goal.returns-clause-free
returns-clause-free c s a k size there rules places = placed.before-free s a k size there rules places
