use Rattle.block_release.proofs.InOrder.{released}
use Rattle.block_release.proofs.LawfulReleases.{held, unlogged, stops, shapes, lines, lawful}
use Rattle.block_release.proofs.laws.released_heaps_are_lawful.Goals as goal
use Rattle.trace_core.specs.Setups.{blocks}

pub returns-clause-held : goal.returns-clause-held
returns-clause-held c p es r k new a trace finished below = held p es trace finished r k new (released p es r k new (blocks p) trace finished below) a

pub returns-clause-unlogged : goal.returns-clause-unlogged
returns-clause-unlogged c p es r k new a trace finished below = unlogged p es trace finished r k new (released p es r k new (blocks p) trace finished below) a

pub returns-clause-words : goal.returns-clause-words
returns-clause-words c p es r k new i trace finished below = stops p es trace finished r k new (released p es r k new (blocks p) trace finished below) i

pub returns-clause-shapes : goal.returns-clause-shapes
returns-clause-shapes c p es r k new x trace finished below = shapes p es trace finished r k new (released p es r k new (blocks p) trace finished below) x

pub returns-clause-lines : goal.returns-clause-lines
returns-clause-lines c p es r k new a line trace finished below = lines p es trace finished r k new (released p es r k new (blocks p) trace finished below) a line

pub returns-clause-lawful : goal.returns-clause-lawful
returns-clause-lawful c p es r k new trace finished fits below = lawful p es trace finished r k new fits (released p es r k new (blocks p) trace finished below)
