use Rattle.driver.proofs.LiveLines.{ideal-text}
use Rattle.driver.proofs.LiveNames as live
use Rattle.driver.proofs.report_laws.live_objects_are_ideal.Goals as goal

pub returns-clause-names : goal.returns-clause-names
returns-clause-names c = live.live-names

pub returns-clause-sizes : goal.returns-clause-sizes
returns-clause-sizes c = live.live-sizes

pub returns-clause-words : goal.returns-clause-words
returns-clause-words c = live.live-words

pub returns-clause-one : goal.returns-clause-one
returns-clause-one c = live.one-list

pub returns-clause-line : goal.returns-clause-line
returns-clause-line c t now xs names sound are so = live.live-line t now xs sound are names so

pub returns-clause-text : goal.returns-clause-text
returns-clause-text c = ideal-text
