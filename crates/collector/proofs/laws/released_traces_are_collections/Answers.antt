use Rattle.std.proofs.Common.{sym, subst, map}
use Rattle.sessions.specs.Plans.{rules_of}
use Rattle.sessions.specs.Collecting.{CollectsIf}
use Rattle.trace_core.specs.Traces.{stage_of}
use Rattle.trace_core.specs.Outcomes.{image}
use Rattle.block_release.specs.Released.{with_numbers}
use Rattle.collector.proofs.WholeCollections.{makes, lawful-after}
use Rattle.collector.proofs.laws.released_traces_are_collections.Goals as goal

pub returns-clause-collects : goal.returns-clause-collects
returns-clause-collects k q c s run w p es roots new lawful may shown reclaims is trace finished asked others fills released =
    subst (λ b. CollectsIf b (rules_of q) w c s roots (with_numbers new run.number run.base) (map (image (stage_of p es)) roots)) (sym reclaims)
    ((makes q c s run w lawful may shown p is es roots new trace finished asked others fills released).0)

pub returns-clause-lawful : goal.returns-clause-lawful
returns-clause-lawful k s run w p es r c new may is = lawful-after s run w may p is es r c new
