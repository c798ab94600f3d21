use Rattle.std.proofs.Common.{ap, ◌∙◌}
use Rattle.std.proofs.lemmas.Bool.{cond-true}
use Rattle.object_model.specs.Objects.{global_at}
use Rattle.trace_core.specs.Setups.{refs}
use Rattle.trace_core.specs.Machine.{forward}
use Rattle.trace_core.specs.Traces.{fields_scanned, machine_after, stage_of}
use Rattle.trace_core.proofs.Law.{sound}
use Rattle.trace_core.proofs.Clauses.{forwarded, scanned-once}
use Rattle.trace_core.proofs.laws.finished_traces_are_whole.Goals as goal

pub returns-clause-scans : goal.returns-clause-scans
returns-clause-scans c p es trace finished x t is busy = scanned-once p es trace x busy ∙ ap fields_scanned (finished.objects x t is)

pub returns-clause-fields : goal.returns-clause-fields
returns-clause-fields c p es trace finished x t i is more = forwarded p es trace x t (refs p x) i (finished.objects x t is) more

pub returns-clause-globals : goal.returns-clause-globals
returns-clause-globals c p es trace finished g few = (sound p es trace).sides.globals.value g few
    ∙ cond-true ((machine_after p es).set g) (forward (stage_of p es) (global_at p.before g)) (global_at p.before g) (finished.globals g few)
