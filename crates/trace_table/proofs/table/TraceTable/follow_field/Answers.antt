use Rattle.std.proofs.Common.{ap}
use Rattle.trace_core.specs.Machine.{ClaimCause}
use Rattle.trace_core.specs.Views.{asked_roots}
use Rattle.trace_table.proofs.table.TraceTable.follow_field.Goals as goal

pub follow-requires-clause-no_root : goal.follow-requires-clause-no_root
follow-requires-clause-no_root g c = λ asked. ap (λ (cause : ClaimCause). asked_roots g.C.About.object cause asked) c.requires.about.2
