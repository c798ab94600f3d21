use Rattle.trace_core.proofs.Clauses.{claimed-once, scanned-once, old-unclaimed, idle-unscanned}
use Rattle.trace_core.proofs.laws.each_field_is_scanned_once.Goals as goal

pub returns-clause-claims : goal.returns-clause-claims
returns-clause-claims c = claimed-once

pub returns-clause-scans : goal.returns-clause-scans
returns-clause-scans c = scanned-once

pub returns-clause-old : goal.returns-clause-old
returns-clause-old c = old-unclaimed

pub returns-clause-idle : goal.returns-clause-idle
returns-clause-idle c = idle-unscanned
