use denote.Param.Send.{param_send}
use Rattle.shared_row.specs.contracts.rows.WordRow.{the_row}
use Rattle.shared_row.proofs.Sent.{row_sent, row_shared}
use Rattle.shared_row.proofs.tests.threads.rows_cross_threads.Goals as goal

pub may_be_sent-requires-send-T : goal.may_be_sent-requires-send-T
may_be_sent-requires-send-T c κs = record { owned = row_sent.owned; leaving = (param_send 0 the_row row_sent).leaving }

pub may_be_looked_at-requires-sync-T : goal.may_be_looked_at-requires-sync-T
may_be_looked_at-requires-sync-T c κs = record { shared = row_shared.shared }
