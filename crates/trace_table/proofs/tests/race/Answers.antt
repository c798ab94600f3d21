use denote.Param.Send.{IsSend, sendable, param_send}
use Rattle.trace_table.proofs.tests.race.Lts.{arg-0-1}
use Rattle.std.proofs.Crossing.{crosses}
use Rattle.trace_table.proofs.Crossing.{table_is_looked_at, worker_is_sent}
use Rattle.trace_table.proofs.tests.race.Goals as goal

ruleset sends = (tt, crosses, sendable, table_is_looked_at, worker_is_sent)

pub join-requires-send-F : goal.join-requires-send-F
join-requires-send-F g c κs within =
    let closure : IsSend (arg-0-1 g.row.R g.R.laws g.R.Threads-dict κs) = search sends depth 40 in
    param_send 1 _ closure
