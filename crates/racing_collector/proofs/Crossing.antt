-- Workers of a racing trace may go to another thread.
use denote.Ref.{NamedLft}
use denote.RattleType.{RattleType}
use denote.Param.Send.{IsSend, IsSync, sendable}
use denote.Param.SendFields.{declared_send, declared_sync}
use Rattle.std.proofs.Crossing.{crosses}
use Rattle.trace_table.proofs.Crossing.{table_is_looked_at, worker_is_sent, grey_is_sent}
use Rattle.racing_collector.specs.contracts.racing.Racing as racing
use Rattle.racing_collector.specs.contracts.worker.RacingWorker as worker

ruleset parts = (tt, crosses, sendable)

pub racing_is_looked_at : IsSync racing.the_row
racing_is_looked_at = declared_sync racing.the_type (table_is_looked_at, (search parts depth 20, tt))

ruleset whole = (parts, worker_is_sent, grey_is_sent, racing_is_looked_at)

pub racer_is_sent : (ℓ : NamedLft) (G : RattleType) → IsSync G → IsSend (worker.the_row ℓ G)
racer_is_sent ℓ G s = declared_send (worker.the_type ℓ G) (search whole depth 20, (worker_is_sent, (search whole depth 20, (search whole depth 20, (search whole depth 20, (search whole depth 20, (search whole depth 20, tt)))))))
