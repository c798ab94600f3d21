-- What holds a row may go to another thread.
use denote.Ref.{NamedLft}
use denote.RattleType.{RattleType}
use denote.Param.Send.{IsSend, IsSync, sendable}
use Rattle.std.proofs.Crossing.{crosses}
use Rattle.shared_row.specs.contracts.WordRow as words
use Rattle.object_model.specs.contracts.row.Row as row
use Rattle.plain_tracer.specs.contracts.plain_trace.PlainTrace as tracer
use Rattle.collector.specs.contracts.packet_tracer.PacketTracer as packets
use Rattle.collector.specs.contracts.worker.TracingWorker as worker
use Rattle.shared_row.proofs.Sent.{row_sent}

words_sent : IsSend words.the_row
words_sent = row_sent

ruleset parts = (tt, crosses, sendable, row_sent, words_sent)

pub row_is_sent : IsSend row.the_row
row_is_sent = search parts depth 30

ruleset tracers = (parts, row_is_sent)

pub tracer_is_sent : IsSend tracer.the_row
tracer_is_sent = search tracers depth 30

ruleset whole = (tracers, tracer_is_sent)

pub packets_are_sent : IsSend packets.the_row
packets_are_sent = search whole depth 30

ruleset parts_of_worker = (whole, packets_are_sent)

pub worker_is_sent : (ℓ : NamedLft) (G : RattleType) → IsSync G → IsSend (worker.the_row ℓ G)
worker_is_sent ℓ G s = search parts_of_worker depth 30
