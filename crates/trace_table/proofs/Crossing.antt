-- A table may be looked at by several threads. A worker's seat and tokens may go to another.
use denote.Builtin.{unit}
use denote.RattleType.{RattleType}
use denote.Param.Send.{IsSend, IsSync, part_keyless, sendable}
use Rattle.std.proofs.Crossing.{crosses}
use denote.Struct.Struct.{Struct}
use denote.Struct.Owning.{shape}
use Rattle.atomic_table.specs.declared.shared.TableRule.{Ghosts}
use Rattle.atomic_table.proofs.Sent.{seat_keyless, shares_keyless}
use Rattle.shared_row.specs.contracts.shared_words.RowSeat as seat
use Rattle.shared_row.specs.contracts.shared_words.SharedWords as words
use Rattle.shared_row.proofs.Leases.{right_shared}
use Rattle.trace_table.specs.contracts.table.TraceTable as table
use Rattle.trace_table.specs.contracts.table.WorkerSeat as worker
use Rattle.trace_table.specs.contracts.tokens.Grey as grey

seat_is_sent : (V : RattleType) → IsSend (seat.the_row V)
seat_is_sent V = let nothing : IsSend unit = search sendable depth 20 in
    record { owned = λ d vs. ((λ vss. (tt, ((λ uss. (tt, tt)), tt))), seat_keyless unit nothing V.coded.code d.table_id d.id d.me); leaving = λ k f vs. tt }

seat_is_looked_at : (V : RattleType) → IsSync (seat.the_row V)
seat_is_looked_at V = record { shared = λ d b o ν q. part_keyless (seat.the_row V) (seat_is_sent V) q d b o }

words_are_looked_at : (V K P : RattleType) (g : Ghosts P.Denot unit.Denot V.Denot K.Denot) → IsSync (words.the_row V K P g)
words_are_looked_at V K P g = let fields : IsSync (Struct (shape (words.the_type V K P g))) = search sendable depth 20 in let nothing : IsSend unit = search sendable depth 20 in
    record { shared = λ d b o ν. (fields.shared (d.start, (tt, tt)) b o ν, shares_keyless unit nothing V.coded.code d.table_id (g.holds d.key) d.start d.start ν) }

ruleset parts = (tt, crosses, sendable, seat_is_sent, seat_is_looked_at, words_are_looked_at, right_shared)

pub table_is_looked_at : IsSync table.the_row
table_is_looked_at = search parts depth 40

pub worker_is_sent : IsSend worker.the_row
worker_is_sent = search parts depth 40

pub grey_is_sent : IsSend grey.the_row
grey_is_sent = search parts depth 40
