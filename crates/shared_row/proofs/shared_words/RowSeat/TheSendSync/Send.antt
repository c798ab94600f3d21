use Rattle.shared_row.proofs.Names.{unit, RattleType, IsSend, sendable, seat_keyless}
use Rattle.shared_row.specs.contracts.shared_words.RowSeat.{the_row}

pub send : (V : RattleType) → IsSend (the_row V)
send V = let nothing : IsSend unit = search sendable depth 20 in record { owned = λ d vs. ((λ vss. (tt, ((λ uss. (tt, tt)), tt))), seat_keyless unit nothing V.coded.code d.table_id d.id d.me); leaving = λ k f vs. tt }
