use Rattle.shared_row.proofs.Names.{unit, RattleType, IsSend, sendable, RuleGhosts as Ghosts, owns_keyless}
use Rattle.shared_row.specs.contracts.shared_words.SharedWords.{the_row}

pub send : (V K P : RattleType) (g : Ghosts P.Denot unit.Denot V.Denot K.Denot) → IsSend (the_row V K P g)
send V K P g = let nothing : IsSend unit = search sendable depth 20 in
    record { owned = λ d vs. ((λ vss. (tt, (tt, ((λ uss. (tt, tt)), tt)))), owns_keyless unit nothing V.coded.code d.table_id (g.holds d.key) d.start d.start); leaving = λ k f vs. tt }
