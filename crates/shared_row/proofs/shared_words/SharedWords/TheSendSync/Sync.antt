use Rattle.shared_row.proofs.Names.{unit, RattleType, IsSend, IsSync, sendable, Struct, shape, RuleGhosts as Ghosts, shares_keyless}
use Rattle.shared_row.specs.contracts.shared_words.SharedWords.{the_row, the_type}

pub sync : (V K P : RattleType) (g : Ghosts P.Denot unit.Denot V.Denot K.Denot) → IsSync (the_row V K P g)
sync V K P g = let fields : IsSync (Struct (shape (the_type V K P g))) = search sendable depth 20 in let nothing : IsSend unit = search sendable depth 20 in
    record { shared = λ d b o ν. (fields.shared (d.start, (tt, tt)) b o ν, shares_keyless unit nothing V.coded.code d.table_id (g.holds d.key) d.start d.start ν) }
