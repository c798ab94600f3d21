-- A `&` to the shared words holds their invariant and a share of their age.
use Rattle.shared_row.proofs.Names.{[], ◌∷◌, unit, Tuple, RattleType, Laws, copy_shared, RawPtr-field, RawPtr-copy, field_copy, of_Lends, RuleGhosts as Ghosts, shown_laws, lends_shown}
use Rattle.core.specs.contracts.marker.PhantomData as tie
use Rattle.shared_row.specs.contracts.shared_words.SharedWords as bare
use Rattle.shared_row.proofs.shared_words.SharedWords.TheLaw.Statement.{statement}

pub shares : (V K P : RattleType) (g : Ghosts P.Denot unit.Denot V.Denot K.Denot) (L : Laws V) (L' : Laws K) (L'' : Laws P) → statement V K P g L L' L''
shares V K P g L L' L'' = let All = Tuple (P ∷ V ∷ K ∷ []) in of_Lends (bare.struct V K P g) (bare.the_codes V.Denot K.Denot P.Denot V.coded K.coded P.coded (tie.the_row All).coded) (bare.the_heap V K P g) (bare.the_lent V K P g)
    (λ d p. shown_laws unit V.coded (g.holds d.key) d.start d.start d.table_id) (copy_shared RawPtr-field RawPtr-copy, (copy_shared (tie.the_field All) (field_copy (tie.the_type All) tt), tt))
    (λ M 𝓤 𝓛 d p. lends_shown unit V.coded (g.holds d.key) d.start d.start d.table_id 𝓛 (bare.the_row V K P g).lives)
