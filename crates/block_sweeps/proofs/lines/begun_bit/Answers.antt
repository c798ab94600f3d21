use Rattle.std.proofs.Common.{refl}
use Rattle.std.proofs.lemmas.Bool.{ne_eqb}
use Rattle.block_sweeps.proofs.LineEnds.{begun-one}
use Rattle.block_sweeps.proofs.lines.begun_bit.Goals as goal

pub returns : goal.returns
returns c = λ s k index starts. begun-one s k index c.args.line c.args.starts c.line_bits.result _ c.requires c.line_bits.type_inv starts c.line_bits.ensures
    (λ none. rw none refl) (λ some. rw (ne_eqb c.line_bits.result 0 some) refl)
