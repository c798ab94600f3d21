use Rattle.std.proofs.Common.{sym, subst}
use Rattle.object_model.specs.Objects.{HeapState}
use Rattle.object_model.specs.Changes.{ObjectsStay}
use Rattle.object_model.specs.Lawful.{LineBitsAreExact}
use Rattle.object_model.proofs.Frames.{lines-after, same-layout}
use Rattle.object_model.proofs.laws.steps_keep_line_bits.Goals as goal

pub returns : goal.returns
returns c = λ old new k keeps exact.
    let same = same-layout old new keeps.blocks keeps.number keeps.base in
    subst (λ (x : HeapState). LineBitsAreExact x k) (sym same) (lines-after old new.words (subst (λ (x : HeapState). ObjectsStay old x) same keeps) k exact)
