use Rattle.std.proofs.Common.{◌≡◌, ◌∙◌, sym, ap, subst, ◌+◌, ◌*◌, slice_index}
use Rattle.object_model.specs.Objects.{HeapState, state_over}
use Rattle.block_sweeps.specs.Touches.{AreStarts}
use Rattle.block_sweeps.proofs.LineStarts.{starts-are}
use Rattle.block_sweeps.proofs.TouchedWords.{start_word}
use Rattle.block_sweeps.proofs.lines.start_word.Goals as goal

pub returns : goal.returns
returns g c =
    let s : HeapState = state_over (g.W.Words.words c.args.words.now) c.args.layout.now 0 0 in
    let same : c.get.result ≡ start_word s c.args.block c.args.index
    = c.get.ensures ∙ ap (λ i. slice_index s.words (i + 64 * c.args.block + c.args.index)) c.start_base.ensures in
    subst (AreStarts s c.args.block c.args.index) (sym same) (starts-are s c.args.block c.args.index c.requires.block c.requires.index)
