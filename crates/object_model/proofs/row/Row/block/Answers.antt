use Rattle.std.proofs.Common.{◌≡◌, ◌∙◌, ap, sym, subst, IsTrue}
use Rattle.heap_layout.specs.Blocks.{is_block_code}
use Rattle.object_model.specs.Objects.{HeapState, state_of, word_at, block_word}
use Rattle.object_model.proofs.row.Row.block.Goals as goal

pub unwrap-requires : goal.unwrap-requires
unwrap-requires c =
    let s : HeapState = state_of c.args.self.now in
    let word : c.get.result ≡ block_word s c.args.block = c.get.ensures ∙ ap (word_at s) c.block_at.ensures in
    c.decode.ensures.code.1 (subst (λ v. IsTrue (is_block_code v)) (sym word) c.requires.code)
