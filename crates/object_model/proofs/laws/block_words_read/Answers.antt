use Rattle.std.proofs.Common.{sym}
use Rattle.heap_layout.proofs.BlockLemmas.{code_parts, kind_code_most, valid_most}
use Rattle.heap_layout.specs.Blocks.{kind_code}
use Rattle.object_model.specs.Objects.{block_word}
use Rattle.object_model.proofs.OneKind.{kind-from}
use Rattle.object_model.proofs.laws.block_words_read.Goals as goal

pub returns : goal.returns
returns c s k w valid there is =
    let parts = code_parts (kind_code w.kind) w.class w.owner (block_word s k) (kind_code_most w.kind) (valid_most w.kind w.class w.owner valid).0 (sym is) in
    (kind-from s k w.kind there parts.0, parts.1, parts.2)
