use Rattle.std.proofs.Common.{◌≡◌, ◌<◌, ◌+◌, ◌*◌, ◌^◌, arith}
use Rattle.heap_layout.specs.Zones.{row_words}
use Rattle.object_model.specs.Objects.{word_at}
use Rattle.object_model.proofs.laws.collector_words_read.Goals as goal

pub returns : goal.returns
returns c s a n t few address is =
    let below : t < row_words s.blocks = address.below in
    let word : word_at s (a + 2) ≡ n * 2 ^ 24 + t = is in
    (omega arith, omega arith)
