use Rattle.std.proofs.Common.{ℕ, ◌≡◌, ◌+◌, ◌*◌, ◌/◌, ◌%◌, ◌∙◌, ap, arith, nat_eq}
use Rattle.std.specs.Int.{bit_at}
use Rattle.heap_layout.specs.Zones.{first, LineWords}
use Rattle.object_model.specs.Objects.{word_at}
use Rattle.object_model.proofs.laws.lines_have_words.Goals as goal

pub returns : goal.returns
returns c s k line small =
    let word : first s.blocks LineWords + (256 * k + line) / 64 ≡ first s.blocks LineWords + 4 * k + line / 64 = omega arith in
    let place : (256 * k + line) % 64 ≡ line % 64 = omega arith in
    ap (λ (i : ℕ). nat_eq (bit_at (word_at s i) ((256 * k + line) % 64)) 1) word ∙ ap (λ (p : ℕ). nat_eq (bit_at (word_at s (first s.blocks LineWords + 4 * k + line / 64)) p) 1) place
