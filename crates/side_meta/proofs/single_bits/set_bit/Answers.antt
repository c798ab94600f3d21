use Rattle.std.proofs.Common.{◌≡◌, ◌∙◌, ap, ℕ, ◌^◌, List, slice_index, slice_set, bit_or}
use Rattle.std.specs.Int.{bit_at}
use Rattle.side_meta.specs.BitWords.{with_bit}
use Rattle.side_meta.proofs.BitWords.{one-shifted, with-same, with-other, own-word, changes-bit}
use Rattle.side_meta.proofs.single_bits.set_bit.Goals as goal

pub returns : goal.returns
returns g c =
    let old : List ℕ = g.W.Words.words c.args.words.now in
    let new : List ℕ = g.W.Words.words c.set.new.self in
    let i : ℕ = c.args.index in
    let k : ℕ = c.args.bit in
    let word : ℕ = slice_index old i in
    let stored : new ≡ slice_set old i (with_bit word k) =
    c.set.ensures.words ∙ ap (λ m. slice_set old i (let w : ℕ = c.get-word.result in bit_or w m)) (one-shifted k c.requires.bit)
    ∙ ap (λ w. slice_set old i (bit_or w (2 ^ k))) c.get-word.ensures in
    record {
      words = stored;
      set = ap (λ w. bit_at w k) (own-word old new i k (with_bit word k) c.requires.word stored) ∙ with-same word k;
      alone = changes-bit old new i k (with_bit word k) c.requires.word stored (λ n _. with-other word k n);
      fit = c.set.ensures.fit;
    }
