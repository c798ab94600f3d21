use Rattle.std.proofs.Common.{◌≡◌, ◌∙◌, ap, ℕ, ◌^◌, List, slice_index, slice_set, bit_and, w64}
use Rattle.std.specs.Int.{bit_at, bit_not}
use Rattle.side_meta.specs.BitWords.{without_bit}
use Rattle.side_meta.proofs.BitWords.{one-shifted, without-same, without-other, own-word, changes-bit}
use Rattle.side_meta.proofs.single_bits.clear_bit.Goals as goal

pub returns : goal.returns
returns g c =
    let old : List ℕ = g.W.Words.words c.args.words.now in
    let new : List ℕ = g.W.Words.words c.set.new.self in
    let i : ℕ = c.args.index in
    let k : ℕ = c.args.bit in
    let word : ℕ = slice_index old i in
    let stored : new ≡ slice_set old i (without_bit word k) =
    c.set.ensures.words ∙ ap (λ m. slice_set old i (let w : ℕ = c.get-word.result in bit_and w (bit_not w64 m))) (one-shifted k c.requires.bit)
    ∙ ap (λ w. slice_set old i (bit_and w (bit_not w64 (2 ^ k)))) c.get-word.ensures in
    record {
      words = stored;
      clear = ap (λ w. bit_at w k) (own-word old new i k (without_bit word k) c.requires.word stored) ∙ without-same word k c.requires.bit;
      alone = changes-bit old new i k (without_bit word k) c.requires.word stored (λ n. without-other word k n c.requires.bit);
      fit = c.set.ensures.fit;
    }
