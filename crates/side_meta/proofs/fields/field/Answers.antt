use Rattle.std.proofs.Common.{◌≡◌, ◌∙◌, ap, ◌/◌, ◌%◌, ◌^◌, bit_and, slice_index}
use Rattle.std.proofs.lemmas.Nat.{and_mask}
use Rattle.side_meta.specs.Fields.{field_bits, place_word, place_shift}
use Rattle.side_meta.proofs.fields.field.Goals as goal

pub returns : goal.returns
returns g c =
    let ws = g.W.Words.words c.args.words.now in
    let s = c.args.spec.now in
    let word : c.place-word.result.0 ≡ place_word s c.args.address = ap (λ p. p.0) c.place-word.ensures in
    let shift : c.place-word.result.1 ≡ place_shift s c.args.address = ap (λ p. p.1) c.place-word.ensures in
    ap (λ m. bit_and (c.get.result / 2 ^ c.place-word.result.1) m) c.ones.ensures
    ∙ and_mask (c.get.result / 2 ^ c.place-word.result.1) (field_bits s)
    ∙ ap (λ y. y / 2 ^ c.place-word.result.1 % 2 ^ field_bits s) (c.get.ensures ∙ ap (λ i. slice_index ws i) word)
    ∙ ap (λ k. slice_index ws (place_word s c.args.address) / 2 ^ k % 2 ^ field_bits s) shift
