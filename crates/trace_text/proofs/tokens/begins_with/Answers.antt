use Rattle.std.proofs.Common.{ℕ, ◌-◌, arith, List, take, drop, length}
use Rattle.std.proofs.lemmas.Bool.Decides.{Decides-eqb}
use Rattle.std.proofs.lemmas.List.{take_rest}
use Rattle.std.proofs.lemmas.Slice.Eq.{starts_is}
use Rattle.trace_text.proofs.FirstFour.{begins_alike}
use Rattle.trace_text.proofs.tokens.begins_with.Goals as goal

pub returns-then-word-lt4 : goal.returns-then-word-lt4
returns-then-word-lt4 c = (starts_is Decides-eqb c.args.text.now c.args.word.now c.starts_with.result c.starts_with.ensures.value).0

pub returns : goal.returns
returns c begun =
    let text : List ℕ = c.args.text.now in
    let word : List ℕ = c.args.word.now in
    let xs : List ℕ = take (length text - 4) (drop 4 text) in
    let ys : List ℕ = take (length word - 4) (drop 4 word) in
    begins_alike text word c.first_four.result c.first_four-2.result c.if-text-lt4.false c.if-word-lt4.false (λ i. (c.type_inv.text i).fits) (λ i. (c.type_inv.word i).fits)
    c.first_four.ensures c.first_four-2.ensures c.if-first_four.false xs ys (take_rest text 4) (take_rest word 4) ((starts_is Decides-eqb xs ys c.starts_with-2.result c.starts_with-2.ensures.value).0 begun)
