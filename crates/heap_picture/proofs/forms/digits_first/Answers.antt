use Rattle.std.proofs.Common.{sym, ◌∙◌, ap, arith}
use Rattle.std.specs.Prelude.{not}
use Rattle.std.proofs.lemmas.List.Sums.{position_or_len_is}
use Rattle.heap_picture.specs.Forms.{is_no_digit}
use Rattle.heap_picture.proofs.forms.digits_first.Goals as goal

pub returns-then-not-is_ascii_digit-clause-place : goal.returns-then-not-is_ascii_digit-clause-place
returns-then-not-is_ascii_digit-clause-place c =
    sym (position_or_len_is is_no_digit c.args.text.now c.loop-k.k 0 (omega arith) c.loop-k.invariant (λ _. ap not (sym c.is_ascii_digit.ensures.value ∙ c.if-not-is_ascii_digit.true)))

pub returns-clause-place : goal.returns-clause-place
returns-clause-place c =
    sym (position_or_len_is is_no_digit c.args.text.now _ 0 (omega arith) (λ k low. c.loop-k.invariant k (omega arith)) (λ low. absurd (omega arith)))
