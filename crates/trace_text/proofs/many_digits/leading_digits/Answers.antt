use Rattle.std.proofs.Common.{◌≡◌, ap, sym, ◌∙◌, ℕ, ◌+◌, ◌%◌, ◌≤◌, ◌<◌, arith, List, length, get_or}
use Rattle.std.proofs.lemmas.Bool.{leb-false}
use Rattle.std.proofs.lemmas.Simd.{length-chunk, trailing_mask_l, none_from_empty_mask, run_in_chunk_le, run_in_chunk_fails}
use lib.Count.{count_trailing_zeros}
use lib.Lanes.{chunk}
use Rattle.trace_text.proofs.ManyDigits.{run_digits, is_digit, is_other, mask_of_others}
use Rattle.trace_text.proofs.many_digits.leading_digits.Goals as goal

pub returns-then-others-eq0-clause-digits : goal.returns-then-others-eq0-clause-digits
returns-then-others-eq0-clause-digits c =
    let text : List ℕ = c.args.text.now in
    let from : ℕ = c.args.from in
    let mask = mask_of_others (chunk from 16 text) (length-chunk from 16 text c.requires) in
    run_digits text from 16 c.requires (λ k low high. is_digit (get_or text k 0) (c.type_inv.text k).fits
    (leb-false 10 _ (none_from_empty_mask is_other text from 16 0 c.requires (sym mask ∙ c.if-others-eq0.true) k low high)))

pub returns-else-others-eq0-clause-most : goal.returns-else-others-eq0-clause-most
returns-else-others-eq0-clause-most c =
    let text : List ℕ = c.args.text.now in
    let from : ℕ = c.args.from in
    let v : List ℕ = chunk from 16 text in
    let long : length v ≡ 16 = length-chunk from 16 text c.requires in
    let mask = mask_of_others v long in
    let counted = ap (count_trailing_zeros 64) mask ∙ trailing_mask_l is_other 64 v (omega arith) (omega (arith, mask, c.if-others-eq0.false)) in
    run_in_chunk_le is_other text from 16 _ 0 c.requires counted

pub returns-else-others-eq0-clause-digits : goal.returns-else-others-eq0-clause-digits
returns-else-others-eq0-clause-digits c =
    let text : List ℕ = c.args.text.now in
    let from : ℕ = c.args.from in
    let v : List ℕ = chunk from 16 text in
    let long : length v ≡ 16 = length-chunk from 16 text c.requires in
    let mask = mask_of_others v long in
    let counted = ap (count_trailing_zeros 64) mask ∙ trailing_mask_l is_other 64 v (omega arith) (omega (arith, mask, c.if-others-eq0.false)) in
    let most = run_in_chunk_le is_other text from 16 _ 0 c.requires counted in
    run_digits text from _ (omega (arith, most, c.requires)) (λ k low high. is_digit (get_or text k 0) (c.type_inv.text k).fits
    (leb-false 10 _ (run_in_chunk_fails is_other text from 16 _ 0 c.requires counted k low high)))
