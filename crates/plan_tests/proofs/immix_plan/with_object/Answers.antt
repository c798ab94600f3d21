use Rattle.std.proofs.Common.{◌≡◌, ℕ, List, refl, ap, ◌∙◌, arith, length, slice_set}
use Rattle.std.proofs.Math.ListN.{length-set}
use Rattle.heap_layout.specs.declared.block.Kind.TheVariants as kinds
use Rattle.object_model.specs.declared.row.Row.{Row}
use Rattle.object_model.specs.Objects.{HeapState, state_of, with_words}
use Rattle.object_model.specs.WorkedHeaps.{one_block, with_lines, with_first_object}
use Rattle.plan_tests.proofs.immix_plan.with_object.Goals as goal

-- how many words the row has
row-len : length (one_block kinds.Immix 0).words ≡ 17190
row-len = refl

has-len : (row : Row) → state_of row ≡ one_block kinds.Immix 0 → length row.words ≡ 17190
has-len row is = ap (λ (s : HeapState). length s.words) is ∙ row-len

same-len : (old new : List ℕ) (i n k : ℕ) → new ≡ slice_set old i n → length old ≡ k → length new ≡ k
same-len old new i n k is len = ap length is ∙ length-set old i n ∙ len

pub set-requires : goal.set-requires
set-requires c = let len = has-len c.args.row c.requires in omega arith

pub set-requires-2 : goal.set-requires-2
set-requires-2 c = let len = same-len _ _ _ _ _ c.set.ensures.words (has-len c.args.row c.requires) in omega arith

pub set-requires-3 : goal.set-requires-3
set-requires-3 c = let len = same-len _ _ _ _ _ c.set-2.ensures.words (same-len _ _ _ _ _ c.set.ensures.words (has-len c.args.row c.requires)) in omega arith

pub set-requires-4 : goal.set-requires-4
set-requires-4 c = let len = same-len _ _ _ _ _ c.set-3.ensures.words (same-len _ _ _ _ _ c.set-2.ensures.words (same-len _ _ _ _ _ c.set.ensures.words (has-len c.args.row c.requires))) in
    omega arith

pub returns : goal.returns
returns c = let written = c.set-4.ensures.words ∙ ap (λ ws. slice_set ws 807 1310720) (c.set-3.ensures.words ∙ ap (λ ws. slice_set ws 806 33) (c.set-2.ensures.words ∙ ap (λ ws. slice_set ws 38 1) c.set.ensures.words)) in
    ap (λ ws. with_words (state_of c.args.row) ws) written ∙ ap (λ (s : HeapState). with_first_object (with_lines s 3) 20) c.requires
