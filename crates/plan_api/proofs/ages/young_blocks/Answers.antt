use Rattle.std.proofs.Common.{◌≡◌, refl, ℕ, ◌+◌, ◌<◌, ◌∙◌, ap, sym, arith, Bool, true, false, ◌&&◌, nat_eq}
use Rattle.std.specs.Prelude.{not, if◌then◌else◌}
use Rattle.heap_layout.specs.Blocks.{kind_code}
use Rattle.heap_layout.specs.declared.block.Kind.TheVariants as kinds
use Rattle.object_model.specs.Objects.{HeapState, state_over, has_kind}
use Rattle.sessions.proofs.PlacedSmallObjects.{one_if}
use Rattle.plan_api.specs.Ages.{begins_young}
use Rattle.plan_api.proofs.Tallies.{count_below, count-next, has-kind}
use Rattle.plan_api.proofs.YoungBits.{any-with, any-without}
use Rattle.plan_api.proofs.FirstCollections.{is_counted}
use Rattle.plan_api.proofs.ages.young_blocks.Goals as goal
use Rattle.plan_api.proofs.ages.young_blocks.Goals.{then-begins_young, else-begins_young}

pub block_word_in-requires-clause-code : goal.block_word_in-requires-clause-code
block_word_in-requires-clause-code g c = (c.requires.readable c.loop-block.block (omega arith)).code

-- what a block with young objects adds
added : (head : Bool) → one_if (not head) ≡ (if head then 0 else 1)
added true = refl
added false = refl

pub loop-block-preserved : goal.loop-block-preserved
loop-block-preserved g c =
    let l = c.args.layout.now in
    let s : HeapState = state_over (g.W.Words.words c.args.words.now) l 0 c.args.base in
    let k : ℕ = c.loop-block.block in
    let there : k < l.blocks = omega arith in
    let count : count_below (is_counted s) (k + 1) ≡ count_below (is_counted s) k + one_if (is_counted s k) = count-next (is_counted s) k in
    elim c.if-begins_young.branch [
      | then-begins_young w ↦
          let young : begins_young s k ≡ true = sym c.begins_young.ensures ∙ w.if-begins_young.true in
          let word = w.block_word_in in
          let head : has_kind s k kinds.LargeHead ≡ nat_eq (kind_code word.result.kind) 6 = has-kind s k word.result there word.ensures.valid word.ensures.code kinds.LargeHead in
          let adds : one_if (is_counted s k) ≡ w.small_blocks-young.result =
          ap (λ b. one_if (b && not (has_kind s k kinds.LargeHead))) young ∙ ap (λ b. one_if (not b)) head ∙ added (nat_eq (kind_code word.result.kind) 6) ∙ sym w.small_blocks-young.ensures.value in
          let most = w.small_blocks-young.ensures.most in
          let now = w.young-is in
          record {
            few = omega arith;
            some = w.some-is ∙ sym (any-with (begins_young s) k young);
            count = omega arith;
          }
      | else-begins_young w ↦
          let old : begins_young s k ≡ false = sym c.begins_young.ensures ∙ w.if-begins_young.false in
          let adds : one_if (is_counted s k) ≡ 0 = ap (λ b. one_if (b && not (has_kind s k kinds.LargeHead))) old in
          let now = w.young-is in
          record {
            few = omega arith;
            some = w.some-is ∙ c.loop-block.invariant.some ∙ sym (any-without (begins_young s) k old);
            count = omega arith;
          }
    ]
