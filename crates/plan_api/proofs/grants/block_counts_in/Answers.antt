use Rattle.std.proofs.Common.{◌≡◌, ◌<◌, ◌+◌, ◌||◌, ℕ, Bool, arith, nat_eq}
use Rattle.heap_layout.specs.declared.block.Kind.TheVariants as kinds
use Rattle.heap_layout.specs.Blocks.{kind_code}
use Rattle.object_model.specs.Objects.{HeapState, has_kind, shown}
use Rattle.sessions.proofs.PlacedSmallObjects.{one_if}
use Rattle.plan_api.proofs.Tallies.{count_below, count-next, free-one, large-one, one-most}
use Rattle.plan_api.proofs.grants.block_counts_in.Goals as goal

pub loop-block-preserved : goal.loop-block-preserved
loop-block-preserved g c =
    let s : HeapState = shown (g.W.Words.words c.args.words.now) c.args.layout.now in
    let b : ℕ = c.loop-block.block in
    let there : b < s.blocks = omega arith in
    let kind = c.block_word_in-kind.result.kind in
    let is_free : ℕ → Bool = λ k. has_kind s k kinds.Free in
    let is_large : ℕ → Bool = λ k. has_kind s k kinds.LargeHead || has_kind s k kinds.LargeTail in
    let free : one_if (is_free b) ≡ one_if (nat_eq (kind_code kind) 0) = free-one s b c.block_word_in-kind.result there c.block_word_in-kind.ensures.valid c.block_word_in-kind.ensures.code in
    let large : one_if (is_large b) ≡ one_if (nat_eq (kind_code kind) 6 || nat_eq (kind_code kind) 7) = large-one s b c.block_word_in-kind.result there c.block_word_in-kind.ensures.valid c.block_word_in-kind.ensures.code in
    let more_free : count_below is_free (b + 1) ≡ count_below is_free b + one_if (is_free b) = count-next is_free b in
    let more_large : count_below is_large (b + 1) ≡ count_below is_large b + one_if (is_large b) = count-next is_large b in
    let few = one-most (nat_eq (kind_code kind) 0) in
    let few' = one-most (nat_eq (kind_code kind) 6 || nat_eq (kind_code kind) 7) in
    let added : c.free_blocks-free.result ≡ one_if (nat_eq (kind_code kind) 0) = c.free_blocks-free.ensures in
    let added' : c.large_blocks-large.result ≡ one_if (nat_eq (kind_code kind) 6 || nat_eq (kind_code kind) 7) = c.large_blocks-large.ensures in
    record { few_free = omega arith; few_large = omega arith; free = omega arith; large = omega arith }
