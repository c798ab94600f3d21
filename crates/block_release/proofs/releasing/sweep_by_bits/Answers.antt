use Rattle.std.proofs.Common.{sym, subst, ℕ, ◌∙◌, arith, true≢false, List}
use Rattle.object_model.specs.Objects.{state_over}
use Rattle.plan_api.specs.Releasing.{word_after}
use Rattle.block_sweeps.specs.Stores.{Stores}
use Rattle.block_release.proofs.MarkedBlocks.{freed, some}
use Rattle.block_release.proofs.releasing.sweep_by_bits.Goals as goal

pub has_object-requires-clause-extent : goal.has_object-requires-clause-extent
has_object-requires-clause-extent c = let known = c.requires.shows in (c.keep_marked.ensures known.0 known.1).rest.extent ∙ c.requires.extent

pub free_block-requires-clause-extent : goal.free_block-requires-clause-extent
free_block-requires-clause-extent c = let known = c.requires.shows in (c.keep_marked.ensures known.0 known.1).rest.extent ∙ c.requires.extent

pub store-requires : goal.store-requires
store-requires c =
    let known = c.requires.shows in
    let long = c.requires.extent in
    let same = (c.keep_marked.ensures known.0 known.1).rest.extent in
    let there = c.requires.block in
    omega (arith, c.block_at.ensures)

pub returns-then-not-has_object : goal.returns-then-not-has_object
returns-then-not-has_object c = record {
  left = λ wrong. absurd (true≢false (sym wrong));
  none = λ _ r collect base shows.
      freed r collect c.args.layout.now base c.args.block c.args.words.now c.keep_marked.new.words c.free_block.new.words
      c.args.word.now c.requires.block c.requires.valid c.requires.code c.requires.head c.requires.tail shows (c.keep_marked.ensures base shows)
      (c.has_object.ensures.none c.if-not-has_object.true) c.free_block.ensures;
}

pub returns-clause-left : goal.returns-clause-left
returns-clause-left c = λ _ r collect base shows flag.
    let l = c.args.layout.now in
    let mid : List ℕ = c.keep_marked.new.words in
    let new : List ℕ = c.store.new.words in
    let old : List ℕ = c.args.words.now in
    let left = c.has_object.ensures.some c.if-not-has_object.false in
    let word = c.encode.ensures ∙ c.word_of_rest-left.ensures.code r collect (state_over old l 0 0) c.args.block c.requires.block c.requires.code flag in
    some r collect l base c.args.block old mid new c.args.word.now c.requires.block c.requires.valid c.requires.code c.requires.head c.requires.tail shows (c.keep_marked.ensures base shows)
    left.0 left.1 left.2
    (subst (λ (i : ℕ). Stores mid new i (word_after r collect (state_over old l 0 0) c.args.block)) c.block_at.ensures (subst (λ (v : ℕ). Stores mid new c.block_at.result v) word c.store.ensures))
