use Rattle.std.proofs.Common.{ℕ, ◌+◌, ◌∙◌, sym, subst, arith, List}
use Rattle.heap_layout.specs.Zones.{first, BlockWords}
use Rattle.heap_layout.specs.Blocks.{code_of}
use Rattle.object_model.specs.Objects.{HeapState, state_over}
use Rattle.block_sweeps.specs.Stores.{Stores}
use Rattle.block_sweeps.proofs.BlockSweeps.{swept-free, swept-kept, count-end, word-only}
use Rattle.block_sweeps.proofs.sweep.sweep_block.Goals as goal

pub free_block-requires-clause-extent : goal.free_block-requires-clause-extent
free_block-requires-clause-extent g c = c.sweep_objects-count.ensures.rest.extent ∙ c.requires.extent

pub store-requires : goal.store-requires
store-requires g c =
    let long = c.requires.extent in
    let same = c.sweep_objects-count.ensures.rest.extent in
    let there = c.requires.block in
    omega (arith, c.block_at.ensures)

pub returns-then-count-eq0 : goal.returns-then-count-eq0
returns-then-count-eq0 g c =
    let s : HeapState = state_over (g.W.Words.words c.args.words.now) c.args.layout.now 0 0 in
    let ws : List ℕ = g.W.Words.words c.sweep_objects-count.new.words in
    let ws' : List ℕ = g.W.Words.words c.free_block.new.words in
    record {
      swept = swept-free c.args.base c.args.block s ws ws' c.requires.block c.sweep_objects-count.ensures.objects c.sweep_objects-count.ensures.rest c.free_block.ensures.rest (code_of c.args.living.now)
          (sym c.sweep_objects-count.ensures.count ∙ c.if-count-eq0.true) c.free_block.ensures.freed;
      count = c.sweep_objects-count.ensures.count
          ∙ sym (count-end c.args.base c.args.block s ws ws' c.requires.block c.sweep_objects-count.ensures.objects c.sweep_objects-count.ensures.rest c.free_block.ensures.rest);
    }

pub returns-else-count-eq0 : goal.returns-else-count-eq0
returns-else-count-eq0 g c =
    let s : HeapState = state_over (g.W.Words.words c.args.words.now) c.args.layout.now 0 0 in
    let ws : List ℕ = g.W.Words.words c.sweep_objects-count.new.words in
    let ws' : List ℕ = g.W.Words.words c.store.new.words in
    let after : ℕ = code_of c.args.living.now in
    let long = c.requires.extent in
    let same = c.sweep_objects-count.ensures.rest.extent in
    let there = c.requires.block in
    let word : Stores ws ws' (first c.args.layout.now.blocks BlockWords + c.args.block) after =
    subst (λ (i : ℕ). Stores ws ws' i after) c.block_at.ensures (subst (λ (v : ℕ). Stores ws ws' c.block_at.result v) c.encode.ensures c.store.ensures) in
    let changes = word-only s c.args.block after ws ws' word in
    record {
      swept = swept-kept c.args.base c.args.block s ws ws' c.requires.block c.sweep_objects-count.ensures.objects c.sweep_objects-count.ensures.rest changes after
          (λ none. c.if-count-eq0.false (c.sweep_objects-count.ensures.count ∙ none)) word;
      count = c.sweep_objects-count.ensures.count
          ∙ sym (count-end c.args.base c.args.block s ws ws' c.requires.block c.sweep_objects-count.ensures.objects c.sweep_objects-count.ensures.rest changes);
    }
