use Rattle.std.proofs.Common.{rules, ◌≡◌, ℕ, ◌∙◌, ap, subst, slice_index, Option, Some, IfSome}
use Rattle.heap_layout.specs.declared.block.BlockWord.{BlockWord}
use Rattle.heap_layout.specs.Blocks.{code_of, IsValidWord}
use Rattle.object_model.specs.Objects.{HeapState, state_over, block_word}
use Rattle.block_sweeps.specs.Sweeping.{Sweeps}
use Rattle.cell_space.proofs.sweeps.sweep_block.Goals as goal

pub returns-clause-swept : goal.returns-clause-swept
returns-clause-swept g c =
    let s : HeapState = state_over (g.W.Words.words c.args.words.now) c.args.layout.now 0 0 in
    let s' : HeapState = state_over (g.W.Words.words c.sweep_block.new.words) c.args.layout.now 0 0 in
    let some : c.decode.result ≡ Some c.unwrap-living.result = search rules in
    let code = subst (λ (o : Option BlockWord). IfSome o (λ w. IsValidWord w × (code_of w ≡ c.get.result))) some c.decode.ensures.some in
    let word : code_of c.unwrap-living.result ≡ block_word s c.args.block = code.1 ∙ c.get.ensures ∙ ap (slice_index (g.W.Words.words c.args.words.now)) c.block_at.ensures in
    subst (λ (v : ℕ). Sweeps c.args.base v s s' c.args.block) word c.sweep_block.ensures.swept
