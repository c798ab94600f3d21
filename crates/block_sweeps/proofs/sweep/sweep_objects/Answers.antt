use Rattle.std.proofs.Common.{◌≡◌, ℕ, ◌+◌, ◌*◌, ◌-◌, ◌≤◌, ap, sym, ◌∙◌, subst, arith, List}
use Rattle.std.proofs.lemmas.Nat.{ones-le}
use Rattle.object_model.specs.Objects.{HeapState, state_over}
use Rattle.block_sweeps.specs.WordSweeps.{SweepsWords}
use Rattle.block_sweeps.proofs.SweptBlocks.{begun, may-sweep, may-next, swept-next, count-next, keeps-living, few-begun}
use Rattle.block_sweeps.proofs.sweep.sweep_objects.Goals as goal

pub sweep_word-count-requires : goal.sweep_word-count-requires
sweep_word-count-requires g c =
    let s : HeapState = state_over (g.W.Words.words c.args.words.now) c.args.layout.now 0 0 in
    let block = c.requires.block in
    may-next c.args.base (64 * c.args.block) c.loop-index.index s (g.W.Words.words c.loop-index.words) c.loop-index.auto.index (omega arith) c.loop-index.invariant.swept
    (may-sweep s c.args.block c.loop-index.index c.requires.extent c.requires.block c.requires.releasable c.loop-index.auto.index c.loop-index-test.true)

pub overflow_add-count : goal.overflow_add-count
overflow_add-count g c =
    let s : HeapState = state_over (g.W.Words.words c.loop-index.words) c.args.layout.now 0 0 in
    let few : c.loop-index.count ≤ 64 * (c.loop-index.index - 64 * c.args.block) = subst (λ (n : ℕ). n ≤ 64 * (c.loop-index.index - 64 * c.args.block)) (sym c.loop-index.invariant.count) (few-begun s c.args.block (c.loop-index.index - 64 * c.args.block)) in
    let one : c.sweep_word-count.result ≤ 64 = subst (λ (n : ℕ). n ≤ 64) (sym c.sweep_word-count.ensures.count) (ones-le 64 _ c.sweep_word-count.ensures.fits) in
    omega arith

pub loop-index-preserved : goal.loop-index-preserved
loop-index-preserved g c =
    let s : HeapState = state_over (g.W.Words.words c.args.words.now) c.args.layout.now 0 0 in
    let m : HeapState = state_over (g.W.Words.words c.loop-index.words) c.args.layout.now 0 0 in
    let ws : List ℕ = g.W.Words.words c.sweep_word-count.new.words in
    let block = c.requires.block in
    record {
      swept = swept-next c.args.base (64 * c.args.block) c.loop-index.index s (g.W.Words.words c.loop-index.words) ws c.loop-index.auto.index (omega arith) c.loop-index.invariant.swept c.sweep_word-count.ensures.swept;
      count = ap (λ n. n + c.sweep_word-count.result) c.loop-index.invariant.count ∙ ap (λ n. begun m c.args.block (c.loop-index.index - 64 * c.args.block) + n) c.sweep_word-count.ensures.count
          ∙ sym (count-next m c.args.block c.loop-index.index ws c.loop-index.auto.index (omega arith) c.sweep_word-count.ensures.swept.rest c.sweep_word-count.ensures.fits);
    }

pub returns-clause-objects : goal.returns-clause-objects
returns-clause-objects g c =
    let s : HeapState = state_over (g.W.Words.words c.args.words.now) c.args.layout.now 0 0 in
    let ws : List ℕ = g.W.Words.words c.loop-index.words in
    let most = c.loop-index.auto.index-end (omega arith) in
    let all : c.loop-index.index - 64 * c.args.block ≡ 64 = omega arith in
    keeps-living c.args.base c.args.block s ws c.requires.block (subst (λ (n : ℕ). SweepsWords c.args.base (64 * c.args.block) n s (state_over ws c.args.layout.now 0 0)) all c.loop-index.invariant.swept)

pub returns-clause-rest : goal.returns-clause-rest
returns-clause-rest g c =
    let s : HeapState = state_over (g.W.Words.words c.args.words.now) c.args.layout.now 0 0 in
    let ws : List ℕ = g.W.Words.words c.loop-index.words in
    let most = c.loop-index.auto.index-end (omega arith) in
    let all : c.loop-index.index - 64 * c.args.block ≡ 64 = omega arith in
    (subst (λ (n : ℕ). SweepsWords c.args.base (64 * c.args.block) n s (state_over ws c.args.layout.now 0 0)) all c.loop-index.invariant.swept).rest

pub returns-clause-count : goal.returns-clause-count
returns-clause-count g c =
    let most = c.loop-index.auto.index-end (omega arith) in
    let all : c.loop-index.index - 64 * c.args.block ≡ 64 = omega arith in
    c.loop-index.invariant.count ∙ ap (begun (state_over (g.W.Words.words c.loop-index.words) c.args.layout.now 0 0) c.args.block) all
