use Rattle.std.proofs.Common.{◌≡◌, ℕ, ◌*◌, ◌-◌, subst, arith, List}
use Rattle.object_model.specs.Objects.{HeapState, state_over}
use Rattle.block_sweeps.specs.WordSweeps.{SweepsWords}
use Rattle.block_release.proofs.MarkedBlocks.{may-mark, marked-next, marked-first, block-stays}
use Rattle.block_release.proofs.releasing.keep_marked.Goals as goal

pub loop-index-init : goal.loop-index-init
loop-index-init c = λ base shows.
    let s : HeapState = state_over c.args.words.now c.args.layout.now 0 0 in
    let none : 0 ≡ 64 * c.args.block - 64 * c.args.block = omega arith in
    subst (λ (n : ℕ). SweepsWords base (64 * c.args.block) n s s) none (marked-first base (64 * c.args.block) s)

pub returns-then-not-bits_differ : goal.returns-then-not-bits_differ
returns-then-not-bits_differ c = λ base shows.
    block-stays base c.args.block (state_over c.args.words.now c.args.layout.now 0 0) c.requires.extent c.requires.block c.requires.releasable shows (c.bits_differ.ensures.none c.if-not-bits_differ.true)

pub keep_marked_in-requires : goal.keep_marked_in-requires
keep_marked_in-requires c =
    let s : HeapState = state_over c.args.words.now c.args.layout.now 0 0 in
    let known = c.requires.shows in
    let ws : List ℕ = c.loop-index.words in
    may-mark known.0 c.args.block c.loop-index.index s ws ws c.requires.extent c.requires.block c.requires.releasable known.1 c.loop-index.auto.index c.loop-index-test.true
    (c.loop-index.invariant known.0 known.1)

pub loop-index-preserved : goal.loop-index-preserved
loop-index-preserved c = λ base shows.
    let s : HeapState = state_over c.args.words.now c.args.layout.now 0 0 in
    marked-next base c.args.block c.loop-index.index s c.loop-index.words c.keep_marked_in.new.words c.requires.extent c.requires.block c.requires.releasable shows
    c.loop-index.auto.index c.loop-index-test.true (c.loop-index.invariant base shows) (c.keep_marked_in.ensures base)

pub returns : goal.returns
returns c = λ base shows.
    let s : HeapState = state_over c.args.words.now c.args.layout.now 0 0 in
    let ws : List ℕ = c.loop-index.words in
    let most = c.loop-index.auto.index-end (let there = c.requires.block in omega arith) in
    let all : c.loop-index.index - 64 * c.args.block ≡ 64 = omega arith in
    subst (λ (n : ℕ). SweepsWords base (64 * c.args.block) n s (state_over ws c.args.layout.now 0 0)) all (c.loop-index.invariant base shows)
