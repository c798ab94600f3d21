use Rattle.std.proofs.Common.{◌≡◌, ◌+◌, ◌/◌, ◌≤◌, true, false, true≢false, sym, subst, refl, arith}
use Rattle.heap_layout.specs.Zones.{block_start}
use Rattle.object_model.specs.Objects.{HeapState, state_over, class_at}
use Rattle.object_model.specs.Ages.{is_survivor}
use Rattle.block_sweeps.specs.RunSweeps.{FreesAll}
use Rattle.block_sweeps.proofs.RunSpans.{head-survives, object-lives, object-span, none-lives, class-read, last-inside}
use Rattle.block_sweeps.proofs.SweptRuns.{kept-run, freed-run}
use Rattle.block_sweeps.proofs.runs.sweep_run.Goals as goal

pub returns-then-lives-clause-freed : goal.returns-then-lives-clause-freed
returns-then-lives-clause-freed g c =
    let s : HeapState = state_over (g.W.Words.words c.args.words.now) c.args.layout.now 0 0 in
    let survives : is_survivor s c.args.base (block_start c.args.layout.now.blocks c.args.block) ≡ true =
    head-survives s c.args.block c.args.base c.address.result c.lives.result true c.address.ensures c.lives.ensures c.if-lives.true in
    (λ wrong. absurd (true≢false (sym wrong)), λ none. absurd (none (object-lives s c.args.block c.requires.block c.requires.kind c.args.base survives)))

pub returns-then-lives-clause-swept : goal.returns-then-lives-clause-swept
returns-then-lives-clause-swept g c =
    let s : HeapState = state_over (g.W.Words.words c.args.words.now) c.args.layout.now 0 0 in
    kept-run c.args.base s c.args.block c.requires.block c.requires.kind
    (head-survives s c.args.block c.args.base c.address.result c.lives.result true c.address.ensures c.lives.ensures c.if-lives.true)

pub free_all-requires-clause-blocks : goal.free_all-requires-clause-blocks
free_all-requires-clause-blocks g c =
    let s : HeapState = state_over (g.W.Words.words c.args.words.now) c.args.layout.now 0 0 in
    let class : c.get-class.result / 256 ≡ class_at s c.args.block = class-read s c.args.block c.requires.block c.requires.kind c.block_at.result c.get-class.result c.block_at.ensures c.get-class.ensures in
    let inside : c.args.block + class_at s c.args.block ≤ s.blocks = last-inside s c.args.block c.requires.block c.requires.kind in
    omega arith

pub returns-clause-freed : goal.returns-clause-freed
returns-clause-freed g c =
    let s : HeapState = state_over (g.W.Words.words c.args.words.now) c.args.layout.now 0 0 in
    let dead : is_survivor s c.args.base (block_start c.args.layout.now.blocks c.args.block) ≡ false =
    head-survives s c.args.block c.args.base c.address.result c.lives.result false c.address.ensures c.lives.ensures c.if-lives.false in
    (λ _. none-lives s c.args.block c.requires.block c.requires.kind c.args.base dead (block_start c.args.layout.now.blocks c.args.block) (object-span s c.args.block c.requires.block c.requires.kind), λ _. refl)

pub returns-clause-swept : goal.returns-clause-swept
returns-clause-swept g c =
    let s : HeapState = state_over (g.W.Words.words c.args.words.now) c.args.layout.now 0 0 in
    let class : c.get-class.result / 256 ≡ class_at s c.args.block = class-read s c.args.block c.requires.block c.requires.kind c.block_at.result c.get-class.result c.block_at.ensures c.get-class.ensures in
    freed-run c.args.base (g.W.Words.words c.args.words.now) (g.W.Words.words c.clear_head.new.words) (g.W.Words.words c.free_all.new.words) c.args.layout.now c.args.block
    c.requires.block c.requires.kind
    (head-survives s c.args.block c.args.base c.address.result c.lives.result false c.address.ensures c.lives.ensures c.if-lives.false)
    c.clear_head.ensures
    (subst (λ n. FreesAll (state_over (g.W.Words.words c.clear_head.new.words) c.args.layout.now 0 0) (state_over (g.W.Words.words c.free_all.new.words) c.args.layout.now 0 0) c.args.block (c.args.block + n)) class c.free_all.ensures)
