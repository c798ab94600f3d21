use Rattle.std.proofs.Common.{◌≡◌, ℕ, ◌+◌, ◌*◌, ◌/◌, ◌-◌, ◌<◌, sym, ◌∙◌, ap, subst, arith}
use Rattle.object_model.specs.Objects.{HeapState, state_over, class_at, cell_words}
use Rattle.cell_space.specs.WordCells.{IsFirstBeside, HasNoneBeside}
use Rattle.cell_space.proofs.CellSearch.{IsSearched, searched-more, at-end, found-cell}
use Rattle.cell_space.proofs.FreeCellLaws.{apart-cell}
use Rattle.cell_space.proofs.search.next_cell.Goals as goal

pub returns-in-Some-clause-cell : goal.returns-in-Some-clause-cell
returns-in-Some-clause-cell g c =
    let s : HeapState = state_over (g.W.Words.words c.args.words.now) c.args.layout.now 0 0 in
    let size : ℕ = c.cell_size-size.result in
    let cells : size ≡ cell_words (class_at s c.args.block) = c.cell_size-size.ensures.words ∙ ap cell_words (sym c.requires.class) in
    found-cell s c.args.block c.args.from size c.cell_size-size.ensures.least cells c.loop-at.at c.loop-at.invariant c.in-Some.found
    (subst (λ (n : ℕ). IsFirstBeside s c.args.block n c.loop-at.at c.in-Some.found) (sym c.cell_size-size.ensures.words) c.in-Some.ensures.cell) c.fitting.result c.fitting.ensures

pub returns-in-Some-clause-apart : goal.returns-in-Some-clause-apart
returns-in-Some-clause-apart g c =
    let s : HeapState = state_over (g.W.Words.words c.args.words.now) c.args.layout.now 0 0 in
    apart-cell s c.args.block c.args.from c.args.class c.requires.kind c.requires.class c.fitting.result (returns-in-Some-clause-cell g c)

pub loop-at-preserved : goal.loop-at-preserved
loop-at-preserved g c =
    let s : HeapState = state_over (g.W.Words.words c.args.words.now) c.args.layout.now 0 0 in
    let size : ℕ = c.cell_size-size.result in
    let cells : size ≡ cell_words (class_at s c.args.block) = c.cell_size-size.ensures.words ∙ ap cell_words (sym c.requires.class) in
    let next : ℕ = 64 * (c.loop-at.at / 64 + 1) in
    subst (λ (n : ℕ). IsSearched s c.args.block c.args.from size (n * size)) (sym c.div_ceil-in-loop-at.ensures)
    (searched-more s c.args.block c.args.from size c.cell_size-size.ensures.least cells c.loop-at.at c.loop-at.invariant
    (subst (λ (n : ℕ). HasNoneBeside s c.args.block n c.loop-at.at) (sym c.cell_size-size.ensures.words) c.in_default.ensures.cell))

pub returns-clause-cell : goal.returns-clause-cell
returns-clause-cell g c =
    let s : HeapState = state_over (g.W.Words.words c.args.words.now) c.args.layout.now 0 0 in
    let size : ℕ = c.cell_size-size.result in
    let cells : size ≡ cell_words (class_at s c.args.block) = c.cell_size-size.ensures.words ∙ ap cell_words (sym c.requires.class) in
    let past : 4096 - size < c.loop-at.at = omega arith in
    at-end s c.args.block c.args.from size c.cell_size-size.ensures.least cells c.loop-at.at c.loop-at.invariant past c.cell_size-size.ensures.most
