use Rattle.std.proofs.Common.{◌∙◌, sym, refl, ℕ, List}
use Rattle.immix_space.proofs.SweptObjects.{none-living, some-living, readable, immix-now}
use Rattle.immix_space.proofs.SweptLines.{swept-empty, swept-some, count-kept}
use Rattle.block_sweeps.proofs.SweptApart.{swept-apart}
use Rattle.immix_space.proofs.ExactLines.{swept-exact}
use Rattle.immix_space.proofs.sweeps.sweep_block.Goals as goal

pub returns-then-count-eq0-clause-swept : goal.returns-then-count-eq0-clause-swept
returns-then-count-eq0-clause-swept g c =
    let l = c.args.layout.now in
    let k : ℕ = c.args.block in
    let old : List ℕ = g.W.Words.words c.args.words.now in
    let new : List ℕ = g.W.Words.words c.sweep_block-count.new.words in
    swept-empty l k c.args.base 4 old new (none-living l k old new c.args.base 4 c.requires.block c.sweep_block-count.ensures.swept (sym c.sweep_block-count.ensures.count ∙ c.if-count-eq0.true)) c.sweep_block-count.ensures.swept

pub returns-then-count-eq0-clause-count : goal.returns-then-count-eq0-clause-count
returns-then-count-eq0-clause-count g c = sym c.if-count-eq0.true ∙ c.sweep_block-count.ensures.count

pub relist-requires-clause-block : goal.relist-requires-clause-block
relist-requires-clause-block g c =
    let l = c.args.layout.now in
    let k : ℕ = c.args.block in
    let old : List ℕ = g.W.Words.words c.args.words.now in
    let mid : List ℕ = g.W.Words.words c.sweep_block-count.new.words in
    let found = some-living l k old mid c.args.base 4 c.requires.block c.sweep_block-count.ensures.swept (λ none. c.if-count-eq0.false (c.sweep_block-count.ensures.count ∙ none)) in
    readable l k old mid c.args.base 4 c.requires.block c.sweep_block-count.ensures.swept c.requires.releasable c.requires.extent c.requires.kind refl found.0 found.1 found.2

pub relist-requires-clause-apart : goal.relist-requires-clause-apart
relist-requires-clause-apart g c =
    swept-apart c.args.layout.now c.args.block (g.W.Words.words c.args.words.now) (g.W.Words.words c.sweep_block-count.new.words) c.args.base 4
    c.requires.block c.sweep_block-count.ensures.swept c.requires.releasable

pub relist-requires-clause-kind : goal.relist-requires-clause-kind
relist-requires-clause-kind g c =
    let l = c.args.layout.now in
    let k : ℕ = c.args.block in
    let old : List ℕ = g.W.Words.words c.args.words.now in
    let mid : List ℕ = g.W.Words.words c.sweep_block-count.new.words in
    let found = some-living l k old mid c.args.base 4 c.requires.block c.sweep_block-count.ensures.swept (λ none. c.if-count-eq0.false (c.sweep_block-count.ensures.count ∙ none)) in
    immix-now l k old mid c.args.base 4 c.requires.block c.sweep_block-count.ensures.swept c.requires.releasable c.requires.extent c.requires.kind refl found.0 found.1 found.2

pub returns-clause-swept : goal.returns-clause-swept
returns-clause-swept g c =
    let l = c.args.layout.now in
    let k : ℕ = c.args.block in
    let old : List ℕ = g.W.Words.words c.args.words.now in
    let mid : List ℕ = g.W.Words.words c.sweep_block-count.new.words in
    let new : List ℕ = g.W.Words.words c.relist.new.words in
    let found = some-living l k old mid c.args.base 4 c.requires.block c.sweep_block-count.ensures.swept (λ none. c.if-count-eq0.false (c.sweep_block-count.ensures.count ∙ none)) in
    swept-some l k mid new c.requires.block c.relist.ensures.marked old c.args.base found.0 found.1 found.2 c.sweep_block-count.ensures.swept

pub returns-clause-count : goal.returns-clause-count
returns-clause-count g c =
    c.sweep_block-count.ensures.count ∙ sym (count-kept c.args.layout.now c.args.block (g.W.Words.words c.sweep_block-count.new.words) (g.W.Words.words c.relist.new.words) c.requires.block c.relist.ensures.marked)

pub returns-then-count-eq0-clause-exact : goal.returns-then-count-eq0-clause-exact
returns-then-count-eq0-clause-exact g c =
    swept-exact c.args.layout.now c.args.block (g.W.Words.words c.args.words.now) (g.W.Words.words c.sweep_block-count.new.words) c.args.base c.requires.block (returns-then-count-eq0-clause-swept g c)

pub returns-clause-exact : goal.returns-clause-exact
returns-clause-exact g c =
    swept-exact c.args.layout.now c.args.block (g.W.Words.words c.args.words.now) (g.W.Words.words c.relist.new.words) c.args.base c.requires.block (returns-clause-swept g c)
