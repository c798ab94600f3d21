use Rattle.std.proofs.Common.{◌≡◌, sym, ap, ◌∙◌, subst, inl, inr, ℕ, ◌%◌, false, if◌then◌else◌}
use Rattle.std.proofs.lemmas.Bool.{cases_Bool}
use Rattle.heap_layout.specs.Blocks.{kind_code}
use Rattle.heap_layout.specs.declared.block.Kind.TheVariants as kinds
use Rattle.object_model.specs.Objects.{state_over, block_word, HasKind}
use Rattle.object_model.proofs.OneKind.{kind-from}
use Rattle.object_model.proofs.WordReads.{kind-shown}
use Rattle.block_sweeps.specs.Sweeping.{Sweeps}
use Rattle.plan_api.proofs.Tallies.{kind-of-word}
use Rattle.block_sweeps.proofs.SweptApart.{swept-apart}
use Rattle.plan_api.proofs.ReleasedBlocks as blocks
use Rattle.plan_api.specs.Releasing.{word_after}
use Rattle.plan_api.proofs.SweptSmallBlocks as small
use Rattle.plans.proofs.release.release_small.Goals as goal

pub returns-then-sweep-eq0 : goal.returns-then-sweep-eq0
returns-then-sweep-eq0 g c = λ r collect kept.
    let l = c.args.layout.now in
    let k : ℕ = c.args.block in
    let old = g.W.Words.words c.args.words.now in
    let mid = g.W.Words.words c.sweep.new.words in
    let s = state_over old l 0 0 in
    let none = small.none-living l k old mid c.args.base _ c.requires.block c.sweep.ensures.swept (sym c.sweep.ensures.count ∙ c.if-sweep-eq0.true) in
    blocks.empty l r collect c.args.base _ k old mid
    (λ is. c.requires.head (kind-shown s k kinds.LargeHead c.args.word.now c.requires.valid c.requires.code is))
    (λ is. c.requires.tail (kind-shown s k kinds.LargeTail c.args.word.now c.requires.valid c.requires.code is))
    none c.sweep.ensures.swept

pub mark_lines-requires-clause-extent : goal.mark_lines-requires-clause-extent
mark_lines-requires-clause-extent g c = c.sweep.ensures.swept.rest.extent ∙ c.requires.extent

pub mark_lines-requires-clause-block : goal.mark_lines-requires-clause-block
mark_lines-requires-clause-block g c = λ immix.
    let l = c.args.layout.now in
    let k : ℕ = c.args.block in
    let old = g.W.Words.words c.args.words.now in
    let mid = g.W.Words.words c.sweep.new.words in
    let s = state_over old l 0 0 in
    let is : HasKind s k kinds.Immix = kind-from s k kinds.Immix c.requires.block (kind-of-word s k c.args.word.now c.requires.block c.requires.valid c.requires.code ∙ ap kind_code immix) in
    let found = small.some-living l k old mid c.args.base _ c.requires.block c.sweep.ensures.swept (λ none. c.if-sweep-eq0.false (c.sweep.ensures.count ∙ none)) in
    let plain : c.args.kept ≡ false = elim (cases_Bool c.args.kept) as (λ _. c.args.kept ≡ false) [ inl kept ↦ absurd (c.requires.small kept immix) | inr plain ↦ plain ] in
    small.readable l k old mid c.args.base _ c.requires.block c.sweep.ensures.swept c.requires.releasable c.requires.extent is
    (ap (λ kept. if kept then 8 else block_word s k % 65536) plain) found.0 found.1 found.2

pub mark_lines-requires-clause-apart : goal.mark_lines-requires-clause-apart
mark_lines-requires-clause-apart g c =
    swept-apart c.args.layout.now c.args.block (g.W.Words.words c.args.words.now) (g.W.Words.words c.sweep.new.words) c.args.base _
    c.requires.block c.sweep.ensures.swept c.requires.releasable

pub mark_lines-requires-clause-kind : goal.mark_lines-requires-clause-kind
mark_lines-requires-clause-kind g c = λ immix.
    let l = c.args.layout.now in
    let k : ℕ = c.args.block in
    let old = g.W.Words.words c.args.words.now in
    let mid = g.W.Words.words c.sweep.new.words in
    let s = state_over old l 0 0 in
    let is : HasKind s k kinds.Immix = kind-from s k kinds.Immix c.requires.block (kind-of-word s k c.args.word.now c.requires.block c.requires.valid c.requires.code ∙ ap kind_code immix) in
    let found = small.some-living l k old mid c.args.base _ c.requires.block c.sweep.ensures.swept (λ none. c.if-sweep-eq0.false (c.sweep.ensures.count ∙ none)) in
    let plain : c.args.kept ≡ false = elim (cases_Bool c.args.kept) as (λ _. c.args.kept ≡ false) [ inl kept ↦ absurd (c.requires.small kept immix) | inr plain ↦ plain ] in
    small.immix-now l k old mid c.args.base _ c.requires.block c.sweep.ensures.swept c.requires.releasable c.requires.extent is
    (ap (λ kept. if kept then 8 else block_word s k % 65536) plain) found.0 found.1 found.2

pub returns : goal.returns
returns g c = λ r collect kept.
    let l = c.args.layout.now in
    let k : ℕ = c.args.block in
    let old = g.W.Words.words c.args.words.now in
    let mid = g.W.Words.words c.sweep.new.words in
    let marked = g.W.Words.words c.mark_lines.new.words in
    let new = g.W.Words.words c.unlog_block.new.words in
    let s = state_over old l 0 0 in
    let w = c.args.word.now in
    let immix : (w.kind ≡ kinds.Immix) → HasKind s k kinds.Immix = λ e. kind-from s k kinds.Immix c.requires.block (kind-of-word s k w c.requires.block c.requires.valid c.requires.code ∙ ap kind_code e) in
    let swept : Sweeps c.args.base (word_after r collect s k) s (state_over mid l 0 0) k =
    subst (λ is. Sweeps c.args.base (if is then 8 else block_word s k % 65536) s (state_over mid l 0 0) k) (sym kept) c.sweep.ensures.swept in
    blocks.small l r collect c.args.base k old mid marked new c.requires.block
    (λ is. c.requires.head (kind-shown s k kinds.LargeHead w c.requires.valid c.requires.code is))
    swept
    (λ is. c.mark_lines.ensures.immix (kind-shown s k kinds.Immix w c.requires.valid c.requires.code is))
    (λ not. c.mark_lines.ensures.others (λ e. not (immix e)))
    c.unlog_block.ensures
    (λ is. c.requires.tail (kind-shown s k kinds.LargeTail w c.requires.valid c.requires.code is))
