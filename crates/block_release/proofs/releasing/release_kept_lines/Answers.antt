use Rattle.std.proofs.Common.{◌≡◌, ◌∙◌, sym, ap, arith, ℕ, ◌<◌, Bool, false, List, true≢false}
use Rattle.heap_layout.specs.Blocks.{kind_code, code_of, IsValidWord}
use Rattle.heap_layout.specs.declared.block.Kind.TheVariants as kinds
use Rattle.heap_layout.specs.declared.block.BlockWord.{BlockWord}
use Rattle.heap_layout.specs.declared.layout.Layout.{Layout}
use Rattle.object_model.specs.declared.collect.Collect.{Collect}
use Rattle.object_model.specs.declared.collect.Collect.TheVariants.{Full}
use Rattle.object_model.specs.Objects.{HeapState, state_over, block_word, HasKind}
use Rattle.object_model.proofs.OneKind.{kind-from, one-kind}
use Rattle.plan_api.proofs.Tallies.{kind-of-word}
use Rattle.sessions.specs.Plans.{Rules}
use Rattle.block_release.specs.Released.{FlagShowsEvacuation}
use Rattle.block_release.proofs.BlockReads.{all-unlogged}
use Rattle.block_release.proofs.KeptBlocks.{immix-not-kept}
use Rattle.block_release.proofs.SweptBlocks.{readable, apart, relisted, either}
use Rattle.block_release.proofs.releasing.release_kept_lines.Goals as goal

module _ (l : Layout) (k : ℕ) (old : List ℕ) (w : BlockWord) (there : k < l.blocks) (valid : IsValidWord w) (code : code_of w ≡ block_word (state_over old l 0 0) k) (is : w.kind ≡ kinds.Immix) where
  abbrev s : HeapState
  s = state_over old l 0 0

  immix : HasKind s k kinds.Immix
  immix = kind-from s k kinds.Immix there (kind-of-word s k w there valid code ∙ ap kind_code is)

  no-head : HasKind s k kinds.LargeHead → ⊥
  no-head head = (let e = one-kind s k kinds.LargeHead kinds.Immix head immix in omega arith)

  no-tail : HasKind s k kinds.LargeTail → ⊥
  no-tail tail = (let e = one-kind s k kinds.LargeTail kinds.Immix tail immix in omega arith)

  -- an Immix block is never Kept, whatever its flag
  any-flag : (r : Rules) (c : Collect) (flag : Bool) → FlagShowsEvacuation r c s k flag
  any-flag r c flag kept none = absurd (true≢false (sym kept ∙ immix-not-kept s k immix))

pub relist_block-requires-clause-block : goal.relist_block-requires-clause-block
relist_block-requires-clause-block g c =
    let l = c.args.layout.now in let k = c.args.block in let old = c.args.words.now in let w = c.args.word.now in let b = c.requires.block in let r = g.P.Plan.rules in
    let some = c.sweep_by_bits.ensures.left c.if-sweep_by_bits.true r Full c.requires.shows.0 c.requires.shows.1 (any-flag l k old w b c.requires.valid c.requires.code c.requires.immix r Full false) in
    readable r Full l c.requires.shows.0 k old c.sweep_by_bits.new.words b some (no-head l k old w b c.requires.valid c.requires.code c.requires.immix) (no-tail l k old w b c.requires.valid c.requires.code c.requires.immix)
    c.requires.releasable c.requires.extent (immix l k old w b c.requires.valid c.requires.code c.requires.immix)

pub relist_block-requires-clause-apart : goal.relist_block-requires-clause-apart
relist_block-requires-clause-apart g c =
    let l = c.args.layout.now in let k = c.args.block in let old = c.args.words.now in let w = c.args.word.now in let b = c.requires.block in let r = g.P.Plan.rules in
    let some = c.sweep_by_bits.ensures.left c.if-sweep_by_bits.true r Full c.requires.shows.0 c.requires.shows.1 (any-flag l k old w b c.requires.valid c.requires.code c.requires.immix r Full false) in
    apart r Full l c.requires.shows.0 k old c.sweep_by_bits.new.words b some (no-head l k old w b c.requires.valid c.requires.code c.requires.immix) (no-tail l k old w b c.requires.valid c.requires.code c.requires.immix)
    c.requires.releasable c.requires.extent (immix l k old w b c.requires.valid c.requires.code c.requires.immix)

pub returns-then-not-bits_differ : goal.returns-then-not-bits_differ
returns-then-not-bits_differ g c = λ collect base shows lines.
    let l = c.args.layout.now in let k = c.args.block in let old = c.args.words.now in let w = c.args.word.now in let b = c.requires.block in let r = g.P.Plan.rules in
    let flag = any-flag l k old w b c.requires.valid c.requires.code c.requires.immix r collect false in
    either r collect l base k old c.sweep_by_bits-left.new.words b (no-head l k old w b c.requires.valid c.requires.code c.requires.immix) (no-tail l k old w b c.requires.valid c.requires.code c.requires.immix)
    (lines (λ a here held. (shows a here held).1 (all-unlogged (state_over old l 0 0) k b (c.bits_differ.ensures.none c.if-not-bits_differ.true) a here held)))
    c.sweep_by_bits-left.result (λ left. c.sweep_by_bits-left.ensures.left left r collect base shows flag) (λ none. c.sweep_by_bits-left.ensures.none none r collect base shows)

pub returns-then-sweep_by_bits : goal.returns-then-sweep_by_bits
returns-then-sweep_by_bits g c = λ collect base shows lines.
    let l = c.args.layout.now in let k = c.args.block in let old = c.args.words.now in let w = c.args.word.now in let b = c.requires.block in let r = g.P.Plan.rules in
    let some = c.sweep_by_bits.ensures.left c.if-sweep_by_bits.true r collect base shows (any-flag l k old w b c.requires.valid c.requires.code c.requires.immix r collect false) in
    relisted r collect l base k old c.sweep_by_bits.new.words b some (no-head l k old w b c.requires.valid c.requires.code c.requires.immix) (no-tail l k old w b c.requires.valid c.requires.code c.requires.immix)
    c.requires.releasable c.requires.extent (immix l k old w b c.requires.valid c.requires.code c.requires.immix) c.requires.lines c.relist_block.new.words c.relist_block.ensures
