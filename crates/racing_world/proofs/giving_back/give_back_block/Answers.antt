use Rattle.std.proofs.Common.{◌≡◌, ◌∙◌, ◌+◌, refl, sym, ap, subst, arith, List, ℕ, ◌%◌, get_or}
use Rattle.std.specs.Prelude.{slice_set}
use Rattle.object_model.specs.Objects.{HeapState, state_of, state_over, block_word}
use Rattle.object_model.specs.Lawful.{IsReadableBlock}
use Rattle.plan_api.specs.Relisting.{Relists}
use Rattle.block_sweeps.specs.Sweeping.{AreApart}
use Rattle.plan_api.proofs.BlockViews.{block-anyway}
use Rattle.plan_api.proofs.CellParts.{apart-anyway}
use Rattle.block_regions.specs.Notes.{without_owner}
use Rattle.block_regions.proofs.GivingBack.{readable-without, apart-without}
use Rattle.block_regions.proofs.Relisted.{relists-anyway}
use Rattle.racing_world.specs.GivingBack.{given}
use Rattle.racing_world.proofs.giving_back.give_back_block.Goals as goal

pub relist_block-requires-clause-block : goal.relist_block-requires-clause-block
relist_block-requires-clause-block g c =
    let row = c.args.row.now in
    let s : HeapState = state_of row in
    let k : ℕ = c.args.block in
    let i : ℕ = c.block_at-at.result in
    let at : i ≡ 18 + k = c.block_at-at.ensures in
    let word : c.get-word.result ≡ block_word s k = c.get-word.ensures ∙ ap (λ (n : ℕ). get_or row.words n 0) at in
    let same : c.set.new.self ≡ (without_owner s k).words
    = c.set.ensures.words ∙ ap (λ (n : ℕ). slice_set row.words n (c.get-word.result % 65536)) at ∙ ap (λ (v : ℕ). slice_set row.words (18 + k) (v % 65536)) word in
    subst (λ (w : List ℕ). IsReadableBlock (state_over w row.layout 0 0) k) (sym same)
    (block-anyway (without_owner s k).words row.layout s.number s.base 0 0 k (readable-without s c.requires.order k c.requires.block c.requires.code))

pub relist_block-requires-clause-apart : goal.relist_block-requires-clause-apart
relist_block-requires-clause-apart g c =
    let row = c.args.row.now in
    let s : HeapState = state_of row in
    let k : ℕ = c.args.block in
    let i : ℕ = c.block_at-at.result in
    let at : i ≡ 18 + k = c.block_at-at.ensures in
    let word : c.get-word.result ≡ block_word s k = c.get-word.ensures ∙ ap (λ (n : ℕ). get_or row.words n 0) at in
    let same : c.set.new.self ≡ (without_owner s k).words
    = c.set.ensures.words ∙ ap (λ (n : ℕ). slice_set row.words n (c.get-word.result % 65536)) at ∙ ap (λ (v : ℕ). slice_set row.words (18 + k) (v % 65536)) word in
    subst (λ (w : List ℕ). AreApart (state_over w row.layout 0 0) k) (sym same)
    (apart-anyway (without_owner s k).words row.layout s.number s.base 0 0 k (apart-without s c.requires.order k c.requires.block))

pub returns : goal.returns
returns g c =
    let row = c.args.row.now in
    let s : HeapState = state_of row in
    let k : ℕ = c.args.block in
    let i : ℕ = c.block_at-at.result in
    let at : i ≡ 18 + k = c.block_at-at.ensures in
    let word : c.get-word.result ≡ block_word s k = c.get-word.ensures ∙ ap (λ (n : ℕ). get_or row.words n 0) at in
    let same : c.set.new.self ≡ (without_owner s k).words
    = c.set.ensures.words ∙ ap (λ (n : ℕ). slice_set row.words n (c.get-word.result % 65536)) at ∙ ap (λ (v : ℕ). slice_set row.words (18 + k) (v % 65536)) word in
    given (let w = word in let big = c.if-word-lt-OWNER_UNIT.false in omega arith)
    (relists-anyway g.P.Plan.rules (without_owner s k).words c.relist_block.new.words row.layout 0 0 s.number s.base k
    (subst (λ (w : List ℕ). Relists g.P.Plan.rules (state_over w row.layout 0 0) (state_over c.relist_block.new.words row.layout 0 0) k) same c.relist_block.ensures))
    refl refl
