use Rattle.std.proofs.Common.{◌≡◌, ◌∙◌, ◌+◌, ◌<◌, refl, sym, ap, subst, arith, length, List, ℕ, ◌%◌, get_or}
use Rattle.std.specs.Prelude.{Some, slice_get, slice_set}
use Rattle.heap_layout.specs.declared.block.Kind.{Kind}
use Rattle.block_regions.specs.declared.block_notes.BlockNote.{BlockNote}
use Rattle.block_regions.specs.declared.block_notes.BlockNote.TheVariants.{Unowned, Owned}
use Rattle.object_model.specs.Objects.{HeapState, state_of, state_over, block_word}
use Rattle.object_model.specs.Lawful.{IsReadableBlock}
use Rattle.plan_api.specs.Relisting.{Relists}
use Rattle.block_sweeps.specs.Sweeping.{AreApart}
use Rattle.plan_api.proofs.BlockViews.{block-anyway}
use Rattle.plan_api.proofs.CellParts.{apart-anyway}
use Rattle.block_regions.specs.Notes.{nobody, given, IsOwnedNote, IsLeastLeft, without_owner}
use Rattle.block_regions.proofs.Regions.{region-inside}
use Rattle.block_regions.proofs.Elements.{read-some, set-changes}
use Rattle.block_regions.proofs.GivingBack.{readable-without, apart-without}
use Rattle.block_regions.proofs.Relisted.{relists-anyway}
use Rattle.block_regions.proofs.giving_back.give_back_block.Goals as goal

pub returns-in_default : goal.returns-in_default
returns-in_default g c =
    let notes = c.args.notes.now.items in
    let there : c.args.block < length notes = (let many = c.requires.notes.len in let b = c.requires.block in omega arith) in
    nobody c.in_default.field-0 (read-some notes c.args.block c.index.result.now there c.index.ensures ∙ ap (λ (n : BlockNote). Some n) c.in_default.is) refl refl

pub relist_block-requires-clause-block : goal.relist_block-requires-clause-block
relist_block-requires-clause-block g c =
    let row = c.args.row.now in
    let s : HeapState = state_of row in
    let k : ℕ = c.args.block in
    let i : ℕ = c.block_at-at.result in
    let at : i ≡ 18 + k = c.block_at-at.ensures in
    let word : c.get.result ≡ block_word s k = c.get.ensures ∙ ap (λ (n : ℕ). get_or row.words n 0) at in
    let same : c.set.new.self ≡ (without_owner s k).words
    = c.set.ensures.words ∙ ap (λ (n : ℕ). slice_set row.words n (c.get.result % 65536)) at ∙ ap (λ (v : ℕ). slice_set row.words (18 + k) (v % 65536)) word in
    subst (λ (w : List ℕ). IsReadableBlock (state_over w row.layout 0 0) k) (sym same)
    (block-anyway (without_owner s k).words row.layout s.number s.base 0 0 k (readable-without s c.requires.order k c.requires.block c.requires.code))

pub relist_block-requires-clause-apart : goal.relist_block-requires-clause-apart
relist_block-requires-clause-apart g c =
    let row = c.args.row.now in
    let s : HeapState = state_of row in
    let k : ℕ = c.args.block in
    let i : ℕ = c.block_at-at.result in
    let at : i ≡ 18 + k = c.block_at-at.ensures in
    let word : c.get.result ≡ block_word s k = c.get.ensures ∙ ap (λ (n : ℕ). get_or row.words n 0) at in
    let same : c.set.new.self ≡ (without_owner s k).words
    = c.set.ensures.words ∙ ap (λ (n : ℕ). slice_set row.words n (c.get.result % 65536)) at ∙ ap (λ (v : ℕ). slice_set row.words (18 + k) (v % 65536)) word in
    subst (λ (w : List ℕ). AreApart (state_over w row.layout 0 0) k) (sym same)
    (apart-anyway (without_owner s k).words row.layout s.number s.base 0 0 k (apart-without s c.requires.order k c.requires.block))

pub least_left-requires-clause-order : goal.least_left-requires-clause-order
least_left-requires-clause-order g c =
    let notes = c.args.notes.now.items in
    let there : c.args.block < length notes = (let many = c.requires.notes.len in let b = c.requires.block in omega arith) in
    let note : slice_get notes c.args.block ≡ Some (Owned c.in-Owned.owner c.in-Owned.region)
    = read-some notes c.args.block c.index.result.now there c.index.ensures ∙ ap (λ (n : BlockNote). Some n) c.in-Owned.is in
    let is : IsOwnedNote g.P.Plan.rules.fill (state_of c.args.row.now) c.args.block c.in-Owned.owner c.in-Owned.region = c.requires.notes.each c.args.block (Owned c.in-Owned.owner c.in-Owned.region) note in
    (region-inside g.P.Plan.rules.fill (state_of c.args.row.now) c.args.block c.in-Owned.region is.left).0

pub least_left-requires-clause-inside : goal.least_left-requires-clause-inside
least_left-requires-clause-inside g c =
    let notes = c.args.notes.now.items in
    let there : c.args.block < length notes = (let many = c.requires.notes.len in let b = c.requires.block in omega arith) in
    let note : slice_get notes c.args.block ≡ Some (Owned c.in-Owned.owner c.in-Owned.region)
    = read-some notes c.args.block c.index.result.now there c.index.ensures ∙ ap (λ (n : BlockNote). Some n) c.in-Owned.is in
    let is : IsOwnedNote g.P.Plan.rules.fill (state_of c.args.row.now) c.args.block c.in-Owned.owner c.in-Owned.region = c.requires.notes.each c.args.block (Owned c.in-Owned.owner c.in-Owned.region) note in
    (region-inside g.P.Plan.rules.fill (state_of c.args.row.now) c.args.block c.in-Owned.region is.left).1

pub returns : goal.returns
returns g c =
    let notes = c.args.notes.now.items in
    let there : c.args.block < length notes = (let many = c.requires.notes.len in let b = c.requires.block in omega arith) in
    let note : slice_get notes c.args.block ≡ Some (Owned c.in-Owned.owner c.in-Owned.region)
    = read-some notes c.args.block c.index.result.now there c.index.ensures ∙ ap (λ (n : BlockNote). Some n) c.in-Owned.is in
    let row = c.args.row.now in
    let s : HeapState = state_of row in
    let k : ℕ = c.args.block in
    let i : ℕ = c.block_at-at.result in
    let at : i ≡ 18 + k = c.block_at-at.ensures in
    let word : c.get.result ≡ block_word s k = c.get.ensures ∙ ap (λ (n : ℕ). get_or row.words n 0) at in
    let same : c.set.new.self ≡ (without_owner s k).words
    = c.set.ensures.words ∙ ap (λ (n : ℕ). slice_set row.words n (c.get.result % 65536)) at ∙ ap (λ (v : ℕ). slice_set row.words (18 + k) (v % 65536)) word in
    given c.in-Owned.owner c.least_left.result c.in-Owned.region note
    (relists-anyway g.P.Plan.rules (without_owner s k).words c.relist_block.new.words row.layout 0 0 s.number s.base k
    (subst (λ (w : List ℕ). Relists g.P.Plan.rules (state_over w row.layout 0 0) (state_over c.relist_block.new.words row.layout 0 0) k) same c.relist_block.ensures))
    (refl, refl)
    (subst (λ (f : Kind). IsLeastLeft f c.in-Owned.region c.least_left.result) c.alloc_kind.ensures c.least_left.ensures)
    (set-changes notes k (Unowned c.least_left.result) there)
