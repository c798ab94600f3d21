use Rattle.std.proofs.Common.{◌≡◌, refl, sym, subst, Bool}
use Rattle.std.specs.Prelude.{MatchBool}
use Rattle.std.proofs.lemmas.Bool.{eq-eqb}
use Rattle.object_model.specs.Objects.{HeapState, state_of, state_over}
use Rattle.plan_api.specs.Relisting.{Relists}
use Rattle.plan_api.proofs.BlockViews.{block-anyway}
use Rattle.plan_api.proofs.CellParts.{apart-anyway}
use Rattle.block_regions.proofs.Relisted.{relists-anyway}
use Rattle.managed_heap.proofs.spot.relist_spot.Goals as goal

pub relist_block-requires-clause-block : goal.relist_block-requires-clause-block
relist_block-requires-clause-block g c = block-anyway c.args.row.words c.args.row.layout c.args.row.number c.args.row.base 0 0 c.args.spot.now.block (c.requires.block c.if-spot-eq0.true)

pub relist_block-requires-clause-apart : goal.relist_block-requires-clause-apart
relist_block-requires-clause-apart g c = apart-anyway c.args.row.words c.args.row.layout c.args.row.number c.args.row.base 0 0 c.args.spot.now.block (c.requires.apart c.if-spot-eq0.true)

pub returns-then-spot-eq0 : goal.returns-then-spot-eq0
returns-then-spot-eq0 g c =
    let row = c.args.row in
    let new : HeapState = state_over c.relist_block.new.words row.layout row.number row.base in
    subst (λ (b : Bool). MatchBool b (Relists g.P.Plan.rules (state_of row) new c.args.spot.now.block × (new.number ≡ row.number) × (new.base ≡ row.base)) (new ≡ state_of row))
    (sym (eq-eqb c.args.spot.now.run 0 c.if-spot-eq0.true))
    (relists-anyway g.P.Plan.rules row.words c.relist_block.new.words row.layout 0 0 row.number row.base c.args.spot.now.block c.relist_block.ensures, refl, refl)
