use Rattle.std.proofs.Common.{◌≡◌, ◌≢◌, ◌∙◌, ◌+◌, ◌*◌, ◌<◌, inl, sym, subst, ℕ, length, slice_index, arith, below_more, get_or-set_same, get_or-set_other, length-set, rules}
use Rattle.heap_layout.specs.Zones.{LineWords, InZone, first}
use Rattle.mutator_rule.specs.declared.views.EpochStart.{EpochStart}
use Rattle.mutator_rule.specs.Views.{epoch_with}
use Rattle.racing_mutator.specs.RacingSeats.{epoch_of_racing}
use Rattle.racing_mutator.specs.SeatLaws.{loads-twice}
use Rattle.racing_mutator.proofs.Pinned.{blocks-same}
use Rattle.racing_mutator.proofs.Looked.{line-zone}
use Rattle.racing_mutator.proofs.racing.Racing.look_lines.Goals as goal

pub look_side-requires-clause-zone : goal.look_side-requires-clause-zone
look_side-requires-clause-zone g c =
    let b : ℕ = (epoch_of_racing g.P.Plan.rules c.args.self.now).before.blocks in
    let at : c.line_at-at.result ≡ first b LineWords + 4 * c.args.block = c.line_at-at.ensures ∙ (λ k. first (c.layout.ensures k).blocks LineWords + 4 * c.args.block) ∙ (λ k. first (blocks-same g.P.Plan.rules c.args.self.now c.requires.ready k) LineWords + 4 * c.args.block) in
    inl (subst (λ (s : EpochStart). InZone (epoch_with g.P.Plan.rules s).before.blocks LineWords (c.line_at-at.result + c.loop-index.index)) (sym c.loop-index.invariant.1.makes.goes.start)
    (line-zone b c.args.block c.line_at-at.result c.loop-index.index c.requires.block at (omega arith)))

pub loop-index-preserved : goal.loop-index-preserved
loop-index-preserved g c =
    let b : ℕ = (epoch_of_racing g.P.Plan.rules c.args.self.now).before.blocks in
    let at : c.line_at-at.result ≡ first b LineWords + 4 * c.args.block = c.line_at-at.ensures ∙ (λ k. first (c.layout.ensures k).blocks LineWords + 4 * c.args.block) ∙ (λ k. first (blocks-same g.P.Plan.rules c.args.self.now c.requires.ready k) LineWords + 4 * c.args.block) in
    let start = c.loop-index.invariant.1.makes.goes.start in
    let zone : InZone (epoch_of_racing g.P.Plan.rules c.loop-index.self).before.blocks LineWords (c.line_at-at.result + c.loop-index.index) = subst (λ (s : EpochStart). InZone (epoch_with g.P.Plan.rules s).before.blocks LineWords (c.line_at-at.result + c.loop-index.index)) (sym start)
    (line-zone b c.args.block c.line_at-at.result c.loop-index.index c.requires.block at (omega arith)) in
    let found : c.look_side.result ≡ slice_index (epoch_of_racing g.P.Plan.rules c.args.self.now).before.words (c.line_at-at.result + c.loop-index.index) =
    c.look_side.ensures.line zone ∙ (λ k. slice_index (epoch_with g.P.Plan.rules (start k)).before.words (c.line_at-at.result + c.loop-index.index)) in (
      c.look_side.ensures.ready,
      loads-twice g.P.Plan.rules _ _ _ c.loop-index.invariant.1 c.look_side.ensures.looks,
      length-set c.loop-index.lines c.loop-index.index c.look_side.result ∙ c.loop-index.invariant.2,
      below_more _ _
          (λ k h. let ne : k ≢ c.loop-index.index = omega arith in get_or-set_other c.loop-index.lines c.loop-index.index k c.look_side.result 0 ne ∙ c.loop-index.invariant.3 k h)
          (let lt : c.loop-index.index < length c.loop-index.lines = omega arith in get_or-set_same c.loop-index.lines c.loop-index.index c.look_side.result 0 lt ∙ found),
      c.look_side.ensures.notes ∙ c.loop-index.invariant.4,
      c.look_side.ensures.births ∙ c.loop-index.invariant.5,
    )
