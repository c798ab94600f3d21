use Rattle.std.proofs.Common.{◌≡◌, ◌≢◌, ◌∙◌, ◌+◌, ◌*◌, ◌<◌, inr, sym, subst, ℕ, length, slice_index, arith, below_more, get_or-set_same, get_or-set_other, length-set, rules}
use Rattle.heap_layout.specs.Zones.{StartBits, InZone, first}
use Rattle.mutator_core.specs.declared.state.Local.{Local}
use Rattle.mutator_core.proofs.Lists.{contains-here, contains-there}
use Rattle.mutator_rule.specs.declared.views.EpochStart.{EpochStart}
use Rattle.mutator_rule.specs.Views.{epoch_with}
use Rattle.racing_mutator.specs.RacingSeats.{epoch_of_racing, local}
use Rattle.racing_mutator.specs.SeatLaws.{loads-twice}
use Rattle.racing_mutator.specs.Looks.{HasLoaded}
use Rattle.racing_mutator.proofs.Pinned.{blocks-same}
use Rattle.racing_mutator.proofs.Looked.{start-zone}
use Rattle.racing_mutator.proofs.racing.Racing.look_starts.Goals as goal

pub look_side-requires-clause-zone : goal.look_side-requires-clause-zone
look_side-requires-clause-zone g c =
    let b : ℕ = (epoch_of_racing g.P.Plan.rules c.args.self.now).before.blocks in
    let at : (c.start_base.result + 64 * c.args.block) ≡ first b StartBits + 64 * c.args.block = (let e : c.start_base.result ≡ first b StartBits = c.start_base.ensures ∙ (λ k. first (c.layout.ensures k).blocks StartBits) ∙ (λ k. first (blocks-same g.P.Plan.rules c.args.self.now c.requires.ready k) StartBits) in omega arith) in
    inr (subst (λ (s : EpochStart). InZone (epoch_with g.P.Plan.rules s).before.blocks StartBits ((c.start_base.result + 64 * c.args.block) + c.loop-index.index)) (sym c.loop-index.invariant.1.makes.goes.start)
    (start-zone b c.args.block (c.start_base.result + 64 * c.args.block) c.loop-index.index c.requires.block at (omega arith)))

pub loop-index-preserved : goal.loop-index-preserved
loop-index-preserved g c =
    let now = c.look_side.new.self in
    let is : local now ≡ _ = c.look_side.ensures.loaded in (
      c.look_side.ensures.ready,
      loads-twice g.P.Plan.rules _ _ _ c.loop-index.invariant.1 c.look_side.ensures.looks,
      length-set c.loop-index.starts c.loop-index.index c.look_side.result ∙ c.loop-index.invariant.2,
      below_more _ _
          (λ k h.
          let ne : k ≢ c.loop-index.index = omega arith in
          subst (λ (w : ℕ). HasLoaded (local now) ((c.start_base.result + 64 * c.args.block) + k) w) (sym (get_or-set_other c.loop-index.starts c.loop-index.index k c.look_side.result 0 ne))
          (subst (λ (l : Local). HasLoaded l ((c.start_base.result + 64 * c.args.block) + k) (slice_index c.loop-index.starts k)) (sym is) (contains-there _ (local c.loop-index.self).loaded _ (c.loop-index.invariant.3 k h))))
          (let lt : c.loop-index.index < length c.loop-index.starts = omega arith in
          subst (λ (w : ℕ). HasLoaded (local now) ((c.start_base.result + 64 * c.args.block) + c.loop-index.index) w) (sym (get_or-set_same c.loop-index.starts c.loop-index.index c.look_side.result 0 lt))
          (subst (λ (l : Local). HasLoaded l ((c.start_base.result + 64 * c.args.block) + c.loop-index.index) c.look_side.result) (sym is) (contains-here _ (local c.loop-index.self).loaded))),
      c.look_side.ensures.notes ∙ c.loop-index.invariant.4,
      c.look_side.ensures.births ∙ c.loop-index.invariant.5,
    )

pub returns-clause-words : goal.returns-clause-words
returns-clause-words g c n few =
    let b : ℕ = (epoch_of_racing g.P.Plan.rules c.args.self.now).before.blocks in
    let at : c.start_base.result + 64 * c.args.block ≡ first b StartBits + 64 * c.args.block = (let e : c.start_base.result ≡ first b StartBits = c.start_base.ensures ∙ (λ k. first (c.layout.ensures k).blocks StartBits) ∙ (λ k. first (blocks-same g.P.Plan.rules c.args.self.now c.requires.ready k) StartBits) in omega arith) in
    let below : n < c.loop-index.index = omega (arith, few, c.loop-index-test.false) in
    subst (λ (a : ℕ). HasLoaded (local c.loop-index.self) (a + n) (slice_index c.loop-index.starts n)) at (c.loop-index.invariant.3 n below)
