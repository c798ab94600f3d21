use Rattle.std.proofs.Common.{◌≡◌, ◌∙◌, ◌+◌, ◌*◌, ◌/◌, ◌<◌, ◌≤◌, sym, refl, ap, subst, ℕ, arith, rules}
use Rattle.heap_layout.specs.Zones.{StartBits, block_start, first}
use Rattle.object_model.specs.Objects.{cell_words}
use Rattle.mutator_core.specs.Guards.{HasSeenStart}
use Rattle.mutator_core.specs.Machine.{Epoch}
use Rattle.mutator_rule.specs.declared.views.EpochStart.{EpochStart}
use Rattle.mutator_rule.specs.Views.{epoch_with}
use Rattle.mutator_rule.specs.Logs.{KnowsLog}
use Rattle.racing_mutator.specs.Looks.{IsStartWord}
use Rattle.racing_rooms.proofs.OwnSeen.{start-seen, start-clear}
use Rattle.racing_mutator.specs.RacingSeats.{view, local, epoch_of_racing}
use Rattle.racing_mutator.specs.SeatLaws.{loads-twice}
use Rattle.racing_rooms.specs.OwnHoles.{HasSeenTaken, cell, none}
use Rattle.racing_mutator.proofs.RestSeen.{taken-more, taken-still}
use Rattle.racing_mutator.proofs.racing.Racing.next_cell.Goals as goal

pub start_word-held-requires-clause-block : goal.start_word-held-requires-clause-block
start_word-held-requires-clause-block g c = subst (λ (s : EpochStart). c.args.block < (epoch_with g.P.Plan.rules s).before.blocks) (sym c.loop-at.invariant.1.makes.goes.start) c.requires.block

pub start_word-held-requires-clause-held : goal.start_word-held-requires-clause-held
start_word-held-requires-clause-held g c = subst (λ (s : EpochStart). IsStartWord (epoch_with g.P.Plan.rules s) (local c.loop-at.self) c.args.block c.loop-at.held) (sym c.loop-at.invariant.1.makes.goes.start) c.loop-at.invariant.7

pub loop-at-preserved : goal.loop-at-preserved
loop-at-preserved g c =
    let p : Epoch = epoch_of_racing g.P.Plan.rules c.args.self.now in
    let class : ℕ = c.args.class in
    let inv = c.loop-at.invariant in
    let n = c.start_word-held.new.self in
    let start : (view c.loop-at.self).start ≡ (view c.args.self.now).start = inv.1.makes.goes.start in
    let words : c.cell_size-size.result ≡ cell_words class = c.cell_size-size.ensures.words in
    let least : 4 ≤ c.cell_size-size.result = c.cell_size-size.ensures.least in
    let i : ℕ = inv.6.0 in
    let at : c.loop-at.at ≡ i * cell_words class = inv.6.1 in
    let told : KnowsLog p (view n) = subst (λ (s : EpochStart). KnowsLog (epoch_with g.P.Plan.rules s) (view n)) (c.start_word-held.ensures.looks.makes.goes.start ∙ start) c.start_word-held.ensures.ready.own.2 in
    let held : IsStartWord p (local n) c.args.block c.start_word-held.result = subst (λ (s : EpochStart). IsStartWord (epoch_with g.P.Plan.rules s) (local n) c.args.block c.start_word-held.result) start c.start_word-held.ensures.held in
    let index : c.start_word-held.result.index ≡ c.loop-at.at / 64 = c.start_word-held.ensures.here in
    let below : c.loop-at.at < 4096 = omega arith in
    let here : HasSeenStart p (local n) (block_start p.before.blocks c.args.block + c.loop-at.at) =
    start-seen p (view n) told c.args.block c.loop-at.at (first p.before.blocks StartBits + 64 * c.args.block + c.start_word-held.result.index) c.start_word-held.result.word c.requires.block below (omega arith) (held (omega arith)) (sym c.is_set.ensures ∙ search rules) in
    let still : (a : ℕ) → HasSeenStart p (local c.loop-at.self) a → HasSeenStart p (local n) a =
    subst (λ (s : EpochStart). (a : ℕ) → HasSeenStart (epoch_with g.P.Plan.rules s) (local c.loop-at.self) a → HasSeenStart (epoch_with g.P.Plan.rules s) (local n) a) start c.start_word-held.ensures.still in
    let more : (i + 1) * cell_words class ≡ i * cell_words class + cell_words class = omega arith in
    let next : c.loop-at.at + c.cell_size-size.result ≡ i * cell_words class + cell_words class = omega arith in (
      c.start_word-held.ensures.ready,
      loads-twice g.P.Plan.rules _ _ _ inv.1 c.start_word-held.ensures.looks,
      c.start_word-held.ensures.notes ∙ inv.2,
      c.start_word-held.ensures.births ∙ inv.3,
      omega arith,
      omega arith,
      (i + 1, next ∙ sym more),
      held,
      subst (λ (upto : ℕ). HasSeenTaken p (local n) c.args.block class c.args.from upto) (sym next)
          (taken-more p (local n) c.args.block class c.args.from i (omega arith)
          (subst (λ (upto : ℕ). HasSeenTaken p (local n) c.args.block class c.args.from upto) at (taken-still p (local c.loop-at.self) (local n) c.args.block class c.args.from c.loop-at.at still inv.8))
          (subst (λ (o : ℕ). HasSeenStart p (local n) (block_start p.before.blocks c.args.block + o)) at here)),
    )

pub returns-then-not-is_set-clause-looks : goal.returns-then-not-is_set-clause-looks
returns-then-not-is_set-clause-looks g c = loads-twice g.P.Plan.rules _ _ _ c.loop-at.invariant.1 c.start_word-held.ensures.looks

pub returns-then-not-is_set-clause-cell : goal.returns-then-not-is_set-clause-cell
returns-then-not-is_set-clause-cell g c =
    let p : Epoch = epoch_of_racing g.P.Plan.rules c.args.self.now in
    let inv = c.loop-at.invariant in
    let n = c.start_word-held.new.self in
    let start : (view c.loop-at.self).start ≡ (view c.args.self.now).start = inv.1.makes.goes.start in
    let still : (a : ℕ) → HasSeenStart p (local c.loop-at.self) a → HasSeenStart p (local n) a =
    subst (λ (s : EpochStart). (a : ℕ) → HasSeenStart (epoch_with g.P.Plan.rules s) (local c.loop-at.self) a → HasSeenStart (epoch_with g.P.Plan.rules s) (local n) a) start c.start_word-held.ensures.still in
    let words : c.cell_size-size.result ≡ cell_words c.args.class = c.cell_size-size.ensures.words in
    let least : 4 ≤ c.cell_size-size.result = c.cell_size-size.ensures.least in
    let told : KnowsLog p (view n) = subst (λ (s : EpochStart). KnowsLog (epoch_with g.P.Plan.rules s) (view n)) (c.start_word-held.ensures.looks.makes.goes.start ∙ start) c.start_word-held.ensures.ready.own.2 in
    let held : IsStartWord p (local n) c.args.block c.start_word-held.result = subst (λ (s : EpochStart). IsStartWord (epoch_with g.P.Plan.rules s) (local n) c.args.block c.start_word-held.result) start c.start_word-held.ensures.held in
    let index : c.start_word-held.result.index ≡ c.loop-at.at / 64 = c.start_word-held.ensures.here in
    let below : c.loop-at.at < 4096 = omega arith in
    cell inv.6.0 inv.6.1 (ap (λ (w : ℕ). c.loop-at.at + w) words) (omega arith) (omega arith)
    (start-clear p (view n) told c.args.block c.loop-at.at (first p.before.blocks StartBits + 64 * c.args.block + c.start_word-held.result.index) c.start_word-held.result.word c.requires.block below (omega arith) (held (omega arith)) (sym c.is_set.ensures ∙ search rules))
    (taken-still p (local c.loop-at.self) (local n) c.args.block c.args.class c.args.from c.loop-at.at still inv.8)

pub returns-clause-cell : goal.returns-clause-cell
returns-clause-cell g c =
    let inv = c.loop-at.invariant in
    let words : c.cell_size-size.result ≡ cell_words c.args.class = c.cell_size-size.ensures.words in
    none refl refl (λ index after below inside. inv.8 index after (let past : 4096 < c.loop-at.at + c.cell_size-size.result = omega arith in omega arith) inside)
