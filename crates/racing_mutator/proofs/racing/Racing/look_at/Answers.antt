use Rattle.std.proofs.Common.{◌∙◌, ◌+◌, ◌*◌, sym, subst, ℕ, slice_index, rules}
use Rattle.heap_layout.specs.Zones.{StartBits, first}
use Rattle.mutator_rule.specs.declared.views.EpochStart.{EpochStart}
use Rattle.mutator_rule.specs.Views.{epoch_with}
use Rattle.racing_mutator.specs.RacingSeats.{local}
use Rattle.racing_mutator.specs.SeatLaws.{loads-twice}
use Rattle.racing_mutator.specs.Looks.{HasLoaded, HasSeenEnd}
use Rattle.racing_mutator.proofs.racing.Racing.look_at.Goals as goal

pub returns-clause-looks : goal.returns-clause-looks
returns-clause-looks g c = loads-twice g.P.Plan.rules _ _ _ c.look_lines-lines.ensures.looks (loads-twice g.P.Plan.rules _ _ _ c.look_starts-starts.ensures.looks c.look_end-end.ensures.looks)

pub returns-clause-looked : goal.returns-clause-looked
returns-clause-looked g c =
    let k : ℕ = c.args.block in
    let s2 = c.look_lines-lines.ensures.looks.makes.goes.start in
    let s3 = c.look_starts-starts.ensures.looks.makes.goes.start ∙ s2 in
    record {
      code = c.requires.code;
      valid = c.requires.valid;
      lines = c.look_lines-lines.ensures.words;
      len = c.look_starts-starts.ensures.len;
      starts = λ n few. subst (λ (h : EpochStart). HasLoaded (local c.look_end-end.new.self) (first (epoch_with g.P.Plan.rules h).before.blocks StartBits + 64 * k + n) (slice_index c.look_starts-starts.result n)) s2
          (c.look_end-end.ensures.grows _ _ (c.look_starts-starts.ensures.words n few));
      end = subst (λ (h : EpochStart). HasSeenEnd (epoch_with g.P.Plan.rules h) (local c.look_end-end.new.self) k c.look_starts-starts.result c.look_end-end.result) s3 c.look_end-end.ensures.end;
    }

pub look_end-end-requires-clause-loaded : goal.look_end-end-requires-clause-loaded
look_end-end-requires-clause-loaded g c n few =
    subst (λ (h : EpochStart). HasLoaded (local c.look_starts-starts.new.self) (first (epoch_with g.P.Plan.rules h).before.blocks StartBits + 64 * c.args.block + n) (slice_index c.look_starts-starts.result n))
    (sym c.look_starts-starts.ensures.looks.makes.goes.start) (c.look_starts-starts.ensures.words n few)
