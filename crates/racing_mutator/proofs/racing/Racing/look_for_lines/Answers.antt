use Rattle.std.proofs.Common.{◌≡◌, ◌∙◌, ◌+◌, ◌*◌, ◌<◌, sym, ap, subst, ℕ, inl, slice_index, arith, rules}
use Rattle.std.specs.Prelude.{Some}
use Rattle.heap_layout.specs.Blocks.{code_of}
use Rattle.heap_layout.specs.Zones.{LineWords, first}
use Rattle.object_model.specs.Objects.{block_word}
use Rattle.sessions.specs.Fitting.{class_for}
use Rattle.sessions.specs.Sessions.{block_of_kind}
use Rattle.mutator_rule.specs.declared.views.EpochStart.{EpochStart}
use Rattle.mutator_rule.specs.Views.{epoch_with}
use Rattle.racing_mutator.specs.RacingSeats.{epoch_of_racing, heap_seen}
use Rattle.racing_mutator.proofs.HolesPassed.{looked-rooms, only-loads, only-both, still-noted, lacks-size, same-start}
use Rattle.racing_mutator.proofs.LinesSeen.{first-in-lines, lines-lack}
use Rattle.racing_mutator.proofs.racing.Racing.look_for_lines.Goals as goal

pub pass_over-requires-clause-rooms : goal.pass_over-requires-clause-rooms
pass_over-requires-clause-rooms g c = looked-rooms g.P.Plan.rules c.args.self.now c.look_lines-lines.new.self c.look_lines-lines.ensures.looks c.look_lines-lines.ensures.ready c.requires.rooms

pub pass_over-requires-clause-note : goal.pass_over-requires-clause-note
pass_over-requires-clause-note g c = still-noted g.P.Plan.rules c.args.self.now c.look_lines-lines.new.self c.args.block c.look_lines-lines.ensures.notes c.requires.note

pub pass_over-requires-clause-lacks : goal.pass_over-requires-clause-lacks
pass_over-requires-clause-lacks g c =
    let l = c.look_lines-lines.new.self in
    let start = c.look_lines-lines.ensures.looks.makes.goes.start in
    let word : block_word (epoch_of_racing g.P.Plan.rules l).before c.args.block ≡ code_of (block_of_kind g.P.Plan.rules.fill (class_for g.P.Plan.rules.fill c.args.size)) = ap (λ (e : EpochStart). block_word (epoch_with g.P.Plan.rules e).before c.args.block) start ∙ c.requires.word in
    let read : (j : ℕ) → j < 4 → slice_index c.look_lines-lines.result j ≡ slice_index (epoch_of_racing g.P.Plan.rules l).before.words (first (epoch_of_racing g.P.Plan.rules l).before.blocks LineWords + 4 * c.args.block + j) =
    subst (λ (s : EpochStart). (j : ℕ) → j < 4 → slice_index c.look_lines-lines.result j ≡ slice_index (epoch_with g.P.Plan.rules s).before.words (first (epoch_with g.P.Plan.rules s).before.blocks LineWords + 4 * c.args.block + j)) (sym start) c.look_lines-lines.ensures.words in
    let there = same-start g.P.Plan.rules c.args.self.now l c.args.block start c.requires.block in
    lines-lack (epoch_of_racing g.P.Plan.rules l) c.args.block c.args.size c.look_lines-lines.result there (let least = c.requires.least in omega arith) c.requires.lines word read c.look_lines-lines.ensures.ready.own.2.epoch.ready.fills c.requires.most c.in_default.ensures (heap_seen g.P.Plan.rules l)

pub returns-in_default-clause-only : goal.returns-in_default-clause-only
returns-in_default-clause-only g c = only-both g.P.Plan.rules c.args.self.now c.look_lines-lines.new.self c.pass_over.new.self
    (only-loads g.P.Plan.rules c.args.self.now c.look_lines-lines.new.self c.look_lines-lines.ensures.looks c.look_lines-lines.ensures.notes c.look_lines-lines.ensures.births) c.pass_over.ensures.only

pub returns-in_default-clause-lacks : goal.returns-in_default-clause-lacks
returns-in_default-clause-lacks g c =
    let l = c.look_lines-lines.new.self in
    let start = c.look_lines-lines.ensures.looks.makes.goes.start in
    let word : block_word (epoch_of_racing g.P.Plan.rules l).before c.args.block ≡ code_of (block_of_kind g.P.Plan.rules.fill (class_for g.P.Plan.rules.fill c.args.size)) = ap (λ (e : EpochStart). block_word (epoch_with g.P.Plan.rules e).before c.args.block) start ∙ c.requires.word in
    let read : (j : ℕ) → j < 4 → slice_index c.look_lines-lines.result j ≡ slice_index (epoch_of_racing g.P.Plan.rules l).before.words (first (epoch_of_racing g.P.Plan.rules l).before.blocks LineWords + 4 * c.args.block + j) =
    subst (λ (s : EpochStart). (j : ℕ) → j < 4 → slice_index c.look_lines-lines.result j ≡ slice_index (epoch_with g.P.Plan.rules s).before.words (first (epoch_with g.P.Plan.rules s).before.blocks LineWords + 4 * c.args.block + j)) (sym start) c.look_lines-lines.ensures.words in
    let there = same-start g.P.Plan.rules c.args.self.now l c.args.block start c.requires.block in
    c.pass_over.ensures.lacking c.args.size (lacks-size g.P.Plan.rules l c.args.block c.args.size c.args.size (omega arith)
    (lines-lack (epoch_of_racing g.P.Plan.rules l) c.args.block c.args.size c.look_lines-lines.result there (let least = c.requires.least in omega arith) c.requires.lines word read c.look_lines-lines.ensures.ready.own.2.epoch.ready.fills c.requires.most c.in_default.ensures (heap_seen g.P.Plan.rules l)))

pub returns-clause-rooms : goal.returns-clause-rooms
returns-clause-rooms g c = looked-rooms g.P.Plan.rules c.args.self.now c.look_lines-lines.new.self c.look_lines-lines.ensures.looks c.look_lines-lines.ensures.ready c.requires.rooms

pub returns-clause-only : goal.returns-clause-only
returns-clause-only g c = only-loads g.P.Plan.rules c.args.self.now c.look_lines-lines.new.self c.look_lines-lines.ensures.looks c.look_lines-lines.ensures.notes c.look_lines-lines.ensures.births

pub returns-clause-sees : goal.returns-clause-sees
returns-clause-sees g c =
    let l = c.look_lines-lines.new.self in
    let start = c.look_lines-lines.ensures.looks.makes.goes.start in
    let word : block_word (epoch_of_racing g.P.Plan.rules l).before c.args.block ≡ code_of (block_of_kind g.P.Plan.rules.fill (class_for g.P.Plan.rules.fill c.args.size)) = ap (λ (e : EpochStart). block_word (epoch_with g.P.Plan.rules e).before c.args.block) start ∙ c.requires.word in
    let read : (j : ℕ) → j < 4 → slice_index c.look_lines-lines.result j ≡ slice_index (epoch_of_racing g.P.Plan.rules l).before.words (first (epoch_of_racing g.P.Plan.rules l).before.blocks LineWords + 4 * c.args.block + j) =
    subst (λ (s : EpochStart). (j : ℕ) → j < 4 → slice_index c.look_lines-lines.result j ≡ slice_index (epoch_with g.P.Plan.rules s).before.words (first (epoch_with g.P.Plan.rules s).before.blocks LineWords + 4 * c.args.block + j)) (sym start) c.look_lines-lines.ensures.words in
    let there = same-start g.P.Plan.rules c.args.self.now l c.args.block start c.requires.block in
    record {
      word = word;
      shows = inl (first-in-lines (epoch_of_racing g.P.Plan.rules l) c.args.block c.args.size c.look_lines-lines.result there (let least = c.requires.least in omega arith) c.requires.lines word read (Some c.in-Some.hole) c.in-Some.ensures);
    }
