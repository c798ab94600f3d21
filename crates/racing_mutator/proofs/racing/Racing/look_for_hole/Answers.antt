use Rattle.std.proofs.Common.{◌≡◌, ◌∙◌, sym, ap, subst, ℕ, inr, arith, rules}
use Rattle.std.specs.Prelude.{None}
use Rattle.heap_layout.specs.Blocks.{code_of}
use Rattle.heap_layout.specs.declared.block.BlockWord.{BlockWord}
use Rattle.heap_layout.specs.declared.block.Kind.{Kind}
use Rattle.object_model.specs.Objects.{HeapState, block_word}
use Rattle.sessions.specs.Fitting.{class_for}
use Rattle.sessions.specs.Sessions.{block_of_kind}
use Rattle.plan_api.specs.Holes.{IsFirstPart, IsFirstHole}
use Rattle.plan_api.specs.Prelude.{AreApart}
use Rattle.plan_api.specs.Views.{IsViewOf}
use Rattle.mutator_rule.specs.declared.views.EpochStart.{EpochStart}
use Rattle.mutator_rule.specs.Views.{epoch_with}
use Rattle.racing_mutator.specs.RacingSeats.{epoch_of_racing, local}
use Rattle.racing_mutator.specs.Looks.{HasLooked}
use Rattle.racing_mutator.proofs.HolesPassed.{looked-rooms, only-loads, only-both, still-noted, vain-lacks, lacks-size, same-start}
use Rattle.racing_mutator.proofs.racing.Racing.look_for_hole.Goals as goal

pub look_at-view-requires-clause-code : goal.look_at-view-requires-clause-code
look_at-view-requires-clause-code g c = sym c.in-Some.ensures.word.2

pub look_at-view-requires-clause-valid : goal.look_at-view-requires-clause-valid
look_at-view-requires-clause-valid g c = c.in-Some.ensures.word.1

pub pass_over-requires-clause-rooms : goal.pass_over-requires-clause-rooms
pass_over-requires-clause-rooms g c = looked-rooms g.P.Plan.rules c.unowned_word.new.self c.look_at-view.new.self c.look_at-view.ensures.looks c.look_at-view.ensures.ready c.unowned_word.ensures.rooms

pub pass_over-requires-clause-note : goal.pass_over-requires-clause-note
pass_over-requires-clause-note g c = still-noted g.P.Plan.rules c.unowned_word.new.self c.look_at-view.new.self c.args.block c.look_at-view.ensures.notes (c.unowned_word.ensures.only.notes.unowned c.args.block c.requires.note)

pub pass_over-requires-clause-lacks : goal.pass_over-requires-clause-lacks
pass_over-requires-clause-lacks g c =
    let l = c.look_at-view.new.self in
    let start = c.look_at-view.ensures.looks.makes.goes.start in
    let looked : HasLooked (epoch_of_racing g.P.Plan.rules l) (local l) c.args.block c.look_at-view.result = subst (λ (e : EpochStart). HasLooked (epoch_with g.P.Plan.rules e) (local l) c.args.block c.look_at-view.result) (sym start) c.look_at-view.ensures.looked in
    let word : block_word (epoch_of_racing g.P.Plan.rules l).before c.args.block ≡ code_of (block_of_kind g.P.Plan.rules.fill (class_for g.P.Plan.rules.fill c.args.size)) =
    ap (λ (e : EpochStart). block_word (epoch_with g.P.Plan.rules e).before c.args.block) start ∙ c.in-Some.ensures.word.2 ∙ ap (λ (w : BlockWord). code_of w) c.in-Some.ensures.word.0 in
    let there = same-start g.P.Plan.rules c.args.self.now l c.args.block (start ∙ c.unowned_word.ensures.only.searches.makes.goes.start) c.requires.block in
    vain-lacks g.P.Plan.rules l c.args.block c.args.size c.look_at-view.result c.look_at-view.ensures.ready.own.2 there (let least = c.requires.least in omega arith) c.requires.most looked word
    (subst (λ (f : Kind). (s : HeapState) (j : ℕ) → IsViewOf s j c.look_at-view.result → AreApart s j → IsFirstHole f s j 0 c.args.size None) c.alloc_kind-fill.ensures c.in_default-first_hole.ensures)

pub returns-in_default-first_hole-clause-only : goal.returns-in_default-first_hole-clause-only
returns-in_default-first_hole-clause-only g c = only-both g.P.Plan.rules c.args.self.now c.unowned_word.new.self c.pass_over.new.self c.unowned_word.ensures.only (only-both g.P.Plan.rules c.unowned_word.new.self c.look_at-view.new.self c.pass_over.new.self
    (only-loads g.P.Plan.rules c.unowned_word.new.self c.look_at-view.new.self c.look_at-view.ensures.looks c.look_at-view.ensures.notes c.look_at-view.ensures.births) c.pass_over.ensures.only)

pub returns-in_default-first_hole-clause-lacks : goal.returns-in_default-first_hole-clause-lacks
returns-in_default-first_hole-clause-lacks g c =
    let l = c.look_at-view.new.self in
    let start = c.look_at-view.ensures.looks.makes.goes.start in
    let looked : HasLooked (epoch_of_racing g.P.Plan.rules l) (local l) c.args.block c.look_at-view.result = subst (λ (e : EpochStart). HasLooked (epoch_with g.P.Plan.rules e) (local l) c.args.block c.look_at-view.result) (sym start) c.look_at-view.ensures.looked in
    let word : block_word (epoch_of_racing g.P.Plan.rules l).before c.args.block ≡ code_of (block_of_kind g.P.Plan.rules.fill (class_for g.P.Plan.rules.fill c.args.size)) =
    ap (λ (e : EpochStart). block_word (epoch_with g.P.Plan.rules e).before c.args.block) start ∙ c.in-Some.ensures.word.2 ∙ ap (λ (w : BlockWord). code_of w) c.in-Some.ensures.word.0 in
    let there = same-start g.P.Plan.rules c.args.self.now l c.args.block (start ∙ c.unowned_word.ensures.only.searches.makes.goes.start) c.requires.block in
    c.pass_over.ensures.lacking c.args.size (lacks-size g.P.Plan.rules l c.args.block c.args.size c.args.size (omega arith)
    (vain-lacks g.P.Plan.rules l c.args.block c.args.size c.look_at-view.result c.look_at-view.ensures.ready.own.2 there (let least = c.requires.least in omega arith) c.requires.most looked word
    (subst (λ (f : Kind). (s : HeapState) (j : ℕ) → IsViewOf s j c.look_at-view.result → AreApart s j → IsFirstHole f s j 0 c.args.size None) c.alloc_kind-fill.ensures c.in_default-first_hole.ensures)))

pub returns-clause-rooms : goal.returns-clause-rooms
returns-clause-rooms g c = looked-rooms g.P.Plan.rules c.unowned_word.new.self c.look_at-view.new.self c.look_at-view.ensures.looks c.look_at-view.ensures.ready c.unowned_word.ensures.rooms

pub returns-clause-only : goal.returns-clause-only
returns-clause-only g c = only-both g.P.Plan.rules c.args.self.now c.unowned_word.new.self c.look_at-view.new.self c.unowned_word.ensures.only
    (only-loads g.P.Plan.rules c.unowned_word.new.self c.look_at-view.new.self c.look_at-view.ensures.looks c.look_at-view.ensures.notes c.look_at-view.ensures.births)

pub returns-clause-sees : goal.returns-clause-sees
returns-clause-sees g c =
    let l = c.look_at-view.new.self in
    let start = c.look_at-view.ensures.looks.makes.goes.start in
    record {
      word = ap (λ (e : EpochStart). block_word (epoch_with g.P.Plan.rules e).before c.args.block) start ∙ c.in-Some.ensures.word.2 ∙ ap (λ (w : BlockWord). code_of w) c.in-Some.ensures.word.0;
      shows = inr (
        c.look_at-view.result,
        subst (λ (e : EpochStart). HasLooked (epoch_with g.P.Plan.rules e) (local l) c.args.block c.look_at-view.result) (sym start) c.look_at-view.ensures.looked,
        λ s is apart. subst (λ (f : Kind). IsFirstPart f s c.args.block 0 c.args.size c.in-Some-first_hole.hole) c.alloc_kind-fill.ensures (c.in-Some-first_hole.ensures s c.args.block is apart),
      );
    }

pub look_for_lines-requires-clause-word : goal.look_for_lines-requires-clause-word
look_for_lines-requires-clause-word g c = c.in-Some.ensures.word.2 ∙ ap (λ (w : BlockWord). code_of w) c.in-Some.ensures.word.0

pub returns-then-eq-clause-only : goal.returns-then-eq-clause-only
returns-then-eq-clause-only g c = only-both g.P.Plan.rules c.args.self.now c.unowned_word.new.self c.look_for_lines.new.self c.unowned_word.ensures.only c.look_for_lines.ensures.only
