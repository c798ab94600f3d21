use Rattle.std.proofs.Common.{◌≡◌, ℕ, ◌<◌, arith, List}
use Rattle.object_model.specs.Objects.{HeapState, state_over, line_marked}
use Rattle.line_marks.specs.Bits.{bit_in}
use Rattle.line_marks.proofs.HoleRuns.{lines-read, run-hole, run-first, hole-clear}
use Rattle.line_marks.proofs.HoleObjects.{hole-apart}
use Rattle.line_marks.proofs.holes.next_hole.Goals as goal

pub returns-in_default-clause-hole : goal.returns-in_default-clause-hole
returns-in_default-clause-hole g c = λ x len part room.
    let s : HeapState = state_over (g.W.Words.words c.args.words.now) c.args.layout.now 0 0 in
    let lines : List ℕ = c.line_words-bits.result in
    let read : (line : ℕ) → line < 256 → bit_in lines line ≡ line_marked s c.args.block line = λ line below. lines-read s lines c.args.block line c.line_words-bits.ensures.words below in
    let clear = hole-clear s c.args.block lines read c.args.from c.args.lines x len part room in
    c.in_default.ensures x clear.0 clear.1

pub returns-clause-hole : goal.returns-clause-hole
returns-clause-hole g c =
    let s : HeapState = state_over (g.W.Words.words c.args.words.now) c.args.layout.now 0 0 in
    let k : ℕ = c.args.block in
    let lines : List ℕ = c.line_words-bits.result in
    let read : (line : ℕ) → line < 256 → bit_in lines line ≡ line_marked s k line = λ line below. lines-read s lines k line c.line_words-bits.ensures.words below in
    record {
      line = c.in-Some.run'.start;
      start = c.address.ensures;
      part = run-hole s k lines read c.args.from c.args.lines c.in-Some.run'.start c.in-Some.run'.end c.requires.some c.in-Some.ensures;
      room = (let room = c.in-Some.ensures.room in omega arith);
      first = run-first s k lines read c.args.from c.args.lines c.in-Some.run'.start c.in-Some.run'.end c.in-Some.ensures;
    }

pub returns-clause-apart : goal.returns-clause-apart
returns-clause-apart g c = λ immix exact.
    hole-apart (state_over (g.W.Words.words c.args.words.now) c.args.layout.now 0 0) c.args.block c.args.from c.args.lines _ (returns-clause-hole g c) immix exact
