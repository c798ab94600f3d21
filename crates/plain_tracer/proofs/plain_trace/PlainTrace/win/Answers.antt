use Rattle.std.proofs.Common.{◌≡◌, ◌+◌, ◌<◌, ◌≤◌, ◌++◌, true≢false, IsTrue, arith, sym, ◌∙◌, subst, None}
use Rattle.trace_core.specs.Setups.{may_be_moved, size}
use Rattle.plain_tracer.specs.Tracers.{Fronts, IsFront, IsNeeded}
use Rattle.trace_core.specs.CallEvents.{block_taken, left_in_block}
use Rattle.plain_tracer.proofs.ClaimedObjects.{waiting-size, front-differs}
use Rattle.plain_tracer.proofs.Claimed.{waiting-takes, asked-takes, wins-takes, wins-here}
use Rattle.plain_tracer.proofs.plain_trace.PlainTrace.win.Goals as goal
use Rattle.trace_core.proofs.TakenBlocks.{copies-somewhere, moves-small}

pub returns-then-not-may_move-clause-wins : goal.returns-then-not-may_move-clause-wins
returns-then-not-may_move-clause-wins c = λ p es v cause tracks waiting asked. (
  None,
  c.win_in_place.ensures.wins p es v cause tracks waiting (λ moves. absurd (true≢false (sym moves
      ∙ sym (c.may_move.ensures p es v tracks waiting.held (c.size_words.ensures ∙ waiting-size p es c.args.x c.args.shape.now waiting)) ∙ c.if-not-may_move.true))) asked,
)

pub front-requires-clause-tracing : goal.front-requires-clause-tracing
front-requires-clause-tracing c = let r = c.requires.tracing in
    let moves : IsTrue (may_be_moved r.setup c.args.x) = sym (c.may_move.ensures r.setup r.events r.view r.tracks r.right.held (c.size_words.ensures ∙ waiting-size r.setup r.events c.args.x c.args.shape.now r.right)) ∙ c.if-not-may_move.false in
    record { setup = r.setup; events = r.events; view = r.view; tracks = r.tracks; right = copies-somewhere r.setup r.tracks.trace.ready c.args.x moves }

pub front-requires-clause-size : goal.front-requires-clause-size
front-requires-clause-size c = let r = c.requires.tracing in
    let moves : IsTrue (may_be_moved r.setup c.args.x) = sym (c.may_move.ensures r.setup r.events r.view r.tracks r.right.held (c.size_words.ensures ∙ waiting-size r.setup r.events c.args.x c.args.shape.now r.right)) ∙ c.if-not-may_move.false in
    subst (λ n. n ≤ 2048) (sym (c.size_words-2.ensures ∙ waiting-size r.setup r.events c.args.x c.args.shape.now r.right)) (moves-small r.setup r.tracks.trace.ready c.args.x moves)

pub win_moved-requires-clause-tracing : goal.win_moved-requires-clause-tracing
win_moved-requires-clause-tracing c = let r = c.requires.tracing in
    let moves : IsTrue (may_be_moved r.setup c.args.x) = sym (c.may_move.ensures r.setup r.events r.view r.tracks r.right.held (c.size_words.ensures ∙ waiting-size r.setup r.events c.args.x c.args.shape.now r.right)) ∙ c.if-not-may_move.false in
    let fronts : Fronts r.setup r.events r.view c.args.self.now c.front.new.self c.size_words-2.result c.in-Some.front = c.in-Some.ensures.some r.setup r.events r.view r.tracks in
    record {
      setup = r.setup;
      events = r.events ++ block_taken fronts.taken;
      view = left_in_block fronts.taken r.view;
      tracks = fronts.tracks;
      right = (waiting-takes r.setup r.events r.tracks.trace fronts.taken c.args.x c.args.shape.now r.right, moves, fronts.front);
    }

pub win_moved-requires-clause-room : goal.win_moved-requires-clause-room
win_moved-requires-clause-room c = let r = c.requires.tracing in
    let fronts : Fronts r.setup r.events r.view c.args.self.now c.front.new.self c.size_words-2.result c.in-Some.front = c.in-Some.ensures.some r.setup r.events r.view r.tracks in
    subst (λ n. c.front.new.self.room.next + n ≤ c.front.new.self.room.end) c.size_words-2.ensures fronts.room

pub win_in_place-requires-in-None : goal.win_in_place-requires-in-None
win_in_place-requires-in-None c = let r = c.requires.tracing in
    record { setup = r.setup; events = r.events; view = r.view; tracks = (c.in-None.ensures.none r.setup r.events r.view r.tracks).0; right = r.right }

pub returns-in-Some-clause-wins : goal.returns-in-Some-clause-wins
returns-in-Some-clause-wins c = λ p es v cause tracks waiting asked.
    let moves : IsTrue (may_be_moved p c.args.x) = sym (c.may_move.ensures p es v tracks waiting.held (c.size_words.ensures ∙ waiting-size p es c.args.x c.args.shape.now waiting)) ∙ c.if-not-may_move.false in
    let fronts : Fronts p es v c.args.self.now c.front.new.self c.size_words-2.result c.in-Some.front = c.in-Some.ensures.some p es v tracks in
    let size-is : c.size_words-2.result ≡ size p c.args.x = c.size_words-2.ensures ∙ waiting-size p es c.args.x c.args.shape.now waiting in
    let fits : c.front.new.self.room.next + size p c.args.x ≤ c.front.new.self.room.end = subst (λ n. c.front.new.self.room.next + n ≤ c.front.new.self.room.end) size-is fronts.room in
    let some : 0 < size p c.args.x = omega arith in (
      fronts.taken,
      wins-takes p es v c.args.self.now c.front.new.self c.win_moved.new.self fronts.taken c.args.x cause c.win_moved.result tracks fronts.tracks
          (λ e. front-differs p (es ++ block_taken fronts.taken) c.front.new.self (left_in_block fronts.taken v) fronts.tracks c.args.x c.in-Some.front cause waiting.held fronts.front fits
          some (sym c.win_moved.ensures.target ∙ e))
          (subst (IsFront p c.args.self.now fronts.taken) (sym c.win_moved.ensures.target) fronts.place)
          (subst (IsNeeded p es c.args.self.now fronts.taken) size-is fronts.needed)
          (c.win_moved.ensures.wins p (es ++ block_taken fronts.taken) (left_in_block fronts.taken v) cause fronts.tracks (waiting-takes p es tracks.trace fronts.taken c.args.x c.args.shape.now waiting) moves fronts.front
          (asked-takes p es tracks.trace fronts.taken c.args.x cause asked)),
    )

pub returns-in-None-clause-wins : goal.returns-in-None-clause-wins
returns-in-None-clause-wins c = λ p es v cause tracks waiting asked.
    let none = c.in-None.ensures.none p es v tracks in
    let small : size p c.args.x ≡ c.size_words-2.result = sym (c.size_words-2.ensures ∙ waiting-size p es c.args.x c.args.shape.now waiting) in (
      None,
      wins-here p es v c.args.self.now c.front.new.self c.win_in_place-in-None.new.self c.args.x cause c.win_in_place-in-None.result c.win_in_place-in-None.ensures.target
          (c.win_in_place-in-None.ensures.wins p es v cause none.0 waiting (λ moves. (none.1, subst (λ n. c.front.new.self.room.end < c.front.new.self.room.next + n) (sym small) none.2)) asked),
    )
