use Rattle.std.proofs.Common.{◌≡◌, ◌+◌, ◌<◌, ◌≤◌, inr, refl, ap, ◌∙◌, arith, length, slice_set}
use Rattle.object_model.specs.Objects.{with_words, state_of}
use Rattle.trace_core.specs.Setups.{size}
use Rattle.trace_core.specs.Machine.{ByRoot}
use Rattle.trace_core.proofs.Objects.{None-not-Some}
use Rattle.plain_tracer.proofs.ObjectsRead.{word-within}
use Rattle.plain_tracer.proofs.ClaimedObjects.{front-below, tracks-to-front, waiting-size}
use Rattle.plain_tracer.proofs.Claimed.{none-needed}
use Rattle.plain_tracer.proofs.plain_trace.PlainTrace.win_moved.Goals as goal

pub encode-requires-clause-target : goal.encode-requires-clause-target
encode-requires-clause-target c =
    let r = c.requires.tracing in let waiting = r.right.0 in
    let same : 3 + c.args.shape.now.refs + c.args.shape.now.nums ≡ size r.setup c.args.x = waiting-size r.setup r.events c.args.x c.args.shape.now waiting in
    let room : c.args.self.now.room.next + (3 + c.args.shape.now.refs + c.args.shape.now.nums) ≤ c.args.self.now.room.end = c.requires.room in
    front-below r.setup r.events c.args.self.now r.view r.tracks c.args.x c.args.front ByRoot waiting.held r.right.2 (omega arith) (omega arith)

pub set-requires : goal.set-requires
set-requires c =
    let r = c.requires.tracing in
    let within : c.args.x + 2 < length c.args.self.now.row.words = word-within r.setup r.events c.args.self.now r.view r.tracks c.args.x r.right.0.held 2 (omega arith) in omega arith

pub returns-clause-wins : goal.returns-clause-wins
returns-clause-wins c = λ p es v cause tracks waiting moves front asked.
    let same : 3 + c.args.shape.now.refs + c.args.shape.now.nums ≡ size p c.args.x = waiting-size p es c.args.x c.args.shape.now waiting in
    let room : c.args.self.now.room.next + (3 + c.args.shape.now.refs + c.args.shape.now.nums) ≤ c.args.self.now.room.end = c.requires.room in
    let size-is : c.size_words-size.result ≡ size p c.args.x = c.size_words-size.ensures ∙ same in
    record {
      unclaimed = waiting.unclaimed;
      object = refl;
      size = size-is;
      refs = waiting.refs;
      place = inr (record { room = λ none. front; block = λ b is. absurd (None-not-Some b is) });
      needed = none-needed p es c.args.self.now (size p c.args.x);
      tracks = tracks-to-front p es c.args.self.now v tracks c.args.x c.args.front cause waiting.held front (omega arith) (omega arith) _ waiting.unclaimed asked moves
          (ap (with_words (state_of c.args.self.now.row)) c.set.ensures.words
          ∙ ap (λ n. with_words (state_of c.args.self.now.row) (slice_set c.args.self.now.row.words (c.args.x + 2) n)) c.encode.ensures)
          refl refl refl (ap (λ n. c.args.self.now.room.next + n) size-is) refl;
    }
