use Rattle.std.proofs.Common.{◌≡◌, ◌≢◌, ◌+◌, ◌<◌, Some, sym, ap, ◌∙◌, arith, length}
use Rattle.forward_word.specs.CollectorWords.{number_in, target_in, is_old_word}
use Rattle.trace_core.specs.Outcomes.{base_after_trace}
use Rattle.trace_core.proofs.DecidingBits.{seen, aged, waits-for-claim}
use Rattle.plain_tracer.proofs.ObjectsRead.{readable, refs-read, nums-read, word-within, collector-read}
use Rattle.plain_tracer.proofs.plain_trace.PlainTrace.claim_object.Goals as goal

pub get-word-requires : goal.get-word-requires
get-word-requires c =
    let r = c.requires.tracing in
    let within : c.args.x + 2 < length c.args.self.now.row.words = word-within r.setup r.events c.args.self.now r.view r.tracks c.args.x r.right 2 (omega arith) in omega arith

pub returns-in-Some-clause-claims : goal.returns-in-Some-clause-claims
returns-in-Some-clause-claims c = λ p es v cause tracks there asked.
    let read = collector-read p es c.args.self.now v tracks c.args.x there c.get-word.result c.get-word.ensures in
    let both : (number_in c.get-word.result ≡ c.args.self.now.run.number) × (target_in c.get-word.result ≡ c.in-Some.target) = c.in-Some.ensures.some in
    let found = seen p es tracks.trace c.args.x there (ap number_in (sym read) ∙ both.0 ∙ tracks.run.number) in
    (found.0, found.1 ∙ ap Some (ap target_in (sym read) ∙ both.1), tracks)

pub returns-then-is_old-clause-claims : goal.returns-then-is_old-clause-claims
returns-then-is_old-clause-claims c = λ p es v cause tracks there asked.
    let read = collector-read p es c.args.self.now v tracks c.args.x there c.get-word.result c.get-word.ensures in
    let other : number_in c.get-word.result ≢ c.args.self.now.run.number = c.in_default.ensures.none in (
      aged p es tracks.trace c.args.x there (λ e. other (ap number_in read ∙ e ∙ sym tracks.run.number))
          (ap (is_old_word (base_after_trace p)) (sym read) ∙ ap (λ n. is_old_word n c.get-word.result) (sym tracks.run.base) ∙ sym c.is_old.ensures ∙ c.if-is_old.true),
      tracks,
    )

pub shape_at-shape-requires : goal.shape_at-shape-requires
shape_at-shape-requires c = let r = c.requires.tracing in readable r.setup r.events c.args.self.now r.view r.tracks c.args.x r.right

pub win-requires-clause-tracing : goal.win-requires-clause-tracing
win-requires-clause-tracing c = let r = c.requires.tracing in
    let read = collector-read r.setup r.events c.args.self.now r.view r.tracks c.args.x r.right c.get-word.result c.get-word.ensures in
    let other : number_in c.get-word.result ≢ c.args.self.now.run.number = c.in_default.ensures.none in
    record {
      setup = r.setup;
      events = r.events;
      view = r.view;
      tracks = r.tracks;
      right = record {
        held = r.right;
        unclaimed = waits-for-claim r.setup r.events r.tracks.trace c.args.x r.right (λ e. other (ap number_in read ∙ e ∙ sym r.tracks.run.number))
            (ap (is_old_word (base_after_trace r.setup)) (sym read) ∙ ap (λ n. is_old_word n c.get-word.result) (sym r.tracks.run.base) ∙ sym c.is_old.ensures ∙ c.if-is_old.false);
        refs = c.shape_at-shape.ensures.refs ∙ refs-read r.setup r.events c.args.self.now r.view r.tracks c.args.x r.right;
        nums = c.shape_at-shape.ensures.nums ∙ nums-read r.setup r.events c.args.self.now r.view r.tracks c.args.x r.right;
      };
    }

pub returns-clause-claims : goal.returns-clause-claims
returns-clause-claims c = λ p es v cause tracks there asked.
    let read = collector-read p es c.args.self.now v tracks c.args.x there c.get-word.result c.get-word.ensures in
    let other : number_in c.get-word.result ≢ c.args.self.now.run.number = c.in_default.ensures.none in
    c.win.ensures.wins p es v cause tracks (record {
      held = there;
      unclaimed = waits-for-claim p es tracks.trace c.args.x there (λ e. other (ap number_in read ∙ e ∙ sym tracks.run.number))
          (ap (is_old_word (base_after_trace p)) (sym read) ∙ ap (λ n. is_old_word n c.get-word.result) (sym tracks.run.base) ∙ sym c.is_old.ensures ∙ c.if-is_old.false);
      refs = c.shape_at-shape.ensures.refs ∙ refs-read p es c.args.self.now v tracks c.args.x there;
      nums = c.shape_at-shape.ensures.nums ∙ nums-read p es c.args.self.now v tracks c.args.x there;
    }) asked
