use Rattle.std.proofs.Common.{refl}
use Rattle.plain_tracer.proofs.TracedRows.{tracing-extent}
use Rattle.plain_tracer.proofs.LineMarks as marks
use Rattle.plain_tracer.proofs.plain_trace.PlainTrace.mark_lines.Goals as goal

pub mark-requires-clause-extent : goal.mark-requires-clause-extent
mark-requires-clause-extent c = tracing-extent _ _ c.requires

pub mark-requires-clause-address : goal.mark-requires-clause-address
mark-requires-clause-address c = let r = c.requires in marks.front-inside r.setup r.events c.args.self.now r.view r.tracks c.args.grey.now r.right

pub mark-requires-clause-some : goal.mark-requires-clause-some
mark-requires-clause-some c = let r = c.requires in marks.some-words r.setup r.events c.args.self.now r.view r.tracks c.args.grey.now r.right

pub mark-requires-clause-last : goal.mark-requires-clause-last
mark-requires-clause-last c = let r = c.requires in marks.end-inside r.setup r.events c.args.self.now r.view r.tracks c.args.grey.now r.right

pub returns-clause-grows : goal.returns-clause-grows
returns-clause-grows c = λ p es v tracks right.
    marks.grows-marks p es c.args.self.now v tracks c.args.grey.now right c.mark.new.words c.mark.ensures
    c.words_fit.ensures _
    (record { row = refl; run = refl; block = refl; room = refl; next_block = refl; globals = refl; logged = refl })

pub returns-clause-marked : goal.returns-clause-marked
returns-clause-marked c = λ p es v tracks right.
    marks.lines-set p es c.args.self.now v tracks c.args.grey.now right c.mark.new.words c.mark.ensures
