use Rattle.std.proofs.Common.{sym, subst}
use Rattle.plain_tracer.specs.Tracers.{ScansFields}
use Rattle.plain_tracer.proofs.FieldScans.{lines-marked, lines-unmarked, marking}
use Rattle.plain_tracer.proofs.plain_trace.PlainTrace.scan_object.Goals as goal

pub mark_lines-requires : goal.mark_lines-requires
mark_lines-requires c =
    let t = c.requires.tracing in
    let grey = c.args.grey in
    let s = c.scan_fields.ensures.scans t.setup t.events t.view t.tracks t.right in
    record {
      setup = t.setup;
      events = _;
      view = s.view;
      tracks = s.grows.tracks;
      right = marking t.setup t.view s.view grey grey.refs s.tokens.pushed s.scanned t.right;
    }

pub returns-then-lines-clause-scans : goal.returns-then-lines-clause-scans
returns-then-lines-clause-scans c p es v tracks token =
    let grey = c.args.grey in
    let s = c.scan_fields.ensures.scans p es v tracks token in
    subst (λ lines. ScansFields p es v c.mark_lines.new.self lines grey grey.refs c.args.out.now.items c.scan_fields.new.out.items) (sym c.if-lines.true)
    (lines-marked p es v c.scan_fields.new.self c.mark_lines.new.self grey grey.refs c.args.out.now.items c.scan_fields.new.out.items s
    (c.mark_lines.ensures.grows p _ s.view s.grows.tracks (marking p v s.view grey grey.refs s.tokens.pushed s.scanned token)))

pub returns-then-lines-clause-lines : goal.returns-then-lines-clause-lines
returns-then-lines-clause-lines c lines p es v tracks token k touches =
    let grey = c.args.grey in
    let s = c.scan_fields.ensures.scans p es v tracks token in
    c.mark_lines.ensures.marked p _ s.view s.grows.tracks (marking p v s.view grey grey.refs s.tokens.pushed s.scanned token) k touches

pub returns-else-lines-clause-scans : goal.returns-else-lines-clause-scans
returns-else-lines-clause-scans c p es v tracks token =
    lines-unmarked p es v c.scan_fields.new.self c.args.self.now.run.lines c.args.grey c.args.grey.refs c.args.out.now.items c.scan_fields.new.out.items
    (c.scan_fields.ensures.scans p es v tracks token)
