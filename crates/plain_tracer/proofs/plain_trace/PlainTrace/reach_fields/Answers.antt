use Rattle.std.proofs.Common.{map, sym, subst}
use Rattle.plain_tracer.specs.TokenRights.{grey_of}
use Rattle.plain_tracer.specs.Tracers.{ScansFields}
use Rattle.plain_tracer.proofs.FieldScans.{lines-marked, lines-unmarked, marking}
use Rattle.plain_tracer.proofs.plain_trace.PlainTrace.reach_fields.Goals as goal

pub mark_lines-requires : goal.mark_lines-requires
mark_lines-requires c =
    let t = c.requires.tracing in
    let grey = c.args.grey in
    let s = c.reach_each.ensures.scans t.setup t.events t.view t.tracks t.right.0 t.right.1 in
    record {
      setup = t.setup;
      events = _;
      view = s.view;
      tracks = s.grows.tracks;
      right = marking t.setup t.view s.view grey grey.refs s.tokens.pushed s.scanned t.right.0;
    }

pub returns-then-lines-clause-scans : goal.returns-then-lines-clause-scans
returns-then-lines-clause-scans c p es v tracks token idle =
    let grey = c.args.grey in
    let s = c.reach_each.ensures.scans p es v tracks token idle in
    subst (λ lines. ScansFields p es v c.mark_lines.new.self lines grey grey.refs (map (grey_of p) c.args.out.now.items) (map (grey_of p) c.reach_each.new.out.items)) (sym c.if-lines.true)
    (lines-marked p es v c.reach_each.new.self c.mark_lines.new.self grey grey.refs (map (grey_of p) c.args.out.now.items) (map (grey_of p) c.reach_each.new.out.items) s
    (c.mark_lines.ensures.grows p _ s.view s.grows.tracks (marking p v s.view grey grey.refs s.tokens.pushed s.scanned token)))

pub returns-then-lines-clause-lines : goal.returns-then-lines-clause-lines
returns-then-lines-clause-lines c lines p es v tracks token idle k touches =
    let grey = c.args.grey in
    let s = c.reach_each.ensures.scans p es v tracks token idle in
    c.mark_lines.ensures.marked p _ s.view s.grows.tracks (marking p v s.view grey grey.refs s.tokens.pushed s.scanned token) k touches

pub returns-else-lines-clause-scans : goal.returns-else-lines-clause-scans
returns-else-lines-clause-scans c p es v tracks token idle =
    lines-unmarked p es v c.reach_each.new.self c.args.self.now.run.lines c.args.grey c.args.grey.refs (map (grey_of p) c.args.out.now.items) (map (grey_of p) c.reach_each.new.out.items)
    (c.reach_each.ensures.scans p es v tracks token idle)
