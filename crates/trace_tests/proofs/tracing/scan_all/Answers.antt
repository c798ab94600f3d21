use Rattle.std.proofs.Common.{◌++◌, sym, ap, ◌∙◌, subst}
use Rattle.trace_tests.specs.Tokens.{AreGrey}
use Rattle.trace_tests.proofs.TracersGoOn.{last-grey, scanned-grey}
use Rattle.trace_tests.proofs.tracing.scan_all.Goals as goal

pub scan_object-requires-clause-tracing : goal.scan_object-requires-clause-tracing
scan_object-requires-clause-tracing g c = let t = c.loop-scanned.invariant in record {
  setup = t.setup;
  events = t.events;
  view = t.view;
  tracks = t.tracks;
  right = last-grey t.setup t.view c.loop-scanned.stack.items c.pop.new.self.items c.in-Some.grey c.in-Some.ensures.items t.right;
}

pub loop-scanned-preserved : goal.loop-scanned-preserved
loop-scanned-preserved g c =
    let t = c.loop-scanned.invariant in
    let grey = c.in-Some.grey in
    let old = c.loop-scanned.stack.items in
    let rest = c.pop.new.self.items in
    let last = c.in-Some.ensures.items in
    let s = c.scan_object.ensures.scans t.setup t.events t.view t.tracks (last-grey t.setup t.view old rest grey last t.right) in
    record {
      setup = t.setup;
      events = _;
      view = s.view;
      tracks = s.grows.tracks;
      right = subst (AreGrey t.setup s.view) (sym (s.tokens.out ∙ ap (λ l. l ++ s.tokens.pushed) c.in_ok-reserve.ensures.items))
          (scanned-grey t.setup t.view old rest grey last t.right s.view grey.refs s.tokens.pushed s.scanned);
    }
