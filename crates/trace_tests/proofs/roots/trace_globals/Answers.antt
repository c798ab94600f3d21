use Rattle.std.proofs.Common.{◌++◌, sym, ap, ◌∙◌, subst}
use Rattle.trace_core.specs.Views.{set_view}
use Rattle.trace_tests.specs.Tokens.{AreGrey, AreUnset}
use Rattle.trace_tests.proofs.TracersGoOn.{more-grey, first-unset, set-grey, rest-unset}
use Rattle.trace_tests.proofs.roots.trace_globals.Goals as goal

pub loop-global-init : goal.loop-global-init
loop-global-init c = let t = c.requires in record {
  setup = t.setup;
  events = t.events;
  view = t.view;
  tracks = t.tracks;
  right = (t.right.0, subst (AreUnset t.view) (sym c.into_iter-global-iterator.ensures.into_iter_gives.0) t.right.1);
}

pub trace_global-requires-clause-tracing : goal.trace_global-requires-clause-tracing
trace_global-requires-clause-tracing c = let t = c.loop-global.invariant in record {
  setup = t.setup;
  events = t.events;
  view = t.view;
  tracks = t.tracks;
  right = first-unset t.view c.in-Some.global _ _ c.in-Some.ensures.steps.0 t.right.1;
}

pub loop-global-preserved : goal.loop-global-preserved
loop-global-preserved c =
    let t = c.loop-global.invariant in
    let g = c.in-Some.global in
    let steps = c.in-Some.ensures.steps.0 in
    let s = c.trace_global.ensures.sets t.setup t.events t.view t.tracks (first-unset t.view g _ _ steps t.right.1) in
    let w = set_view g.global s.view in
    let pushed = more-grey t.setup t.view s.view s.pushes.known c.loop-global.stack.items s.tokens.pushed t.right.0 s.pushes.grey s.pushes.tokens in
    record {
      setup = t.setup;
      events = _;
      view = w;
      tracks = s.grows.tracks;
      right = (
        subst (AreGrey t.setup w) (sym (s.tokens.out ∙ ap (λ l. l ++ s.tokens.pushed) c.in_ok-reserve.ensures.items))
            (set-grey t.view g _ _ steps t.right.1 t.setup s.view _ pushed),
        rest-unset t.view g _ _ steps t.right.1 s.view s.pushes.unset,
      );
    }

pub returns : goal.returns
returns c = let t = c.loop-global.invariant in record {
  setup = t.setup;
  events = t.events;
  view = t.view;
  tracks = t.tracks;
  right = t.right.0;
}
