use Rattle.std.proofs.Common.{map, sym, ap, subst, ◌∙◌, ◌++◌, ◌∷◌, []}
use Rattle.trace_core.specs.Machine.{ByRoot}
use Rattle.trace_core.specs.Traces.{stage_of}
use Rattle.plain_tracer.specs.TokenRights.{grey_of}
use Rattle.trace_core.specs.Views.{claimed_view}
use Rattle.plain_tracer.specs.Tracers.{Claims}
use Rattle.trace_core.specs.CallEvents.{taken_in}
use Rattle.trace_core.proofs.Clauses.{old-target}
use Rattle.plain_tracer.proofs.FollowedReferences.{at-once, won-token, by-claim}
use Rattle.plain_tracer.proofs.ReachedTokens.{grey-again, one-pushed}
use Rattle.plain_tracer.proofs.TracedRows.{blocks-are}
use Rattle.plain_tracer.proofs.plain_trace.PlainTrace.reach.Goals as goal
use Rattle.trace_core.proofs.LastValues.{reference-of, settled-at, forward-at, settled-nil, forward-nil}

pub returns-then-reference-eq0-clause-reaches : goal.returns-then-reference-eq0-clause-reaches
returns-then-reference-eq0-clause-reaches c p es v cause tracks refers idle unasked asked = let x = c.args.reference in
    at-once p es v c.args.self.now x 0 cause (map (grey_of p) c.args.out.now.items) tracks
    (settled-nil (stage_of p es) x c.if-reference-eq0.true) (forward-nil (stage_of p es) x c.if-reference-eq0.true)

pub stays-requires-clause-tracing : goal.stays-requires-clause-tracing
stays-requires-clause-tracing c = let t = c.requires.tracing in record {
  setup = t.setup;
  events = t.events;
  view = t.view;
  tracks = t.tracks;
  right = t.right.0 (reference-of c.args.reference c.if-reference-eq0.false);
}

pub reach_in_place-requires-clause-tracing : goal.reach_in_place-requires-clause-tracing
reach_in_place-requires-clause-tracing c = let t = c.requires.tracing in record {
  setup = t.setup;
  events = t.events;
  view = t.view;
  tracks = t.tracks;
  right = c.stays.ensures c.if-stays.true t.setup t.events t.view t.tracks (t.right.0 (reference-of c.args.reference c.if-reference-eq0.false)) t.right.1;
}

pub returns-then-stays-clause-reaches : goal.returns-then-stays-clause-reaches
returns-then-stays-clause-reaches c p es v cause tracks refers idle unasked asked =
    c.reach_in_place.ensures.reaches p es v cause tracks
    (c.stays.ensures c.if-stays.true p es v tracks (refers (reference-of c.args.reference c.if-reference-eq0.false)) idle) unasked asked

pub claim_object-requires-clause-tracing : goal.claim_object-requires-clause-tracing
claim_object-requires-clause-tracing c = let t = c.requires.tracing in record {
  setup = t.setup;
  events = t.events;
  view = t.view;
  tracks = t.tracks;
  right = t.right.0 (reference-of c.args.reference c.if-reference-eq0.false);
}

pub copy_with-grey-requires-clause-tracing : goal.copy_with-grey-requires-clause-tracing
copy_with-grey-requires-clause-tracing c =
    let t = c.requires.tracing in
    let won = c.in-Won.won in
    let wins = subst (Claims t.setup t.events t.view c.args.self.now c.claim_object.new.self c.args.reference ByRoot) c.in-Won.is
    (c.claim_object.ensures.claims t.setup t.events t.view ByRoot t.tracks (t.right.0 (reference-of c.args.reference c.if-reference-eq0.false)) tt) in
    record {
      setup = t.setup;
      events = _;
      view = claimed_view t.setup c.args.reference won.target ByRoot (taken_in wins.0 t.view);
      tracks = wins.1.tracks;
      right = won-token t.setup t.events t.view c.claim_object.new.self c.args.reference ByRoot won wins.0 wins.1;
    }

pub copy_with-grey-requires-clause-layout : goal.copy_with-grey-requires-clause-layout
copy_with-grey-requires-clause-layout c =
    let t = c.requires.tracing in
    let wins = subst (Claims t.setup t.events t.view c.args.self.now c.claim_object.new.self c.args.reference ByRoot) c.in-Won.is
    (c.claim_object.ensures.claims t.setup t.events t.view ByRoot t.tracks (t.right.0 (reference-of c.args.reference c.if-reference-eq0.false)) tt) in
    blocks-are t.setup t.events c.args.self.now t.view t.tracks
    ∙ sym (blocks-are t.setup _ c.claim_object.new.self _ wins.1.tracks)

pub returns-in-Old-clause-reaches : goal.returns-in-Old-clause-reaches
returns-in-Old-clause-reaches c p es v cause tracks refers idle unasked asked =
    let x = c.args.reference in
    let some = c.if-reference-eq0.false in
    let new = c.claim_object.new.self in
    let old = subst (Claims p es v c.args.self.now new x cause) c.in-Old.is (c.claim_object.ensures.claims p es v cause tracks (refers (reference-of x some)) asked) in
    let at = old-target p es tracks.trace x old.0 in
    at-once p es v new x x cause (map (grey_of p) c.args.out.now.items) old.1 (settled-at (stage_of p es) x x at) (forward-at (stage_of p es) x x some at)

pub returns-in-Seen-clause-reaches : goal.returns-in-Seen-clause-reaches
returns-in-Seen-clause-reaches c p es v cause tracks refers idle unasked asked =
    let x = c.args.reference in
    let t = c.in-Seen.target in
    let some = c.if-reference-eq0.false in
    let new = c.claim_object.new.self in
    let seen = subst (Claims p es v c.args.self.now new x cause) c.in-Seen.is (c.claim_object.ensures.claims p es v cause tracks (refers (reference-of x some)) asked) in
    at-once p es v new x t cause (map (grey_of p) c.args.out.now.items) seen.2 (settled-at (stage_of p es) x t seen.1) (forward-at (stage_of p es) x t some seen.1)

pub returns-in-Won-clause-reaches : goal.returns-in-Won-clause-reaches
returns-in-Won-clause-reaches c p es v cause tracks refers idle unasked asked =
    let x = c.args.reference in
    let won = c.in-Won.won in
    let some = c.if-reference-eq0.false in
    let mid = c.claim_object.new.self in
    let grey = c.copy_with-grey.result in
    let out = c.args.out.now.items in
    let pushed = c.push_reserved.new.self.items in
    let wins = subst (Claims p es v c.args.self.now mid x cause) c.in-Won.is (c.claim_object.ensures.claims p es v cause tracks (refers (reference-of x some)) asked) in
    let token = won-token p es v mid x cause won wins.0 wins.1 in
    let is = c.copy_with-grey.ensures.grey p _ _ wins.1.tracks token in
    by-claim p es v mid x cause won wins.0 c.copy_with-grey.new.self grey c.at-target.result
    (map (grey_of p) out) (map (grey_of p) pushed) some unasked wins.1.object
    (c.copy_with-grey.ensures.tracks p _ _ wins.1.tracks token) is
    c.copy_with-grey.ensures.object (c.at-target.ensures ∙ c.copy_with-grey.ensures.target)
    (one-pushed p out pushed c.reached.result c.push_reserved.ensures.items
    ∙ ap (λ g. map (grey_of p) c.args.out.now.items ++ g ∷ []) (grey-again p _ grey c.reached.result is c.reached.ensures.object c.reached.ensures.target))
