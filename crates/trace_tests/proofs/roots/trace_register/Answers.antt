use Rattle.std.proofs.Common.{refl, subst, arith}
use Rattle.trace_core.specs.Machine.{ByRoot}
use Rattle.trace_core.specs.Views.{asked_view, claimed_view}
use Rattle.plain_tracer.specs.Tracers.{ClaimsRoot}
use Rattle.trace_core.specs.CallEvents.{taken_in}
use Rattle.trace_core.proofs.CountedRights.{hits-more}
use Rattle.plain_tracer.proofs.FollowedReferences.{won-token}
use Rattle.trace_tests.proofs.TracersGoOn.{same-grey, won-goes}
use Rattle.trace_tests.proofs.roots.trace_register.Goals as goal

pub copy-grey-requires : goal.copy-grey-requires
copy-grey-requires c =
    let t = c.requires in
    let x = c.args.register in
    let won = c.in-Won.won in
    let new = c.claim.new.self in
    let wins = subst (ClaimsRoot t.setup t.events t.view c.args.tracer.now new x) c.in-Won.is
    (c.claim.ensures.claims t.setup t.events t.view t.tracks (t.right.1 c.if-register-eq0.false)) in
    record {
      setup = t.setup;
      events = _;
      view = claimed_view t.setup x won.target ByRoot (taken_in wins.0 t.view);
      tracks = wins.1.tracks;
      right = won-token t.setup t.events t.view new x ByRoot won wins.0 wins.1;
    }

pub returns-in-Old : goal.returns-in-Old
returns-in-Old c p es v tracks are root =
    let x = c.args.register in
    let old = subst (ClaimsRoot p es v c.args.tracer.now c.claim.new.self x) c.in-Old.is (c.claim.ensures.claims p es v tracks (root c.if-register-eq0.false)) in
    let w = asked_view x x v in
    record {
      events = _;
      view = w;
      tracks = old.1;
      unset = refl;
      grey = same-grey p v w (hits-more x x v.known) c.args.stack.now.items are (λ y k. omega arith);
    }

pub returns-in-Seen : goal.returns-in-Seen
returns-in-Seen c p es v tracks are root =
    let x = c.args.register in
    let t = c.in-Seen.target in
    let seen = subst (ClaimsRoot p es v c.args.tracer.now c.claim.new.self x) c.in-Seen.is (c.claim.ensures.claims p es v tracks (root c.if-register-eq0.false)) in
    let w = asked_view x t v in
    record {
      events = _;
      view = w;
      tracks = seen.2;
      unset = refl;
      grey = same-grey p v w (hits-more x t v.known) c.args.stack.now.items are (λ y k. omega arith);
    }

pub returns-in_ok-push-in-Won : goal.returns-in_ok-push-in-Won
returns-in_ok-push-in-Won c p es v tracks are root =
    let x = c.args.register in
    let won = c.in-Won.won in
    let mid = c.claim.new.self in
    let wins = subst (ClaimsRoot p es v c.args.tracer.now mid x) c.in-Won.is (c.claim.ensures.claims p es v tracks (root c.if-register-eq0.false)) in
    let token = won-token p es v mid x ByRoot won wins.0 wins.1 in
    won-goes p v x won wins.0 _ c.copy-grey.new.self c.copy-grey.result c.args.stack.now.items c.push.new.self.items are c.copy-grey.ensures.object
    (c.copy-grey.ensures.grey p _ _ wins.1.tracks token) (c.copy-grey.ensures.tracks p _ _ wins.1.tracks token) c.in_ok-push-in-Won.ensures.items
