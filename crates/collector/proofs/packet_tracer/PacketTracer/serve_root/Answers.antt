use Rattle.std.proofs.Common.{[], ◌∷◌, ◌++◌, map, ap, length, slice_set, refl, sym, ◌∙◌, subst, arith, append-nil}
use Rattle.std.proofs.lemmas.List.{get_or_read_under}
use Rattle.trace_core.specs.Machine.{ByRoot, Ask}
use Rattle.plain_tracer.specs.TokenRights.{grey_of}
use Rattle.trace_core.specs.Views.{asked_view, claimed_view}
use Rattle.plain_tracer.specs.Tracers.{ClaimsRoot}
use Rattle.trace_core.specs.CallEvents.{taken_in}
use Rattle.plain_tracer.proofs.FollowedReferences.{won-token}
use Rattle.plain_tracer.proofs.ReachedTokens.{grey-again, one-pushed}
use Rattle.collector.proofs.ServedRoots.{Replaces, set-replaces, same-replaces, place-inside, root-held, serves-nil, serves-root, asks-known, serves-won}
use Rattle.collector.proofs.packet_tracer.PacketTracer.serve_root.Goals as goal

pub index-root-requires : goal.index-root-requires
index-root-requires c = let t = c.requires in
    let inside = place-inside t.setup t.events t.view c.args.self.now.tracer c.args.self.now.roots.items c.args.place t.right in omega arith

pub returns-then-root-eq0-clause-serves : goal.returns-then-root-eq0-clause-serves
returns-then-root-eq0-clause-serves c p es v tracks rights =
    let inside = place-inside p es v c.args.self.now.tracer c.args.self.now.roots.items c.args.place rights in
    let is = get_or_read_under c.args.self.now.roots.items c.args.place (length c.args.self.now.roots.items) c.index-root.result.now 0 c.index-root.ensures inside refl in
    ([], sym (append-nil (map (grey_of p) c.args.self.now.won.items)), serves-nil p es v c.args.self.now.tracer c.args.self.now.roots.items c.args.place rights (sym is ∙ c.if-root-eq0.true) tracks)

pub claim-requires : goal.claim-requires
claim-requires c = let t = c.requires in
    let roots = c.args.self.now.roots.items in
    let inside = place-inside t.setup t.events t.view c.args.self.now.tracer roots c.args.place t.right in
    let is = get_or_read_under roots c.args.place (length roots) c.index-root.result.now 0 c.index-root.ensures inside refl in
    record {
      setup = t.setup;
      events = t.events;
      view = t.view;
      tracks = t.tracks;
      right = root-held t.setup t.events t.view c.args.self.now.tracer roots c.args.place t.right c.index-root.result.now is c.if-root-eq0.false;
    }

pub index_mut-requires : goal.index_mut-requires
index_mut-requires c = let t = c.requires in
    let inside = place-inside t.setup t.events t.view c.args.self.now.tracer c.args.self.now.roots.items c.args.place t.right in omega arith

pub index_mut-requires-in-Won : goal.index_mut-requires-in-Won
index_mut-requires-in-Won c = let t = c.requires in
    let inside = place-inside t.setup t.events t.view c.args.self.now.tracer c.args.self.now.roots.items c.args.place t.right in omega arith

pub copy-grey-requires : goal.copy-grey-requires
copy-grey-requires c = let t = c.requires in
    let roots = c.args.self.now.roots.items in
    let x = c.index-root.result.now in
    let won = c.in-Won.won in
    let inside = place-inside t.setup t.events t.view c.args.self.now.tracer roots c.args.place t.right in
    let is = get_or_read_under roots c.args.place (length roots) x 0 c.index-root.ensures inside refl in
    let held = root-held t.setup t.events t.view c.args.self.now.tracer roots c.args.place t.right x is c.if-root-eq0.false in
    let wins = subst (ClaimsRoot t.setup t.events t.view c.args.self.now.tracer c.claim.new.self x) c.in-Won.is (c.claim.ensures.claims t.setup t.events t.view t.tracks held) in
    record {
      setup = t.setup;
      events = _;
      view = claimed_view t.setup x won.target ByRoot (taken_in wins.0 t.view);
      tracks = wins.1.tracks;
      right = won-token t.setup t.events t.view c.claim.new.self x ByRoot won wins.0 wins.1;
    }

pub returns-in-Old-clause-serves : goal.returns-in-Old-clause-serves
returns-in-Old-clause-serves c p es v tracks rights =
    let old = c.args.self.now in
    let roots = c.args.self.now.roots.items in
    let x = c.index-root.result.now in
    let new = c.claim.new.self in
    let inside = place-inside p es v c.args.self.now.tracer roots c.args.place rights in
    let is = get_or_read_under roots c.args.place (length roots) x 0 c.index-root.ensures inside refl in
    let held = root-held p es v c.args.self.now.tracer roots c.args.place rights x is c.if-root-eq0.false in
    let claims = subst (ClaimsRoot p es v c.args.self.now.tracer new x) c.in-Old.is (c.claim.ensures.claims p es v tracks held) in (
      [],
      sym (append-nil (map (grey_of p) old.won.items)),
      serves-root p es v old.tracer roots c.args.place rights (Ask x ∷ []) (asked_view x x v) x x [] new roots is c.if-root-eq0.false
          claims.1 c.claim.ensures.keeps.run (asks-known p v x x) (same-replaces roots c.args.place x is),
    )

pub returns-in-Seen-clause-serves : goal.returns-in-Seen-clause-serves
returns-in-Seen-clause-serves c p es v tracks rights =
    let old = c.args.self.now in
    let roots = c.args.self.now.roots.items in
    let x = c.index-root.result.now in
    let u = c.in-Seen.target in
    let new = c.claim.new.self in
    let inside = place-inside p es v c.args.self.now.tracer roots c.args.place rights in
    let is = get_or_read_under roots c.args.place (length roots) x 0 c.index-root.ensures inside refl in
    let held = root-held p es v c.args.self.now.tracer roots c.args.place rights x is c.if-root-eq0.false in
    let claims = subst (ClaimsRoot p es v c.args.self.now.tracer new x) c.in-Seen.is (c.claim.ensures.claims p es v tracks held) in (
      [],
      sym (append-nil (map (grey_of p) old.won.items)),
      serves-root p es v old.tracer roots c.args.place rights (Ask x ∷ []) (asked_view x u v) x u [] new
          (slice_set roots c.args.place u) is c.if-root-eq0.false
          claims.2 c.claim.ensures.keeps.run (asks-known p v x u) (set-replaces roots c.args.place u inside),
    )

pub returns-in_ok-push-in-Won-clause-serves : goal.returns-in_ok-push-in-Won-clause-serves
returns-in_ok-push-in-Won-clause-serves c p es v tracks rights =
    let old = c.args.self.now in
    let roots = c.args.self.now.roots.items in
    let x = c.index-root.result.now in
    let won = c.in-Won.won in
    let mid = c.claim.new.self in
    let grey = c.copy-grey.result in
    let inside = place-inside p es v c.args.self.now.tracer roots c.args.place rights in
    let is = get_or_read_under roots c.args.place (length roots) x 0 c.index-root.ensures inside refl in
    let held = root-held p es v c.args.self.now.tracer roots c.args.place rights x is c.if-root-eq0.false in
    let wins = subst (ClaimsRoot p es v c.args.self.now.tracer mid x) c.in-Won.is (c.claim.ensures.claims p es v tracks held) in
    let token = won-token p es v mid x ByRoot won wins.0 wins.1 in
    let is-grey = c.copy-grey.ensures.grey p _ _ wins.1.tracks token in
    let at = c.at.ensures ∙ c.copy-grey.ensures.target in (
      grey ∷ [],
      one-pushed p old.won.items c.push.new.self.items c.reached.result c.in_ok-push-in-Won.ensures.items
          ∙ ap (λ g. map (grey_of p) c.args.self.now.won.items ++ g ∷ []) (grey-again p _ grey c.reached.result is-grey c.reached.ensures.object c.reached.ensures.target),
      serves-won p es v old.tracer roots c.args.place rights c.copy-grey.new.self x won wins.0 grey
          (slice_set roots c.args.place c.at.result) is c.if-root-eq0.false wins.1.object
          (c.copy-grey.ensures.tracks p _ _ wins.1.tracks token) is-grey
          c.copy-grey.ensures.object (c.copy-grey.ensures.keeps.run ∙ c.claim.ensures.keeps.run)
          (subst (λ u. Replaces roots c.args.place u (slice_set roots c.args.place c.at.result)) at (set-replaces roots c.args.place c.at.result inside)),
    )
