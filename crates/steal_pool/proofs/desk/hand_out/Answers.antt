use Rattle.std.proofs.Common.{◌≡◌, ◌<◌, true, false, [], ◌∷◌, ◌++◌, sym, ap, ◌∙◌, subst, Some}
use Rattle.std.proofs.lemmas.List.Elements.{All-cons, All-nil, All-pop}
use denote.Enum.Bare.{same_true, same_false}
use Rattle.work_packets.specs.contracts.packet.Bucket.{the_type}
use Rattle.work_packets.specs.Buckets.{is_before, is_same, IsSameOrLater}
use Rattle.work_packets.proofs.BucketOrder.{same-itself, never-before-itself, not-same, then-later}
use Rattle.work_packets.proofs.Logs.{moves-over, stays-out}
use Rattle.steal_pool.specs.declared.rule.Hand.{Hand}
use Rattle.steal_pool.proofs.Moves.{own_pushes}
use Rattle.steal_pool.proofs.Offers.{offer-puts, offer-refused, offer-skips, rest-fit, last-fits}
use Rattle.steal_pool.proofs.desk.hand_out.Goals as goal

pub push_as-requires-clause-pushes : goal.push_as-requires-clause-pushes
push_as-requires-clause-pushes g c =
    let fits = g.K.Fits.fits in let i = c.loop-p.invariant in
    let one : c.in-Some.p.bucket ≡ c.args.b = same_true the_type tt c.in-Some.p.bucket c.args.b (sym c.if-eq.ensures) in
    let is : is_same c.args.b c.in-Some.p.bucket ≡ true = subst (λ k. is_same c.args.b k ≡ true) (sym one) (same-itself c.args.b) in
    own_pushes fits _ _ (c.in-Some.p ∷ []) i.owner.0 i.owner.2 (All-cons fits c.in-Some.p [] (last-fits (λ p. is_same c.args.b p.bucket) fits _ _ c.in-Some.p is c.in-Some.ensures.items i.fit) (All-nil fits))

pub loop-p-preserved-in-Ok : goal.loop-p-preserved-in-Ok
loop-p-preserved-in-Ok g c =
    let i = c.loop-p.invariant in let s = c.in-Ok.ensures.same in let v = c.in-Ok.ensures.rule.0 in let e = c.in-Some.ensures.items in
    let one : c.in-Some.p.bucket ≡ c.args.b = same_true the_type tt c.in-Some.p.bucket c.args.b (sym c.if-eq.ensures) in
    let is : is_same c.args.b c.in-Some.p.bucket ≡ true = subst (λ k. is_same c.args.b k ≡ true) (sym one) (same-itself c.args.b) in
    let not-after : is_before c.args.b c.in-Some.p.bucket ≡ false = subst (λ k. is_before c.args.b k ≡ false) (sym one) (never-before-itself c.args.b) in
    let parts = ap (λ (y : Hand g.row.T.Denot). y.parts) v in
    record {
      owner = (s.2 ∙ i.owner.0, s.1 ∙ i.owner.1, subst (λ n. 0 < n) (sym parts) i.owner.2);
      order = (All-pop (λ p. IsSameOrLater c.args.b p.bucket) _ _ (Some c.in-Some.p) e i.order).0;
      fit = rest-fit (λ p. is_same c.args.b p.bucket) g.K.Fits.fits _ _ c.in-Some.p e i.fit;
      keeps = ((s.0 ∙ i.keeps.0.0, s.2 ∙ i.keeps.0.1, s.1 ∙ i.keeps.0.2, parts ∙ i.keeps.0.3), ap (λ (y : Hand g.row.T.Denot). y.taken) v ∙ i.keeps.1);
      given = offer-puts (λ p. is_same c.args.b p.bucket) _ _ _ _ _ _ _ _ c.in-Some.p is e (ap (λ (y : Hand g.row.T.Denot). y.put) v) i.given;
      after = stays-out (λ p. is_before c.args.b p.bucket) c.in-Some.p _ _ _ _ not-after e i.after;
    }

pub loop-p-preserved-in-Continue-1 : goal.loop-p-preserved-in-Continue-1
loop-p-preserved-in-Continue-1 g c =
    let i = c.loop-p.invariant in let s = c.in-Err.ensures.same in let v = c.in-Err.ensures.rule.1 in let e = c.in-Some.ensures.items in
    let one : c.in-Some.p.bucket ≡ c.args.b = same_true the_type tt c.in-Some.p.bucket c.args.b (sym c.if-eq.ensures) in
    let is : is_same c.args.b c.in-Some.p.bucket ≡ true = subst (λ k. is_same c.args.b k ≡ true) (sym one) (same-itself c.args.b) in
    let not-after : is_before c.args.b c.in-Some.p.bucket ≡ false = subst (λ k. is_before c.args.b k ≡ false) (sym one) (never-before-itself c.args.b) in
    let parts = ap (λ (y : Hand g.row.T.Denot). y.parts) v in
    record {
      owner = (s.2 ∙ i.owner.0, s.1 ∙ i.owner.1, subst (λ n. 0 < n) (sym parts) i.owner.2);
      order = (All-pop (λ p. IsSameOrLater c.args.b p.bucket) _ _ (Some c.in-Some.p) e i.order).0;
      fit = rest-fit (λ p. is_same c.args.b p.bucket) g.K.Fits.fits _ _ c.in-Some.p e i.fit;
      keeps = ((s.0 ∙ i.keeps.0.0, s.2 ∙ i.keeps.0.1, s.1 ∙ i.keeps.0.2, parts ∙ i.keeps.0.3), ap (λ (y : Hand g.row.T.Denot). y.taken) v ∙ i.keeps.1);
      given = offer-refused (λ p. is_same c.args.b p.bucket) _ _ _ _ _ _ _ _ _ c.in-Some.p is e (ap (λ (y : Hand g.row.T.Denot). y.put) v)
          (c.in_ok-push-in-Err.ensures.items ∙ ap (λ x. c.loop-p.backlog.items ++ x ∷ []) c.in-Err.ensures.rule.0) i.given;
      after = stays-out (λ p. is_before c.args.b p.bucket) c.in-Some.p _ _ _ _ not-after e i.after;
    }

pub loop-p-preserved : goal.loop-p-preserved
loop-p-preserved g c =
    let i = c.loop-p.invariant in let e = c.in-Some.ensures.items in
    let popped = All-pop (λ p. IsSameOrLater c.args.b p.bucket) _ _ (Some c.in-Some.p) e i.order in
    let other : c.args.b ≡ c.in-Some.p.bucket → ⊥ = λ e. same_false the_type c.in-Some.p.bucket c.args.b (sym c.if-eq.ensures) (sym e) in
    let is-not : is_same c.args.b c.in-Some.p.bucket ≡ false = not-same c.args.b c.in-Some.p.bucket other in
    let later : is_before c.args.b c.in-Some.p.bucket ≡ true = then-later c.args.b c.in-Some.p.bucket other popped.1 in
    record {
      owner = i.owner;
      order = popped.0;
      fit = rest-fit (λ p. is_same c.args.b p.bucket) g.K.Fits.fits _ _ c.in-Some.p e i.fit;
      keeps = i.keeps;
      given = offer-skips (λ p. is_same c.args.b p.bucket) _ _ _ _ _ _ _ c.in-Some.p is-not e i.given;
      after = moves-over (λ p. is_before c.args.b p.bucket) c.in-Some.p _ _ _ _ _ later e c.in_ok-push.ensures.items i.after;
    }
