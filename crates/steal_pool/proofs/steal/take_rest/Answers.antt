use Rattle.std.proofs.Common.{◌<◌, [], ◌∷◌, ◌++◌, All, refl, sym, ap, ◌∙◌, subst, append_assoc}
use Rattle.std.proofs.lemmas.List.{append-nil}
use Rattle.std.proofs.lemmas.List.Elements.{All-append}
use Rattle.steal_pool.specs.declared.rule.Hand.{Hand}
use Rattle.steal_pool.specs.Ends.{takings}
use Rattle.steal_pool.proofs.Moves.{own_pops, own_finds}
use Rattle.steal_pool.proofs.steal.take_rest.Goals as goal

pub loop-p-init : goal.loop-p-init
loop-p-init g c = record { owner = c.requires.owner; fit = c.requires.fit; put = refl; rest = ([], sym (append-nil _), sym (append-nil _)) }

pub pop_as-requires-clause-lifo : goal.pop_as-requires-clause-lifo
pop_as-requires-clause-lifo g c = λ _. own_pops g.K.Fits.fits _ _ c.loop-p.invariant.owner.0.0 c.loop-p.invariant.owner.0.2

pub pop_as-requires-clause-empty : goal.pop_as-requires-clause-empty
pop_as-requires-clause-empty g c = own_finds g.K.Fits.fits _ _ c.loop-p.invariant.owner.0.0

pub loop-p-preserved : goal.loop-p-preserved
loop-p-preserved g c =
    let i = c.loop-p.invariant in let s = c.in-Some.ensures.same.0 in let r = c.in-Some.ensures.rule in let m = i.rest in let p = c.in-Some.p in
    let parts = ap (λ (y : Hand g.row.T.Denot). y.parts) r.0 in
    record {
      owner = ((s.2 ∙ i.owner.0.0, s.1 ∙ i.owner.0.1, subst (λ n. 0 < n) (sym parts) i.owner.0.2), parts ∙ i.owner.1);
      fit = subst (All g.K.Fits.fits) (sym c.in_ok-push.ensures.items) (All-append g.K.Fits.fits c.loop-p.rest.items (p ∷ []) i.fit r.2);
      put = ap (λ (y : Hand g.row.T.Denot). y.put) r.0 ∙ i.put;
      rest = (
        m.0 ++ p ∷ [],
        c.in_ok-push.ensures.items ∙ ap (λ l. l ++ p ∷ []) m.1 ∙ append_assoc c.args.rest.now.items m.0 (p ∷ []),
        ap (λ (y : Hand g.row.T.Denot). y.taken) r.0 ∙ ap (λ l. l ++ p ∷ []) m.2 ∙ append_assoc (takings c.args.own.now) m.0 (p ∷ []),
      );
    }
