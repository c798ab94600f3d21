use Rattle.std.proofs.Common.{◌≡◌, ◌∙◌, ◌<◌, All, length, refl, sym, subst, arith}
use Rattle.std.proofs.lemmas.List.{length-set}
use Rattle.std.proofs.lemmas.Iterator.Adapters.{YieldsList-from_vec}
use Rattle.std.proofs.lemmas.Iterator.Consumers.{YieldsList-end}
use Rattle.std.proofs.lemmas.List.Elements.{All-head, All-tail}
use Rattle.object_model.specs.Times.{times}
use Rattle.racing_collector.specs.Accounts.{places}
use Rattle.racing_collector.specs.declared.served.Served.{Served}
use Rattle.racing_collector.proofs.Settled.{map-same, settles}
use Rattle.racing_collector.proofs.raced.settle.Goals as goal

pub loop-s-init : goal.loop-s-init
loop-s-init c = record {
  inside = subst (All (λ (s : Served). s.place < length c.args.roots.items)) (sym c.into_iter-s-iterator.ensures.into_iter_gives.0) c.requires.places;
  count = refl;
  targets = λ F all i some. absurd (omega arith);
}

pub index_mut-requires : goal.index_mut-requires
index_mut-requires c = let P : Served → Type 0 = (λ (s : Served). s.place < length c.args.roots.items) in
    let there : c.in-Some.s.place < length c.args.roots.items = All-head P c.in-Some.s _ (subst (All P) c.in-Some.ensures.steps.0 c.loop-s.invariant.inside) in
    let count = c.loop-s.invariant.count in omega arith

pub loop-s-preserved : goal.loop-s-preserved
loop-s-preserved c = let P : Served → Type 0 = (λ (s : Served). s.place < length c.args.roots.items) in
    let all = subst (All P) c.in-Some.ensures.steps.0 c.loop-s.invariant.inside in record {
      inside = All-tail P c.in-Some.s _ all;
      count = length-set c.loop-s.roots.items c.in-Some.s.place c.in-Some.s.target ∙ c.loop-s.invariant.count;
      targets = settles c.loop-s.roots.items c.loop-s.yielded c.in-Some.s (subst (λ n. c.in-Some.s.place < n) (sym c.loop-s.invariant.count) (All-head P c.in-Some.s _ all)) c.loop-s.invariant.targets;
    }

pub returns-clause-targets : goal.returns-clause-targets
returns-clause-targets c F all i some =
    let gives = c.into_iter-s-iterator.ensures.into_iter_gives in
    let e : c.loop-s.yielded ≡ c.args.served.items = sym (map-same c.loop-s.yielded) ∙ (YieldsList-end (YieldsList-from_vec {s = c.into_iter-s-iterator.result} c.args.served.items gives.0 (gives.1 ∙ c.args.served.ok.0)) c.loop-s.yielded c.loop-s.s-iterator
    c.loop-s.yielded_by c.next.result c.next.new.self c.in-None.is c.next.ensures.steps).0 in
    c.loop-s.invariant.targets F (subst (All (λ (s : Served). s.target ≡ F s.place)) (sym e) all) i (subst (λ l. 0 < times i (places l)) (sym e) some)
