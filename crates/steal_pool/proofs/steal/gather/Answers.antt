use Rattle.std.proofs.Common.{rules, ◌≡◌, [], ◌∷◌, ◌++◌, All, map, length, sym, ap, ◌∙◌, subst}
use Rattle.std.specs.List.{flat_map}
use Rattle.std.specs.List.Sorted.{IsPermutation}
use Rattle.std.specs.Vec.Iter.{into_iter_items}
use Rattle.std.proofs.lemmas.List.{append-nil, map-append}
use Rattle.std.proofs.lemmas.Grind.{flat_map-append}
use Rattle.std.proofs.lemmas.List.Elements.{All-head, All-tail, All-nil}
use Rattle.std.proofs.lemmas.List.Sorted.{IsPermutation-refl}
use Rattle.crossbeam_deque.specs.Handles.{worker_view}
use Rattle.steal_pool.specs.declared.desk.Desk.{Desk}
use Rattle.steal_pool.specs.declared.rule.TheConstants.{PARTS}
use Rattle.steal_pool.specs.Ends.{IsOwner, puts, takings}
use Rattle.steal_pool.specs.Seats.{desk_of, HasParts}
use Rattle.std.proofs.lemmas.Iterator.Adapters.{YieldsList-from_vec}
use Rattle.std.proofs.lemmas.Iterator.Consumers.{YieldsList-end}
use Rattle.steal_pool.proofs.Yields.{map-same}
use Rattle.steal_pool.proofs.Places.{rest-more}
use Rattle.steal_pool.proofs.steal.gather.Goals as goal

pub loop-seat-init : goal.loop-seat-init
loop-seat-init g c = record {
  parts = subst (All (HasParts PARTS)) (sym c.into_iter-seat-iterator.ensures.into_iter_gives.0) c.requires;
  workers = c.new-workers.ensures.items;
  later = c.new-all_later.ensures.items;
  rest = subst (IsPermutation []) (sym c.new-rest.ensures.items) (IsPermutation-refl []);
  fit = subst (All g.K.Fits.fits) (sym c.new-rest.ensures.items) (All-nil _);
}

pub take_rest-requires-clause-owner : goal.take_rest-requires-clause-owner
take_rest-requires-clause-owner g c =
    let here = All-head (HasParts PARTS) c.in-Some.seat (into_iter_items c.next.new.self) (subst (All (HasParts PARTS)) c.in-Some.ensures.steps.0 c.loop-seat.invariant.parts) in
    subst (λ (d : Desk g.row.T.Denot g.row.W.Denot g.row.K.Denot). IsOwner d.own × ((worker_view d.own).parts ≡ PARTS)) (sym c.into_inner-worker.ensures) here

pub loop-seat-preserved : goal.loop-seat-preserved
loop-seat-preserved g c =
    let i = c.loop-seat.invariant in let s = c.in-Some.seat in let done = c.loop-seat.yielded in let d = c.into_inner-worker.ensures in let r = c.in_ok-take_rest.ensures in
    record {
      parts = All-tail (HasParts PARTS) s (into_iter_items c.next.new.self) (subst (All (HasParts PARTS)) c.in-Some.ensures.steps.0 i.parts);
      workers = c.in_ok-push.ensures.items ∙ ap (λ l. l ++ c.into_inner-worker.result.worker ∷ []) i.workers ∙ ap (λ (x : Desk g.row.T.Denot g.row.W.Denot g.row.K.Denot). map (λ s. (desk_of s).worker) done ++ x.worker ∷ []) d ∙ sym (map-append (λ s. (desk_of s).worker) done (s ∷ []));
      later = c.in_ok-append.ensures.items ∙ ap (λ l. l ++ c.into_inner-worker.result.later.items) i.later ∙ ap (λ (x : Desk g.row.T.Denot g.row.W.Denot g.row.K.Denot). flat_map (λ s. (desk_of s).later.items) done ++ x.later.items) d
          ∙ ap (λ l. flat_map (λ s. (desk_of s).later.items) done ++ l) (sym (append-nil (desk_of s).later.items)) ∙ sym (flat_map-append (λ s. (desk_of s).later.items) done (s ∷ []));
      rest = rest-more (λ s. puts (desk_of s).own) (λ s. takings (desk_of s).own) done s c.loop-seat.rest.items _ r.rest.0 i.rest
          (subst (λ (x : Desk g.row.T.Denot g.row.W.Denot g.row.K.Denot). IsPermutation (puts x.own) (takings x.own ++ r.rest.0)) d r.rest.2) r.rest.1;
      fit = r.fit;
    }

pub returns-clause-workers : goal.returns-clause-workers
returns-clause-workers g c =
    let many : c.args.seats.len ≡ length c.args.seats.items = search rules in let gives = c.into_iter-seat-iterator.ensures.into_iter_gives in
    let all : c.loop-seat.yielded ≡ c.args.seats.items = sym (map-same c.loop-seat.yielded) ∙ (YieldsList-end (YieldsList-from_vec {s = c.into_iter-seat-iterator.result} c.args.seats.items gives.0 (gives.1 ∙ many)) c.loop-seat.yielded c.loop-seat.seat-iterator c.loop-seat.yielded_by c.next.result c.next.new.self c.in-None.is c.next.ensures.steps).0 in
    c.loop-seat.invariant.workers ∙ ap (map (λ s. (desk_of s).worker)) all

pub returns-clause-later : goal.returns-clause-later
returns-clause-later g c =
    let many : c.args.seats.len ≡ length c.args.seats.items = search rules in let gives = c.into_iter-seat-iterator.ensures.into_iter_gives in
    let all : c.loop-seat.yielded ≡ c.args.seats.items = sym (map-same c.loop-seat.yielded) ∙ (YieldsList-end (YieldsList-from_vec {s = c.into_iter-seat-iterator.result} c.args.seats.items gives.0 (gives.1 ∙ many)) c.loop-seat.yielded c.loop-seat.seat-iterator c.loop-seat.yielded_by c.next.result c.next.new.self c.in-None.is c.next.ensures.steps).0 in
    c.loop-seat.invariant.later ∙ ap (flat_map (λ s. (desk_of s).later.items)) all

pub returns-clause-rest : goal.returns-clause-rest
returns-clause-rest g c =
    let many : c.args.seats.len ≡ length c.args.seats.items = search rules in let gives = c.into_iter-seat-iterator.ensures.into_iter_gives in
    let all : c.loop-seat.yielded ≡ c.args.seats.items = sym (map-same c.loop-seat.yielded) ∙ (YieldsList-end (YieldsList-from_vec {s = c.into_iter-seat-iterator.result} c.args.seats.items gives.0 (gives.1 ∙ many)) c.loop-seat.yielded c.loop-seat.seat-iterator c.loop-seat.yielded_by c.next.result c.next.new.self c.in-None.is c.next.ensures.steps).0 in
    subst (λ l. IsPermutation (flat_map (λ s. puts (desk_of s).own) l) (flat_map (λ s. takings (desk_of s).own) l ++ c.loop-seat.rest.items)) all c.loop-seat.invariant.rest
