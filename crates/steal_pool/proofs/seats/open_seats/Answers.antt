use Rattle.std.proofs.Common.{rules, ◌≡◌, [], ◌∷◌, ◌++◌, All, map, length, sym, ap, ◌∙◌, subst, arith}
use Rattle.std.specs.List.{AllZip}
use Rattle.std.specs.Vec.Iter.{into_iter_items}
use Rattle.std.proofs.lemmas.List.{map-append, length-append}
use Rattle.std.proofs.lemmas.List.Elements.{All-nil}
use Rattle.crossbeam_deque.specs.Handles.{worker_deque, stealer_deque}
use Rattle.work_packets.specs.Shares.{packets_in}
use Rattle.steal_pool.specs.declared.rule.TheConstants.{PARTS}
use Rattle.steal_pool.specs.Seats.{desk_of, account, deques, got_by, HasParts, HasBegun}
use Rattle.steal_pool.proofs.Moves.{all-left, all-right}
use Rattle.steal_pool.proofs.Places.{added, zip-more}
use Rattle.std.proofs.lemmas.Iterator.Adapters.{YieldsList-from_vec}
use Rattle.std.proofs.lemmas.Iterator.Consumers.{YieldsList-end}
use Rattle.steal_pool.proofs.Yields.{map-same}
use Rattle.steal_pool.proofs.seats.open_seats.Goals as goal

pub loop-share-init : goal.loop-share-init
loop-share-init g c =
    let gives = c.into_iter-share-iterator.ensures.into_iter_gives.0 in let none = sym c.new-seats.ensures.items in
    record {
      bucket = subst (λ l. All (λ p. p.bucket ≡ c.args.b) (packets_in l)) (sym gives) c.requires.bucket;
      to-come = subst (λ l. All g.K.Fits.fits (packets_in l)) (sym gives) c.requires.fit;
      parts = subst (All (HasParts PARTS)) none (All-nil _);
      begun = subst (λ l. AllZip (HasBegun g.W.PacketWorker.home g.W.PacketWorker.takes g.W.PacketWorker.steps c.args.b) [] (map account l)) none tt;
      none = subst (All (λ s. got_by s ≡ [])) none (All-nil _);
      fit = subst (All (λ s. All g.K.Fits.fits (desk_of s).backlog.items)) none (All-nil _);
      thieves = ap (map (λ t. stealer_deque t)) c.new-thieves.ensures.items ∙ sym (ap deques c.new-seats.ensures.items);
      count = ap length c.new-seats.ensures.items;
    }

pub open_seat-requires-clause-bucket : goal.open_seat-requires-clause-bucket
open_seat-requires-clause-bucket g c κs within = all-left (λ p. p.bucket ≡ c.args.b) c.in-Some.share.packets.items (packets_in (into_iter_items c.next.new.self)) (subst (λ l. All (λ p. p.bucket ≡ c.args.b) (packets_in l)) c.in-Some.ensures.steps.0 c.loop-share.invariant.bucket)

pub open_seat-requires-clause-fit : goal.open_seat-requires-clause-fit
open_seat-requires-clause-fit g c κs within = all-left g.K.Fits.fits c.in-Some.share.packets.items (packets_in (into_iter_items c.next.new.self)) (subst (λ l. All g.K.Fits.fits (packets_in l)) c.in-Some.ensures.steps.0 c.loop-share.invariant.to-come)

pub loop-share-preserved : goal.loop-share-preserved
loop-share-preserved g c =
    let i = c.loop-share.invariant in let e = c.in_ok-seat.ensures in let s = c.in_ok-seat.seat in let x = c.in-Some.share in let seats = c.loop-share.seats.items in
    let items = c.in_ok-push.ensures.items in let more = c.in_ok-push-2.ensures.items in
    record {
      bucket = all-right (λ p. p.bucket ≡ c.args.b) x.packets.items (packets_in (into_iter_items c.next.new.self)) (subst (λ l. All (λ p. p.bucket ≡ c.args.b) (packets_in l)) c.in-Some.ensures.steps.0 i.bucket);
      to-come = all-right g.K.Fits.fits x.packets.items (packets_in (into_iter_items c.next.new.self)) (subst (λ l. All g.K.Fits.fits (packets_in l)) c.in-Some.ensures.steps.0 i.to-come);
      parts = added (HasParts PARTS) seats _ s items e.parts i.parts;
      begun = subst (AllZip (HasBegun g.W.PacketWorker.home g.W.PacketWorker.takes g.W.PacketWorker.steps c.args.b) (c.loop-share.yielded ++ x ∷ [])) (sym (ap (map account) items ∙ map-append account seats (s ∷ [])))
          (zip-more (HasBegun g.W.PacketWorker.home g.W.PacketWorker.takes g.W.PacketWorker.steps c.args.b) c.loop-share.yielded (map account seats) x (account s) i.begun e.begun);
      none = added (λ s. got_by s ≡ []) seats _ s items e.none i.none;
      fit = added (λ s. All g.K.Fits.fits (desk_of s).backlog.items) seats _ s items e.fit i.fit;
      thieves = ap (map (λ t. stealer_deque t)) more ∙ map-append (λ t. stealer_deque t) c.loop-share.thieves.items (c.in_ok-seat.thief ∷ []) ∙ ap (λ l. l ++ stealer_deque c.in_ok-seat.thief ∷ []) i.thieves
          ∙ ap (λ d. deques seats ++ d ∷ []) e.thief ∙ sym (ap deques items ∙ map-append (λ s. worker_deque (desk_of s).own) seats (s ∷ []));
      count = let a = ap length items in let b = length-append seats (s ∷ []) in let d = length-append c.loop-share.yielded (x ∷ []) in let f = i.count in omega arith;
    }

pub returns-clause-begun : goal.returns-clause-begun
returns-clause-begun g c =
    let many : c.args.shares.len ≡ length c.args.shares.items = search rules in
    let gives = c.into_iter-share-iterator.ensures.into_iter_gives in
    let all : c.loop-share.yielded ≡ c.args.shares.items = sym (map-same c.loop-share.yielded) ∙ (YieldsList-end (YieldsList-from_vec {s = c.into_iter-share-iterator.result} c.args.shares.items gives.0 (gives.1 ∙ many)) c.loop-share.yielded c.loop-share.share-iterator c.loop-share.yielded_by c.next.result c.next.new.self c.in-None.is c.next.ensures.steps).0 in
    subst (λ l. AllZip (HasBegun g.W.PacketWorker.home g.W.PacketWorker.takes g.W.PacketWorker.steps c.args.b) l (map account c.loop-share.seats.items)) all c.loop-share.invariant.begun

pub returns-clause-len : goal.returns-clause-len
returns-clause-len g c = let many : c.args.shares.len ≡ length c.args.shares.items = search rules in
    let gives = c.into_iter-share-iterator.ensures.into_iter_gives in
    let all : c.loop-share.yielded ≡ c.args.shares.items = sym (map-same c.loop-share.yielded) ∙ (YieldsList-end (YieldsList-from_vec {s = c.into_iter-share-iterator.result} c.args.shares.items gives.0 (gives.1 ∙ many)) c.loop-share.yielded c.loop-share.share-iterator c.loop-share.yielded_by c.next.result c.next.new.self c.in-None.is c.next.ensures.steps).0 in c.loop-share.invariant.count ∙ ap length all
