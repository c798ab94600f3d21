-- The first collection, and a full one after a nursery one if it still does not fit.
use Rattle.std.proofs.Common.{◌≡◌, refl, sym, ◌∙◌, ap, subst, ◌+◌, ◌<◌, arith}
use denote.Enum.Bare.{same_true, same_false}
use Rattle.object_model.specs.contracts.collect.Collect.{the_type}
use Rattle.object_model.specs.declared.collect.Collect.{Collect}
use Rattle.object_model.specs.declared.collect.Collect.TheVariants.{Full}
use Rattle.object_model.specs.Heaps.{heap_state}
use Rattle.collector.specs.Collected.{IsOffered}
use Rattle.sessions.specs.Plans.{Rules}
use Rattle.block_regions.specs.Notes.{AreNotes}
use Rattle.collector.specs.declared.outcome.Note.{Note}
use Rattle.managed_heap.specs.declared.stopped_heap.StoppedHeap.{StoppedHeap}
use Rattle.managed_heap.specs.Stopped.{HasCollected, IsStopped, collections_of}
use Rattle.managed_heap.proofs.Noted as noted
use Rattle.managed_heap.proofs.Noted.{IsFound}
use Rattle.managed_heap.proofs.Collected as collected
use Rattle.managed_heap.proofs.EpochLaws.{remembers}
use Rattle.managed_heap.proofs.ServedNeeds as serving
use Rattle.managed_heap.proofs.stopped_heap.StoppedHeap.make_room.Goals as goal

-- the collection that was made, after the search for a place
found : {P : Type 0} (rules : Rules) (kind : Collect) (old new last : StoppedHeap P) (note : Note) → IsStopped rules new → HasCollected rules kind old new note → IsFound new last
    → AreNotes rules.fill (heap_state last.heap) last.notes → last.notes.flags ≡ new.notes.flags → HasCollected rules kind old last note
found rules kind old new last note stopped made rest notes flags =
    collected.collected-found rules kind old new last note made rest (noted.known-found rules new last rest notes flags stopped.order.flags)

pub kind-first-requires : goal.kind-first-requires
kind-first-requires g c = remembers g.P.Plan.rules c.args.self c.requires.stopped

pub collect_noting-requires-clause-offered : goal.collect_noting-requires-clause-offered
collect_noting-requires-clause-offered g c κs within =
    subst (λ (k : Collect). IsOffered g.P.Plan.rules k (heap_state c.args.self.heap)) (sym c.kind-first.ensures)
    (c.requires.plan.first (heap_state c.args.self.heap) (remembers g.P.Plan.rules c.args.self c.requires.stopped))

pub returns-then-eq-clause-order : goal.returns-then-eq-clause-order
returns-then-eq-clause-order g c = collected.in-order g.P.Plan.rules c.kind-first.result c.args.self c.in_ok-stopped.stopped _ c.in_ok-stopped.ensures.collected.1 c.requires.stopped.order

pub returns-then-eq-clause-room : goal.returns-then-eq-clause-room
returns-then-eq-clause-room g c =
    serving.room-first g.P.Plan.rules c.args.self c.in_ok-stopped.stopped c.kind-first.result _ c.args.size c.kind-first.ensures
    (same_true the_type tt c.kind-first.result Full (sym c.if-eq.ensures)) c.in_ok-stopped.ensures.collected.1

pub returns-then-eq-clause-full : goal.returns-then-eq-clause-full
returns-then-eq-clause-full g c = λ none.
    serving.full-more g.P.Plan.rules c.args.self c.in_ok-stopped.stopped c.kind-first.result _
    (same_true the_type tt c.kind-first.result Full (sym c.if-eq.ensures)) c.in_ok-stopped.ensures.collected.1

pub returns-then-eq-clause-births : goal.returns-then-eq-clause-births
returns-then-eq-clause-births g c = collected.births g.P.Plan.rules c.kind-first.result c.args.self c.in_ok-stopped.stopped _ c.in_ok-stopped.ensures.collected.1

pub returns-then-eq-clause-counts : goal.returns-then-eq-clause-counts
returns-then-eq-clause-counts g c = serving.counts-one g.P.Plan.rules c.args.self c.in_ok-stopped.stopped c.kind-first.result _ c.in_ok-stopped.ensures.collected.1

pub returns-in-Some-clause-order : goal.returns-in-Some-clause-order
returns-in-Some-clause-order g c = collected.in-order g.P.Plan.rules c.kind-first.result c.args.self c.find_place.new.self _
    (found g.P.Plan.rules c.kind-first.result c.args.self c.in_ok-stopped.stopped c.find_place.new.self _ c.in_ok-stopped.ensures.stopped c.in_ok-stopped.ensures.collected.1 c.find_place.ensures.rest c.find_place.ensures.notes c.find_place.ensures.flags) c.requires.stopped.order

pub returns-in-Some-clause-room : goal.returns-in-Some-clause-room
returns-in-Some-clause-room g c =
    serving.room-nursery g.P.Plan.rules c.args.self c.find_place.new.self c.kind-first.result _ c.args.size c.kind-first.ensures
    (same_false the_type c.kind-first.result Full (sym c.if-eq.ensures))
    (found g.P.Plan.rules c.kind-first.result c.args.self c.in_ok-stopped.stopped c.find_place.new.self _ c.in_ok-stopped.ensures.stopped c.in_ok-stopped.ensures.collected.1 c.find_place.ensures.rest c.find_place.ensures.notes c.find_place.ensures.flags)
    (noted.fits-found g.P.Plan.rules c.in_ok-stopped.stopped c.find_place.new.self c.args.size c.find_place.ensures.rest c.in-Some.ensures.spot.fits)

pub returns-in-Some-clause-full : goal.returns-in-Some-clause-full
returns-in-Some-clause-full g c = λ none.
    absurd (none (noted.fits-found g.P.Plan.rules c.in_ok-stopped.stopped c.find_place.new.self c.args.size c.find_place.ensures.rest c.in-Some.ensures.spot.fits))

pub returns-in-Some-clause-births : goal.returns-in-Some-clause-births
returns-in-Some-clause-births g c = collected.births g.P.Plan.rules c.kind-first.result c.args.self c.find_place.new.self _
    (found g.P.Plan.rules c.kind-first.result c.args.self c.in_ok-stopped.stopped c.find_place.new.self _ c.in_ok-stopped.ensures.stopped c.in_ok-stopped.ensures.collected.1 c.find_place.ensures.rest c.find_place.ensures.notes c.find_place.ensures.flags)

pub returns-in-Some-clause-counts : goal.returns-in-Some-clause-counts
returns-in-Some-clause-counts g c = serving.counts-one g.P.Plan.rules c.args.self c.find_place.new.self c.kind-first.result _
    (found g.P.Plan.rules c.kind-first.result c.args.self c.in_ok-stopped.stopped c.find_place.new.self _ c.in_ok-stopped.ensures.stopped c.in_ok-stopped.ensures.collected.1 c.find_place.ensures.rest c.find_place.ensures.notes c.find_place.ensures.flags)

pub collect_noting-requires-2-clause-stopped : goal.collect_noting-requires-2-clause-stopped
collect_noting-requires-2-clause-stopped g c κs within =
    noted.stopped-found g.P.Plan.rules c.in_ok-stopped.stopped c.find_place.new.self c.find_place.ensures.rest
    (noted.known-found g.P.Plan.rules c.in_ok-stopped.stopped c.find_place.new.self c.find_place.ensures.rest c.find_place.ensures.notes c.find_place.ensures.flags c.in_ok-stopped.ensures.stopped.order.flags) c.in_ok-stopped.ensures.stopped

pub collect_noting-requires-2-clause-offered : goal.collect_noting-requires-2-clause-offered
collect_noting-requires-2-clause-offered g c κs within =
    c.requires.plan.full (heap_state c.find_place.new.self.heap) (remembers g.P.Plan.rules c.find_place.new.self (noted.stopped-found g.P.Plan.rules c.in_ok-stopped.stopped c.find_place.new.self c.find_place.ensures.rest
    (noted.known-found g.P.Plan.rules c.in_ok-stopped.stopped c.find_place.new.self c.find_place.ensures.rest c.find_place.ensures.notes c.find_place.ensures.flags c.in_ok-stopped.ensures.stopped.order.flags) c.in_ok-stopped.ensures.stopped))

pub collect_noting-requires-2-clause-collections : goal.collect_noting-requires-2-clause-collections
collect_noting-requires-2-clause-collections g c κs within =
    let one : collections_of c.find_place.new.self ≡ collections_of c.args.self + 1 =
    collected.counts g.P.Plan.rules c.kind-first.result c.args.self c.find_place.new.self _
    (found g.P.Plan.rules c.kind-first.result c.args.self c.in_ok-stopped.stopped c.find_place.new.self _ c.in_ok-stopped.ensures.stopped c.in_ok-stopped.ensures.collected.1 c.find_place.ensures.rest c.find_place.ensures.notes c.find_place.ensures.flags) in
    let few : collections_of c.args.self + 2 < 1099511627776 = c.requires.collections in
    omega arith

pub returns-clause-order : goal.returns-clause-order
returns-clause-order g c = c.in_ok-stopped-2.ensures.stopped.order

pub returns-clause-room : goal.returns-clause-room
returns-clause-room g c =
    serving.room-both g.P.Plan.rules c.args.self c.find_place.new.self c.in_ok-stopped-2.stopped c.kind-first.result _ _ c.args.size c.kind-first.ensures
    (same_false the_type c.kind-first.result Full (sym c.if-eq.ensures))
    (found g.P.Plan.rules c.kind-first.result c.args.self c.in_ok-stopped.stopped c.find_place.new.self _ c.in_ok-stopped.ensures.stopped c.in_ok-stopped.ensures.collected.1 c.find_place.ensures.rest c.find_place.ensures.notes c.find_place.ensures.flags)
    (λ fits. c.in_default.ensures.none (noted.fitted-found g.P.Plan.rules c.in_ok-stopped.stopped c.find_place.new.self c.args.size c.find_place.ensures.rest fits)) c.in_ok-stopped-2.ensures.collected.1

pub returns-clause-full : goal.returns-clause-full
returns-clause-full g c = λ none.
    serving.full-more g.P.Plan.rules c.find_place.new.self c.in_ok-stopped-2.stopped Full _ refl c.in_ok-stopped-2.ensures.collected.1
    ∙ ap (λ n. n + 1) (serving.full-same g.P.Plan.rules c.args.self c.find_place.new.self c.kind-first.result _ (same_false the_type c.kind-first.result Full (sym c.if-eq.ensures))
    (found g.P.Plan.rules c.kind-first.result c.args.self c.in_ok-stopped.stopped c.find_place.new.self _ c.in_ok-stopped.ensures.stopped c.in_ok-stopped.ensures.collected.1 c.find_place.ensures.rest c.find_place.ensures.notes c.find_place.ensures.flags))

pub returns-clause-births : goal.returns-clause-births
returns-clause-births g c =
    serving.births-both g.P.Plan.rules c.args.self c.find_place.new.self c.in_ok-stopped-2.stopped c.kind-first.result _ _
    (found g.P.Plan.rules c.kind-first.result c.args.self c.in_ok-stopped.stopped c.find_place.new.self _ c.in_ok-stopped.ensures.stopped c.in_ok-stopped.ensures.collected.1 c.find_place.ensures.rest c.find_place.ensures.notes c.find_place.ensures.flags) c.in_ok-stopped-2.ensures.collected.1

pub returns-clause-counts : goal.returns-clause-counts
returns-clause-counts g c =
    serving.counts-both g.P.Plan.rules c.args.self c.find_place.new.self c.in_ok-stopped-2.stopped c.kind-first.result _ _
    (found g.P.Plan.rules c.kind-first.result c.args.self c.in_ok-stopped.stopped c.find_place.new.self _ c.in_ok-stopped.ensures.stopped c.in_ok-stopped.ensures.collected.1 c.find_place.ensures.rest c.find_place.ensures.notes c.find_place.ensures.flags) c.in_ok-stopped-2.ensures.collected.1

pub returns-then-eq-clause-noted : goal.returns-then-eq-clause-noted
returns-then-eq-clause-noted g c = (
  c.in_ok-stopped.ensures.collected.0,
  record {
    kind = c.kind-first.result;
    before = c.args.self;
    after = c.in_ok-stopped.stopped;
    stands = λ t now stands. (now, refl, stands);
    collected = c.in_ok-stopped.ensures.collected.1;
    count = refl;
    more = (let one : collections_of c.in_ok-stopped.stopped ≡ collections_of c.args.self + 1 = collected.counts g.P.Plan.rules c.kind-first.result c.args.self c.in_ok-stopped.stopped _ c.in_ok-stopped.ensures.collected.1 in omega arith);
  },
  c.in_ok-stopped.ensures.collected.2,
  c.in_ok-stopped.ensures.collected.3,
)

pub returns-in-Some-clause-noted : goal.returns-in-Some-clause-noted
returns-in-Some-clause-noted g c =
    let made = (found g.P.Plan.rules c.kind-first.result c.args.self c.in_ok-stopped.stopped c.find_place.new.self _ c.in_ok-stopped.ensures.stopped c.in_ok-stopped.ensures.collected.1 c.find_place.ensures.rest c.find_place.ensures.notes c.find_place.ensures.flags) in (
      c.in_ok-stopped.ensures.collected.0,
      record {
        kind = c.kind-first.result;
        before = c.args.self;
        after = c.find_place.new.self;
        stands = λ t now stands. (now, refl, stands);
        collected = made;
        count = refl;
        more = (let one : collections_of c.find_place.new.self ≡ collections_of c.args.self + 1 = collected.counts g.P.Plan.rules c.kind-first.result c.args.self c.find_place.new.self _ made in omega arith);
      },
      c.in_ok-stopped.ensures.collected.2,
      c.in_ok-stopped.ensures.collected.3,
    )

pub returns-clause-noted : goal.returns-clause-noted
returns-clause-noted g c =
    let made = (found g.P.Plan.rules c.kind-first.result c.args.self c.in_ok-stopped.stopped c.find_place.new.self _ c.in_ok-stopped.ensures.stopped c.in_ok-stopped.ensures.collected.1 c.find_place.ensures.rest c.find_place.ensures.notes c.find_place.ensures.flags) in (
      c.in_ok-stopped-2.ensures.collected.0,
      record {
        kind = Full;
        before = c.find_place.new.self;
        after = c.in_ok-stopped-2.stopped;
        stands = λ t now stands. let late = collected.makes-from g.P.Plan.rules c.kind-first.result c.args.self c.find_place.new.self _ made t now stands in (late.0, late.1.done, late.2);
        collected = c.in_ok-stopped-2.ensures.collected.1;
        count = refl;
        more = (
            let one : collections_of c.find_place.new.self ≡ collections_of c.args.self + 1 = collected.counts g.P.Plan.rules c.kind-first.result c.args.self c.find_place.new.self _ made in
            let two : collections_of c.in_ok-stopped-2.stopped ≡ collections_of c.find_place.new.self + 1 = collected.counts g.P.Plan.rules Full c.find_place.new.self c.in_ok-stopped-2.stopped _ c.in_ok-stopped-2.ensures.collected.1 in
            omega arith);
      },
      c.in_ok-stopped-2.ensures.collected.2,
      c.in_ok-stopped-2.ensures.collected.3,
    )
