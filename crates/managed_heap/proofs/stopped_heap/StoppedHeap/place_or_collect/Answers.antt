use Rattle.std.proofs.Common.{◌≡◌, sym, ap, subst, ◌∙◌, arith, ℕ, ◌+◌, ◌<◌, ◌≤◌}
use Rattle.std.proofs.lemmas.Result.{err_from_is_err_and}
use Rattle.object_model.specs.Heaps.{heap_state}
use Rattle.object_model.specs.Objects.{size_of}
use Rattle.sessions.specs.Fitting.{Fits}
use Rattle.managed_heap.specs.declared.place.Placed.TheVariants as answer
use Rattle.managed_heap.specs.Needs.{IsNoteOfLast, NotesLast}
use Rattle.managed_heap.specs.Stopped.{collections_of}
use Rattle.managed_heap.proofs.NeedsWritten as putting
use Rattle.managed_heap.proofs.BirthCounts.{may-kept}
use Rattle.managed_heap.proofs.LastNotes.{if-known, last-of-need}
use Rattle.managed_heap.proofs.Noted as noted
use Rattle.managed_heap.proofs.ServedNeeds as serving
use Rattle.managed_heap.proofs.stopped_heap.StoppedHeap.place_or_collect.Goals as goal

pub size_words-size-requires-clause-refs : goal.size_words-size-requires-clause-refs
size_words-size-requires-clause-refs g c =
    let most : c.args.need.refs ≤ 1024 = c.requires.may.valid.1 in
    let same : c.shape_of.result.refs ≡ c.args.need.refs = c.shape_of.ensures.refs in
    omega arith

pub size_words-size-requires-clause-nums : goal.size_words-size-requires-clause-nums
size_words-size-requires-clause-nums g c =
    let most : c.args.need.nums ≤ 60000 = c.requires.may.valid.2 in
    let same : c.shape_of.result.nums ≡ c.args.need.nums = c.shape_of.ensures.nums in
    omega arith

pub find_place-requires-clause-most : goal.find_place-requires-clause-most
find_place-requires-clause-most g c =
    putting.most-words c.args.self c.args.number c.args.need c.requires.may c.size_words-size.result c.shape_of.result.refs c.shape_of.result.nums
    c.size_words-size.ensures c.shape_of.ensures.refs c.shape_of.ensures.nums

pub place_need-stopped-requires-clause-stopped : goal.place_need-stopped-requires-clause-stopped
place_need-stopped-requires-clause-stopped g c = noted.stopped-found g.P.Plan.rules c.args.self c.find_place.new.self c.find_place.ensures.rest (noted.known-found g.P.Plan.rules c.args.self c.find_place.new.self c.find_place.ensures.rest c.find_place.ensures.notes c.find_place.ensures.flags c.requires.stopped.order.flags) c.requires.stopped

pub place_need-stopped-requires-clause-may : goal.place_need-stopped-requires-clause-may
place_need-stopped-requires-clause-may g c = noted.may-found g.P.Plan.rules c.args.self c.find_place.new.self c.find_place.ensures.rest (noted.known-found g.P.Plan.rules c.args.self c.find_place.new.self c.find_place.ensures.rest c.find_place.ensures.notes c.find_place.ensures.flags c.requires.stopped.order.flags) c.args.number c.args.need c.requires.may

pub place_need-stopped-requires-clause-spot : goal.place_need-stopped-requires-clause-spot
place_need-stopped-requires-clause-spot g c =
    noted.spot-found g.P.Plan.rules c.args.self c.find_place.new.self c.find_place.ensures.rest (noted.known-found g.P.Plan.rules c.args.self c.find_place.new.self c.find_place.ensures.rest c.find_place.ensures.notes c.find_place.ensures.flags c.requires.stopped.order.flags) c.size_words-size.result (size_of c.args.need.refs c.args.need.nums) c.in-Some.spot
    (c.size_words-size.ensures ∙ ap (λ r. size_of r c.shape_of.result.nums) c.shape_of.ensures.refs ∙ ap (λ q. size_of c.args.need.refs q) c.shape_of.ensures.nums) c.in-Some.ensures.spot

pub returns-in-Some-clause-stopped : goal.returns-in-Some-clause-stopped
returns-in-Some-clause-stopped g c =
    serving.stopped-served g.P.Plan.rules c.args.self c.place_need-stopped.result.0 c.args.number c.args.need (answer.Placed c.place_need-stopped.result.1) c.requires.stopped c.place_need-stopped.ensures.order
    (serving.serves-at-once g.P.Plan.rules c.args.self c.find_place.new.self c.place_need-stopped.result.0 c.args.number c.args.need (answer.Placed c.place_need-stopped.result.1) c.find_place.ensures.rest (noted.known-found g.P.Plan.rules c.args.self c.find_place.new.self c.find_place.ensures.rest c.find_place.ensures.notes c.find_place.ensures.flags c.requires.stopped.order.flags) c.place_need-stopped.ensures.places)

pub returns-in-Some-clause-serves : goal.returns-in-Some-clause-serves
returns-in-Some-clause-serves g c =
    serving.serves-at-once g.P.Plan.rules c.args.self c.find_place.new.self c.place_need-stopped.result.0 c.args.number c.args.need (answer.Placed c.place_need-stopped.result.1) c.find_place.ensures.rest (noted.known-found g.P.Plan.rules c.args.self c.find_place.new.self c.find_place.ensures.rest c.find_place.ensures.notes c.find_place.ensures.flags c.requires.stopped.order.flags) c.place_need-stopped.ensures.places

pub returns-in-Some-clause-births : goal.returns-in-Some-clause-births
returns-in-Some-clause-births g c = serving.births-found c.args.self c.find_place.new.self c.place_need-stopped.result.0 c.args.number c.find_place.ensures.rest 1 c.place_need-stopped.ensures.births

pub returns-in-Some-clause-counts : goal.returns-in-Some-clause-counts
returns-in-Some-clause-counts g c =
    let same = serving.counts-found c.args.self c.find_place.new.self c.place_need-stopped.result.0 c.args.number c.find_place.ensures.rest c.place_need-stopped.ensures.counts in omega (arith, same)

pub make_room-requires-clause-stopped : goal.make_room-requires-clause-stopped
make_room-requires-clause-stopped g c κs within = noted.stopped-found g.P.Plan.rules c.args.self c.find_place.new.self c.find_place.ensures.rest (noted.known-found g.P.Plan.rules c.args.self c.find_place.new.self c.find_place.ensures.rest c.find_place.ensures.notes c.find_place.ensures.flags c.requires.stopped.order.flags) c.requires.stopped

pub make_room-requires-clause-collections : goal.make_room-requires-clause-collections
make_room-requires-clause-collections g c κs within =
    let same : collections_of c.find_place.new.self ≡ collections_of c.args.self = noted.counts-found c.args.self c.find_place.new.self c.find_place.ensures.rest in
    let few : collections_of c.args.self + 2 < 1099511627776 = c.requires.collections in
    omega arith

pub make_room-requires-clause-most : goal.make_room-requires-clause-most
make_room-requires-clause-most g c κs within =
    putting.most-words c.args.self c.args.number c.args.need c.requires.may c.size_words-size.result c.shape_of.result.refs c.shape_of.result.nums
    c.size_words-size.ensures c.shape_of.ensures.refs c.shape_of.ensures.nums

pub place_or_refuse-stopped-requires-clause-stopped : goal.place_or_refuse-stopped-requires-clause-stopped
place_or_refuse-stopped-requires-clause-stopped g c =
    serving.stopped-made g.P.Plan.rules c.args.self c.find_place.new.self c.in_ok-stopped.stopped c.in_ok-stopped.stopped c.args.number c.args.need (answer.HeapFull 0) c.size_words-size.result c.find_place.ensures.rest (noted.known-found g.P.Plan.rules c.args.self c.find_place.new.self c.find_place.ensures.rest c.find_place.ensures.notes c.find_place.ensures.flags c.requires.stopped.order.flags) (c.size_words-size.ensures ∙ ap (λ r. size_of r c.shape_of.result.nums) c.shape_of.ensures.refs ∙ ap (λ q. size_of c.args.need.refs q) c.shape_of.ensures.nums)
    c.in_ok-stopped.ensures.order (noted.stopped-found g.P.Plan.rules c.args.self c.find_place.new.self c.find_place.ensures.rest (noted.known-found g.P.Plan.rules c.args.self c.find_place.new.self c.find_place.ensures.rest c.find_place.ensures.notes c.find_place.ensures.flags c.requires.stopped.order.flags) c.requires.stopped) c.in_ok-stopped.ensures.room

pub place_or_refuse-stopped-requires-clause-may : goal.place_or_refuse-stopped-requires-clause-may
place_or_refuse-stopped-requires-clause-may g c =
    may-kept c.find_place.new.self c.in_ok-stopped.stopped c.args.number c.args.need (c.in_ok-stopped.ensures.births c.args.number)
    (noted.may-found g.P.Plan.rules c.args.self c.find_place.new.self c.find_place.ensures.rest (noted.known-found g.P.Plan.rules c.args.self c.find_place.new.self c.find_place.ensures.rest c.find_place.ensures.notes c.find_place.ensures.flags c.requires.stopped.order.flags) c.args.number c.args.need c.requires.may)

pub returns-clause-stopped : goal.returns-clause-stopped
returns-clause-stopped g c =
    serving.stopped-served g.P.Plan.rules c.args.self c.place_or_refuse-stopped.result.0 c.args.number c.args.need c.place_or_refuse-stopped.result.1 c.requires.stopped c.place_or_refuse-stopped.ensures.order
    (serving.serves-after g.P.Plan.rules c.args.self c.find_place.new.self c.in_ok-stopped.stopped c.place_or_refuse-stopped.result.0 c.args.number c.args.need c.place_or_refuse-stopped.result.1 c.size_words-size.result c.find_place.ensures.rest (noted.known-found g.P.Plan.rules c.args.self c.find_place.new.self c.find_place.ensures.rest c.find_place.ensures.notes c.find_place.ensures.flags c.requires.stopped.order.flags) (c.size_words-size.ensures ∙ ap (λ r. size_of r c.shape_of.result.nums) c.shape_of.ensures.refs ∙ ap (λ q. size_of c.args.need.refs q) c.shape_of.ensures.nums) c.in_default.ensures.none c.in_ok-stopped.ensures.room c.place_or_refuse-stopped.ensures.settles)

pub returns-clause-serves : goal.returns-clause-serves
returns-clause-serves g c =
    serving.serves-after g.P.Plan.rules c.args.self c.find_place.new.self c.in_ok-stopped.stopped c.place_or_refuse-stopped.result.0 c.args.number c.args.need c.place_or_refuse-stopped.result.1 c.size_words-size.result c.find_place.ensures.rest (noted.known-found g.P.Plan.rules c.args.self c.find_place.new.self c.find_place.ensures.rest c.find_place.ensures.notes c.find_place.ensures.flags c.requires.stopped.order.flags) (c.size_words-size.ensures ∙ ap (λ r. size_of r c.shape_of.result.nums) c.shape_of.ensures.refs ∙ ap (λ q. size_of c.args.need.refs q) c.shape_of.ensures.nums) c.in_default.ensures.none c.in_ok-stopped.ensures.room c.place_or_refuse-stopped.ensures.settles

pub returns-clause-births : goal.returns-clause-births
returns-clause-births g c = serving.births-after g.P.Plan.rules c.args.self c.find_place.new.self c.in_ok-stopped.stopped c.place_or_refuse-stopped.result.0 c.args.number c.args.need c.place_or_refuse-stopped.result.1 c.size_words-size.result c.find_place.ensures.rest (noted.known-found g.P.Plan.rules c.args.self c.find_place.new.self c.find_place.ensures.rest c.find_place.ensures.notes c.find_place.ensures.flags c.requires.stopped.order.flags) (c.size_words-size.ensures ∙ ap (λ r. size_of r c.shape_of.result.nums) c.shape_of.ensures.refs ∙ ap (λ q. size_of c.args.need.refs q) c.shape_of.ensures.nums) (c.in_ok-stopped.ensures.births c.args.number) c.place_or_refuse-stopped.ensures.births

pub returns-clause-counts : goal.returns-clause-counts
returns-clause-counts g c = serving.counts-after g.P.Plan.rules c.args.self c.find_place.new.self c.in_ok-stopped.stopped c.place_or_refuse-stopped.result.0 c.args.number c.args.need c.place_or_refuse-stopped.result.1 c.size_words-size.result c.find_place.ensures.rest (noted.known-found g.P.Plan.rules c.args.self c.find_place.new.self c.find_place.ensures.rest c.find_place.ensures.notes c.find_place.ensures.flags c.requires.stopped.order.flags) (c.size_words-size.ensures ∙ ap (λ r. size_of r c.shape_of.result.nums) c.shape_of.ensures.refs ∙ ap (λ q. size_of c.args.need.refs q) c.shape_of.ensures.nums) c.in_ok-stopped.ensures.counts c.place_or_refuse-stopped.ensures.counts

pub returns-clause-refused : goal.returns-clause-refused
returns-clause-refused g c =
    serving.refused-after g.P.Plan.rules c.args.self c.find_place.new.self c.in_ok-stopped.stopped c.place_or_refuse-stopped.result.0 c.args.need c.place_or_refuse-stopped.result.1 c.size_words-size.result c.find_place.ensures.rest (c.size_words-size.ensures ∙ ap (λ r. size_of r c.shape_of.result.nums) c.shape_of.ensures.refs ∙ ap (λ q. size_of c.args.need.refs q) c.shape_of.ensures.nums)
    c.in_ok-stopped.ensures.full c.place_or_refuse-stopped.ensures.refused

pub returns-in-Some-clause-noted : goal.returns-in-Some-clause-noted
returns-in-Some-clause-noted g c = λ _. serving.counts-found c.args.self c.find_place.new.self c.place_need-stopped.result.0 c.args.number c.find_place.ensures.rest c.place_need-stopped.ensures.counts

pub returns-clause-noted : goal.returns-clause-noted
returns-clause-noted g c = λ asked.
    subst (NotesLast g.P.Plan.rules c.args.self c.place_or_refuse-stopped.result.0) (sym (c.in_ok-stopped.ensures.noted.2 asked)) (last-of-need g.P.Plan.rules c.args.self c.find_place.new.self c.in_ok-stopped.stopped c.place_or_refuse-stopped.result.0 c.in_ok-stopped.ensures.noted.0 c.find_place.ensures.rest
    (noted.known-found g.P.Plan.rules c.args.self c.find_place.new.self c.find_place.ensures.rest c.find_place.ensures.notes c.find_place.ensures.flags c.requires.stopped.order.flags)
    c.in_ok-stopped.ensures.noted.1 c.place_or_refuse-stopped.ensures.counts)

pub returns-clause-known : goal.returns-clause-known
returns-clause-known g c =
    if-known (IsNoteOfLast g.P.Plan.rules c.args.self c.place_or_refuse-stopped.result.0) c.in_ok-stopped.note c.in_ok-stopped.ensures.noted.0 c.in_ok-stopped.ensures.noted.3 (last-of-need g.P.Plan.rules c.args.self c.find_place.new.self c.in_ok-stopped.stopped c.place_or_refuse-stopped.result.0 c.in_ok-stopped.ensures.noted.0 c.find_place.ensures.rest
    (noted.known-found g.P.Plan.rules c.args.self c.find_place.new.self c.find_place.ensures.rest c.find_place.ensures.notes c.find_place.ensures.flags c.requires.stopped.order.flags)
    c.in_ok-stopped.ensures.noted.1 c.place_or_refuse-stopped.ensures.counts)

pub returns-in_err-stopped-clause-lost : goal.returns-in_err-stopped-clause-lost
returns-in_err-stopped-clause-lost g c =
    let p = err_from_is_err_and c.from_residual.result c.from_residual.ensures.1 in
    let size : c.size_words-size.result ≡ size_of c.args.need.refs c.args.need.nums =
    c.size_words-size.ensures ∙ ap (λ r. size_of r c.shape_of.result.nums) c.shape_of.ensures.refs ∙ ap (λ q. size_of c.args.need.refs q) c.shape_of.ensures.nums in
    rw (p.1) (λ fit. c.in_default.ensures.none (subst (λ (n : ℕ). Fits g.P.Plan.rules (heap_state c.args.self.heap) n) (sym size) fit))
