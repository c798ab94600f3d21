use Rattle.std.proofs.Common.{◌≡◌, ap, ◌∙◌, arith, ◌≤◌}
use Rattle.object_model.specs.Objects.{size_of}
use Rattle.managed_heap.proofs.NeedsWritten as putting
use Rattle.managed_heap.proofs.Noted as noted
use Rattle.managed_heap.proofs.ServedNeeds as serving
use Rattle.managed_heap.proofs.BirthCounts.{same-added}
use Rattle.managed_heap.proofs.stopped_heap.StoppedHeap.place_or_refuse.Goals as goal

pub size_words-size-requires-clause-refs : goal.size_words-size-requires-clause-refs
size_words-size-requires-clause-refs g c =
    let most : c.args.need.now.refs ≤ 1024 = c.requires.may.valid.1 in
    let same : c.shape_of.result.refs ≡ c.args.need.now.refs = c.shape_of.ensures.refs in
    omega arith

pub size_words-size-requires-clause-nums : goal.size_words-size-requires-clause-nums
size_words-size-requires-clause-nums g c =
    let most : c.args.need.now.nums ≤ 60000 = c.requires.may.valid.2 in
    let same : c.shape_of.result.nums ≡ c.args.need.now.nums = c.shape_of.ensures.nums in
    omega arith

pub find_place-requires-clause-most : goal.find_place-requires-clause-most
find_place-requires-clause-most g c =
    putting.most-words c.args.self c.args.number c.args.need.now c.requires.may c.size_words-size.result c.shape_of.result.refs c.shape_of.result.nums
    c.size_words-size.ensures c.shape_of.ensures.refs c.shape_of.ensures.nums

pub place_need-stopped-requires-clause-stopped : goal.place_need-stopped-requires-clause-stopped
place_need-stopped-requires-clause-stopped g c = noted.stopped-found g.P.Plan.rules c.args.self c.find_place.new.self c.find_place.ensures.rest (noted.known-found g.P.Plan.rules c.args.self c.find_place.new.self c.find_place.ensures.rest c.find_place.ensures.notes c.find_place.ensures.flags c.requires.stopped.order.flags) c.requires.stopped

pub place_need-stopped-requires-clause-may : goal.place_need-stopped-requires-clause-may
place_need-stopped-requires-clause-may g c = noted.may-found g.P.Plan.rules c.args.self c.find_place.new.self c.find_place.ensures.rest (noted.known-found g.P.Plan.rules c.args.self c.find_place.new.self c.find_place.ensures.rest c.find_place.ensures.notes c.find_place.ensures.flags c.requires.stopped.order.flags) c.args.number c.args.need.now c.requires.may

pub place_need-stopped-requires-clause-spot : goal.place_need-stopped-requires-clause-spot
place_need-stopped-requires-clause-spot g c =
    noted.spot-found g.P.Plan.rules c.args.self c.find_place.new.self c.find_place.ensures.rest (noted.known-found g.P.Plan.rules c.args.self c.find_place.new.self c.find_place.ensures.rest c.find_place.ensures.notes c.find_place.ensures.flags c.requires.stopped.order.flags) c.size_words-size.result (size_of c.args.need.now.refs c.args.need.now.nums) c.in-Some.spot
    (c.size_words-size.ensures ∙ ap (λ r. size_of r c.shape_of.result.nums) c.shape_of.ensures.refs ∙ ap (λ q. size_of c.args.need.now.refs q) c.shape_of.ensures.nums) c.in-Some.ensures.spot

pub returns-in-Some-clause-settles : goal.returns-in-Some-clause-settles
returns-in-Some-clause-settles g c = serving.settles-placed g.P.Plan.rules c.args.self c.find_place.new.self c.args.number c.args.need.now c.size_words-size.result c.find_place.ensures.rest (noted.known-found g.P.Plan.rules c.args.self c.find_place.new.self c.find_place.ensures.rest c.find_place.ensures.notes c.find_place.ensures.flags c.requires.stopped.order.flags) (c.size_words-size.ensures ∙ ap (λ r. size_of r c.shape_of.result.nums) c.shape_of.ensures.refs ∙ ap (λ q. size_of c.args.need.now.refs q) c.shape_of.ensures.nums) c.place_need-stopped.result.0 c.place_need-stopped.result.1 c.place_need-stopped.ensures.places

pub returns-in-Some-clause-births : goal.returns-in-Some-clause-births
returns-in-Some-clause-births g c = serving.births-found c.args.self c.find_place.new.self c.place_need-stopped.result.0 c.args.number c.find_place.ensures.rest 1 c.place_need-stopped.ensures.births

pub returns-in-Some-clause-counts : goal.returns-in-Some-clause-counts
returns-in-Some-clause-counts g c = serving.counts-found c.args.self c.find_place.new.self c.place_need-stopped.result.0 c.args.number c.find_place.ensures.rest c.place_need-stopped.ensures.counts

pub returns-clause-order : goal.returns-clause-order
returns-clause-order g c = noted.order-found g.P.Plan.rules c.args.self c.find_place.new.self c.find_place.ensures.rest (noted.known-found g.P.Plan.rules c.args.self c.find_place.new.self c.find_place.ensures.rest c.find_place.ensures.notes c.find_place.ensures.flags c.requires.stopped.order.flags) c.requires.stopped.order

pub returns-clause-settles : goal.returns-clause-settles
returns-clause-settles g c = serving.settles-refused g.P.Plan.rules c.args.self c.find_place.new.self c.args.number c.args.need.now c.size_words-size.result c.find_place.ensures.rest (noted.known-found g.P.Plan.rules c.args.self c.find_place.new.self c.find_place.ensures.rest c.find_place.ensures.notes c.find_place.ensures.flags c.requires.stopped.order.flags) (c.size_words-size.ensures ∙ ap (λ r. size_of r c.shape_of.result.nums) c.shape_of.ensures.refs ∙ ap (λ q. size_of c.args.need.now.refs q) c.shape_of.ensures.nums) c.in_default.ensures.none c.size_words-size.result

pub returns-clause-births : goal.returns-clause-births
returns-clause-births g c = same-added c.args.self.mutators.items c.find_place.new.self.mutators.items c.args.number (noted.users-found c.args.self c.find_place.new.self c.find_place.ensures.rest)

pub returns-clause-counts : goal.returns-clause-counts
returns-clause-counts g c = noted.counts-found c.args.self c.find_place.new.self c.find_place.ensures.rest

pub returns-clause-refused : goal.returns-clause-refused
returns-clause-refused g c = serving.refused-here g.P.Plan.rules c.args.self c.find_place.new.self c.args.number c.args.need.now c.size_words-size.result c.find_place.ensures.rest (noted.known-found g.P.Plan.rules c.args.self c.find_place.new.self c.find_place.ensures.rest c.find_place.ensures.notes c.find_place.ensures.flags c.requires.stopped.order.flags) (c.size_words-size.ensures ∙ ap (λ r. size_of r c.shape_of.result.nums) c.shape_of.ensures.refs ∙ ap (λ q. size_of c.args.need.now.refs q) c.shape_of.ensures.nums) c.in_default.ensures.none
