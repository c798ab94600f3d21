-- A manager after a need: it stays in order, and stands at the moment at which its heap stands, as a mutator gets one more reply.
use Rattle.std.proofs.Common.{◌≡◌, ◌≢◌, sym, ◌∙◌, subst, ℕ, ◌+◌, ◌-◌, ◌*◌, ◌<◌, ◌≤◌, arith, [], ◌∷◌, ◌++◌, length, Some}
use Rattle.std.specs.Prelude.{slice_get}
use Rattle.ideal_heap.specs.declared.command.Command.TheVariants as c
use Rattle.ideal_heap.specs.declared.reply.Reply.TheVariants as r
use Rattle.ideal_heap.specs.Runs.{entry}
use Rattle.object_model.specs.Heaps.{heap_state}
use Rattle.object_model.specs.Objects.{size_of}
use Rattle.sessions.specs.Plans.{Rules}
use Rattle.sessions.specs.Fitting.{Fits}
use Rattle.sessions.specs.Sessions.{Setting, Moment, ServesNeed}
use Rattle.mutator_calls.specs.declared.need.Mutator.{Mutator}
use Rattle.mutator_calls.specs.declared.need.Need.{Need}
use Rattle.block_regions.proofs.Lists.{get-some, get-below, one-element}
use Rattle.managed_heap.specs.declared.place.Placed.{Placed}
use Rattle.managed_heap.specs.declared.place.Placed.TheVariants as placed
use Rattle.managed_heap.specs.Stopped as stopped
use Rattle.managed_heap.specs.Stopped.{collections_of}
use Rattle.managed_heap.specs.Needs.{MayAllocate, AddsBirths, AddsNeed, IfRefused, born_in, reply_of}
use Rattle.mm_runtime.specs.declared.progress.Progress.{Progress}
use Rattle.mm_runtime.specs.declared.manager.Manager.{Manager}
use Rattle.mm_runtime.specs.Managers.{next_in_trace, replied, HasReplies, IsInOrder, StandsAt}
use Rattle.mm_runtime.specs.Stops.{MatchPlaced, NeedsNext, RepliesAt, RepliesTo}
use Rattle.mm_runtime.proofs.Needs.{HasNeed, has-need}
use Rattle.mm_runtime.proofs.OneReplied as replies

-- room for the reply
module _ {P : Type 0} (rules : Rules) (old : Manager P) (m : ℕ) (need : Need) (order : IsInOrder rules 0 old) (next : NeedsNext old m need) where
  abbrev own-need : HasNeed old.heap.mutators.items old.progress.items (m - 1) m need.register need.refs need.nums
  own-need = has-need rules 0 old m need order next

  pub may-allocate : MayAllocate old.heap m need
  may-allocate =
      let place : (m - 1) + 1 ≡ m = own-need.at in
      let below : m - 1 < length old.heap.mutators.items = get-below old.heap.mutators.items (m - 1) own-need.user own-need.here in
      record {
        least = next.0;
        most = omega arith;
        valid = own-need.valid;
        births = λ j u at here.
            let spot : j ≡ m - 1 = omega arith in
            let mine : u ≡ own-need.user = one-element (slice_get old.heap.mutators.items (m - 1)) u own-need.user (subst (λ (i : ℕ). slice_get old.heap.mutators.items i ≡ Some u) spot here) own-need.here in
            let most : own-need.user.births ≤ length own-need.progress.replies.items = own-need.births in
            let less : length own-need.progress.replies.items < length own-need.progress.trace = own-need.within in
            let few : length own-need.progress.trace ≤ 1000000 = own-need.is.few in
            subst (λ (x : Mutator). x.births + 1 < 4294967296) (sym mine) (omega arith);
      }

  pub most : m ≤ length old.progress.items
  most = (let place : (m - 1) + 1 ≡ m = own-need.at in let below : m - 1 < length old.progress.items = get-below old.progress.items (m - 1) own-need.progress own-need.there in omega arith)

  pub room-left : (j : ℕ) (p : Progress) → j + 1 ≡ m → slice_get old.progress.items j ≡ Some p → length p.replies.items < p.replies.capacity
  room-left j p place there =
      let own : (m - 1) + 1 ≡ m = own-need.at in
      let here : j ≡ m - 1 = omega arith in
      let mine : p ≡ own-need.progress = one-element (slice_get old.progress.items (m - 1)) p own-need.progress (subst (λ (i : ℕ). slice_get old.progress.items i ≡ Some p) here there) own-need.there in
      let less : length own-need.progress.replies.items < length own-need.progress.trace = own-need.within in
      let room : length own-need.progress.trace ≤ own-need.progress.replies.capacity = own-need.is.room in
      subst (λ (x : Progress). length x.replies.items < x.replies.capacity) (sym mine) (omega arith)

born-most : (what : Placed) → born_in what ≤ 1
born-most (placed.Placed n) = omega arith
born-most (placed.HeapFull size) = omega arith

module _ {P : Type 0} (rules : Rules) (old new : Manager P) (m : ℕ) (need : Need) (what : Placed) (order : IsInOrder rules 0 old) (next : NeedsNext old m need)
    (to : RepliesTo old m (reply_of what) new) where
  abbrev k : ℕ
  k = m - 1

  abbrev has : HasNeed old.heap.mutators.items old.progress.items (m - 1) m need.register need.refs need.nums
  has = has-need rules 0 old m need order next

  at : RepliesAt old.progress.items new.progress.items k (reply_of what)
  at = to k has.at

  same : at.before ≡ has.progress
  same = one-element (slice_get old.progress.items k) at.before has.progress at.was has.there

  next-is : next_in_trace at.before ≡ Some (c.New need.register need.refs need.nums)
  next-is = subst (λ (p : Progress). next_in_trace p ≡ Some (c.New need.register need.refs need.nums)) (sym same) has.next

  within : length at.before.replies.items < length at.before.trace
  within = subst (λ (p : Progress). length p.replies.items < length p.trace) (sym same) has.within

  module _ (adds : AddsBirths old.heap.mutators.items m (born_in what) new.heap.mutators.items) where
    before : (j : ℕ) (v : Mutator) → slice_get new.heap.mutators.items j ≡ Some v → (u : Mutator) × (slice_get old.heap.mutators.items j ≡ Some u)
    before j v here = get-some old.heap.mutators.items j (let below : j < length new.heap.mutators.items = get-below new.heap.mutators.items j v here in let count = adds.count in omega arith)

    births-after : (j : ℕ) (p : Progress) → slice_get new.progress.items j ≡ Some p → (v : Mutator) → slice_get new.heap.mutators.items j ≡ Some v → v.births ≤ length p.replies.items
    births-after = replies.progress-each old.progress.items new.progress.items k (reply_of what) at
        (λ j p. (v : Mutator) → slice_get new.heap.mutators.items j ≡ Some v → v.births ≤ length p.replies.items) own rest
      where
        own : (v : Mutator) → slice_get new.heap.mutators.items k ≡ Some v → v.births ≤ length at.after.replies.items
        own v here =
            let u = before k v here in
            let most : u.0.births ≤ length at.before.replies.items = order.births k u.0 at.before u.1 at.was in
            let more : length at.after.replies.items ≡ length at.before.replies.items + 1 = replies.count-more old.progress.items new.progress.items k (reply_of what) at in
            let born : v.births ≡ u.0.births + born_in what = adds.own k u.0 v has.at u.1 here in
            let one : born_in what ≤ 1 = born-most what in
            omega arith

        rest : (j : ℕ) (p : Progress) → j ≢ k → slice_get old.progress.items j ≡ Some p → (v : Mutator) → slice_get new.heap.mutators.items j ≡ Some v → v.births ≤ length p.replies.items
        rest j p other is v here =
            let u = before j v here in
            let most : u.0.births ≤ length p.replies.items = order.births j u.0 p u.1 is in
            let place : k + 1 ≡ m = has.at in
            let born : v.births ≡ u.0.births = adds.others j u.0 v (λ e. other (omega arith)) u.1 here in
            omega arith

    pub order-after : stopped.IsHeapInOrder rules new.heap → collections_of new.heap ≤ collections_of old.heap + 2 → IsInOrder rules 0 new
    order-after heap collections =
        let many : length new.progress.items ≡ length old.progress.items = at.count in
        let some : 1 ≤ length old.progress.items = order.some in
        let few : length old.progress.items ≤ 16 = order.few in
        let count : length old.heap.mutators.items ≡ length old.progress.items = order.count in
        let users : length new.heap.mutators.items ≡ length old.heap.mutators.items = adds.count in
        let collected : collections_of old.heap ≤ 2 * replied old.progress.items + 0 = order.collections in
        let more : replied new.progress.items ≡ replied old.progress.items + 1 = replies.replied-more old.progress.items new.progress.items k (reply_of what) at in
        record {
          heap = heap;
          some = omega arith;
          few = omega arith;
          count = omega arith;
          each = replies.is-progress old.progress.items new.progress.items k (reply_of what) at order.each within;
          births = λ j v p here is. births-after j p is v here;
          collections = omega arith;
        }

  pub serves : ((t : Setting) (now : Moment) → stopped.HeapStandsAt rules old.heap t now
      → (late : Moment) × ServesNeed t m need.register need.refs need.nums now late × AddsNeed m need what now late × stopped.HeapStandsAt rules new.heap t late)
      → (t : Setting) (now : Moment) → StandsAt rules old t now → (late : Moment) × ServesNeed t m need.register need.refs need.nums now late × StandsAt rules new t late
  serves heap t now stands =
      let late = heap t now stands.heap in (
        late.0,
        late.1,
        record {
          heap = late.3;
          traces = stands.traces ∙ sym (replies.traces-same old.progress.items new.progress.items k (reply_of what) at);
          replies = subst (HasReplies new.progress.items) (sym late.2)
              (subst (λ (q : ℕ). HasReplies new.progress.items (now.done ++ entry q (c.New need.register need.refs need.nums) (reply_of what) ∷ [])) has.at
              (replies.has-replies old.progress.items new.progress.items k (reply_of what) at now.done (c.New need.register need.refs need.nums) stands.replies next-is));
        },
      )

pub placed-after : {P : Type 0} (rules : Rules) (old new : Manager P) (m : ℕ) (need : Need) (what : Placed) → RepliesTo old m (reply_of what) new
    → IfRefused what (λ size. (size ≡ size_of need.refs need.nums) × (new.heap.full ≡ old.heap.full + 1) × (Fits rules (heap_state new.heap.heap) size → ⊥))
    → MatchPlaced what (λ n. RepliesTo old m (r.New n) new)
    (λ size. RepliesTo old m r.Full new × (size ≡ size_of need.refs need.nums) × (new.heap.full ≡ old.heap.full + 1) × (Fits rules (heap_state new.heap.heap) size → ⊥))
placed-after rules old new m need (placed.Placed n) to refused = to
placed-after rules old new m need (placed.HeapFull size) to refused = (to, refused.0, refused.1, refused.2)
