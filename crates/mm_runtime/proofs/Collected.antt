-- A manager after a collection of its heap, which was made and counted.
use Rattle.std.proofs.Common.{◌≡◌, sym, ◌∙◌, subst, ℕ, ◌+◌, ◌*◌, ◌≤◌, arith, List, ◌∷◌, length}
use Rattle.ideal_heap.specs.declared.command.Command.TheVariants as c
use Rattle.object_model.specs.declared.collect.Collect.TheVariants.{Full}
use Rattle.sessions.specs.Plans.{Rules}
use Rattle.sessions.specs.Sessions.{Setting, Moment, OnlyReplies, CollectsFor, all_done}
use Rattle.collector.specs.declared.outcome.Note.{Note}
use Rattle.managed_heap.specs.declared.stopped_heap.StoppedHeap.{StoppedHeap}
use Rattle.managed_heap.specs.Stopped.{collections_of, HasCollected, IsStopped}
use Rattle.managed_heap.proofs.Collected as heaps
use Rattle.managed_heap.proofs.BirthCounts.{as-many, births-from}
use Rattle.mm_runtime.specs.declared.manager.Manager.{Manager}
use Rattle.mm_runtime.specs.Managers.{replied, IsInOrder, IsAtStop, StandsAt}

-- its heap stands there too
pub stopped-of : {P : Type 0} (rules : Rules) (more : ℕ) (m : Manager P) → IsAtStop rules more m → IsStopped rules m.heap
stopped-of rules more m stop = record { order = stop.order.heap; setting = stop.setting; now = stop.now; stands = stop.stands.heap }

module _ {P : Type 0} (rules : Rules) (old : Manager P) (h : StoppedHeap P) (note : Note) (made : HasCollected rules Full old.heap h note) where
  abbrev pub after : Manager P
  after = record old { heap = h }

  -- the moment after it
  abbrev pub late : Moment → Moment
  late now = heaps.late rules Full old.heap h note made now

  pub stands : (t : Setting) (now : Moment) → StandsAt rules old t now → StandsAt rules after t (late now)
  stands t now at = record { heap = heaps.stands rules Full old.heap h note made t now at.heap; traces = at.traces; replies = at.replies }

  pub in-order : IsInOrder rules 0 old → IsInOrder rules 1 after
  in-order order = record {
    heap = heaps.in-order rules Full old.heap h note made order.heap;
    some = order.some;
    few = order.few;
    count = as-many h.mutators.items old.heap.mutators.items made.births ∙ order.count;
    each = order.each;
    births = λ k u p is at.
        let from = births-from h.mutators.items old.heap.mutators.items made.births k u is in
        let most : from.0.births ≤ length p.replies.items = order.births k from.0 p from.1 at in
        let as_old : u.births ≡ from.0.births = from.2 in
        omega arith;
    collections =
        let sum : collections_of h ≡ collections_of old.heap + 1 = heaps.counts rules Full old.heap h note made in
        let few : collections_of old.heap ≤ 2 * replied old.progress.items + 0 = order.collections in
        omega arith;
  }

  -- and the replies for mutators at `gc`
  pub for-some : (t : Setting) (ms : List ℕ) (x : ℕ) (xs : List ℕ) (now next : Moment) → ms ≡ x ∷ xs → StandsAt rules old t now → OnlyReplies (all_done c.Gc ms) (late now) next → CollectsFor t ms now next
  for-some t ms x xs now next is at replies =
      subst (λ ys. CollectsFor t ys now next) (sym is)
      (late now, heaps.makes rules Full old.heap h note made t now at.heap, subst (λ ys. OnlyReplies (all_done c.Gc ys) (late now) next) is replies)
