-- The heap serves the need, and the mutator gets the reply.
use Rattle.std.proofs.Common.{◌+◌, ◌≤◌, ◌≡◌, subst, ℕ, arith}
use Rattle.ideal_heap.specs.declared.reply.Reply.{Reply}
use Rattle.managed_heap.specs.Stopped.{collections_of}
use Rattle.mm_runtime.specs.Stops.{RepliesAt}
use Rattle.mm_runtime.proofs.Bounds.{collections-few}
use Rattle.mm_runtime.proofs.Collected.{stopped-of}
use Rattle.mm_runtime.proofs.Ordered as ordered
use Rattle.mm_runtime.proofs.manager.Manager.place_or_collect.Goals as goal

pub place_or_collect-requires-clause-stopped : goal.place_or_collect-requires-clause-stopped
place_or_collect-requires-clause-stopped g c κs within = stopped-of g.P.Plan.rules 0 c.args.self c.requires.stop

pub place_or_collect-requires-clause-may : goal.place_or_collect-requires-clause-may
place_or_collect-requires-clause-may g c κs within = ordered.may-allocate g.P.Plan.rules c.args.self c.args.number c.args.need c.requires.stop.order c.requires.next

pub place_or_collect-requires-clause-collections : goal.place_or_collect-requires-clause-collections
place_or_collect-requires-clause-collections g c κs within =
    let few : collections_of c.args.self.heap ≤ 32000000 + 0 = collections-few g.P.Plan.rules 0 c.args.self c.requires.stop.order in
    omega arith

pub reply_to-requires-clause-least : goal.reply_to-requires-clause-least
reply_to-requires-clause-least g c = c.requires.next.0

pub reply_to-requires-clause-most : goal.reply_to-requires-clause-most
reply_to-requires-clause-most g c = ordered.most g.P.Plan.rules c.args.self c.args.number c.args.need c.requires.stop.order c.requires.next

pub reply_to-requires-clause-room : goal.reply_to-requires-clause-room
reply_to-requires-clause-room g c = ordered.room-left g.P.Plan.rules c.args.self c.args.number c.args.need c.requires.stop.order c.requires.next

pub returns-clause-order : goal.returns-clause-order
returns-clause-order g c =
    ordered.order-after g.P.Plan.rules c.args.self _ c.args.number c.args.need c.in_ok-heap.placed c.requires.stop.order c.requires.next
    (subst (λ (x : Reply). (k : ℕ) → k + 1 ≡ c.args.number → RepliesAt c.args.self.progress.items c.reply_to.new.progress.items k x) c.reply_for.ensures c.reply_to.ensures)
    c.in_ok-heap.ensures.births c.in_ok-heap.ensures.stopped.order c.in_ok-heap.ensures.counts

pub returns-clause-serves : goal.returns-clause-serves
returns-clause-serves g c =
    ordered.serves g.P.Plan.rules c.args.self _ c.args.number c.args.need c.in_ok-heap.placed c.requires.stop.order c.requires.next
    (subst (λ (x : Reply). (k : ℕ) → k + 1 ≡ c.args.number → RepliesAt c.args.self.progress.items c.reply_to.new.progress.items k x) c.reply_for.ensures c.reply_to.ensures)
    c.in_ok-heap.ensures.serves

pub returns-clause-placed : goal.returns-clause-placed
returns-clause-placed g c =
    ordered.placed-after g.P.Plan.rules c.args.self (record { alloc = c.args.self.alloc; heap = c.in_ok-heap.heap; progress = c.reply_to.new.progress; pace = c.args.self.pace }) c.args.number c.args.need c.in_ok-heap.placed
    (subst (λ (x : Reply). (k : ℕ) → k + 1 ≡ c.args.number → RepliesAt c.args.self.progress.items c.reply_to.new.progress.items k x) c.reply_for.ensures c.reply_to.ensures)
    c.in_ok-heap.ensures.refused
