-- The epoch gives the object, or a stop does.
use Rattle.std.proofs.Common.{◌≤◌, ◌<◌, sym, subst, inl, ℕ}
use Rattle.managed_value.proofs.Searched as searched
use Rattle.managed_value.proofs.Served as served
use Rattle.managed_value.proofs.managed.ManagedHeap.new_or_collect_with.Goals as goal

pub try_new-requires-clause-births : goal.try_new-requires-clause-births
try_new-requires-clause-births g c = c.requires.may.births

pub returns-in-Made-clause-stop : goal.returns-in-Made-clause-stop
returns-in-Made-clause-stop g c = inl c.in-Made.ensures.epoch

pub place_at_stop-requires-clause-usable : goal.place_at_stop-requires-clause-usable
place_at_stop-requires-clause-usable g c κs within = c.in-Stop.ensures.made.same.usable

pub place_at_stop-requires-clause-place : goal.place_at_stop-requires-clause-place
place_at_stop-requires-clause-place g c κs within = searched.place-still g.P.Plan.rules c.args.self.now c.try_new.new.self c.args.m c.in-Stop.ensures.made.same c.requires.place

pub place_at_stop-requires-clause-register : goal.place_at_stop-requires-clause-register
place_at_stop-requires-clause-register g c κs within = subst (λ (n : ℕ). n < 16) (sym c.in-Stop.ensures.need.register) c.requires.register

pub place_at_stop-requires-clause-refs : goal.place_at_stop-requires-clause-refs
place_at_stop-requires-clause-refs g c κs within = subst (λ (n : ℕ). n ≤ 1024) (sym c.in-Stop.ensures.need.refs) c.requires.refs

pub place_at_stop-requires-clause-nums : goal.place_at_stop-requires-clause-nums
place_at_stop-requires-clause-nums g c κs within = subst (λ (n : ℕ). n ≤ 60000) (sym c.in-Stop.ensures.need.nums) c.requires.nums

pub place_at_stop-requires-clause-may : goal.place_at_stop-requires-clause-may
place_at_stop-requires-clause-may g c κs within = searched.may-still g.P.Plan.rules c.args.self.now c.try_new.new.self c.args.m c.in-Stop.ensures.made.same c.requires.may

pub returns-in-Stop-clause-made : goal.returns-in-Stop-clause-made
returns-in-Stop-clause-made g c =
    served.answered g.P.Plan.rules c.args.self.now c.try_new.new.self c.place_at_stop.new.self c.in-Stop.ensures.made.same
    c.args.m c.args.d c.args.refs c.args.nums c.in-Stop.need c.in-Stop.ensures.need c.place_at_stop.result c.place_at_stop.ensures.made

pub returns-in-Stop-clause-stop : goal.returns-in-Stop-clause-stop
returns-in-Stop-clause-stop g c =
    served.stopped-for g.P.Plan.rules c.args.self.now c.try_new.new.self c.place_at_stop.new.self c.in-Stop.ensures.made.same
    c.args.m c.args.d c.args.refs c.args.nums c.in-Stop.ensures.made c.in-Stop.need c.in-Stop.ensures.need c.place_at_stop.result c.place_at_stop.ensures.stop c.place_at_stop.ensures.made
