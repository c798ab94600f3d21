use Rattle.std.proofs.Common.{refl}
use Rattle.std.proofs.lemmas.Bool.{false≢true}
use Rattle.managed_value.proofs.Allowed as allowed
use Rattle.managed_value.proofs.managed.ManagedHeap.may_allocate.Goals as goal

pub returns-then-not-may_collect_twice : goal.returns-then-not-may_collect_twice
returns-then-not-may_collect_twice g c = allowed.not-twice c.args.self.now c.args.m (λ few. false≢true (c.if-not-may_collect_twice.ensures.1 few))

pub returns : goal.returns
returns g c = allowed.by-births c.args.self.now c.args.m c.births.result c.births.ensures (c.if-not-may_collect_twice.ensures.0 refl)
