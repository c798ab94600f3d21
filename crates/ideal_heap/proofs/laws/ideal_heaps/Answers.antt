use Rattle.std.proofs.Common.{◌≤◌, ◌<◌, ◌+◌, arith}
use Rattle.ideal_heap.specs.Names.{name}
use Rattle.ideal_heap.proofs.laws.ideal_heaps.Goals as goal

pub returns-clause-unborn : goal.returns-clause-unborn
returns-clause-unborn c = λ ms h m ideal has.
    let born : 1 ≤ 0 = (ideal.births (name m 0) has).0 in
    omega (arith, born)

pub returns-clause-fresh : goal.returns-clause-fresh
returns-clause-fresh c = λ ms h m ideal has.
    let counted : h.births m + 1 ≤ h.births m = (ideal.births (name m (h.births m + 1)) has).1 in
    omega (arith, counted)

pub returns-clause-registers : goal.returns-clause-registers
returns-clause-registers c = λ ms h m n ideal is.
    let below : 16 < 16 = (ideal.places.registers m 16 n is).0 in
    omega (arith, below)

pub returns-clause-globals : goal.returns-clause-globals
returns-clause-globals c = λ ms h n ideal is.
    let below : 16 < 16 = ideal.places.globals 16 n is in
    omega (arith, below)

pub returns-clause-mutators : goal.returns-clause-mutators
returns-clause-mutators c = λ ms h m d n ideal is. (ideal.places.registers m d n is).1
