use Rattle.std.proofs.Common.{◌≡◌, refl, ap, ℕ, ◌<◌, ◌≤◌, arith, true, false, None, Some, lit<}
use Rattle.ideal_heap.specs.Names.{name}
use Rattle.object_model.specs.Objects.{record_at}
use Rattle.object_model.specs.Graphs as graphs
use Rattle.worked_heaps.specs.WorkedKinds.{kinds_heap}
use Rattle.worked_heaps.proofs.KindsRepresent.{represents}
use Rattle.worked_heaps.proofs.worked_laws.kinds_heap_represents.Goals as goal

pub returns-clause-represents : goal.returns-clause-represents
returns-clause-represents c = represents

pub returns-clause-numbers : goal.returns-clause-numbers
returns-clause-numbers c = (record { least = omega arith; most = omega arith; registers = refl }, record { least = omega arith; most = omega arith; registers = refl })

pub returns-clause-number_0 : goal.returns-clause-number_0
returns-clause-number_0 c is = (let e : 1 ≤ 0 = is.least in omega arith)

pub returns-clause-number_17 : goal.returns-clause-number_17
returns-clause-number_17 c is = (let e : 17 ≤ 16 = is.most in omega arith)

pub returns-clause-fifteen : goal.returns-clause-fifteen
returns-clause-fifteen c is = (let n : ℕ = 15 in let e : n ≡ 16 = is.registers in omega arith)

pub returns-clause-twice : goal.returns-clause-twice
returns-clause-twice c are = (let n : ℕ = 0 in let e : n ≡ 1 = are.differ 0 1 (lit< tt) (lit< tt) refl in omega arith)

pub returns-clause-register : goal.returns-clause-register
returns-clause-register c standing = (let n : ℕ = 9384 in let e : n ≡ 0 = standing.pointers.registers.0 15 (lit< tt) in omega arith)

pub returns-clause-name : goal.returns-clause-name
returns-clause-name c standing = (let n : ℕ = 2 in let e : n ≡ 1 = ap (λ x. x.birth) (standing.pointers.registers.0 15 (lit< tt)).2 in omega arith)

pub returns-clause-register_16 : goal.returns-clause-register_16
returns-clause-register_16 c standing = (let e : 16 < 16 = (standing.pointers.confined.registers 1 16 (name 1 2) refl).0 in omega arith)

pub returns-clause-global : goal.returns-clause-global
returns-clause-global c standing = (let n : ℕ = 9392 in let e : n ≡ 0 = standing.pointers.globals 15 (lit< tt) in omega arith)

pub returns-clause-births : goal.returns-clause-births
returns-clause-births c standing = (let n : ℕ = 3 in let e : n ≡ 2 = standing.births.births.1.0 in omega arith)

pub returns-clause-records : goal.returns-clause-records
returns-clause-records c standing = (let e : None ≡ Some (record_at kinds_heap 9384) = (standing.there 9384 (graphs.from_root 15 refl (lit< tt))).1 in cc)

pub returns-clause-pins : goal.returns-clause-pins
returns-clause-pins c standing = (let e : false ≡ true = (standing.pins 1212 (graphs.from_global 0 (lit< tt) refl (lit< tt))).0 refl in cc)
