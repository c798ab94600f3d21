use Rattle.std.proofs.Common.{◌≡◌, refl, ℕ, ◌≤◌, arith, true, false, lit<}
use Rattle.worked_heaps.proofs.worked_laws.heaps_disagree_on_sets.Goals as goal

pub returns-clause-closed : goal.returns-clause-closed
returns-clause-closed c all = (let e : false ≡ true = all.fields 9384 1 refl (lit< tt) refl in cc)

pub returns-clause-registers : goal.returns-clause-registers
returns-clause-registers c all =
    (let e : false ≡ true = all.registers.0 15 (lit< tt) (λ nil. let n : ℕ = 9384 in let z : n ≡ 0 = nil in omega arith) in cc)

pub returns-clause-globals : goal.returns-clause-globals
returns-clause-globals c all = all.globals 0 (lit< tt) (λ nil. let n : ℕ = 1212 in let z : n ≡ 0 = nil in omega arith)

pub returns-clause-held : goal.returns-clause-held
returns-clause-held c all = (let e : 806 ≤ 0 = (all.held 0 refl).address.from in omega arith)
