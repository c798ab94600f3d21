use Rattle.std.proofs.Common.{ℕ, ◌≡◌, refl, ◌≤◌, arith, true, false, [], ◌∷◌, replicate, lit<}
use Rattle.ideal_heap.specs.Names.{name}
use Rattle.object_model.specs.WorkedHeaps.{plain_object}
use Rattle.worked_heaps.specs.WorkedKinds.{worked_object, bump_with}
use Rattle.object_model.proofs.LawfulTests.{held-at}
use Rattle.worked_heaps.proofs.worked_laws.unlawful_objects.Goals as goal

pub returns-clause-mutator : goal.returns-clause-mutator
returns-clause-mutator c l = (let e : 17 ≤ 16 = (l.but_lines.order.objects.headers 806 (held-at (bump_with (worked_object 0 0 (name 17 1) [] [] 0 false false ∷ [])) 806 refl)).object.name.most in omega arith)

pub returns-clause-birth : goal.returns-clause-birth
returns-clause-birth c l = (let e : 1 ≤ 0 = (l.but_lines.order.objects.headers 806 (held-at (bump_with (plain_object 0 0 0 [] 0 0 ∷ [])) 806 refl)).object.name.born in omega arith)

pub returns-clause-refs : goal.returns-clause-refs
returns-clause-refs c l = (let e : 1025 ≤ 1024 = (l.but_lines.order.objects.headers 806 (held-at (bump_with (plain_object 0 0 1 (replicate 1025 0) 0 0 ∷ [])) 806 refl)).object.refs in omega arith)

pub returns-clause-number : goal.returns-clause-number
returns-clause-number c l = (let e : 4 ≤ 3 = (l.but_lines.order.objects.headers 806 (held-at (bump_with (plain_object 0 0 1 [] 0 4 ∷ [])) 806 refl)).number in omega arith)

pub returns-clause-over_block : goal.returns-clause-over_block
returns-clause-over_block c l = (let e : 4097 ≤ 4096 = ((l.but_lines.order.objects.lies 4900 (held-at (bump_with (plain_object 0 4094 1 [] 0 0 ∷ [])) 4900 refl)).small (lit< tt)).within in omega arith)

pub returns-clause-overlap : goal.returns-clause-overlap
returns-clause-overlap c l = (let n : ℕ = 806 in let e : n ≡ 809 = l.but_lines.order.objects.apart 806 809 809 (held-at (bump_with (plain_object 0 0 1 [] 1 0 ∷ plain_object 0 3 2 [] 0 0 ∷ [])) 806 refl) (held-at (bump_with (plain_object 0 0 1 [] 1 0 ∷ plain_object 0 3 2 [] 0 0 ∷ [])) 809 refl) (record { from = lit< tt; below = lit< tt }) (record { from = lit< tt; below = lit< tt }) in omega arith)

pub returns-clause-same_name : goal.returns-clause-same_name
returns-clause-same_name c l = (let n : ℕ = 806 in let e : n ≡ 809 = l.but_lines.order.objects.names 806 809 (held-at (bump_with (plain_object 0 0 1 [] 0 0 ∷ plain_object 0 3 1 [] 0 0 ∷ [])) 806 refl) (held-at (bump_with (plain_object 0 0 1 [] 0 0 ∷ plain_object 0 3 1 [] 0 0 ∷ [])) 809 refl) refl in omega arith)

pub returns-clause-field : goal.returns-clause-field
returns-clause-field c l = (let e : false ≡ true = (l.but_lines.order.objects.references 806 1 (held-at (bump_with (plain_object 0 0 1 (0 ∷ 807 ∷ []) 0 0 ∷ [])) 806 refl) (lit< tt) refl).start in cc)

pub returns-clause-global : goal.returns-clause-global
returns-clause-global c l = (let e : false ≡ true = (l.but_lines.order.objects.globals 15 (lit< tt) (λ nil. let n : ℕ = 806 in let z : n ≡ 0 = nil in omega arith)).start in cc)

pub returns-clause-pin : goal.returns-clause-pin
returns-clause-pin c l = (let e : false ≡ true = (l.but_lines.order.objects.marks 806 refl).start in cc)

pub returns-clause-unlog : goal.returns-clause-unlog
returns-clause-unlog c l = (let e : false ≡ true = (l.but_lines.order.objects.marks 806 refl).start in cc)

pub returns-clause-base : goal.returns-clause-base
returns-clause-base c l = (let e : 4 ≤ 3 = l.but_lines.order.row.base in omega arith)
