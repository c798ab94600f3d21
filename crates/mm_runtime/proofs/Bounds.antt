-- Bounds on the numbers of replies and of collections.
use Rattle.std.proofs.Common.{◌≡◌, refl, ℕ, suc, ◌+◌, ◌*◌, ◌≤◌, arith, List, [], ◌∷◌, length}
use Rattle.std.specs.Prelude.{slice_get, Some}
use Rattle.std.proofs.lemmas.List.Sums.{sum_by-cons}
use Rattle.mm_runtime.specs.declared.progress.Progress.{Progress}
use Rattle.mm_runtime.specs.declared.manager.Manager.{Manager}
use Rattle.sessions.specs.Plans.{Rules}
use Rattle.mm_runtime.specs.Managers.{replied, IsProgress, IsInOrder}

replied-below : (ps : List Progress) → ((k : ℕ) (p : Progress) → slice_get ps k ≡ Some p → IsProgress p) → replied ps ≤ length ps * 1000000
replied-below [] each = omega arith
replied-below (p ∷ ps) each =
    let first : IsProgress p = each 0 p refl in
    let within : length p.replies.items ≤ length p.trace = first.within in
    let few : length p.trace ≤ 1000000 = first.few in
    let rest : replied ps ≤ length ps * 1000000 = replied-below ps (λ k q is. each (suc k) q is) in
    let sum : replied (p ∷ ps) ≡ length p.replies.items + replied ps = sum_by-cons (λ (x : Progress). length x.replies.items) p ps in
    omega arith

-- the number of collections fits its type
pub collections-few : {P : Type 0} (rules : Rules) (more : ℕ) (m : Manager P) → IsInOrder rules more m → m.heap.nursery + m.heap.full ≤ 32000000 + more
collections-few rules more m order =
    let few : length m.progress.items ≤ 16 = order.few in
    let sum : replied m.progress.items ≤ length m.progress.items * 1000000 = replied-below m.progress.items order.each in
    let most : m.heap.nursery + m.heap.full ≤ 2 * replied m.progress.items + more = order.collections in
    omega arith
