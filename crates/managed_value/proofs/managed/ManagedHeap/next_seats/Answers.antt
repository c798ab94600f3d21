use Rattle.std.proofs.Common.{◌≡◌, sym, ◌∙◌, ap, subst, ℕ, length, replicate, arith}
use Rattle.std.specs.Prelude.{IfOk}
use Rattle.managed_heap.specs.Worlds.{empty_seat}
use Rattle.managed_value.specs.Histories.{mutators_of_heap, places_in}
use Rattle.managed_value.proofs.managed.ManagedHeap.next_seats.Goals as goal

pub returns-in-Some : goal.returns-in-Some
returns-in-Some g c =
    let long : c.len.result ≡ length c.mutators.result.now.items = omega (arith, c.len.ensures, c.mutators.result.now.ok.0) in
    let same : c.len.result ≡ mutators_of_heap c.args.self.now = long ∙ c.mutators.ensures.places ∙ sym (ap places_in c.in-Some.is) in
    subst (λ (n : ℕ). IfOk c.new_seats.result (λ v. v.items ≡ replicate n empty_seat)) same c.new_seats.ensures
