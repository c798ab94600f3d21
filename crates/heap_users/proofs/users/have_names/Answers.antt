use Rattle.std.proofs.Common.{◌≡◌, subst, ◌∙◌, sym, ℕ, ◌≤◌, map, inl, inr, arith, false, true}
use Rattle.std.specs.List.{Any}
use Rattle.std.proofs.lemmas.Bool.{cases_eq}
use Rattle.ideal_heap.specs.declared.name.Name.{Name}
use Rattle.object_model.specs.Objects.{HeapState, IsHeld, name_at}
use Rattle.object_model.specs.Heaps.{heap_state}
use Rattle.heap_users.specs.Users.{mutator_state}
use Rattle.heap_users.proofs.users.have_names.Goals as goal
use Rattle.heap_users.proofs.users.have_names.Goals.{else-held-via-then-held+else-not-is_given, else-held-via-else-held}

pub loop-address-preserved : goal.loop-address-preserved
loop-address-preserved c = λ a below holds.
    let s : HeapState = heap_state c.args.heap.now in
    elim (cases_eq a c.loop-address.address) as (λ _. Any (λ m. ((name_at s a).mutator ≡ m.number) × ((name_at s a).birth ≤ m.births)) (map mutator_state c.args.mutators.now)) [
      | inr other ↦ c.loop-address.invariant a (omega arith) holds
      | inl same ↦ (let here : IsHeld s c.loop-address.address = subst (IsHeld s) same holds in
          subst (λ (x : ℕ). Any (λ m. ((name_at s x).mutator ≡ m.number) × ((name_at s x).birth ≤ m.births)) (map mutator_state c.args.mutators.now)) (sym same)
          (elim c.else-held.branch [
            | else-held-via-then-held+else-not-is_given w ↦ subst (λ (n : Name). Any (λ m. (n.mutator ≡ m.number) × (n.birth ≤ m.births)) (map mutator_state c.args.mutators.now))
                w.name_at.ensures.name (w.is_given.ensures.0 w.if-not-is_given.false)
            | else-held-via-else-held w ↦ absurd (let wrong : false ≡ true = sym w.if-held.false ∙ c.held.ensures.1 here in cc)
          ]))
    ]
