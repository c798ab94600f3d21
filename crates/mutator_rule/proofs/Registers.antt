-- Numbers that a step leaves in registers.
use Rattle.std.proofs.Common.{◌≡◌, ℕ, ◌+◌, ◌<◌, ◌≤◌, ◌^◌, length, ap, ◌∙◌, subst, arith, ⊎_elim}
use Rattle.std.specs.Prelude.{slice_index, slice_set}
use Rattle.std.proofs.lemmas.List.{get_or-set_same}
use Rattle.heap_layout.specs.Zones.{heap_of}
use Rattle.mutator_core.specs.declared.state.Event.{Event}
use Rattle.mutator_core.specs.declared.state.Local.{Local}
use Rattle.mutator_core.specs.Machine.{Epoch, local_after, address_in}
use Rattle.mutator_rule.specs.declared.views.MutatorView.{MutatorView}
use Rattle.mutator_rule.specs.Logs.{MakesStepIn, StaysInRow}

-- a register is a small number
pub small : (p : Epoch) (l : Local) (d : ℕ) → StaysInRow p l → d < 16 → address_in l d < 2 ^ 32
small p l d b few = ⊎_elim (λ (nil : address_in l d ≡ 0). omega (arith, nil))
    (λ (some : (heap_of p.before.blocks ≤ address_in l d) × (address_in l d + 3 ≤ length p.before.words)). let ends = some.1 in let most = b.most in omega (arith, ends, most)) (b.registers d few)

-- a word that was loaded into a register is one
pub loaded-small : (p : Epoch) (a b : MutatorView) (x : Event) (n d : ℕ) → MakesStepIn p a x n b → d < 16 → length a.local.registers ≡ 16
    → (local_after p a.local x n).registers ≡ slice_set a.local.registers d n → n < 2 ^ 32
loaded-small p a b x n d step few long into =
    let is : address_in b.local d ≡ n = ap (λ (l : Local). address_in l d) step.local ∙ ap (λ rs. slice_index rs d) into ∙ get_or-set_same a.local.registers d n 0 (omega (arith, few, long)) in
    subst (λ k. k < 2 ^ 32) is (small p b.local d step.told.inside few)
