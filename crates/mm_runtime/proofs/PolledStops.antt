-- What a poll says.
use Rattle.std.proofs.Common.{◌≡◌, sym, ◌∙◌, subst, ℕ, ◌<◌, ◌≤◌, arith, List, [], ◌∷◌, inl, inr}
use Rattle.std.specs.List.{Contains, AllByRecursion}
use Rattle.object_model.specs.Graphs.{MutatorState, IsMutatorState, numbers_of}
use Rattle.mutator_core.proofs.Lists.{contains-cases, contains-none}
use Rattle.sessions.specs.Plans.{Rules}
use Rattle.managed_heap.specs.Worlds.{PlainWorld, mutators_of_world, stop_word, IsOpen, IsUnchanged}
use Rattle.managed_heap.proofs.Worlds.{numbers-mapped}
use Rattle.object_model.specs.Objects.{HeapState, word_at}
use Rattle.std.proofs.Common.{ap}

pub number-least : (ms : List MutatorState) → AllByRecursion IsMutatorState ms → (n : ℕ) → Contains (numbers_of ms) n → 0 < n
number-least [] all n known = absurd (contains-none n known)
number-least (m ∷ ms) all n known = elim (contains-cases m.number (numbers_of ms) n known) as (λ _. 0 < n) [
  | inl same ↦ subst (λ (k : ℕ). 0 < k) (sym same) (let least : 1 ≤ m.number = all.0.least in omega arith)
  | inr rest ↦ number-least ms all.1 n rest
]

-- no mutator has the number 0
pub number-some : {P : Type 0} {rules : Rules} (w : PlainWorld P) → IsOpen rules w → (n : ℕ) → Contains (numbers_of (mutators_of_world w)) n → 0 < n
number-some w is n known =
    let now = is.between_calls.some in
    number-least now.epoch.mutators now.at.epoch.represents.mutators.each n
    (subst (λ ns. Contains ns n) (numbers-mapped w.row.mutators.items ∙ now.at.numbers) known)

-- a poll leaves the stop word
pub word-same : {P : Type 0} (old new : PlainWorld P) → IsUnchanged old new → stop_word new ≡ stop_word old
word-same old new same = ap (λ (s : HeapState). word_at s 0) same.heap
