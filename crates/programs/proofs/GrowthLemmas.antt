-- Every command keeps a heap grown.
use Rattle.std.proofs.Common.{ap, arith, ◌≡◌, ℕ, ◌+◌, ◌≤◌, true, false, refl, sym, ◌∙◌, subst, inl, inr, Some, List, [], ◌∷◌, is_some, if◌then◌else◌}
use Rattle.ideal_heap.specs.declared.name.Name.{Name}
use Rattle.ideal_heap.specs.declared.command.Command.{Command}
use Rattle.ideal_heap.specs.Names.{name}
use Rattle.ideal_heap.specs.Ideal.{IdealHeap, Record, at_number, born, empty, set_record, step, with_new, HasRecord, IsIdeal}
use Rattle.ideal_heap.specs.Runs.{Entry, heap_after_run, after_entry, is_full}
use Rattle.ideal_heap.proofs.UpdateLemmas.{at_name-cases, at_number-cases, at_number-same}
use Rattle.ideal_heap.proofs.StepLemmas.{by_step}
use Rattle.ideal_heap.proofs.KeptLemmas.{step-closed, empty-closed}
use Rattle.programs.specs.Growth.{IsGrown}

abbrev AreCounted : IdealHeap → Type 0
AreCounted h = (n : Name) → HasRecord h n → n.birth ≤ h.births n.mutator

-- the new object is the last one of its mutator, and the others are as old as before
counted-new : (h : IdealHeap) → AreCounted h → (m d refs nums : ℕ) → AreCounted (with_new h m d refs nums)
counted-new h counted m d refs nums n is =
    let count : ℕ = h.births m + 1 in
    elim (at_name-cases h.records (name m count) (Some (born refs nums)) n) [
      | inl set ↦
          let birth : n.birth ≡ h.births m + 1 = ap (λ q. q.birth) set.0 in
          let own : at_number h.births m (h.births m + 1) n.mutator ≡ h.births m + 1 =
          ap (λ q. at_number h.births m (h.births m + 1) q.mutator) set.0 ∙ at_number-same h.births m (h.births m + 1) in
          omega (arith, birth, own)
      | inr kept ↦
          let was : n.birth ≤ h.births n.mutator = counted n (sym (ap is_some kept.1) ∙ is) in
          elim (at_number-cases h.births m (h.births m + 1) n.mutator) [
            | inl risen ↦ let same : h.births n.mutator ≡ h.births m = ap h.births risen.0 in omega (arith, risen.1, was, same)
            | inr other ↦ omega (arith, other.1, was)
          ]
    ]

counted-record : (h : IdealHeap) → AreCounted h → (n : Name) (x : Record) → HasRecord h n → AreCounted (set_record h n x)
counted-record h counted n x has k is = elim (at_name-cases h.records n (Some x) k) [
  | inl set ↦ counted k (subst (λ q. HasRecord h q) (sym set.0) has)
  | inr kept ↦ counted k (sym (ap is_some kept.1) ∙ is)
]

pub step-grown : (h : IdealHeap) (m : ℕ) (command : Command) → IsGrown h → IsGrown (step h m command).1
step-grown h m command grown = record {
  closed = step-closed h m command grown.closed;
  births = by_step AreCounted h m command grown.closed (record {
    same = grown.births;
    created = λ d refs nums _. counted-new h grown.births m d refs nums;
    register = λ d v _ _. grown.births;
    global = λ g v _ _. grown.births;
    replaced = λ n x has _ _. counted-record h grown.births n x has;
    pin = λ n b _. grown.births;
  });
}

entry-grown : (h : IdealHeap) (e : Entry) → IsGrown h → IsGrown (after_entry h e)
entry-grown h e grown = elim (is_full e.reply) as (λ b. IsGrown (if b then h else (step h e.mutator e.command).1)) [
  | true ↦ grown
  | false ↦ step-grown h e.mutator e.command grown
]

entries-grown : (h : IdealHeap) (es : List Entry) → IsGrown h → IsGrown (heap_after_run h es)
entries-grown h [] grown = grown
entries-grown h (e ∷ es) grown = entries-grown (after_entry h e) es (entry-grown h e grown)

pub after-grown : (es : List Entry) → IsGrown (heap_after_run empty es)
after-grown es = entries-grown empty es (record { closed = empty-closed empty refl; births = λ n is. absurd cc })

pub ideal-grown : (ms : List ℕ) (h : IdealHeap) → IsIdeal ms h → IsGrown h
ideal-grown ms h ideal = record { closed = ideal.closed; births = λ n is. (ideal.births n is).1 }
