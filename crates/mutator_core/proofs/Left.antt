-- While a mutator has an unused ticket below the allowance, a Free block is left for it.
use Rattle.std.proofs.Common.{◌≡◌, sym, ◌∙◌, ap, subst, ℕ, ◌+◌, ◌<◌, ◌≤◌, inl, inr, arith, Bool, true, List, [], ◌∷◌, nat_lt}
use Rattle.std.specs.Prelude.{Some, sum_by, count_by, if◌then◌else◌}
use Rattle.std.specs.List.{Contains, range_with_len}
use Rattle.std.proofs.lemmas.Bool.{cases_Bool, cond-true, lt-ltb}
use Rattle.std.proofs.lemmas.Option.{none-some}
use Rattle.std.proofs.lemmas.List.Sums.{sum_by-cons}
use Rattle.heap_layout.specs.declared.block.Kind.TheVariants as kinds
use Rattle.ideal_heap.specs.Ideal.{IdealHeap}
use Rattle.object_model.specs.Objects.{HeapState, word_at, has_kind, HasKind}
use Rattle.object_model.specs.Graphs.{numbers_of}
use Rattle.object_model.proofs.OneKind.{kind-within}
use Rattle.sessions.specs.Plans.{Reserve, Nothing, Copies, Headroom}
use Rattle.sessions.specs.Fitting.{allowance_of, free_of}
use Rattle.mutator_core.specs.declared.state.LogEntry.{LogEntry}
use Rattle.mutator_core.specs.Machine.{Epoch, first_machine}
use Rattle.mutator_core.specs.Guards.{allowance, HasTicket}
use Rattle.mutator_core.specs.Logs.{IsEpochLog, heap_after, local_after_log, sum_after}
use Rattle.mutator_core.specs.Tickets.{taken_by, allowed_to, tickets_below, smaller}
use Rattle.mutator_core.specs.Seen.{HasSeenUsed}
use Rattle.mutator_core.proofs.Lists.{contains-cases, contains-none}
use Rattle.mutator_core.proofs.Beginnings.{first-states, stranger}
use Rattle.mutator_core.proofs.Counted.{smaller-most}
use Rattle.mutator_core.proofs.EpochEnds.{log-counted, log-seen}

-- sums of two, and of one summand
sum-both : (f g : ℕ → ℕ) (ks : List ℕ) → sum_by (λ k. f k + g k) ks ≡ sum_by f ks + sum_by g ks
sum-both f g [] = omega arith
sum-both f g (k ∷ ks) =
    let both : sum_by (λ q. f q + g q) (k ∷ ks) ≡ (f k + g k) + sum_by (λ q. f q + g q) ks = sum_by-cons (λ q. f q + g q) k ks in
    let left : sum_by f (k ∷ ks) ≡ f k + sum_by f ks = sum_by-cons f k ks in
    let right : sum_by g (k ∷ ks) ≡ g k + sum_by g ks = sum_by-cons g k ks in
    let rest : sum_by (λ q. f q + g q) ks ≡ sum_by f ks + sum_by g ks = sum-both f g ks in
    omega arith

sum-has : (f : ℕ → ℕ) (ks : List ℕ) (m : ℕ) → Contains ks m → f m ≤ sum_by f ks
sum-has f [] m known = absurd (contains-none m known)
sum-has f (k ∷ ks) m known =
    let e : sum_by f (k ∷ ks) ≡ f k + sum_by f ks = sum_by-cons f k ks in
    elim (contains-cases k ks m known) as (λ _. f m ≤ sum_by f (k ∷ ks)) [
      | inl here ↦ (let same : f m ≡ f k = ap f here in omega arith)
      | inr there ↦ (let rest : f m ≤ sum_by f ks = sum-has f ks m there in omega arith)
    ]

-- what is counted is found
abbrev one_if : Bool → ℕ
one_if b = if b then 1 else 0

count-found : (test : ℕ → Bool) (ks : List ℕ) → 1 ≤ count_by test ks → (k : ℕ) × (test k ≡ true)
count-found test [] some = absurd (omega arith)
count-found test (k ∷ ks) some = elim (cases_Bool (test k)) as (λ _. (q : ℕ) × (test q ≡ true)) [
  | inl is ↦ (k, is)
  | inr not ↦
      (let e : count_by test (k ∷ ks) ≡ one_if (test k) + count_by test ks = sum_by-cons (λ q. one_if (test q)) k ks in
      let none : one_if (test k) ≡ 0 = ap one_if not in
      count-found test ks (omega arith))
]

-- no more Free blocks may be taken than there are
allowance-free : (reserve : Reserve) (s : HeapState) → allowance_of reserve s ≤ free_of s
allowance-free Nothing s = omega arith
allowance-free Copies s = omega arith
allowance-free Headroom s = omega arith

module _ (p : Epoch) (i : IdealHeap) (log : List LogEntry) (is : IsEpochLog p i log) where
  -- a number that no mutator has holds no ticket
  has-number : (m t : ℕ) → (local_after_log p log m).ticket ≡ Some t → Contains (numbers_of p.mutators) m
  has-number m t has = elim (stranger p log (first_machine p) is.steps m) as (λ _. Contains (numbers_of p.mutators) m) [
    | inl known ↦ known
    | inr same ↦ absurd (first-states (λ l. l.ticket ≡ Some t → ⊥) (λ k none. none-some t none) p.mutators m (sym (ap (λ l. l.ticket) same) ∙ has))
  ]

  -- each unused ticket below the allowance has a Free block
  pub tickets-most : sum_after (λ l. tickets_below (allowance p) l.ticket) p log ≤ free_of (heap_after p log)
  tickets-most =
      let ks : List ℕ = numbers_of p.mutators in
      let counted = log-counted p i log is in
      let allowed : sum_after (allowed_to (allowance p)) p log ≡ smaller (word_at (heap_after p log) 1) (allowance p) = counted.allowed in
      let least : smaller (word_at (heap_after p log) 1) (allowance p) ≤ allowance p = smaller-most (word_at (heap_after p log) 1) (allowance p) in
      let free : free_of p.before ≡ free_of (heap_after p log) + sum_after taken_by p log = counted.free in
      let most : allowance p ≤ free_of p.before = allowance-free p.rules.reserve p.before in
      let both : sum_after (allowed_to (allowance p)) p log ≡ sum_after taken_by p log + sum_after (λ l. tickets_below (allowance p) l.ticket) p log
      = sum-both (λ m. taken_by (local_after_log p log m)) (λ m. tickets_below (allowance p) (local_after_log p log m).ticket) ks in
      omega arith

  pub free-left : (m : ℕ) → HasTicket p (local_after_log p log m) → (k : ℕ) × HasKind (heap_after p log) k kinds.Free
  free-left m ticket =
      let one : tickets_below (allowance p) (local_after_log p log m).ticket ≡ 1 = ap (tickets_below (allowance p)) ticket.1
      ∙ cond-true {A = ℕ} (nat_lt ticket.0 (allowance p)) 1 0 (lt-ltb ticket.0 (allowance p) ticket.2) in
      let here : tickets_below (allowance p) (local_after_log p log m).ticket ≤ sum_after (λ l. tickets_below (allowance p) l.ticket) p log =
      sum-has (λ q. tickets_below (allowance p) (local_after_log p log q).ticket) (numbers_of p.mutators) m (has-number m ticket.0 ticket.1) in
      let most : sum_after (λ l. tickets_below (allowance p) l.ticket) p log ≤ free_of (heap_after p log) = tickets-most in
      count-found (λ k. has_kind (heap_after p log) k kinds.Free) (range_with_len 0 p.before.blocks) (omega arith)

  pub not-all-seen : (m n : ℕ) → HasTicket p (local_after_log p log m) → ((k : ℕ) → k < p.before.blocks → HasSeenUsed (local_after_log p log n) k) → ⊥
  not-all-seen m n ticket seen =
      let free = free-left m ticket in
      let look = seen free.0 (kind-within (heap_after p log) free.0 kinds.Free free.1) in
      ((log-seen p i log is).blocks n look.loaded look.among).1.used look.used (subst (λ k. HasKind (heap_after p log) k kinds.Free) (sym look.here) free.1)
