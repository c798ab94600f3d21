-- A small need ends a part only if the allowance is exhausted, and then it is at the end of the epoch too.
use Rattle.std.proofs.Common.{◌≡◌, refl, ◌∙◌, ap, ℕ, ◌+◌, ◌<◌, ◌≤◌, arith, true, false, List, length}
use Rattle.std.specs.Prelude.{Option, Some, None, slice_get, sum_by, count_by, nat_lt, if◌then◌else◌}
use Rattle.std.specs.List.{range_with_len}
use Rattle.std.proofs.Math.Path.{fun_ext}
use Rattle.std.proofs.lemmas.Bool.Decides.{nat_tests}
use Rattle.heap_layout.specs.declared.block.Kind.TheVariants as kinds
use Rattle.ideal_heap.specs.Ideal.{IdealHeap}
use Rattle.ideal_heap.specs.Runs.{Entry}
use Rattle.object_model.specs.Objects.{HeapState}
use Rattle.object_model.specs.Lawful.{IsLawful}
use Rattle.object_model.proofs.Frames as frames
use Rattle.sessions.specs.Fitting.{free_of}
use Rattle.mutator_core.specs.Machine.{Epoch}
use Rattle.mutator_core.specs.Guards.{allowance}
use Rattle.mutator_core.specs.Tickets.{tickets_below, smaller}
use Rattle.managed_heap.specs.Worlds.{PlainWorld, LocalSeat, ticket_of, ticket_at, places_of, budget_word, HasHistory, GrantsWithTickets}
use Rattle.heap_users.specs.Beginnings.{without_stop}
use Rattle.heap_users.proofs.Cleared as cleared
use Rattle.mm_runtime.specs.Parts.{IsExhausted}
use Rattle.mm_runtime.proofs.ListFacts.{sum-less}

seat-of : (o : Option LocalSeat) (t : ℕ) → ticket_of o ≡ Some t → (x : LocalSeat) × (o ≡ Some x) × (x.ticket ≡ Some t)
seat-of None t is = absurd (let wrong : None ≡ Some t = is in cc)
seat-of (Some x) t is = (x, refl, is)

pub one-most : (a : ℕ) (o : Option ℕ) → tickets_below a o ≤ 1
one-most a None = omega arith
one-most a (Some t) = elim (nat_lt t a) as (λ b. (if b then 1 else 0) ≤ 1) [ true ↦ omega arith | false ↦ omega arith ]

pub past-none : (a t : ℕ) → a ≤ t → tickets_below a (Some t) ≡ 0
past-none a t past = grind (arith, nat_tests)

pub past-smaller : (a b : ℕ) → a ≤ b → smaller b a ≡ a
past-smaller a b past = grind (arith, nat_tests)

pub exhausts : {P : Type 0} (w : PlainWorld P) (p : Epoch) (i : IdealHeap) (part : List Entry) (new : HeapState) (k : ℕ) → HasHistory w p i part
    → GrantsWithTickets p w new → ((j t : ℕ) → ticket_at w j ≡ Some t → t < budget_word w) → IsExhausted w k
    → allowance p + 1 + free_of new ≤ free_of p.before + places_of w
exhausts w p i part new k is grants drawn (t, ticket, past) =
    let seat = seat-of (slice_get w.row.seats.items k) t ticket in
    let beyond : allowance p ≤ t = (let allowed = is.at.allowed in omega arith) in
    let none : tickets_below (allowance p) seat.0.ticket ≡ 0 = ap (tickets_below (allowance p)) seat.2 ∙ past-none (allowance p) t beyond in
    let few : sum_by (λ (x : LocalSeat). tickets_below (allowance p) x.ticket) w.row.seats.items + 1 ≤ length w.row.seats.items =
    sum-less (λ (x : LocalSeat). tickets_below (allowance p) x.ticket) (λ x. one-most (allowance p) x.ticket) w.row.seats.items k seat.0 seat.1 none in
    let most : smaller (budget_word w) (allowance p) ≡ allowance p = past-smaller (allowance p) (budget_word w) (let less : t < budget_word w = drawn k t ticket in omega arith) in
    let all = grants.allowed in
    let seats = is.at.seats in
    omega arith

-- stop word and budget word say nothing of the Free blocks
pub free-cleared : (s : HeapState) → IsLawful s → free_of (without_stop s) ≡ free_of s
free-cleared s lawful = ap (λ f. count_by f (range_with_len 0 s.blocks))
    (fun_ext (λ k. frames.has_kind-same s (without_stop s).words (cleared.keeps s lawful).block_words k kinds.Free))
