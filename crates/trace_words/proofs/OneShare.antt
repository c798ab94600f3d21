-- Each right is of one share, and each event is listed as itself.
use Rattle.std.proofs.Common.{◌≡◌, ◌≢◌, ℕ, zero, suc, ◌+◌, ◌<◌, ◌≤◌, inl, inr, IsTrue, not, nat_eq, nat_lt, true≢false, ◌&&◌, List, [], ◌∷◌, refl, sym, ap, ◌∙◌, subst, arith}
use Rattle.std.specs.Prelude.{count_by, is_some}
use Rattle.std.proofs.lemmas.Bool.{cases_eq, cases_Bool, and_parts, eqb-true, eq-eqb}
use mathlib.Core.Option.{some, some-injective, some-ne-none}
use lib.ListN.{get_elem?}
use Rattle.object_model.specs.Times.{times, one_if}
use Rattle.trace_core.specs.Setups.{Setup, stays_old, keeps_its_words}
use Rattle.trace_core.specs.Machine.{Machine, ClaimCause, ByRoot, ByGlobal, ByField, Event, Claim, Ask, Copy, Scan, SetGlobal, MarkLines, TakeBlock, Stage, Unclaimed, Copying, Scanning}
use Rattle.trace_core.specs.Traces.{machine_after, target_of, is_claim_of}
use Rattle.trace_core.specs.Views.{hits, is_pair, is_copying, is_scanning}
use Rattle.trace_core.proofs.CountedRights.{count-cons}
use Rattle.trace_core.proofs.Clauses.{claimed-once, old-unclaimed}
use Rattle.trace_core.proofs.Idle.{one-if-from, one-if-true}
use Rattle.trace_words.specs.declared.event.TraceCause.{TraceCause}
use Rattle.trace_words.specs.declared.event.TraceCause.TheVariants as causes
use Rattle.trace_words.specs.declared.event.TraceEvent.{TraceEvent}
use Rattle.trace_words.specs.declared.event.TraceEvent.TheVariants as events
use Rattle.trace_words.specs.declared.share.Share.{Share}
use Rattle.trace_words.specs.Shares.{total, listed, listed_cause}
use Rattle.trace_words.specs.Rule.{TraceState, KeepsTrace, has_number, claims_object, times_listed, times_made}
use Rattle.trace_words.proofs.Pooled.{part-of, pool-counts, has-won, has-grey}
use Rattle.trace_words.proofs.Rooms.{one-most}

-- two shares are in the sum
total-two : (f : Share → ℕ) (vs : List Share) (i j : ℕ) (v w : Share) → i ≢ j → get_elem? vs i ≡ some v → get_elem? vs j ≡ some w → f v + f w ≤ total f vs
total-two f [] i j v w apart at there = absurd (some-ne-none v (sym at))
total-two f (x ∷ xs) zero zero v w apart at there = absurd (apart refl)
total-two f (x ∷ xs) zero (suc j) v w apart at there = let a : f x ≡ f v = ap f (some-injective x v at) in let b = part-of f xs j w there in omega arith
total-two f (x ∷ xs) (suc i) zero v w apart at there = let a : f x ≡ f w = ap f (some-injective x w there) in let b = part-of f xs i v at in omega arith
total-two f (x ∷ xs) (suc i) (suc j) v w apart at there = let a = total-two f xs i j v w (λ e. apart (ap suc e)) at there in omega arith

-- so where the sum is 1 at most, the shares are one
one-share : (f : Share → ℕ) (vs : List Share) (i j : ℕ) (v w : Share) → total f vs ≤ 1 → get_elem? vs i ≡ some v → get_elem? vs j ≡ some w → 0 < f v → 0 < f w → i ≡ j
one-share f vs i j v w most at there has too = elim (cases_eq i j) as (λ _. i ≡ j) [
  | inl e ↦ e
  | inr ne ↦ absurd (let a = total-two f vs i j v w ne at there in omega arith)
]

copying-at : (k l : ℕ) (st : Stage) → IsTrue (is_copying k st) → IsTrue (is_copying l st) → k ≡ l
copying-at k l Unclaimed a b = absurd (true≢false (sym a))
copying-at k l (Copying t n) a b = sym (eqb-true n k a) ∙ eqb-true n l b
copying-at k l (Scanning t n) a b = absurd (true≢false (sym a))

scanning-at : (k l : ℕ) (st : Stage) → IsTrue (is_scanning k st) → IsTrue (is_scanning l st) → k ≡ l
scanning-at k l Unclaimed a b = absurd (true≢false (sym a))
scanning-at k l (Copying t n) a b = absurd (true≢false (sym a))
scanning-at k l (Scanning t n) a b = sym (eqb-true n k a) ∙ eqb-true n l b

never-both : (k l : ℕ) (st : Stage) → IsTrue (is_copying k st) → IsTrue (is_scanning l st) → ⊥
never-both k l Unclaimed a b = absurd (true≢false (sym a))
never-both k l (Copying t n) a b = absurd (true≢false (sym b))
never-both k l (Scanning t n) a b = absurd (true≢false (sym a))

claim-as-listed : (x : ℕ) (e : Event) → claims_object x (listed e) ≡ is_claim_of x e
claim-as-listed x (Claim y t cause) = refl
claim-as-listed x (Ask y) = refl
claim-as-listed x (Copy y) = refl
claim-as-listed x (Scan y) = refl
claim-as-listed x (SetGlobal g) = refl
claim-as-listed x (MarkLines y word mask) = refl
claim-as-listed x (TakeBlock b k) = refl

claims-as-listed : (x : ℕ) (es : List Event) → times_listed (claims_object x) es ≡ count_by (is_claim_of x) es
claims-as-listed x [] = refl
claims-as-listed x (e ∷ es) = let a = count-cons (λ z. claims_object x (listed z)) e es in let b = count-cons (is_claim_of x) e es in
    let c : one_if (claims_object x (listed e)) ≡ one_if (is_claim_of x e) = ap one_if (claim-as-listed x e) in let d = claims-as-listed x es in omega arith

module _ (p : Setup) (s : TraceState) (h : KeepsTrace p s) where
  abbrev m : Machine
  m = machine_after p h.events

  copies-now : (i : ℕ) (v : Share) → get_elem? s.views i ≡ some v → (x k : ℕ) → 0 < hits x k v.won → IsTrue (is_copying k (m.stage x))
  copies-now i v at x k has = let a = has-won s.views i v at x k has in let b = h.holds.won x k in one-if-from (is_copying k (m.stage x)) (omega arith)

  scans-now : (i : ℕ) (v : Share) → get_elem? s.views i ≡ some v → (x k : ℕ) → 0 < hits x k v.grey → IsTrue (is_scanning k (m.stage x))
  scans-now i v at x k has = let a = has-grey s.views i v at x k has in let b = h.holds.grey x k in
      (and_parts (not (keeps_its_words p x)) (is_scanning k (m.stage x)) (one-if-from _ (omega arith))).1

  pub one-copies : (i j : ℕ) (v w : Share) → get_elem? s.views i ≡ some v → get_elem? s.views j ≡ some w → (x k l : ℕ) → 0 < hits x k v.won → 0 < hits x l w.won → (i ≡ j) × (k ≡ l)
  one-copies i j v w at there x k l has too = let same : k ≡ l = copying-at k l (m.stage x) (copies-now i v at x k has) (copies-now j w there x l too) in
      let sum = pool-counts (is_pair x k) (λ u. u.won) refl (λ u z. refl) s.views in let all = h.holds.won x k in let most = one-most (is_copying k (m.stage x)) in
      (one-share (λ u. hits x k u.won) s.views i j v w (omega arith) at there has (subst (λ n. 0 < hits x n w.won) (sym same) too), same)

  pub one-scans : (i j : ℕ) (v w : Share) → get_elem? s.views i ≡ some v → get_elem? s.views j ≡ some w → (x k l : ℕ) → 0 < hits x k v.grey → 0 < hits x l w.grey → (i ≡ j) × (k ≡ l)
  one-scans i j v w at there x k l has too = let same : k ≡ l = scanning-at k l (m.stage x) (scans-now i v at x k has) (scans-now j w there x l too) in
      let sum = pool-counts (is_pair x k) (λ u. u.grey) refl (λ u z. refl) s.views in let all = h.holds.grey x k in let most = one-most (not (keeps_its_words p x) && is_scanning k (m.stage x)) in
      (one-share (λ u. hits x k u.grey) s.views i j v w (omega arith) at there has (subst (λ n. 0 < hits x n w.grey) (sym same) too), same)

  pub none-scans : (i j : ℕ) (v w : Share) → get_elem? s.views i ≡ some v → get_elem? s.views j ≡ some w → (x k l : ℕ) → 0 < hits x k v.won → hits x l w.grey ≡ 0
  none-scans i j v w at there x k l has = elim (cases_eq (hits x l w.grey) 0) as (λ _. hits x l w.grey ≡ 0) [
    | inl nothing ↦ nothing
    | inr some-right ↦ absurd (never-both k l (m.stage x) (copies-now i v at x k has) (scans-now j w there x l (let differs : hits x l w.grey ≢ 0 = some-right in omega arith)))
  ]

  pub one-sets : (i j : ℕ) (v w : Share) → get_elem? s.views i ≡ some v → get_elem? s.views j ≡ some w → (g : ℕ) → 0 < times g v.unset → 0 < times g w.unset → i ≡ j
  one-sets i j v w at there g has too =
      let sum = pool-counts (nat_eq g) (λ u. u.unset) refl (λ u z. refl) s.views in let all = h.holds.unset g in let most = one-most (nat_lt g 16 && not (m.set g)) in
      one-share (λ u. times g u.unset) s.views i j v w (omega arith) at there has too

  pub has-once : (j : ℕ) (v : Share) → get_elem? s.views j ≡ some v → (x k g : ℕ) → (hits x k v.won ≤ 1) × (hits x k v.grey ≤ 1) × (times g v.unset ≤ 1)
  has-once j v at x k g = (
    (let part = part-of (λ u. hits x k u.won) s.views j v at in let sum = pool-counts (is_pair x k) (λ u. u.won) refl (λ u z. refl) s.views in
        let all = h.holds.won x k in let most = one-most (is_copying k (m.stage x)) in omega arith),
    (let part = part-of (λ u. hits x k u.grey) s.views j v at in let sum = pool-counts (is_pair x k) (λ u. u.grey) refl (λ u z. refl) s.views in
        let all = h.holds.grey x k in let most = one-most (not (keeps_its_words p x) && is_scanning k (m.stage x)) in omega arith),
    (let part = part-of (λ u. times g u.unset) s.views j v at in let sum = pool-counts (nat_eq g) (λ u. u.unset) refl (λ u z. refl) s.views in
        let all = h.holds.unset g in let most = one-most (nat_lt g 16 && not (m.set g)) in omega arith),
  )

  pub one-claim : (x : ℕ) → total (times_made (claims_object x)) s.views ≤ 1
  one-claim x = let made = h.made (claims_object x) in let same = claims-as-listed x h.events in
      let few : count_by (is_claim_of x) h.events ≤ 1 = elim (cases_Bool (stays_old p x)) as (λ _. count_by (is_claim_of x) h.events ≤ 1) [
        | inl aged ↦ (let none = old-unclaimed p h.events h.trace x aged in omega arith)
        | inr young ↦ (let all = claimed-once p h.events h.trace x young in let most = one-most (is_some (target_of p h.events x)) in omega arith)
      ] in omega arith

  pub one-number : (i j : ℕ) (v w : Share) → get_elem? s.views i ≡ some v → get_elem? s.views j ≡ some w → 0 < v.worker → v.worker ≡ w.worker → i ≡ j
  one-number i j v w at there some-number same = let k : ℕ = v.worker in
      let a : one_if (nat_eq k v.worker) ≡ 1 = one-if-true (nat_eq k v.worker) (eq-eqb k v.worker refl) in let b : one_if (nat_eq k w.worker) ≡ 1 = one-if-true (nat_eq k w.worker) (eq-eqb k w.worker same) in
      one-share (has_number k) s.views i j v w (h.numbers k some-number) at there (omega arith) (omega arith)

-- what is listed names its event
abbrev named-cause : TraceCause → ClaimCause
named-cause causes.Root = ByRoot
named-cause (causes.Global g) = ByGlobal g
named-cause (causes.Field y i) = ByField y i

abbrev named-event : TraceEvent → Event
named-event (events.Claim x t cause) = Claim x t (named-cause cause)
named-event (events.Ask x) = Ask x
named-event (events.Copy x) = Copy x
named-event (events.Scan x) = Scan x
named-event (events.SetGlobal g) = SetGlobal g
named-event (events.MarkLines x word mask) = MarkLines x word mask
named-event (events.TakeBlock b k) = TakeBlock b k

cause-named : (c : ClaimCause) → named-cause (listed_cause c) ≡ c
cause-named ByRoot = refl
cause-named (ByGlobal g) = refl
cause-named (ByField y i) = refl

event-named : (e : Event) → named-event (listed e) ≡ e
event-named (Claim x t cause) = ap (Claim x t) (cause-named cause)
event-named (Ask x) = refl
event-named (Copy x) = refl
event-named (Scan x) = refl
event-named (SetGlobal g) = refl
event-named (MarkLines x word mask) = refl
event-named (TakeBlock b k) = refl

pub told-apart : (e f : Event) → listed e ≡ listed f → e ≡ f
told-apart e f same = sym (event-named e) ∙ ap named-event same ∙ event-named f
