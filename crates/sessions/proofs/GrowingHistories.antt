-- Each epoch adds an entry, unless every command has its reply.
use Rattle.std.proofs.Common.{◌≡◌, inl, inr, refl, sym, ◌∙◌, ap, subst, ℕ, zero, suc, ◌+◌, ◌<◌, ◌≤◌, ◌⊎◌, arith, Bool, true, false, List, [], ◌∷◌, ◌++◌, length, filter, append-nil, Option, Some, None, cond}
use Rattle.std.specs.List.{range_with_len, list_all}
use Rattle.std.proofs.lemmas.List.{length-append}
use Rattle.std.proofs.lemmas.Bool.{cases_eq, false≢true}
use Rattle.ideal_heap.specs.declared.command.Command.{Command}
use Rattle.ideal_heap.specs.declared.command.Command.TheVariants as c
use Rattle.ideal_heap.specs.Runs.{Entry, IsMutator, next_of}
use Rattle.sessions.specs.Sessions as sessions
use Rattle.sessions.specs.Sessions.{Setting, Moment, Cause, ServesNeed, traced_mutators, next_in, is_at_gc, is_at_need, is_at_meet, is_waiting, all_done, CollectsFor, ServesAll, MeetsIf, EndsBy, IsEpoch}
use Rattle.sessions.proofs.Orders as orders
use Rattle.sessions.proofs.Orders.{AddsNoMeet}

-- an entry more, or the same entries
abbrev Grows : Moment → Moment → Type 0
Grows before now = (length before.done < length now.done) ⊎ (now.done ≡ before.done)

grown : (before now : Moment) (es : List Entry) → now.done ≡ before.done ++ es → Grows before now
grown before now [] done = inr (done ∙ append-nil before.done)
grown before now (e ∷ es) done =
    let many : length now.done ≡ length before.done + length (e ∷ es) = ap length done ∙ length-append before.done (e ∷ es) in
    inl (omega arith)

longer : (before now : Moment) (e : Entry) (es : List Entry) → now.done ≡ before.done ++ e ∷ es → length before.done < length now.done
longer before now e es done =
    let many : length now.done ≡ length before.done + length (e ∷ es) = ap length done ∙ length-append before.done (e ∷ es) in
    omega arith

not-fewer : (before now : Moment) → Grows before now → length before.done ≤ length now.done
not-fewer before now (inl more) = omega arith
not-fewer before now (inr same) = let e : length now.done ≡ length before.done = ap length same in omega arith

-- a step that has nothing to do, or adds an entry
abbrev IsIdle : List ℕ → Moment → Moment → Type 0
IsIdle ms before now = (ms ≡ []) × (now.done ≡ before.done)

gcs : (t : Setting) (ms : List ℕ) (before now : Moment) → CollectsFor t ms before now → (length before.done < length now.done) ⊎ IsIdle ms before now
gcs t [] before now nothing = inr (refl, ap (λ (x : Moment). x.done) nothing)
gcs t (m ∷ ms) before now (mid, makes, replies) =
    inl (longer before now _ _ (ap (λ (x : Moment). x.done) replies.rest ∙ ap (λ es. es ++ all_done c.Gc (m ∷ ms)) makes.done))

one-more : (before late now : Moment) (e : Entry) → late.done ≡ before.done → now.done ≡ late.done ++ e ∷ [] → length before.done < length now.done
one-more before late now e same done = longer before now e [] (done ∙ ap (λ es. es ++ e ∷ []) same)

serves-grow : (t : Setting) (m d refs nums : ℕ) (before now : Moment) → ServesNeed t m d refs nums before now → length before.done < length now.done
serves-grow t m d refs nums before now (sessions.at_once places) = one-more before before now _ refl places.done
serves-grow t m d refs nums before now (sessions.after_nursery mid no_fit first makes places) = one-more before mid now _ makes.done places.done
serves-grow t m d refs nums before now (sessions.after_full mid late no_fit first makes places) =
    one-more before late now _ (makes.done ∙ orders.tried t _ _ before mid first) places.done
serves-grow t m d refs nums before now (sessions.refused mid late no_fit first makes no_fit_after replies) =
    one-more before late now _ (makes.done ∙ orders.tried t _ _ before mid first) (ap (λ (x : Moment). x.done) replies.rest)

added : (before now : Moment) → AddsNoMeet before now → length before.done ≤ length now.done
added before now adds = not-fewer before now (grown before now adds.entries adds.done)

needs-grow : (t : Setting) (ms : List ℕ) (before now : Moment) → ServesAll t ms before now → (length before.done < length now.done) ⊎ IsIdle ms before now
needs-grow t [] before now nothing = inr (refl, ap (λ (x : Moment). x.done) nothing)
needs-grow t (m ∷ ms) before now (d, refs, nums, mid, need, serves, rest) =
    let first = serves-grow t m d refs nums before mid serves in
    let then = added mid now (orders.served-all t ms mid now rest) in
    inl (omega arith)

-- what an empty filter and a test of all say of a range

cut : (b : Bool) (k : ℕ) (rest : List ℕ) → cond b (k ∷ rest) rest ≡ [] → (b ≡ false) × (rest ≡ [])
cut true k rest e = cc
cut false k rest e = (refl, e)

none-passes : (p : ℕ → Bool) (k n : ℕ) → filter p (range_with_len k n) ≡ [] → (m : ℕ) → k ≤ m → m < k + n → p m ≡ false
none-passes p k zero none m low high = absurd (omega arith)
none-passes p k (suc n) none m low high =
    let both = cut (p k) k (filter p (range_with_len (k + 1) n)) none in
    elim (cases_eq k m) as (λ _. p m ≡ false) [
      | inl same ↦ ap p (sym same) ∙ both.0
      | inr differ ↦ none-passes p (k + 1) n both.1 m (omega arith) (omega arith)
    ]

all-pass : (p : ℕ → Bool) (k n : ℕ) → ((m : ℕ) → k ≤ m → m < k + n → p m ≡ true) → list_all p (range_with_len k n) ≡ true
all-pass p k zero each = refl
all-pass p k (suc n) each = rw (each k (omega arith) (omega arith)) (all-pass p (k + 1) n (λ m low high. each m (omega arith) (omega arith)))

module _ (t : Setting) where
  of-none : (p : ℕ → Bool) → filter p (traced_mutators t) ≡ [] → (m : ℕ) → IsMutator t.traces m → p m ≡ false
  of-none p none m is = none-passes p 1 (length t.traces) none m is.0 (let most : m ≤ length t.traces = is.1 in omega arith)

  -- a mutator waits if none is at `gc` or at a need
  waits : (now : Moment) (ends : ℕ → Cause) → filter (λ m. is_at_gc (ends m)) (traced_mutators t) ≡ [] → filter (λ m. is_at_need (ends m)) (traced_mutators t) ≡ []
      → (m : ℕ) → IsMutator t.traces m → (cause : Cause) → ends m ≡ cause → EndsBy t now ends m cause → is_waiting (next_in t now m) ≡ true
  waits now ends gc need m is sessions.AtGc e by = absurd (false≢true (sym (of-none (λ k. is_at_gc (ends k)) gc m is) ∙ ap is_at_gc e))
  waits now ends gc need m is sessions.AtMeet e by = ap is_waiting by
  waits now ends gc need m is sessions.AtEnd e by = ap is_waiting by
  waits now ends gc need m is sessions.AtNeed e by = absurd (false≢true (sym (of-none (λ k. is_at_need (ends k)) need m is) ∙ ap is_at_need e))
  waits now ends gc need m is (sessions.Raised other) e by = elim by.2 as (λ _. is_waiting (next_in t now m) ≡ true) [
    | inl at ↦ absurd (false≢true (sym (of-none (λ k. is_at_gc (ends k)) gc other by.1) ∙ at))
    | inr at ↦ absurd (false≢true (sym (of-none (λ k. is_at_need (ends k)) need other by.1) ∙ at))
  ]

  -- a mutator that waits and is not at `meet` has ended
  ended : (o : Option Command) → is_waiting o ≡ true → is_at_meet o ≡ false → o ≡ None
  ended None waits not = refl
  ended (Some command) waits not = absurd (false≢true (sym not ∙ waits))

  -- where all wait, a `meet` gets its reply, or all have ended
  meets-grow : (before now : Moment) (ms : List ℕ) → filter (λ m. is_at_meet (next_in t before m)) (traced_mutators t) ≡ ms
      → ((m : ℕ) → IsMutator t.traces m → is_waiting (next_in t before m) ≡ true) → MeetsIf true ms before now
      → (length before.done < length now.done) ⊎ ((m : ℕ) → IsMutator t.traces m → next_in t now m ≡ None)
  meets-grow before now [] none waits replies =
      let same : now.done ≡ before.done = ap (λ (x : Moment). x.done) replies.rest ∙ append-nil before.done in
      inr (λ m is. ap (λ es. next_of t.traces es m) same ∙ ended (next_in t before m) (waits m is) (of-none (λ k. is_at_meet (next_in t before k)) none m is))
  meets-grow before now (m ∷ ms) some waits replies = inl (longer before now _ _ (ap (λ (x : Moment). x.done) replies.rest))

  meets-add : (all : Bool) (ms : List ℕ) (before now : Moment) → MeetsIf all ms before now → length before.done ≤ length now.done
  meets-add true ms before now replies = not-fewer before now (grown before now (all_done c.Meet ms) (ap (λ (x : Moment). x.done) replies.rest))
  meets-add false ms before now nothing = let e : length now.done ≡ length before.done = ap (λ (x : Moment). length x.done) nothing in omega arith

  -- an epoch in which the first two steps of the stop have nothing to do
  idle-epoch : (before now : Moment) (epoch : IsEpoch t before now) → filter (λ m. is_at_gc (epoch.ends m)) (traced_mutators t) ≡ []
      → filter (λ m. is_at_need (epoch.ends m)) (traced_mutators t) ≡ [] → epoch.served.done ≡ epoch.stop.done
      → (length epoch.served.done < length now.done) ⊎ ((m : ℕ) → IsMutator t.traces m → next_in t now m ≡ None)
  idle-epoch before now epoch gc need same =
      let wait : (m : ℕ) → IsMutator t.traces m → is_waiting (next_in t epoch.served m) ≡ true =
      λ m is. ap (λ es. is_waiting (next_of t.traces es m)) same ∙ waits epoch.stop epoch.ends gc need m is (epoch.ends m) refl (epoch.part.causes m is) in
      let all : list_all (λ m. is_waiting (next_in t epoch.served m)) (traced_mutators t) ≡ true =
      all-pass (λ m. is_waiting (next_in t epoch.served m)) 1 (length t.traces) (λ m low high. wait m (low, omega arith)) in
      meets-grow epoch.served now _ refl wait (subst (λ b. MeetsIf b (filter (λ m. is_at_meet (next_in t epoch.served m)) (traced_mutators t)) epoch.served now) all epoch.meet)

  pub epoch-grows : (before now : Moment) → IsEpoch t before now → (length before.done < length now.done) ⊎ ((m : ℕ) → IsMutator t.traces m → next_in t now m ≡ None)
  epoch-grows before now epoch =
      let part : length before.done ≤ length epoch.stop.done = added before epoch.stop (orders.ran t before epoch.stop epoch.ends epoch.part) in
      let last : length epoch.served.done ≤ length now.done = meets-add _ _ epoch.served now epoch.meet in
      let needs : length epoch.collected.done ≤ length epoch.served.done = added epoch.collected epoch.served (orders.served-all t _ epoch.collected epoch.served epoch.needs) in
      let Goal : Type 0 = (length before.done < length now.done) ⊎ ((m : ℕ) → IsMutator t.traces m → next_in t now m ≡ None) in
      elim (gcs t _ epoch.stop epoch.collected epoch.gc) as (λ _. Goal) [
        | inl more ↦ inl (omega arith)
        | inr gc ↦ elim (needs-grow t _ epoch.collected epoch.served epoch.needs) as (λ _. Goal) [
          | inl more ↦ let same : length epoch.collected.done ≡ length epoch.stop.done = ap length gc.1 in inl (omega arith)
          | inr need ↦ elim (idle-epoch before now epoch gc.0 need.0 (need.1 ∙ gc.1)) as (λ _. Goal) [
            | inl more ↦ let same : length epoch.served.done ≡ length epoch.stop.done = ap length (need.1 ∙ gc.1) in inl (omega arith)
            | inr none ↦ inr none
          ]
        ]
      ]
