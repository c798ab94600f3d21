-- What a tracer leaves as it closes.
use Rattle.std.proofs.Common.{◌≡◌, ℕ, ◌+◌, ◌<◌, ◌≤◌, ◌⊎◌, inl, inr, nat_eq, List, [], ◌∷◌, length, sym, ap, ◌∙◌, subst, arith}
use Rattle.std.specs.Prelude.{take, drop, nat_lt}
use Rattle.std.proofs.lemmas.Bool.{cases_eq, eq-eqb, lt-ltb, ne_eqb}
use Rattle.heap_layout.specs.Zones.{block_start}
use Rattle.trace_core.specs.Setups.{Setup, blocks, size}
use Rattle.trace_core.specs.Machine.{Event}
use Rattle.trace_core.specs.Traces.{IsTracing, machine_after}
use Rattle.trace_core.specs.Views.{View}
use Rattle.object_model.specs.Times.{one_if, times}
use Rattle.plain_tracer.specs.Tracers.{Tracks, IsTraced}
use Rattle.trace_core.specs.Rooms.{IsFilled, IsLeftFor, AreLeft}
use Rattle.plain_tracer.specs.declared.plain_trace.PlainTrace.{PlainTrace}
use Rattle.trace_core.proofs.CountedRights.{times-cons}
use Rattle.trace_core.proofs.Idle.{one-if-true}
use Rattle.trace_core.proofs.Law.{sound}
use Rattle.trace_core.proofs.Clauses.{has-room}
use Rattle.trace_core.proofs.TakenBlocks.{moves-small}

-- an element of a list is the first one, or one of the others
first-or-later : (b : ℕ) (l : List ℕ) → 0 < times b l → (0 < times b (take 1 l)) ⊎ (0 < times b (drop 1 l))
first-or-later b [] some = absurd (omega (arith, some))
first-or-later b (c ∷ l) some =
    let count : times b (c ∷ l) ≡ one_if (nat_eq b c) + times b l = times-cons c l b in
    let alone : times b (c ∷ []) ≡ one_if (nat_eq b c) + times b [] = times-cons c [] b in
    elim (cases_eq b c) as (λ _. (0 < times b (c ∷ [])) ⊎ (0 < times b l)) [
      | inl e ↦ inl (let one : one_if (nat_eq b c) ≡ 1 = one-if-true (nat_eq b c) (eq-eqb b c e) in omega arith)
      | inr ne ↦ inr (let zero : one_if (nat_eq b c) ≡ 0 = ap one_if (ne_eqb b c ne) in omega arith)
    ]

length-first : (l : List ℕ) → length (take 1 l) ≤ 1
length-first [] = omega arith
length-first (c ∷ l) = omega arith

-- a block that was left for an object has more than 2,048 words of targets
module _ (p : Setup) (es : List Event) (trace : IsTracing p es) where
  left-long : (b next : ℕ) → (left : IsLeftFor p (machine_after p es) b next) → 2048 < left.words
  left-long b next left =
      let own = (sound p es trace).objects.owned (block_start (blocks p) next) left.object left.first in
      let room = has-room p es trace left.object own.at own.same own.moved in
      let small : size p left.object ≤ 2048 = moves-small p trace.ready left.object room.moves in
      let tight : 4096 < left.words + size p left.object = left.no_room in omega arith

  left-full : (sparse bs : List ℕ) → AreLeft p (machine_after p es) sparse bs → (b : ℕ) → 0 < times b (drop 1 bs)
      → (0 < times b sparse) ⊎ ((n : ℕ) × (2048 < n) × IsFilled p (machine_after p es) b n)
  left-full sparse [] is b some = absurd (omega (arith, some))
  left-full sparse (c ∷ []) is b some = absurd (omega (arith, some))
  left-full sparse (next ∷ c ∷ earlier) is b some = elim (cases_eq b c) as (λ _. (0 < times b sparse) ⊎ ((n : ℕ) × (2048 < n) × IsFilled p (machine_after p es) b n)) [
    | inl e ↦ subst (λ z. (0 < times z sparse) ⊎ ((n : ℕ) × (2048 < n) × IsFilled p (machine_after p es) z n)) (sym e)
        (elim is.1 as (λ _. (0 < times c sparse) ⊎ ((n : ℕ) × (2048 < n) × IsFilled p (machine_after p es) c n)) [
          | inl few ↦ inl few
          | inr left ↦ inr (left.words, left-long c next left, left.filled)
        ])
    | inr ne ↦ left-full sparse (c ∷ earlier) is.2 b
        (let count : times b (c ∷ earlier) ≡ one_if (nat_eq b c) + times b earlier = times-cons c earlier b in
        let zero : one_if (nat_eq b c) ≡ 0 = ap one_if (ne_eqb b c ne) in omega (arith, some, count, zero))
  ]

module _ (p : Setup) (es : List Event) (t : PlainTrace) (v : View) (tracks : Tracks p es t v) where
  full : (b : ℕ) → 0 < (machine_after p es).taken b
      → (0 < times b (take 1 v.blocks)) ⊎ ((0 < times b v.sparse) ⊎ ((n : ℕ) × (2048 < n) × IsFilled p (machine_after p es) b n))
  full b taken = elim (first-or-later b v.blocks listed) as (λ _. (0 < times b (take 1 v.blocks)) ⊎ ((0 < times b v.sparse) ⊎ ((n : ℕ) × (2048 < n) × IsFilled p (machine_after p es) b n))) [
    | inl first ↦ inl first
    | inr later ↦ inr (left-full p es tracks.trace v.sparse v.blocks tracks.left b later)
  ]
    where
      listed : 0 < times b v.blocks
      listed = subst (λ n. 0 < n) (sym (tracks.holds.blocks b ∙ one-if-true (nat_lt 0 ((machine_after p es).taken b)) (lt-ltb 0 ((machine_after p es).taken b) taken))) (omega arith)

  pub traced : IsTraced p es v (record { row = t.row; run = t.run })
  traced = record {
    trace = tracks.trace;
    run = tracks.run;
    row = tracks.row;
    holds = tracks.holds;
    last = take 1 v.blocks;
    few = (let one : length (take 1 v.blocks) ≤ 1 = length-first v.blocks in let some : 1 ≤ p.workers = tracks.trace.ready.some in omega arith);
    full = full;
    left = tracks.left;
    lowest = λ b c taken low free. tracks.passed c (let behind : b < t.next_block = tracks.ahead b taken in omega arith) free;
  }
