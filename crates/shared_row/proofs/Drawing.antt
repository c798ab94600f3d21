-- What a step, a split and a join leave of the tickets.
use Rattle.std.proofs.Common.{ℕ, zero, suc, ◌≡◌, ◌+◌, ◌-◌, ◌<◌, ◌≤◌, ◌%◌, ◌^◌, List, [], ◌∷◌, ◌++◌, slice_index, slice_set, sym, subst, arith, mod-eq_of_lt}
use mathlib.Core.Option.{some, some-injective, some-ne-none}
use lib.ListN.{get_elem?}
use Rattle.atomic_table.specs.Table.{State, Me, keeps, Allows, Splits, Joins, Final, Seen}
use Rattle.shared_row.specs.Tickets.{total, KeepsTickets}

total_set : (ns : List ℕ) (i v w : ℕ) → get_elem? ns i ≡ some v → total (slice_set ns i w) + v ≡ total ns + w
total_set [] i v w e = absurd (some-ne-none v (sym e))
total_set (n ∷ ns) zero v w e = let same : n ≡ v = some-injective n v e in omega arith
total_set (n ∷ ns) (suc i) v w e = let others : total (slice_set ns i w) + v ≡ total ns + w = total_set ns i v w e in omega arith

total_has : (ns : List ℕ) (i v : ℕ) → get_elem? ns i ≡ some v → v ≤ total ns
total_has [] i v e = absurd (some-ne-none v (sym e))
total_has (n ∷ ns) zero v e = let same : n ≡ v = some-injective n v e in omega arith
total_has (n ∷ ns) (suc i) v e = let others : v ≤ total ns = total_has ns i v e in omega arith

total_more : (ns : List ℕ) (n : ℕ) → total (ns ++ n ∷ []) ≡ total ns + n
total_more [] n = omega arith
total_more (m ∷ ns) n = let others : total (ns ++ n ∷ []) ≡ total ns + n = total_more ns n in omega arith

first_is_set : (ns : List ℕ) (n : ℕ) → slice_index (slice_set ns 0 n) 0 ≤ n
first_is_set [] n = let low : 0 ≤ n = omega arith in low
first_is_set (m ∷ ns) n = let same : n ≤ n = omega arith in same

pub draws_one : (all slots id : ℕ) (me : Me (Unit {0}) ℕ) → 0 < me.0 → Allows (KeepsTickets all) slots id me 0 (λ n. (n + 1) % 2 ^ 64) (λ n after. after.0 + 1 ≡ me.0)
draws_one all slots id me live s kept long at small = let v : ℕ = me.0 in let n : ℕ = slice_index s.words 0 in let some_left : 0 < v = live in let few : n + total s.views ≤ all = kept.0 in let own : v ≤ total s.views = total_has s.views id v at in
    let fits : all < 2 ^ 64 = kept.1 in let small_next : n + 1 < 2 ^ 64 = omega arith in let next : (n + 1) % 2 ^ 64 ≡ n + 1 = mod-eq_of_lt small_next in let left : total (slice_set s.views id (v - 1)) + v ≡ total s.views + (v - 1) = total_set s.views id v (v - 1) at in
    let word : slice_index (slice_set s.words 0 ((n + 1) % 2 ^ 64)) 0 ≤ n + 1 = subst (λ k. slice_index (slice_set s.words 0 k) 0 ≤ n + 1) (sym next) (first_is_set s.words (n + 1)) in
    let now : slice_index (slice_set s.words 0 ((n + 1) % 2 ^ 64)) 0 + total (slice_set s.views id (v - 1)) ≤ all = omega arith in let less : v - 1 + 1 ≡ v = omega arith in (v - 1, keeps, tt, (now, kept.1), less)

pub leaves_one : (all id v : ℕ) → 0 < v → Splits (KeepsTickets all) id v (v - 1) 1
leaves_one all id v live s kept at = let some_left : 0 < v = live in let few : slice_index s.words 0 + total s.views ≤ all = kept.0 in let left : total (slice_set s.views id (v - 1)) + v ≡ total s.views + (v - 1) = total_set s.views id v (v - 1) at in
    let all_views : total (slice_set s.views id (v - 1) ++ 1 ∷ []) ≡ total (slice_set s.views id (v - 1)) + 1 = total_more (slice_set s.views id (v - 1)) 1 in
    let now : slice_index s.words 0 + total (slice_set s.views id (v - 1) ++ 1 ∷ []) ≤ all = omega arith in (now, kept.1)

pub takes_in : (all id v other w : ℕ) → Joins (KeepsTickets all) id v other w (v + w) 0
takes_in all id v other w s kept at apart there = let few : slice_index s.words 0 + total s.views ≤ all = kept.0 in let ns : List ℕ = slice_set s.views id (v + w) in
    let more : total ns + v ≡ total s.views + (v + w) = total_set s.views id v (v + w) at in let less : total (slice_set ns other 0) + w ≡ total ns + 0 = total_set ns other w 0 there in
    let now : slice_index s.words 0 + total (slice_set ns other 0) ≤ all = omega arith in (now, kept.1)

pub drawn_at_the_end : (all id v : ℕ) (words : List ℕ) (xs : List (Unit {0})) → Final (Seen (KeepsTickets all) id v) words xs → slice_index words 0 + v ≤ all
drawn_at_the_end all id v words xs final = let s : State (Unit {0}) ℕ = final.0 in let few : slice_index s.words 0 + total s.views ≤ all = final.1.0.0 in let own : v ≤ total s.views = total_has s.views id v final.1.1 in
    let there : slice_index s.words 0 + v ≤ all = omega arith in subst (λ ws. slice_index ws 0 + v ≤ all) final.2 there
