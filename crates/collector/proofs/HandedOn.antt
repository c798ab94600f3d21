-- Tokens that were won are handed on as items of packets, and counted.
use Rattle.std.proofs.Common.{◌≡◌, ℕ, ◌+◌, ◌<◌, ◌≤◌, ◌^◌, ◌-◌, inl, inr, nat_le, suc, List, [], ◌∷◌, ◌++◌, map, length, length-append, refl, sym, ap, ◌∙◌, subst, arith}
use Rattle.std.specs.Prelude.{All, count_by, sum_by}
use Rattle.std.specs.List.Sorted.{IsPermutation}
use Rattle.std.proofs.lemmas.Bool.{cases_Bool, cond-true, cond-false, leb-true, leb-false, le-leb}
use Rattle.std.proofs.lemmas.List.Concat.{flat_map-append}
use Rattle.std.proofs.lemmas.List.{append-nil, map-append}
use Rattle.std.proofs.lemmas.List.Sums.{sum_by-append}
use Rattle.std.proofs.lemmas.List.Elements.{All-head, All-tail}
use Rattle.std.proofs.lemmas.List.Sorted.{length_permutation, IsPermutation-append, IsPermutation-append_comm, IsPermutation-cons, IsPermutation-to_front, IsPermutation-sym, IsPermutation-trans}
use Rattle.trace_core.specs.Setups.{Setup}
use Rattle.trace_core.specs.Machine.{Event}
use Rattle.trace_core.specs.Views.{View}
use Rattle.plain_tracer.specs.TokenRights.{IsReached, grey_of}
use Rattle.plain_tracer.specs.Tracers.{Tracks}
use Rattle.plain_tracer.specs.declared.plain_trace.PlainTrace.{PlainTrace}
use Rattle.plain_tracer.specs.declared.tokens.Grey.{Grey}
use Rattle.plain_tracer.specs.declared.tokens.Reached.{Reached}
use Rattle.trace_core.proofs.CountedRights.{count-append}
use Rattle.work_packets.specs.declared.packet.Packet.{Packet}
use Rattle.collector.specs.declared.item.Item.{Item}
use Rattle.collector.specs.declared.item.Item.TheVariants.{Register, Global, Object}
use Rattle.racing_collector.specs.declared.tally.Tally.{Tally}
use Rattle.collector.specs.Items.{items_of, tokens_of, IsObject}
use Rattle.collector.specs.Serving.{AreShaped}
use Rattle.collector.specs.Tallies.{Counts, capped, has_moved}
use Rattle.collector.proofs.ItemCounts.{all-left, all-right}

-- the tokens of two lists of items, one after the other
pub tokens-append : (is js : List Item) → tokens_of (is ++ js) ≡ tokens_of is ++ tokens_of js
tokens-append [] js = refl
tokens-append (Register i ∷ is) js = tokens-append is js
tokens-append (Global root ∷ is) js = tokens-append is js
tokens-append (Object grey ∷ is) js = ap (λ gs. grey ∷ gs) (tokens-append is js)

-- one token more, from the end of those that were won to the end of the items
pub one-token-more : (grey : Grey) (handed : List Grey) (is : List Item) → IsPermutation handed (tokens_of is)
    → IsPermutation (grey ∷ handed) (tokens_of (is ++ Object grey ∷ []))
one-token-more grey handed is same = subst (IsPermutation (grey ∷ handed)) (sym (tokens-append is (Object grey ∷ [])))
    (IsPermutation-trans (grey ∷ handed) (grey ∷ tokens_of is) (tokens_of is ++ grey ∷ []) (IsPermutation-cons grey handed (tokens_of is) same)
    (IsPermutation-sym (tokens_of is ++ grey ∷ []) (grey ∷ tokens_of is) (IsPermutation-to_front (tokens_of is) grey)))

capped-high : (most n : ℕ) → most ≤ n → capped most n ≡ most
capped-high most n high = elim (cases_Bool (nat_le n most)) as (λ _. capped most n ≡ most) [
  | inl low ↦ cond-true (nat_le n most) n most low ∙ (let less : n ≤ most = leb-true n most low in omega arith)
  | inr more ↦ cond-false (nat_le n most) n most more
]

-- a number that is capped twice is capped once
capped-again : (most a b : ℕ) → capped most (capped most a + b) ≡ capped most (a + b)
capped-again most a b = elim (cases_Bool (nat_le a most)) as (λ _. capped most (capped most a + b) ≡ capped most (a + b)) [
  | inl low ↦ ap (λ n. capped most (n + b)) (cond-true (nat_le a most) a most low)
  | inr high ↦ (let less : most < a = leb-false a most high in
      ap (λ n. capped most (n + b)) (cond-false (nat_le a most) a most high)
      ∙ capped-high most (most + b) (omega arith) ∙ sym (capped-high most (a + b) (omega arith)))
]

abbrev size : Grey → ℕ
size grey = grey.size

capped-sum : (most old mid new a b n : ℕ) → mid ≡ capped most (old + a) → new ≡ capped most (mid + b) → n ≡ b + a → new ≡ capped most (old + n)
capped-sum most old mid new a b n first after is = after ∙ ap (λ m. capped most (m + b)) first ∙ capped-again most (old + a) b
    ∙ (let same : old + a + b ≡ old + n = omega arith in ap (capped most) same)

-- two counts, one after the other, of tokens that are taken from the end of a list
pub counts-before : (old mid new : Tally) (ps qs : List Grey) → Counts old mid ps → Counts mid new qs → Counts old new (qs ++ ps)
counts-before old mid new ps qs first after = record {
  kept = capped-sum (2 ^ 32 - 1) old.kept mid.kept new.kept (length ps) (length qs) (length (qs ++ ps)) first.kept after.kept (length-append qs ps);
  moved = capped-sum (2 ^ 32 - 1) old.moved mid.moved new.moved (count_by has_moved ps) (count_by has_moved qs) (count_by has_moved (qs ++ ps))
      first.moved after.moved (count-append has_moved qs ps);
  words = capped-sum (2 ^ 64 - 1) old.words mid.words new.words (sum_by size ps) (sum_by size qs) (sum_by size (qs ++ ps))
      first.words after.words (sum_by-append size qs ps);
}

capped-none : (most n : ℕ) → n ≤ most → n ≡ capped most (n + 0)
capped-none most n low = let same : n ≡ n + 0 = omega arith in
    same ∙ sym (cond-true (nat_le (n + 0) most) (n + 0) most (le-leb (n + 0) most (omega (arith, low))))

-- no token is counted
pub counts-none : (tally : Tally) → tally.kept < 2 ^ 32 → tally.moved < 2 ^ 32 → tally.words < 2 ^ 64 → Counts tally tally []
counts-none tally kept moved words = record {
  kept = capped-none (2 ^ 32 - 1) tally.kept (omega (arith, kept));
  moved = capped-none (2 ^ 32 - 1) tally.moved (omega (arith, moved));
  words = capped-none (2 ^ 64 - 1) tally.words (omega (arith, words));
}

-- items that are objects have a token each
pub tokens-length : (is : List Item) → All IsObject is → length (tokens_of is) ≡ length is
tokens-length [] objects = refl
tokens-length (Register i ∷ is) objects = absurd (All-head IsObject (Register i) is objects)
tokens-length (Global root ∷ is) objects = absurd (All-head IsObject (Global root) is objects)
tokens-length (Object grey ∷ is) objects = ap suc (tokens-length is (All-tail IsObject (Object grey) is objects))

-- as many tokens are handed on as a packet has items
pub handed-length : (handed : List Grey) (is : List Item) → All IsObject is → IsPermutation handed (tokens_of is) → length handed ≡ length is
handed-length handed is objects same = sym (length_permutation handed (tokens_of is) same) ∙ tokens-length is objects

-- one packet more
pub items-more : (ps : List (Packet Item)) (q : Packet Item) → items_of (ps ++ q ∷ []) ≡ items_of ps ++ q.items.items
items-more ps q = flat_map-append (λ p. p.items.items) ps (q ∷ []) ∙ ap (λ is. items_of ps ++ is) (append-nil q.items.items)

-- the tokens of a packet more, from the end of those that were won to the end of the packets' items
pub one-packet-more : (more handed : List Grey) (ps : List (Packet Item)) (q : Packet Item) → IsPermutation handed (tokens_of (items_of ps))
    → IsPermutation more (tokens_of q.items.items) → IsPermutation (more ++ handed) (tokens_of (items_of (ps ++ q ∷ [])))
one-packet-more more handed ps q before same = subst (IsPermutation (more ++ handed))
    (sym (ap tokens_of (items-more ps q) ∙ tokens-append (items_of ps) q.items.items))
    (IsPermutation-trans (more ++ handed) (handed ++ more) (tokens_of (items_of ps) ++ tokens_of q.items.items) (IsPermutation-append_comm more handed)
    (IsPermutation-append handed (tokens_of (items_of ps)) more (tokens_of q.items.items) before same))

-- no token, and one more
pub shaped-none : (t : PlainTrace) → AreShaped t [] []
shaped-none t = record { shaped = λ p es v tracks all. refl; as_many = refl }

pub shaped-more : (t : PlainTrace) (r : Reached) (rs : List Reached) (grey : Grey) (greys : List Grey)
    → ((p : Setup) (es : List Event) (v : View) → Tracks p es t v → IsReached p v r → grey ≡ grey_of p r) → AreShaped t rs greys → AreShaped t (r ∷ rs) (grey ∷ greys)
shaped-more t r rs grey greys one are = record {
  shaped = λ p es v tracks all.
      ap (λ g. g ∷ map (grey_of p) rs) (sym (one p es v tracks (All-head (IsReached p v) r rs all)))
      ∙ ap (λ gs. grey ∷ gs) (are.shaped p es v tracks (All-tail (IsReached p v) r rs all));
  as_many = ap suc are.as_many;
}

-- the tokens of two lists
pub shaped-both : (t : PlainTrace) (more handed : List Reached) (gs hs : List Grey) → AreShaped t more gs → AreShaped t handed hs → AreShaped t (more ++ handed) (gs ++ hs)
shaped-both t more handed gs hs first second = record {
  shaped = λ p es v tracks all. map-append (grey_of p) more handed
      ∙ ap (λ l. l ++ map (grey_of p) handed) (first.shaped p es v tracks (all-left (IsReached p v) more handed all))
      ∙ ap (λ l. gs ++ l) (second.shaped p es v tracks (all-right (IsReached p v) more handed all));
  as_many = length-append gs hs ∙ ap (λ n. n + length hs) first.as_many ∙ ap (λ n. length more + n) second.as_many ∙ sym (length-append more handed);
}

-- the last token of those that are left is a right
pub last-reached : (p : Setup) (v : View) (left : List Reached) (r : Reached) (handed all : List Reached) → all ≡ (left ++ r ∷ []) ++ handed → All (IsReached p v) all → IsReached p v r
last-reached p v left r handed all is rights = All-head (IsReached p v) r []
    (all-right (IsReached p v) left (r ∷ []) (all-left (IsReached p v) (left ++ r ∷ []) handed (subst (All (IsReached p v)) is rights)))
