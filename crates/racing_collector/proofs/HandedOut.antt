-- Tokens are handed on in a packet, and counted.
use Rattle.std.proofs.Common.{◌≡◌, sym, subst, ap, ◌∙◌, ℕ, ◌+◌, ◌-◌, ◌^◌, ◌<◌, ◌≤◌, ◌⊎◌, inl, inr, arith, List, [], ◌∷◌, ◌++◌, All, length, length-append, append-nil, append_assoc}
use Rattle.std.specs.Prelude.{sum_by}
use Rattle.std.proofs.lemmas.List.Concat.{flat_map-append}
use Rattle.std.proofs.lemmas.List.Elements.{All-nil, All-cons, All-head, All-push}
use Rattle.std.proofs.lemmas.List.Sums.{sum_by-append, sum_by-cons}
use Rattle.object_model.specs.Times.{one_if}
use Rattle.trace_core.proofs.CountedRights.{count-append, count-cons}
use Rattle.trace_table.specs.Seats.{IsGrey}
use Rattle.trace_table.specs.declared.table.TraceTable.{TraceTable}
use Rattle.trace_table.specs.declared.tokens.Grey.{Grey}
use Rattle.work_packets.specs.declared.packet.Packet.{Packet}
use Rattle.racing_collector.specs.declared.item.RaceItem.{RaceItem}
use Rattle.racing_collector.specs.declared.item.RaceItem.TheVariants.{Object}
use Rattle.racing_collector.specs.declared.tally.Tally.{Tally}
use Rattle.racing_collector.specs.Accounts.{CountsMore, capped, has_moved}
use Rattle.racing_collector.specs.Items.{IsScan, is_token, items_of, references, tokens}
use Rattle.racing_collector.proofs.Accounting.{all-left, all-right}

-- an object more is counted
pub record CountsOne (before after : Tally) (g : Grey) : Type 0 where
  pub kept : after.kept ≡ capped (2 ^ 32 - 1) (before.kept + 1)
  pub moved : after.moved ≡ capped (2 ^ 32 - 1) (before.moved + one_if (has_moved g))
  pub words : after.words ≡ capped (2 ^ 64 - 1) (before.words + g.size)

counts-one : (a b : Tally) (g : Grey) → CountsOne a b g → CountsMore a b (g ∷ [])
counts-one a b g is = record {
  kept = (let y = is.kept in omega arith);
  moved = (let y = is.moved in let z = count-cons has_moved g [] in omega arith);
  words = (let y = is.words in let z = sum_by-cons (λ (h : Grey). h.size) g [] in omega arith);
}

pub counts-more : (a b c : Tally) (l : List Grey) (g : Grey) → CountsMore a b l → CountsOne b c g → CountsMore a c (g ∷ l)
counts-more a b c l g was is = record {
  kept = (let x = was.kept in let y = is.kept in omega arith);
  moved = (let x = was.moved in let y = is.moved in let z = count-cons has_moved g l in omega arith);
  words = (let x = was.words in let y = is.words in let z = sum_by-cons (λ (h : Grey). h.size) g l in omega arith);
}

-- The packet has the token `first`, and the last ones of a list, of which `won` are left.
pub record HandsOut (all : List Grey) (before : Tally) (first : Grey) (won : List Grey) (after : Tally) (items : List RaceItem) (room : ℕ) : Type 0 where
  pub more : List Grey
  pub left : all ≡ won ++ more
  pub counts : CountsMore before after (more ++ first ∷ [])
  pub tokens_is : tokens items ≡ length more + 1
  pub count : length items ≡ length more + 1
  pub scans : (t : TraceTable) → All (IsGrey t) (all ++ first ∷ []) → All (IsScan t) items × All (IsGrey t) won
  pub few : length items ≤ 64
  pub cut : ((room ≡ 0) × (length items ≡ 1)) ⊎ (sum_by references items + room ≤ 512)

pub hands-first : (all : List Grey) (before after : Tally) (first : Grey) (items : List RaceItem) (room : ℕ) → items ≡ Object first ∷ [] → CountsOne before after first
    → ((512 < first.refs) × (room ≡ 0)) ⊎ (room + first.refs ≡ 512) → HandsOut all before first all after items room
hands-first all before after first items room is one cut = record {
  more = [];
  left = sym (append-nil all);
  counts = counts-one before after first one;
  tokens_is = ap tokens is;
  count = ap length is;
  scans = λ t greys. (
    subst (All (IsScan t)) (sym is) (All-cons (IsScan t) (Object first) [] (All-head (IsGrey t) first [] (all-right (IsGrey t) all (first ∷ []) greys)) (All-nil (IsScan t))),
    all-left (IsGrey t) all (first ∷ []) greys,
  );
  few = (let a : length items ≡ 1 = ap length is in omega arith);
  cut = elim cut as (λ _. ((room ≡ 0) × (length items ≡ 1)) ⊎ (sum_by references items + room ≤ 512)) [
    | inl big ↦ inl (big.1, ap length is)
    | inr small ↦ inr (let a : sum_by references items ≡ sum_by references (Object first ∷ []) = ap (sum_by references) is in let b = sum_by-cons references (Object first) [] in omega arith)
  ];
}

pub hands-next : (all : List Grey) (before mid after : Tally) (first : Grey) (won rest : List Grey) (items more : List RaceItem) (room left : ℕ) (g : Grey) → HandsOut all before first won mid items room
    → won ≡ rest ++ g ∷ [] → more ≡ items ++ Object g ∷ [] → CountsOne mid after g → left + g.refs ≡ room → 0 < room → length items < 64 → HandsOut all before first rest after more left
hands-next all before mid after first won rest items more room left g was popped pushed one refs some few = record {
  more = g ∷ was.more;
  left = was.left ∙ ap (λ l. l ++ was.more) popped ∙ append_assoc rest (g ∷ []) was.more;
  counts = counts-more before mid after (was.more ++ first ∷ []) g was.counts one;
  tokens_is = (let a : tokens more ≡ tokens (items ++ Object g ∷ []) = ap tokens pushed in let b = count-append is_token items (Object g ∷ []) in let c = was.tokens_is in omega arith);
  count = longer ∙ (let c = was.count in omega arith);
  scans = λ t greys. (let before = was.scans t greys in let both : All (IsGrey t) (rest ++ g ∷ []) = subst (All (IsGrey t)) popped before.1 in (
    subst (All (IsScan t)) (sym pushed) (All-push (IsScan t) items (Object g) before.0 (All-head (IsGrey t) g [] (all-right (IsGrey t) rest (g ∷ []) both))),
    all-left (IsGrey t) rest (g ∷ []) both,
  ));
  few = (let a = longer in omega arith);
  cut = elim was.cut as (λ _. ((left ≡ 0) × (length more ≡ 1)) ⊎ (sum_by references more + left ≤ 512)) [
    | inl big ↦ absurd (let none = big.0 in omega arith)
    | inr small ↦ inr (let a : sum_by references more ≡ sum_by references (items ++ Object g ∷ []) = ap (sum_by references) pushed in let b = sum_by-append references items (Object g ∷ []) in
        let c = sum_by-cons references (Object g) [] in omega arith)
  ];
}
  where
    longer : length more ≡ length items + 1
    longer = ap length pushed ∙ length-append items (Object g ∷ [])

-- Of a list of tokens `won` are left. The others are counted.
pub record Sums (all : List Grey) (before : Tally) (won : List Grey) (after : Tally) : Type 0 where
  pub done : List Grey
  pub parts : all ≡ won ++ done
  pub counts : CountsMore before after done

pub sums-none : (all : List Grey) (t : Tally) → t.kept < 2 ^ 32 → t.moved < 2 ^ 32 → t.words < 2 ^ 64 → Sums all t all t
sums-none all t kept moved words = record {
  done = [];
  parts = sym (append-nil all);
  counts = record { kept = omega arith; moved = omega arith; words = omega arith };
}

-- what a packet takes from a list
left-of : (won popped rest : List Grey) (first : Grey) (extra : List Grey) → won ≡ popped ++ first ∷ [] → popped ≡ rest ++ extra → won ≡ rest ++ (extra ++ first ∷ [])
left-of won popped rest first extra popped-is rest-is = popped-is ∙ ap (λ l. l ++ first ∷ []) rest-is ∙ append_assoc rest extra (first ∷ [])

-- counts one after the other
counts-both : (a b c : Tally) (l m : List Grey) → CountsMore a b l → CountsMore b c m → CountsMore a c (m ++ l)
counts-both a b c l m was is = record {
  kept = (let x = was.kept in let y = is.kept in let z = length-append m l in omega (arith, x, y, z));
  moved = (let x = was.moved in let y = is.moved in let z = count-append has_moved m l in omega (arith, x, y, z));
  words = (let x = was.words in let y = is.words in let z = sum_by-append (λ (g : Grey). g.size) m l in omega (arith, x, y, z));
}

pub sums-next : (all : List Grey) (before mid after : Tally) (won popped rest : List Grey) (first : Grey) (extra : List Grey) → Sums all before won mid → won ≡ popped ++ first ∷ [] → popped ≡ rest ++ extra
    → CountsMore mid after (extra ++ first ∷ []) → Sums all before rest after
sums-next all before mid after won popped rest first extra was popped-is rest-is counts = record {
  done = (extra ++ first ∷ []) ++ was.done;
  parts = was.parts ∙ ap (λ l. l ++ was.done) (left-of won popped rest first extra popped-is rest-is) ∙ append_assoc rest (extra ++ first ∷ []) was.done;
  counts = counts-both before mid after was.done (extra ++ first ∷ []) was.counts counts;
}

pub fewer-left : (won popped rest : List Grey) (first : Grey) (extra : List Grey) → won ≡ popped ++ first ∷ [] → popped ≡ rest ++ extra → length won ≡ length rest + (length extra + 1)
fewer-left won popped rest first extra popped-is rest-is = ap length (left-of won popped rest first extra popped-is rest-is) ∙ length-append rest (extra ++ first ∷ [])
    ∙ ap (λ n. length rest + n) (length-append extra (first ∷ []))

-- all are counted
pub sums-all : (all : List Grey) (before after : Tally) (won : List Grey) → won ≡ [] → Sums all before won after → CountsMore before after all
sums-all all before after won none is = subst (CountsMore before after) (sym (is.parts ∙ ap (λ l. l ++ is.done) none)) is.counts

pub items-more : (ps : List (Packet RaceItem)) (q : Packet RaceItem) → items_of (ps ++ q ∷ []) ≡ items_of ps ++ q.items.items
items-more ps q = flat_map-append (λ (p : Packet RaceItem). p.items.items) ps (q ∷ []) ∙ ap (λ is. items_of ps ++ is) (append-nil q.items.items)

-- a packet more
pub tokens-more : (ps qs : List (Packet RaceItem)) (q : Packet RaceItem) (n : ℕ) → qs ≡ ps ++ q ∷ [] → tokens q.items.items ≡ n → tokens (items_of qs) ≡ tokens (items_of ps) + n
tokens-more ps qs q n out count =
    let a : tokens (items_of qs) ≡ tokens (items_of ps ++ q.items.items) = ap (λ l. tokens (items_of l)) out ∙ ap tokens (items-more ps q) in
    let b = count-append is_token (items_of ps) q.items.items in omega (arith, a, b, count)
