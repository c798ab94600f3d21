-- What a report counts, as sums over lists, and names in rising order.
use Rattle.std.proofs.Common.{◌≡◌, refl, ◌∙◌, ap, zero, suc, ◌+◌, arith, inl, inr, List, [], ◌∷◌, length, map}
use Rattle.std.specs.Prelude.{Option, None, Some}
use Rattle.std.specs.List.{All, AllByRecursion, AllPairs, count_by, sum_by}
use Rattle.std.proofs.lemmas.List.Elements.{All-from_recursion, recursion_from_All}
use Rattle.std.proofs.lemmas.List.Kept.{AllPairs-cons}
use Rattle.std.proofs.lemmas.List.Sums.{sum_by-cons}
use Rattle.ideal_heap.specs.Runs.{is_full}
use Rattle.ideal_heap.specs.declared.reply.Reply.{Reply}
use Rattle.trace_text.specs.Text.{IsPrintable}
use Rattle.heap_picture.specs.declared.forms.Place.{Place}
use Rattle.heap_picture.proofs.Mapped.{Precedes, Rises, blocks_of, words_in}
use Rattle.heap_picture.proofs.Mutators.{all_refusals, all_replies, news, one_if, refusals}
use Rattle.made_trace.specs.Counts.{is_new_reply}
use Rattle.heap_picture.specs.Texts.{births_in, large_blocks}
use Rattle.session_counts.specs.Sizes.{own_blocks}

pub refusals_are : (rs : List Reply) → count_by is_full rs ≡ refusals rs
refusals_are [] = refl
refusals_are (x ∷ rs) = sum_by-cons (λ x. one_if (is_full x)) x rs ∙ ap (λ n. one_if (is_full x) + n) (refusals_are rs)

pub all_replies_are : (all : List (List Reply)) → sum_by length all ≡ all_replies all
all_replies_are [] = refl
all_replies_are (rs ∷ all) = sum_by-cons length rs all ∙ ap (λ n. length rs + n) (all_replies_are all)

pub all_refusals_are : (all : List (List Reply)) → sum_by (count_by is_full) all ≡ all_refusals all
all_refusals_are [] = refl
all_refusals_are (rs ∷ all) = sum_by-cons (count_by is_full) rs all ∙ ap (λ n. n + sum_by (count_by is_full) all) (refusals_are rs) ∙ ap (λ n. refusals rs + n) (all_refusals_are all)

pub news_are : (rs : List Reply) → count_by is_new_reply rs ≡ news rs
news_are [] = refl
news_are (x ∷ rs) = sum_by-cons (λ x. one_if (is_new_reply x)) x rs ∙ ap (λ n. one_if (is_new_reply x) + n) (news_are rs)

all_news_are : (all : List (List Reply)) → map (count_by is_new_reply) all ≡ map news all
all_news_are [] = refl
all_news_are (rs ∷ all) = ap (λ n. n ∷ map (count_by is_new_reply) all) (news_are rs) ∙ ap (λ ns. news rs ∷ ns) (all_news_are all)

pub births_are : (all : List (List Reply)) → births_in all ≡ 0 ∷ map news all
births_are all = ap (λ ns. 0 ∷ ns) (all_news_are all)

pub words_are : (ps : List Place) → sum_by (λ p. p.size) ps ≡ words_in ps
words_are [] = refl
words_are (p ∷ ps) = sum_by-cons (λ (p : Place). p.size) p ps ∙ ap (λ n. p.size + n) (words_are ps)

pub large_are : (ps : List Place) → large_blocks ps ≡ blocks_of ps
large_are [] = refl
large_are (p ∷ ps) = sum_by-cons (λ (p : Place). own_blocks p.size) p ps ∙ ap (λ n. own_blocks p.size + n) (large_are ps)

inner : (all : List (List Reply)) → AllByRecursion (AllByRecursion IsPrintable) all → AllByRecursion (All IsPrintable) all
inner [] h = tt
inner (rs ∷ all) h = (All-from_recursion IsPrintable rs h.0, inner all h.1)

pub all_printable : (all : List (List Reply)) → AllByRecursion (AllByRecursion IsPrintable) all → All (All IsPrintable) all
all_printable all h = All-from_recursion (All IsPrintable) all (inner all h)

outer : (all : List (List Reply)) → AllByRecursion (All IsPrintable) all → AllByRecursion (AllByRecursion IsPrintable) all
outer [] h = tt
outer (rs ∷ all) h = (recursion_from_All IsPrintable rs h.0, outer all h.1)

pub each_printable : (all : List (List Reply)) → All (All IsPrintable) all → AllByRecursion (AllByRecursion IsPrintable) all
each_printable all h = outer all (recursion_from_All (All IsPrintable) all h)

then_before : (p q x : Place) → Precedes p q → Precedes q x → Precedes p x
then_before p q x (inl less) (inl more) = inl (omega (arith, less, more))
then_before p q x (inl less) (inr more) = inl (omega (arith, less, more.0))
then_before p q x (inr same) (inl more) = inl (omega (arith, same.0, more))
then_before p q x (inr same) (inr more) = inr (same.0 ∙ more.0, omega (arith, same.1, more.1))

earlier : (p q : Place) (ps : List Place) → Precedes p q → Rises (Some q) ps → Rises (Some p) ps
earlier p q [] h rise = tt
earlier p q (x ∷ ps) h rise = (then_before p q x h rise.0, rise.1)

after_all : (p : Place) (ps : List Place) → Rises (Some p) ps → AllByRecursion (Precedes p) ps
after_all p [] rise = tt
after_all p (q ∷ ps) rise = (rise.0, after_all p ps (earlier p q ps rise.0 rise.1))

pub in_pairs : (o : Option Place) (ps : List Place) → Rises o ps → AllPairs Precedes ps
in_pairs o [] rise = λ i j d less low. absurd (omega (arith, low))
in_pairs o (p ∷ ps) rise = AllPairs-cons Precedes p ps (All-from_recursion (Precedes p) ps (after_all p ps rise.1)) (in_pairs (Some p) ps rise.1)

next_in_pairs : (p : Place) (ps : List Place) → AllPairs Precedes (p ∷ ps) → Rises (Some p) ps
next_in_pairs p [] pairs = tt
next_in_pairs p (q ∷ ps) pairs = (pairs zero (suc zero) q (omega arith) (omega arith), next_in_pairs q ps (λ i j d less low. pairs (suc i) (suc j) d (omega (arith, less)) (omega (arith, low))))

pub from_pairs : (ps : List Place) → AllPairs Precedes ps → Rises None ps
from_pairs [] pairs = tt
from_pairs (p ∷ ps) pairs = (tt, next_in_pairs p ps pairs)
