-- What a report counts of a session: sums over the replies of all mutators.
use Rattle.std.proofs.Common.{◌≡◌, refl, sym, ◌∙◌, ap, subst, ℕ, zero, suc, ◌+◌, ◌<◌, ◌≤◌, arith, inl, inr, Bool, true, false, cond, nat_eq, List, [], ◌∷◌, length, map}
use Rattle.std.specs.Prelude.{◌⊎◌}
use Rattle.std.specs.List.{All, AllByRecursion, count_by, range_with_len}
use Rattle.std.proofs.lemmas.Bool.{eqb-true, eqb-false, ne_eqb}
use Rattle.std.proofs.lemmas.List.{length-map}
use Rattle.std.proofs.lemmas.List.Sums.{sum_by-cons}
use Rattle.std.proofs.lemmas.Option.{unwrap_or-slice_get}
use Rattle.ideal_heap.specs.declared.command.Command.{Command}
use Rattle.ideal_heap.specs.Runs.{Entry, IsMutator, commands_of, is_full, of_mutator, replies_of, trace_of}
use Rattle.ideal_heap.specs.declared.reply.Reply.{Reply}
use Rattle.trace_text.specs.Text.{IsPrintable}
use Rattle.heap_picture.proofs.Mutators.{IsShort, all_refusals, all_replies, one_if, refusals}

-- a sum over replies, and over lists of them
abbrev weigh : (Reply → ℕ) → List Reply → ℕ
weigh f [] = 0
weigh f (x ∷ xs) = f x + weigh f xs

abbrev weigh_all : (Reply → ℕ) → List (List Reply) → ℕ
weigh_all f [] = 0
weigh_all f (rs ∷ all) = weigh f rs + weigh_all f all

-- and over entries
abbrev weigh_done : (Reply → ℕ) → List Entry → ℕ
weigh_done f [] = 0
weigh_done f (e ∷ es) = f e.reply + weigh_done f es

-- the replies of mutators a to a + n - 1
abbrev pub dealt : ℕ → ℕ → List Entry → List (List Reply)
dealt a n es = map (λ m. replies_of m es) (range_with_len a n)

module _ (f : Reply → ℕ) where
  here_by : (b : Bool) (m : ℕ) (e : Entry) (es : List Entry) → nat_eq e.mutator m ≡ b → weigh f (replies_of m (e ∷ es)) ≡ cond b (f e.reply) 0 + weigh f (replies_of m es)
  here_by true m e es is = ap (λ b. weigh f (map (λ (x : Entry). x.reply) (cond b (e ∷ of_mutator m es) (of_mutator m es)))) is
  here_by false m e es is = ap (λ b. weigh f (map (λ (x : Entry). x.reply) (cond b (e ∷ of_mutator m es) (of_mutator m es)))) is ∙ omega arith

  -- an entry of another mutator
  apart : (n a : ℕ) (e : Entry) (es : List Entry) → (e.mutator < a) ⊎ (a + n ≤ e.mutator) → weigh_all f (dealt a n (e ∷ es)) ≡ weigh_all f (dealt a n es)
  apart zero a e es off = refl
  apart (suc n) a e es off =
      let differ : nat_eq e.mutator a ≡ false = ne_eqb e.mutator a (λ same. elim off [ inl low ↦ omega (arith, low, same) | inr high ↦ omega (arith, high, same) ]) in
      let next : (e.mutator < a + 1) ⊎ (a + 1 + n ≤ e.mutator) = elim off as (λ _. (e.mutator < a + 1) ⊎ (a + 1 + n ≤ e.mutator)) [ inl low ↦ inl (omega (arith, low)) | inr high ↦ inr (omega (arith, high)) ] in
      let this = here_by false a e es differ in
      let rest = apart n (a + 1) e es next in
      omega (arith, this, rest)

  among_by : (b : Bool) (n a : ℕ) (e : Entry) (es : List Entry) → nat_eq e.mutator a ≡ b → a ≤ e.mutator → e.mutator < a + suc n
      → ((e.mutator < a + 1 → ⊥) → weigh_all f (dealt (a + 1) n (e ∷ es)) ≡ f e.reply + weigh_all f (dealt (a + 1) n es))
      → weigh_all f (dealt a (suc n) (e ∷ es)) ≡ f e.reply + weigh_all f (dealt a (suc n) es)
  among_by true n a e es is from below later =
      let same = eqb-true e.mutator a is in
      let this = here_by true a e es is in
      let rest = apart n (a + 1) e es (inl (omega (arith, same))) in
      omega (arith, this, rest)
  among_by false n a e es is from below later =
      let differ = eqb-false e.mutator a is in
      let this = here_by false a e es is in
      let rest = later (λ low. differ (omega (arith, low, from))) in
      omega (arith, this, rest)

  among : (n a : ℕ) (e : Entry) (es : List Entry) → a ≤ e.mutator → e.mutator < a + n → weigh_all f (dealt a n (e ∷ es)) ≡ f e.reply + weigh_all f (dealt a n es)
  among zero a e es from below = absurd (omega (arith, from, below))
  among (suc n) a e es from below =
      among_by (nat_eq e.mutator a) n a e es refl from below (λ high. among n (a + 1) e es (omega (arith, high)) (omega (arith, below)))

  none-dealt : (n a : ℕ) → weigh_all f (dealt a n []) ≡ 0
  none-dealt zero a = refl
  none-dealt (suc n) a = let rest = none-dealt n (a + 1) in omega (arith, rest)

  dealt-all : (n : ℕ) (es : List Entry) → AllByRecursion (λ (e : Entry). (1 ≤ e.mutator) × (e.mutator ≤ n)) es → weigh_done f es ≡ weigh_all f (dealt 1 n es)
  dealt-all n [] each = sym (none-dealt n 1)
  dealt-all n (e ∷ es) each =
      ap (λ k. f e.reply + k) (dealt-all n es each.1) ∙ sym (among n 1 e es each.0.0 (let most = each.0.1 in omega (arith, most)))

ones : (rs : List Reply) → weigh (λ _. 1) rs ≡ length rs
ones [] = refl
ones (x ∷ rs) = let rest = ones rs in omega (arith, rest)

all-ones : (all : List (List Reply)) → weigh_all (λ _. 1) all ≡ all_replies all
all-ones [] = refl
all-ones (rs ∷ all) = let here = ones rs in let rest = all-ones all in omega (arith, here, rest)

done-ones : (es : List Entry) → weigh_done (λ _. 1) es ≡ length es
done-ones [] = refl
done-ones (e ∷ es) = let rest = done-ones es in omega (arith, rest)

full-ones : (rs : List Reply) → weigh (λ x. one_if (is_full x)) rs ≡ refusals rs
full-ones [] = refl
full-ones (x ∷ rs) = ap (λ n. one_if (is_full x) + n) (full-ones rs)

all-full : (all : List (List Reply)) → weigh_all (λ x. one_if (is_full x)) all ≡ all_refusals all
all-full [] = refl
all-full (rs ∷ all) = let here = full-ones rs in let rest = all-full all in omega (arith, here, rest)

done-full : (es : List Entry) → count_by (λ (e : Entry). is_full e.reply) es ≡ weigh_done (λ x. one_if (is_full x)) es
done-full [] = refl
done-full (e ∷ es) = sum_by-cons (λ (e : Entry). one_if (is_full e.reply)) e es ∙ ap (λ n. one_if (is_full e.reply) + n) (done-full es)

module _ (n : ℕ) (es : List Entry) (each : AllByRecursion (λ (e : Entry). (1 ≤ e.mutator) × (e.mutator ≤ n)) es) where
  pub all-counted : length es ≡ all_replies (dealt 1 n es)
  all-counted = sym (done-ones es) ∙ dealt-all (λ _. 1) n es each ∙ all-ones (dealt 1 n es)

  pub full-counted : count_by (λ (e : Entry). is_full e.reply) es ≡ all_refusals (dealt 1 n es)
  full-counted = done-full es ∙ dealt-all (λ x. one_if (is_full x)) n es each ∙ all-full (dealt 1 n es)

-- a mutator has a reply for each command of its trace
trace-short : (traces : List (List Command)) → All (λ trace. length trace ≤ 1000000) traces → (m : ℕ) → IsMutator traces m → length (trace_of traces m) ≤ 1000000
trace-short traces few zero is = absurd (let some = is.0 in omega (arith, some))
trace-short traces few (suc k) is = subst (λ (trace : List Command). length trace ≤ 1000000) (sym (unwrap_or-slice_get traces k [])) (few k [] (let low = is.1 in omega (arith, low)))

module _ (traces : List (List Command)) (few : All (λ trace. length trace ≤ 1000000) traces) (es : List Entry) (order : (m : ℕ) → IsMutator traces m → commands_of m es ≡ trace_of traces m) where
  short-said : (m : ℕ) → IsMutator traces m → IsShort (replies_of m es)
  short-said m is =
      let short : length (trace_of traces m) ≤ 1000000 = trace-short traces few m is in
      let said : length (replies_of m es) ≡ length (trace_of traces m) = length-map (of_mutator m es) (λ (e : Entry). e.reply) ∙ sym (length-map (of_mutator m es) (λ (e : Entry). e.command)) ∙ ap length (order m is) in
      omega (arith, short, said)

  pub all-short : (n a : ℕ) → 1 ≤ a → a + n ≤ length traces + 1 → AllByRecursion IsShort (dealt a n es)
  all-short zero a some low = tt
  all-short (suc n) a some low = (short-said a (some, omega (arith, low)), all-short n (a + 1) (omega arith) (omega (arith, low)))

-- the replies of each mutator can be printed
one-of-two : (b : Bool) (m : ℕ) (e : Entry) (es : List Entry) → IsPrintable e.reply → AllByRecursion IsPrintable (replies_of m es)
    → AllByRecursion IsPrintable (map (λ (x : Entry). x.reply) (cond b (e ∷ of_mutator m es) (of_mutator m es)))
one-of-two true m e es prints rest = (prints, rest)
one-of-two false m e es prints rest = rest

of-one-by : (b : Bool) (m : ℕ) (e : Entry) (es : List Entry) → nat_eq e.mutator m ≡ b → IsPrintable e.reply → AllByRecursion IsPrintable (replies_of m es) → AllByRecursion IsPrintable (replies_of m (e ∷ es))
of-one-by b m e es is prints rest = subst (λ c. AllByRecursion IsPrintable (map (λ (x : Entry). x.reply) (cond c (e ∷ of_mutator m es) (of_mutator m es)))) (sym is) (one-of-two b m e es prints rest)

of-one : (m : ℕ) (es : List Entry) → AllByRecursion (λ (e : Entry). IsPrintable e.reply) es → AllByRecursion IsPrintable (replies_of m es)
of-one m [] prints = tt
of-one m (e ∷ es) prints = of-one-by (nat_eq e.mutator m) m e es refl prints.0 (of-one m es prints.1)

pub all-print : (n a : ℕ) (es : List Entry) → AllByRecursion (λ (e : Entry). IsPrintable e.reply) es → AllByRecursion (AllByRecursion IsPrintable) (dealt a n es)
all-print zero a es prints = tt
all-print (suc n) a es prints = (of-one a es prints, all-print n (a + 1) es prints)
