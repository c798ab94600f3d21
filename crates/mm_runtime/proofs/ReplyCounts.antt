-- What is counted over the entries of a session is the sum of the counts over each mutator's replies.
use Rattle.std.proofs.Common.{◌≡◌, ◌≢◌, refl, sym, ◌∙◌, ap, subst, ℕ, zero, suc, ◌+◌, ◌*◌, ◌<◌, ◌≤◌, inl, inr, arith, Bool, true, false, List, [], ◌∷◌, length, nat_eq, take, get_or, cond}
use Rattle.std.specs.Prelude.{slice_get, Some, sum_by, count_by}
use Rattle.std.specs.List.{AllByRecursion}
use Rattle.std.proofs.lemmas.Bool.Decides.{eqb_tells}
use Rattle.std.proofs.lemmas.List.{length-map, take_all}
use Rattle.std.proofs.lemmas.List.Sums.{sum_by-cons, sum_by_more}
use Rattle.ideal_heap.specs.declared.reply.Reply.{Reply}
use Rattle.ideal_heap.specs.Runs.{Entry, replies_of, IsMutator}
use Rattle.object_model.proofs.Among.{all-to}
use Rattle.mm_runtime.specs.declared.progress.Progress.{Progress}
use Rattle.mm_runtime.specs.Managers.{traces_of, HasReplies}

-- the count is the sum over the first i mutators
pub record SumsFirst (f : Progress → ℕ) (ps : List Progress) (i n : ℕ) : Type 0 where
  pub sum : n ≡ sum_by f (take i ps)
  pub few : n ≤ 1000000 * i

pub one-summed : (f : Progress → ℕ) (ps ys : List Progress) (i n : ℕ) (p : Progress) → SumsFirst f ps i n → ys ≡ ps → i < length ys → p ≡ get_or ys i p → f p ≤ 1000000
    → SumsFirst f ps (i + 1) (n + f p)
one-summed f ps ys i n p before same below is few = record {
  sum =
      let inside : i < length ps = subst (λ (l : List Progress). i < length l) same below in
      let own : f p ≡ f (get_or ps i p) = ap f (is ∙ ap (λ l. get_or l i p) same) in
      let more : sum_by f (take (i + 1) ps) ≡ sum_by f (take i ps) + f (get_or ps i p) = sum_by_more f ps i p inside in
      let sum : n ≡ sum_by f (take i ps) = before.sum in
      omega (arith, own, more, sum);
  few = (let least : n ≤ 1000000 * i = before.few in omega (arith, least, few));
}

pub all-summed : (f : Progress → ℕ) (ps ys : List Progress) (i n : ℕ) → SumsFirst f ps i n → ys ≡ ps → length ys ≤ i → n ≡ sum_by f ps
all-summed f ps ys i n sums same end =
    sums.sum ∙ ap (sum_by f) (take_all i ps (subst (λ (l : List Progress). length l ≤ i) same end))

-- the number of entries of mutators a to a + n - 1 whose replies pass a test
module _ (test : Reply → Bool) where
  abbrev own_count : ℕ → List Entry → ℕ
  own_count m es = count_by test (replies_of m es)

  abbrev one : Entry → ℕ
  one e = cond (test e.reply) 1 0

  tally : ℕ → ℕ → List Entry → ℕ
  tally a zero es = 0
  tally a (suc n) es = own_count a es + tally (a + 1) n es

  tally-none : (a n : ℕ) → tally a n [] ≡ 0
  unfolding tally
  tally-none a zero = refl
  tally-none a (suc n) = omega (arith, tally-none (a + 1) n)

  one-more : (m : ℕ) (e : Entry) (es : List Entry) → nat_eq e.mutator m ≡ true → own_count m (e ∷ es) ≡ one e + own_count m es
  one-more m e es is = rw is (sum_by-cons (λ r. cond (test r) 1 0) e.reply (replies_of m es))

  no-more : (m : ℕ) (e : Entry) (es : List Entry) → nat_eq e.mutator m ≡ false → own_count m (e ∷ es) ≡ own_count m es
  no-more m e es not = rw not refl

  tally-outside : (a n : ℕ) (e : Entry) (es : List Entry) → e.mutator < a → tally a n (e ∷ es) ≡ tally a n es
  unfolding tally
  tally-outside a zero e es low = refl
  tally-outside a (suc n) e es low = elim (eqb_tells e.mutator a) as (λ _. tally a (suc n) (e ∷ es) ≡ tally a (suc n) es) [
    | inl same ↦ (let is : e.mutator ≡ a = same.1 in absurd (omega arith))
    | inr differ ↦ (let here = no-more a e es differ.0 in let rest = tally-outside (a + 1) n e es (omega arith) in cc)
  ]

  tally-one : (a n : ℕ) (e : Entry) (es : List Entry) → a ≤ e.mutator → e.mutator < a + n → tally a n (e ∷ es) ≡ one e + tally a n es
  unfolding tally
  tally-one a zero e es low high = absurd (omega arith)
  tally-one a (suc n) e es low high = elim (eqb_tells e.mutator a) as (λ _. tally a (suc n) (e ∷ es) ≡ one e + tally a (suc n) es) [
    | inl same ↦ (
        let is : e.mutator ≡ a = same.1 in
        let here : own_count a (e ∷ es) ≡ one e + own_count a es = one-more a e es same.0 in
        let rest : tally (a + 1) n (e ∷ es) ≡ tally (a + 1) n es = tally-outside (a + 1) n e es (omega arith) in
        omega (arith, here, rest))
    | inr differ ↦ (
        let not : e.mutator ≢ a = differ.1 in
        let here : own_count a (e ∷ es) ≡ own_count a es = no-more a e es differ.0 in
        let rest : tally (a + 1) n (e ∷ es) ≡ one e + tally (a + 1) n es = tally-one (a + 1) n e es (omega arith) (omega arith) in
        omega (arith, here, rest))
  ]

  tally-all : (a n : ℕ) (es : List Entry) → AllByRecursion (λ e. (a ≤ e.mutator) × (e.mutator < a + n)) es → tally a n es ≡ count_by (λ e. test e.reply) es
  tally-all a n [] all = tally-none a n
  tally-all a n (e ∷ es) all =
      tally-one a n e es all.0.0 all.0.1 ∙ ap (λ k. one e + k) (tally-all a n es all.1) ∙ sym (sum_by-cons (λ x. cond (test x.reply) 1 0) e es)

  abbrev of_progress : Progress → ℕ
  of_progress p = count_by test p.replies.items

  tally-replies : (a : ℕ) (ps : List Progress) (es : List Entry) → ((k : ℕ) (p : Progress) → slice_get ps k ≡ Some p → replies_of (a + k) es ≡ p.replies.items)
      → tally a (length ps) es ≡ sum_by of_progress ps
  unfolding tally
  tally-replies a [] es each = refl
  tally-replies a (p ∷ ps) es each =
      let first : own_count a es ≡ of_progress p = ap (λ m. own_count m es) (omega arith) ∙ ap (count_by test) (each 0 p refl) in
      let rest : tally (a + 1) (length ps) es ≡ sum_by of_progress ps =
      tally-replies (a + 1) ps es (λ k q is. ap (λ m. replies_of m es) (omega arith) ∙ each (suc k) q is) in
      let sum : sum_by of_progress (p ∷ ps) ≡ of_progress p + sum_by of_progress ps = sum_by-cons of_progress p ps in
      omega (arith, first, rest, sum)

  pub replies-counted : (ps : List Progress) (done : List Entry) → HasReplies ps done → sum_by of_progress ps ≡ count_by (λ e. test e.reply) done
  replies-counted ps done has =
      let many : length (traces_of ps) ≡ length ps = length-map ps (λ p. p.trace) in
      sym (tally-replies 1 ps done (λ k p is. ap (λ m. replies_of m done) (omega arith) ∙ has.replies k p is))
      ∙ tally-all 1 (length ps) done (all-to (λ e. IsMutator (traces_of ps) e.mutator) (λ e. (1 ≤ e.mutator) × (e.mutator < 1 + length ps))
      (λ e is. (is.0, let most : e.mutator ≤ length (traces_of ps) = is.1 in omega arith)) done has.mutators)
