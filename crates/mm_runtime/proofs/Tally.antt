-- The entries of a session are as many as the replies.
use Rattle.std.proofs.Common.{◌≡◌, ◌≢◌, refl, sym, ◌∙◌, ap, ℕ, zero, suc, ◌+◌, ◌<◌, ◌≤◌, inl, inr, arith, true, false, List, [], ◌∷◌, length, nat_eq}
use Rattle.std.specs.Prelude.{slice_get, Some}
use Rattle.std.specs.List.{AllByRecursion}
use Rattle.std.proofs.lemmas.Bool.Decides.{eqb_tells}
use Rattle.std.proofs.lemmas.List.{length-map}
use Rattle.std.proofs.lemmas.List.Sums.{sum_by-cons}
use Rattle.ideal_heap.specs.Runs.{Entry, of_mutator, IsMutator}
use Rattle.object_model.proofs.Among.{all-to}
use Rattle.mm_runtime.specs.declared.progress.Progress.{Progress}
use Rattle.mm_runtime.specs.Managers.{replied, traces_of, HasReplies}

-- the number of entries of mutators a to a + n - 1
tally : ℕ → ℕ → List Entry → ℕ
tally a zero es = 0
tally a (suc n) es = length (of_mutator a es) + tally (a + 1) n es

tally-none : (a n : ℕ) → tally a n [] ≡ 0
unfolding tally
tally-none a zero = refl
tally-none a (suc n) = omega (arith, tally-none (a + 1) n)

one-more : (m : ℕ) (e : Entry) (es : List Entry) → nat_eq e.mutator m ≡ true → length (of_mutator m (e ∷ es)) ≡ suc (length (of_mutator m es))
one-more m e es is = rw is refl

no-more : (m : ℕ) (e : Entry) (es : List Entry) → nat_eq e.mutator m ≡ false → length (of_mutator m (e ∷ es)) ≡ length (of_mutator m es)
no-more m e es not = rw not refl

tally-outside : (a n : ℕ) (e : Entry) (es : List Entry) → e.mutator < a → tally a n (e ∷ es) ≡ tally a n es
unfolding tally
tally-outside a zero e es low = refl
tally-outside a (suc n) e es low = elim (eqb_tells e.mutator a) as (λ _. tally a (suc n) (e ∷ es) ≡ tally a (suc n) es) [
  | inl same ↦ (let is : e.mutator ≡ a = same.1 in absurd (omega arith))
  | inr differ ↦ (let here = no-more a e es differ.0 in let rest = tally-outside (a + 1) n e es (omega arith) in cc)
]

tally-one : (a n : ℕ) (e : Entry) (es : List Entry) → a ≤ e.mutator → e.mutator < a + n → tally a n (e ∷ es) ≡ suc (tally a n es)
unfolding tally
tally-one a zero e es low high = absurd (omega arith)
tally-one a (suc n) e es low high = elim (eqb_tells e.mutator a) as (λ _. tally a (suc n) (e ∷ es) ≡ suc (tally a (suc n) es)) [
  | inl same ↦ (
      let is : e.mutator ≡ a = same.1 in
      let here : length (of_mutator a (e ∷ es)) ≡ suc (length (of_mutator a es)) = one-more a e es same.0 in
      let rest : tally (a + 1) n (e ∷ es) ≡ tally (a + 1) n es = tally-outside (a + 1) n e es (omega arith) in
      omega (arith, here, rest)
      )
  | inr differ ↦ (
      let not : e.mutator ≢ a = differ.1 in
      let here : length (of_mutator a (e ∷ es)) ≡ length (of_mutator a es) = no-more a e es differ.0 in
      let rest : tally (a + 1) n (e ∷ es) ≡ suc (tally (a + 1) n es) = tally-one (a + 1) n e es (omega arith) (omega arith) in
      omega (arith, here, rest)
      )
]

tally-all : (a n : ℕ) (es : List Entry) → AllByRecursion (λ e. (a ≤ e.mutator) × (e.mutator < a + n)) es → tally a n es ≡ length es
tally-all a n [] all = tally-none a n
tally-all a n (e ∷ es) all = tally-one a n e es all.0.0 all.0.1 ∙ ap suc (tally-all a n es all.1)

tally-replies : (a : ℕ) (ps : List Progress) (es : List Entry) → ((k : ℕ) (p : Progress) → slice_get ps k ≡ Some p → length (of_mutator (a + k) es) ≡ length p.replies.items)
    → tally a (length ps) es ≡ replied ps
unfolding tally
tally-replies a [] es each = refl
tally-replies a (p ∷ ps) es each =
    let first : length (of_mutator a es) ≡ length p.replies.items = ap (λ m. length (of_mutator m es)) (omega arith) ∙ each 0 p refl in
    let rest : tally (a + 1) (length ps) es ≡ replied ps =
    tally-replies (a + 1) ps es (λ k q is. ap (λ m. length (of_mutator m es)) (omega arith) ∙ each (suc k) q is) in
    let sum : replied (p ∷ ps) ≡ length p.replies.items + replied ps = sum_by-cons (λ (x : Progress). length x.replies.items) p ps in
    omega (arith, first, rest, sum)

-- how many entries a mutator has
pub own-entries : (ps : List Progress) (done : List Entry) → HasReplies ps done → (k : ℕ) (p : Progress) → slice_get ps k ≡ Some p
    → length (of_mutator (k + 1) done) ≡ length p.replies.items
own-entries ps done has k p is = sym (length-map (of_mutator (k + 1) done) (λ e. e.reply)) ∙ ap length (has.replies k p is)

pub entries-are-replies : (ps : List Progress) (done : List Entry) → HasReplies ps done → length done ≡ replied ps
entries-are-replies ps done has =
    let many : length (traces_of ps) ≡ length ps = length-map ps (λ p. p.trace) in
    sym (tally-all 1 (length ps) done (all-to (λ e. IsMutator (traces_of ps) e.mutator) (λ e. (1 ≤ e.mutator) × (e.mutator < 1 + length ps))
    (λ e is. (is.0, let most : e.mutator ≤ length (traces_of ps) = is.1 in omega arith)) done has.mutators))
    ∙ tally-replies 1 ps done (λ k p is. ap (λ m. length (of_mutator m done)) (omega arith) ∙ own-entries ps done has k p is)
