-- Jobs of two lists, and what each gave.
use Rattle.std.proofs.Common.{◌≡◌, refl, sym, subst, ap, ◌∙◌, ℕ, ◌+◌, ◌-◌, List, ◌++◌, length, take, drop, ⊎_elim, arith}
use lib.ListN.{get_or}
use denote.Param.Members.{Shared}
use Rattle.std.proofs.lemmas.List.{take-append-drop, length-drop, length-take, length-append, get_or-take, get_or-drop, get_or_append_left, get_or-append_right}
use Rattle.std.proofs.lemmas.Bool.{cases_lt}
use Rattle.std.specs.Fork.{AcceptsJobs, GivesJob, GivesJobs}

module _ {F J R : Type 0} (g : Shared F (J × Unit {0}) R) (f : F) where
  job-moved : (js ks : List J) (i k : ℕ) (r s : R) → ((d : J) → get_or ks k d ≡ get_or js i d) → r ≡ s → GivesJob g f js i r → GivesJob g f ks k s
  job-moved js ks i k r s e w h =
      subst (GivesJob g f ks k) w (record { job = h.job; job_read = h.job_read ∙ sym (e h.job); job_is = λ d. e d ∙ h.job_is d; call = h.call })

  pub gives-both : (js ks : List J) (xs ys zs : List R) → length xs ≡ length js → zs ≡ xs ++ ys → GivesJobs g f js xs → GivesJobs g f ks ys → GivesJobs g f (js ++ ks) zs
  gives-both js ks xs ys zs len is a b i d below =
      let n = length js in (
        refl,
        ⊎_elim
            (λ p. job-moved js (js ++ ks) i i _ _ (λ e. get_or_append_left js ks e i p) (sym (ap (λ l. get_or l i d) is ∙ get_or_append_left xs ys d i (omega arith))) (a i d p).1)
            (λ p. job-moved ks (js ++ ks) (i - n) i _ _ (λ e. get_or-append_right js ks n i e refl p) (sym (ap (λ l. get_or l i d) is ∙ get_or-append_right xs ys n i d len p)) (b (i - n) d (omega (arith, length-append js ks))).1)
            (cases_lt i n),
      )

  pub gives-all : (all js ks : List J) (n : ℕ) (xs ys zs : List R) → js ≡ take n all → ks ≡ drop n all → length xs ≡ length js → zs ≡ xs ++ ys → GivesJobs g f js xs → GivesJobs g f ks ys → GivesJobs g f all zs
  gives-all all js ks n xs ys zs front back len is a b =
      subst (λ l. GivesJobs g f l zs) (ap (λ l. l ++ ks) front ∙ ap (λ l. take n all ++ l) back ∙ take-append-drop n all) (gives-both js ks xs ys zs len is a b)
