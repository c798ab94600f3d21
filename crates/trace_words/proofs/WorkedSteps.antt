-- What the steps of the worked share need.
use Rattle.std.proofs.Common.{◌≡◌, ℕ, zero, suc, ◌<◌, inl, inr, ⊎_elim, Bool, true, ◌&&◌, IsTrue, nat_lt, List, [], ◌∷◌, map, refl, sym, ap, ◌∙◌, subst, arith, lit<}
use Rattle.std.specs.List.{range_with_len}
use Rattle.std.proofs.lemmas.Bool.{cases_eq, and_parts, ltb-true}
use Rattle.object_model.specs.Objects.{word_at, ref_at}
use Rattle.object_model.specs.Times.{times}
use Rattle.trace_core.specs.Setups.{refs}
use Rattle.trace_core.specs.Machine.{ByField}
use Rattle.trace_core.specs.Views.{hits, is_pair}
use Rattle.trace_core.specs.WorkedTraces.{nursery_setup}
use Rattle.trace_core.specs.declared.run.TraceRun.{TraceRun}
use Rattle.trace_core.proofs.CountedRights.{hits-from, pair-parts}
use Rattle.trace_words.specs.Shares.{empty_share, first_share}
use Rattle.trace_words.specs.Steps.{MayLeave, MayClaim, FitsRoom, MayCopy, MayScan, IsLast, MaySet, IsWhole, IsDone}
use Rattle.trace_words.specs.WorkedShares.{begun, without_worker, helper, with_room, copied_to, moved, set_below}

pub begins : (run : TraceRun) → run.logged.items ≡ 810 ∷ [] → first_share run 2 ≡ begun
begins run logged = ap (λ (l : List ℕ). record empty_share { parts = 3; numbers = 1 ∷ 2 ∷ []; grey = map (λ x. (x, 0)) l; unset = range_with_len 0 16; known = map (λ x. (x, x)) l }) logged

pub takes : MayLeave nursery_setup helper
takes c has = absurd (omega (arith, has))

pub claims : MayClaim nursery_setup with_room 814 (ByField 810 0) (word_at nursery_setup.before 816)
claims = record {
  live = lit< tt;
  held = record { address = record { from = omega arith; below = omega arith }; start = refl };
  before = refl;
  other = λ e. absurd (omega (arith, e));
  young = refl;
  asks = (lit< tt, refl, (810, lit< tt));
}

pub moves : FitsRoom nursery_setup with_room 814
moves = record { moves = refl; fits = omega arith }

pub seats : (1 < begun.parts) × (0 < times 2 begun.numbers)
seats = (lit< tt, lit< tt)

pub gives : (0 < hits 810 0 without_worker.grey) × (0 < hits 810 810 without_worker.known)
gives = (lit< tt, lit< tt)

pub scans : MayScan nursery_setup moved 810 810 0
scans = record { live = lit< tt; right = lit< tt; target = lit< tt; field = lit< tt }

pub last : IsLast moved (ref_at nursery_setup.before 810 0) 4902
last = inr ((λ e. absurd (omega (arith, e))), lit< tt)

abbrev pub all-below : (ℕ → Bool) → ℕ → Bool
all-below f zero = true
all-below f (suc n) = all-below f n && f n

pub below-all : (f : ℕ → Bool) (n : ℕ) → IsTrue (all-below f n) → (g : ℕ) → g < n → IsTrue (f g)
below-all f zero all g l = absurd (omega arith)
below-all f (suc n) all g l = let both = and_parts (all-below f n) (f n) all in
    elim (cases_eq g n) as (λ _. IsTrue (f g)) [
      | inl e ↦ subst (λ z. IsTrue (f z)) (sym e) both.1
      | inr ne ↦ below-all f n both.0 g (omega arith)
    ]

pub copies : (k : ℕ) → k < 5 → MayCopy nursery_setup (copied_to k) 814 4902 k
copies k l = let all = and_parts (nat_lt 0 (copied_to k).parts) (nat_lt 0 (hits 814 k (copied_to k).won) && nat_lt 0 (hits 814 4902 (copied_to k).known))
    (below-all (λ z. nat_lt 0 (copied_to z).parts && (nat_lt 0 (hits 814 z (copied_to z).won) && nat_lt 0 (hits 814 4902 (copied_to z).known))) 5 refl k l) in
    let both = and_parts (nat_lt 0 (hits 814 k (copied_to k).won)) (nat_lt 0 (hits 814 4902 (copied_to k).known)) all.1 in
    record { live = ltb-true 0 (copied_to k).parts all.0; right = ltb-true 0 (hits 814 k (copied_to k).won) both.0; target = ltb-true 0 (hits 814 4902 (copied_to k).known) both.1 }

pub globals : (g : ℕ) → g < 16 → MaySet nursery_setup (set_below g) g
globals g l = let both = and_parts (nat_lt 0 (set_below g).parts) (nat_lt 0 (times g (set_below g).unset))
    (below-all (λ z. nat_lt 0 (set_below z).parts && nat_lt 0 (times z (set_below z).unset)) 16 refl g l) in
    record { live = ltb-true 0 (set_below g).parts both.0; right = ltb-true 0 (times g (set_below g).unset) both.1 }

pub whole : IsWhole nursery_setup (set_below 16)
whole = record { parts = refl; token = refl; worker = refl; tokens = refl }

pub done : IsDone nursery_setup (set_below 16)
done = record {
  won = refl;
  unset = refl;
  grey = λ x k has. ⊎_elim (λ (here : IsTrue (is_pair x k (810, 1))). let both = pair-parts 810 1 x k here in sym both.1 ∙ ap (refs nursery_setup) both.0)
      (λ (more : 0 < hits x k ((814, 0) ∷ [])). ⊎_elim (λ (here : IsTrue (is_pair x k (814, 0))). let both = pair-parts 814 0 x k here in sym both.1 ∙ ap (refs nursery_setup) both.0)
      (λ (none : 0 < hits x k []). absurd (omega (arith, none))) (hits-from 814 0 [] x k more)) (hits-from 810 1 ((814, 0) ∷ []) x k has);
}
