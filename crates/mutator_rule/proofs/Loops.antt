-- Lists as loops take them apart.
use Rattle.std.proofs.Common.{◌≡◌, ℕ, zero, suc, ◌<◌, List, [], ◌∷◌, ◌++◌, length, take, drop, refl, ap, sym, arith}
use mathlib.Core.Option.{some}
use lib.ListN.{get_or, get_elem?}
use Rattle.mutator_calls.specs.declared.need.Mutator.{Mutator}
use Rattle.mutator_rule.specs.declared.views.EpochStart.{EpochStart}
use Rattle.mutator_rule.specs.declared.views.MutatorView.{MutatorView}
use Rattle.mutator_rule.specs.Views.{first_of, first_view, first_views_of}

pub one_view : (ps : List MutatorView) (i : ℕ) → i < length ps → take 1 (drop i ps) ≡ first_of (take 1 (drop i ps)) ∷ []
one_view [] i h = absurd (omega arith)
one_view (p ∷ ps) zero h = refl
one_view (p ∷ ps) (suc i) h = one_view ps i (omega arith)

pub drop_more : (ps : List MutatorView) (i : ℕ) → drop 1 (drop i ps) ≡ drop (suc i) ps
drop_more [] zero = refl
drop_more [] (suc i) = refl
drop_more (p ∷ ps) zero = refl
drop_more (p ∷ ps) (suc i) = drop_more ps i

pub take_more_view : (ps : List MutatorView) (i : ℕ) → i < length ps → take i ps ++ first_of (take 1 (drop i ps)) ∷ [] ≡ take (suc i) ps
take_more_view [] i h = absurd (omega arith)
take_more_view (p ∷ ps) zero h = refl
take_more_view (p ∷ ps) (suc i) h = ap (λ l. p ∷ l) (take_more_view ps i (omega arith))

-- the view of the mutator at place i
pub first_fresh : (g : EpochStart) (ms : List Mutator) (i : ℕ) (m : Mutator) → i < length ms → m ≡ get_or ms i m → first_of (take 1 (drop i (first_views_of g ms))) ≡ first_view g m
first_fresh g [] i m few e = absurd (omega arith)
first_fresh g (x ∷ xs) zero m few e = ap (first_view g) (sym e)
first_fresh g (x ∷ xs) (suc i) m few e = first_fresh g xs i m (omega arith) e

pub first_length : (g : EpochStart) (ms : List Mutator) → length (first_views_of g ms) ≡ length ms
first_length g [] = refl
first_length g (m ∷ ms) = ap suc (first_length g ms)

pub get-or-elem : {A : Type 0} (xs : List A) (i : ℕ) (x : A) → i < length xs → x ≡ get_or xs i x → get_elem? xs i ≡ some x
get-or-elem [] i x few e = absurd (omega arith)
get-or-elem (y ∷ ys) zero x few e = ap some (sym e)
get-or-elem (y ∷ ys) (suc i) x few e = get-or-elem ys i x (omega arith) e
