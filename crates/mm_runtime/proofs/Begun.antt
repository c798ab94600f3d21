-- How a manager begins.
use Rattle.std.proofs.Common.{◌≡◌, refl, sym, ◌∙◌, ap, subst, ℕ, zero, suc, List, [], ◌∷◌, ◌++◌}
use Rattle.std.specs.Prelude.{slice_get, Some, None}
use Rattle.std.proofs.lemmas.List.{map-append}
use Rattle.ideal_heap.specs.declared.command.Command.{Command}
use Rattle.block_regions.proofs.Lists.{one-element}
use Rattle.mm_runtime.specs.declared.progress.Progress.{Progress}
use Rattle.mm_runtime.specs.Managers.{traces_of, IsFresh}

-- what holds of each element, and of one more
pub pushed : {A : Type 0} (Q : A → Type 0) (xs : List A) (y : A) → ((k : ℕ) (x : A) → slice_get xs k ≡ Some x → Q x) → Q y
    → (k : ℕ) (x : A) → slice_get (xs ++ y ∷ []) k ≡ Some x → Q x
pushed Q [] y each here zero x is = subst Q (one-element (slice_get (y ∷ []) 0) y x refl is) here
pushed Q [] y each here (suc k) x is = let wrong : None ≡ Some x = is in cc
pushed Q (z ∷ xs) y each here zero x is = each zero x is
pushed Q (z ∷ xs) y each here (suc k) x is = pushed Q xs y (λ j w e. each (suc j) w e) here k x is

pub traces-pushed : (ps : List Progress) (traces : List (List Command)) (p : Progress) (trace : List Command) → traces_of ps ≡ traces → p.trace ≡ trace
    → traces_of (ps ++ p ∷ []) ≡ traces ++ trace ∷ []
traces-pushed ps traces p trace same is =
    map-append (λ (x : Progress). x.trace) ps (p ∷ []) ∙ ap (λ ts. ts ++ p.trace ∷ []) same ∙ ap (λ t. traces ++ t ∷ []) is

pub own-trace : (trace : List Command) (p : Progress) → IsFresh trace p → IsFresh p.trace p
own-trace trace p fresh = subst (λ t. IsFresh t p) (sym fresh.trace_is) fresh
