-- Mutators at `gc`: their numbers, and the replies to them.
use Rattle.std.proofs.Common.{◌≡◌, refl, ap, ℕ, zero, suc, ◌+◌, ◌<◌, ◌≤◌, arith, Bool, true, false, List, [], filter}
use Rattle.std.specs.Prelude.{slice_get, Some, None, Option}
use Rattle.std.specs.List.{range_with_len}
use Rattle.sessions.specs.Sessions.{is_at_gc}
use Rattle.mm_runtime.specs.declared.progress.PartEnd.{PartEnd}
use Rattle.mm_runtime.specs.declared.progress.PartEnd.TheVariants as end
use Rattle.mm_runtime.specs.Parts.{cause_of, causes}
use Rattle.mm_runtime.specs.Replying.{is_gc_at, HasGc}
use Rattle.mm_runtime.proofs.OkSteps.{not-gc}

-- a filter of what no number of the range passes
pub filter-none : (p : ℕ → Bool) (a n : ℕ) → ((m : ℕ) → a ≤ m → m < a + n → p m ≡ false) → filter p (range_with_len a n) ≡ []
filter-none p a zero each = refl
filter-none p a (suc n) each = rw (each a (omega arith) (omega arith)) (filter-none p (a + 1) n (λ m low high. each m (omega arith) (omega arith)))

module _ (ends : List PartEnd) where
  -- the test on a mutator's number is that on its place
  pub at-place : (k : ℕ) → is_at_gc (causes ends (k + 1)) ≡ is_gc_at ends k
  at-place k = let same : k + 1 ≡ suc k = omega arith in ap (λ m. is_at_gc (causes ends m)) same

  is-gc : (o : Option PartEnd) → is_at_gc (cause_of o) ≡ true → o ≡ Some end.Gc
  is-gc None is = let wrong : false ≡ true = is in cc
  is-gc (Some end.Gc) is = refl
  is-gc (Some end.Meet) is = let wrong : false ≡ true = is in cc
  is-gc (Some end.Trace) is = let wrong : false ≡ true = is in cc
  is-gc (Some (end.Need need)) is = let wrong : false ≡ true = is in cc
  is-gc (Some (end.Raised by)) is = let wrong : false ≡ true = is in cc

  pub at-gc : (k : ℕ) → is_gc_at ends k ≡ true → slice_get ends k ≡ Some end.Gc
  at-gc k is = is-gc (slice_get ends k) is

  pub none-at-gc : (n : ℕ) → (HasGc ends → ⊥) → filter (λ m. is_at_gc (causes ends m)) (range_with_len 1 n) ≡ []
  none-at-gc n none = filter-none (λ m. is_at_gc (causes ends m)) 1 n (λ m low high. pass m low)
    where
      pass : (m : ℕ) → 1 ≤ m → is_at_gc (causes ends m) ≡ false
      pass zero low = absurd (omega arith)
      pass (suc k) low = not-gc (slice_get ends k) (λ is. none (k, is))
