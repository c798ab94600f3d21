-- A function changed at one place, or at a range of places.
use Rattle.std.proofs.Common.{◌≡◌, ◌≢◌, ℕ, ◌+◌, ◌<◌, ◌≤◌, ◌⊎◌, inl, inr, false, ◌&&◌, nat_le, nat_lt, nat_eq, eq-eqb, ne_eqb, refl, arith}
use Rattle.std.proofs.lemmas.Bool.{le-leb, lt-ltb, lt-leb, le-ltb, cond-true, cond-false, and_from, and_left, and_right}
use Rattle.trace_core.specs.Machine.{put, put_all}

module _ {B : Type 0} (f : ℕ → B) (a : ℕ) (b : B) where
  pub put_here : put f a b a ≡ b
  put_here = cond-true (nat_eq a a) b (f a) (eq-eqb a a refl)

  pub put_else : (x : ℕ) → x ≢ a → put f a b x ≡ f x
  put_else x n = cond-false (nat_eq x a) b (f x) (ne_eqb x a n)

  pub all_here : (n x : ℕ) → a ≤ x → x < a + n → put_all f a n b x ≡ b
  all_here n x from below = cond-true (nat_le a x && nat_lt x (a + n)) b (f x)
      (and_from (nat_le a x) (nat_lt x (a + n)) (le-leb a x from) (lt-ltb x (a + n) below))

  pub all_else : (n x : ℕ) → (x < a) ⊎ (a + n ≤ x) → put_all f a n b x ≡ f x
  all_else n x outside = cond-false (nat_le a x && nat_lt x (a + n)) b (f x) (elim outside as (λ _. (nat_le a x && nat_lt x (a + n)) ≡ false) [
    | inl before ↦ and_left (nat_le a x) (nat_lt x (a + n)) (lt-leb a x (omega arith))
    | inr beyond ↦ and_right (nat_le a x) (nat_lt x (a + n)) (le-ltb x (a + n) (omega arith))
  ])
