-- Of two buckets one comes first, or they are one.
use Rattle.std.proofs.Common.{◌≡◌, Bool, true, false, not, refl, sym, ◌∙◌, subst}
use Rattle.work_packets.specs.declared.packet.Bucket.{Bucket}
use Rattle.work_packets.specs.declared.packet.Bucket.TheVariants.{Prepare, Roots, Closure, Release}
use Rattle.work_packets.specs.Buckets.{is_before, is_same}

no-truth : false ≡ true → ⊥
no-truth e = cc

pub same-itself : (b : Bucket) → is_same b b ≡ true
same-itself Prepare = refl
same-itself Roots = refl
same-itself Closure = refl
same-itself Release = refl

pub never-before-itself : (b : Bucket) → is_before b b ≡ false
never-before-itself Prepare = refl
never-before-itself Roots = refl
never-before-itself Closure = refl
never-before-itself Release = refl

pub one-bucket : (b c : Bucket) → is_same b c ≡ true → b ≡ c
one-bucket Prepare Prepare e = refl
one-bucket Prepare Roots e = absurd (no-truth e)
one-bucket Prepare Closure e = absurd (no-truth e)
one-bucket Prepare Release e = absurd (no-truth e)
one-bucket Roots Prepare e = absurd (no-truth e)
one-bucket Roots Roots e = refl
one-bucket Roots Closure e = absurd (no-truth e)
one-bucket Roots Release e = absurd (no-truth e)
one-bucket Closure Prepare e = absurd (no-truth e)
one-bucket Closure Roots e = absurd (no-truth e)
one-bucket Closure Closure e = refl
one-bucket Closure Release e = absurd (no-truth e)
one-bucket Release Prepare e = absurd (no-truth e)
one-bucket Release Roots e = absurd (no-truth e)
one-bucket Release Closure e = absurd (no-truth e)
one-bucket Release Release e = refl

apart : (b c : Bucket) (t : Bool) → is_same b c ≡ t → (b ≡ c → ⊥) → is_same b c ≡ false
apart b c true e differ = absurd (differ (one-bucket b c e))
apart b c false e differ = e

pub not-same : (b c : Bucket) → (b ≡ c → ⊥) → is_same b c ≡ false
not-same b c differ = apart b c (is_same b c) refl differ

pub then-later : (b c : Bucket) → (b ≡ c → ⊥) → is_before c b ≡ false → is_before b c ≡ true
then-later Prepare Prepare differ e = absurd (differ refl)
then-later Prepare Roots differ e = refl
then-later Prepare Closure differ e = refl
then-later Prepare Release differ e = refl
then-later Roots Prepare differ e = absurd (no-truth (sym e))
then-later Roots Roots differ e = absurd (differ refl)
then-later Roots Closure differ e = refl
then-later Roots Release differ e = refl
then-later Closure Prepare differ e = absurd (no-truth (sym e))
then-later Closure Roots differ e = absurd (no-truth (sym e))
then-later Closure Closure differ e = absurd (differ refl)
then-later Closure Release differ e = refl
then-later Release Prepare differ e = absurd (no-truth (sym e))
then-later Release Roots differ e = absurd (no-truth (sym e))
then-later Release Closure differ e = absurd (no-truth (sym e))
then-later Release Release differ e = absurd (differ refl)

-- a bucket that is not before b is after it if it is another one
pub after-or-same : (b c : Bucket) (same : Bool) → is_same b c ≡ same → is_before c b ≡ false → is_before b c ≡ not same
after-or-same b c true e order = subst (λ k. is_before b k ≡ false) (one-bucket b c e) (never-before-itself b)
after-or-same b c false e order = then-later b c (λ k. no-truth (sym e ∙ subst (λ d. is_same b d ≡ true) k (same-itself b))) order
