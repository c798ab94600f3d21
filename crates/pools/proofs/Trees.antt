-- Packets that the tests' workers push.
use Rattle.std.proofs.Common.{◌≡◌, ℕ, ◌≤◌, true, false, cond, List, [], ◌∷◌, ◌++◌, All, refl, sym, ap, ◌∙◌, subst, length, arith}
use Rattle.std.proofs.lemmas.List.{nil_from_length}
use Rattle.std.proofs.lemmas.List.Elements.{All-push, All-cons, All-nil, All-weaker, filter_passes}
use Rattle.std.proofs.lemmas.List.Sorted.{All-permutation, length_permutation}
use Rattle.std.specs.List.Sorted.{IsPermutation}
use Rattle.work_packets.specs.declared.packet.Bucket.{Bucket}
use Rattle.work_packets.specs.declared.packet.Bucket.TheVariants.{Prepare, Roots, Closure, Release}
use Rattle.work_packets.specs.declared.packet.Packet.{Packet}
use Rattle.work_packets.specs.Buckets.{is_before}
use Rattle.work_packets.specs.Packets.{HasItems, packets_after}

pub added : {X : Type 0} (P : X → Type 0) (old new : List X) (x : X) → new ≡ old ++ x ∷ [] → P x → All P old → All P new
added P old new x e here h = subst (All P) (sym e) (All-push P old x h here)

pub one-item : (p : Packet ℕ) (x : ℕ) → p.items.items ≡ x ∷ [] → HasItems p
one-item p x e = let n : length p.items.items ≡ 1 = ap length e in record { some = omega arith; few = omega arith }

pub at-most : (p : Packet ℕ) (x h : ℕ) → p.items.items ≡ x ∷ [] → x ≤ h → All (λ y. y ≤ h) p.items.items
at-most p x h e le = subst (All (λ y. y ≤ h)) (sym e) (All-cons (λ y. y ≤ h) x [] le (All-nil _))

no-truth : false ≡ true → ⊥
no-truth e = cc

only-release : (b : Bucket) → is_before Closure b ≡ true → b ≡ Release
only-release Prepare e = absurd (no-truth e)
only-release Roots e = absurd (no-truth e)
only-release Closure e = absurd (no-truth e)
only-release Release e = refl

-- what is pushed in Closure for later buckets is for Release
pub for-release : (pushed later : List (Packet ℕ)) → IsPermutation (packets_after Closure pushed) later → All (λ p. p.bucket ≡ Release) later
for-release pushed later h =
    All-permutation (λ p. p.bucket ≡ Release) _ _ h
    (All-weaker (λ p. is_before Closure p.bucket ≡ true) (λ p. p.bucket ≡ Release) (λ p e. only-release p.bucket e) _ (filter_passes (λ (p : Packet ℕ). is_before Closure p.bucket) pushed))

last-bucket : (b : Bucket) → is_before Release b ≡ false
last-bucket Prepare = refl
last-bucket Roots = refl
last-bucket Closure = refl
last-bucket Release = refl

none-later : (ps : List (Packet ℕ)) → packets_after Release ps ≡ []
none-later [] = refl
none-later (p ∷ ps) = ap (λ t. cond t (p ∷ packets_after Release ps) (packets_after Release ps)) (last-bucket p.bucket) ∙ none-later ps

-- nothing is left after Release
pub none-left : (pushed later : List (Packet ℕ)) → IsPermutation (packets_after Release pushed) later → later ≡ []
none-left pushed later h = nil_from_length later (length_permutation _ _ h ∙ ap length (none-later pushed))
