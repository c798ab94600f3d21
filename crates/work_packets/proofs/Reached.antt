-- What the steps of a bucket leave as it was, and what they count.
use Rattle.std.proofs.Common.{◌≡◌, ℕ, ◌+◌, Bool, true, false, cond, List, [], ◌∷◌, All, map, refl, ap, ◌∙◌, length, arith}
use Rattle.std.specs.List.{sum_by}
use Rattle.std.proofs.lemmas.List.{length-append}
use Rattle.std.proofs.lemmas.List.Sums.{sum_by-cons}
use Rattle.std.proofs.lemmas.List.Elements.{All-head, All-tail}
use Rattle.work_packets.specs.declared.packet.Bucket.{Bucket}
use Rattle.work_packets.specs.declared.packet.Bucket.TheVariants.{Prepare, Roots, Closure, Release}
use Rattle.work_packets.specs.declared.packet.Packet.{Packet}
use Rattle.work_packets.specs.Buckets.{is_before, is_same, IsSameOrLater}
use Rattle.work_packets.specs.Packets.{packets_of, packets_after}
use Rattle.work_packets.specs.Steps.{Step, Reaches, AllReach, ran, ran_by_all}

no-truth : true ≡ false → ⊥
no-truth e = cc

-- a bucket that is not before another one is the same or later, and not both
pub one-of-two : (b c : Bucket) → is_before c b ≡ false → cond (is_same b c) 1 0 + cond (is_before b c) 1 0 ≡ 1
one-of-two Prepare Prepare e = refl
one-of-two Prepare Roots e = refl
one-of-two Prepare Closure e = refl
one-of-two Prepare Release e = refl
one-of-two Roots Prepare e = absurd (no-truth e)
one-of-two Roots Roots e = refl
one-of-two Roots Closure e = refl
one-of-two Roots Release e = refl
one-of-two Closure Prepare e = absurd (no-truth e)
one-of-two Closure Roots e = absurd (no-truth e)
one-of-two Closure Closure e = refl
one-of-two Closure Release e = refl
one-of-two Release Prepare e = absurd (no-truth e)
one-of-two Release Roots e = absurd (no-truth e)
one-of-two Release Closure e = absurd (no-truth e)
one-of-two Release Release e = refl

module _ {X : Type 0} where
  length-cond : (t : Bool) (x : X) (xs : List X) → length (cond t (x ∷ xs) xs) ≡ cond t 1 0 + length xs
  length-cond true x xs = omega arith
  length-cond false x xs = omega arith

module _ {T : Type 0} where
  pub now-or-later : (b : Bucket) (ps : List (Packet T)) → All (λ p. IsSameOrLater b p.bucket) ps → length ps ≡ length (packets_of b ps) + length (packets_after b ps)
  now-or-later b [] h = refl
  now-or-later b (p ∷ ps) h =
      let one = one-of-two b p.bucket (All-head (λ p. IsSameOrLater b p.bucket) p ps h) in
      let rest = now-or-later b ps (All-tail (λ p. IsSameOrLater b p.bucket) p ps h) in
      let now : length (packets_of b (p ∷ ps)) ≡ cond (is_same b p.bucket) 1 0 + length (packets_of b ps) = length-cond (is_same b p.bucket) p (packets_of b ps) in
      let after : length (packets_after b (p ∷ ps)) ≡ cond (is_before b p.bucket) 1 0 + length (packets_after b ps) = length-cond (is_before b p.bucket) p (packets_after b ps) in
      omega arith

module _ {W T : Type 0} (steps : W → Packet T → List (Packet T) → W → Type 0) (f : W → ℕ) where
  stays : ((w v : W) (p : Packet T) (q : List (Packet T)) → steps w p q v → f v ≡ f w) → (w : W) (log : List (Step W T)) (v : W) → Reaches steps w log v → f v ≡ f w
  stays step w [] v h = ap f h
  stays step w (s ∷ log) v h = stays step s.worker log v h.1 ∙ step w s.worker s.packet s.pushed h.0

  pub all-stay : ((w v : W) (p : Packet T) (q : List (Packet T)) → steps w p q v → f v ≡ f w) → (ws : List W) (logs : List (List (Step W T))) (vs : List W) → AllReach steps ws logs vs → map f vs ≡ map f ws
  all-stay step [] [] [] h = refl
  all-stay step (w ∷ ws) (log ∷ logs) (v ∷ vs) h = ap (λ n. n ∷ map f vs) (stays step w log v h.0) ∙ ap (λ l. f w ∷ l) (all-stay step ws logs vs h.1)
  all-stay step [] [] (v ∷ vs) h = absurd h
  all-stay step [] (log ∷ logs) vs h = absurd h
  all-stay step (w ∷ ws) [] vs h = absurd h
  all-stay step (w ∷ ws) (log ∷ logs) [] h = absurd h

  rises : ((w v : W) (p : Packet T) (q : List (Packet T)) → steps w p q v → f v ≡ f w + 1) → (w : W) (log : List (Step W T)) (v : W) → Reaches steps w log v → f v ≡ f w + length (ran log)
  rises step w [] v h = let e = ap f h in omega arith
  rises step w (s ∷ log) v h =
      let rest = rises step s.worker log v h.1 in let here = step w s.worker s.packet s.pushed h.0 in omega arith

  pub all-rise : ((w v : W) (p : Packet T) (q : List (Packet T)) → steps w p q v → f v ≡ f w + 1) → (ws : List W) (logs : List (List (Step W T))) (vs : List W) → AllReach steps ws logs vs
      → sum_by f vs ≡ sum_by f ws + length (ran_by_all logs)
  all-rise step [] [] [] h = refl
  all-rise step (w ∷ ws) (log ∷ logs) (v ∷ vs) h =
      let here = rises step w log v h.0 in let rest = all-rise step ws logs vs h.1 in
      let all : length (ran_by_all (log ∷ logs)) ≡ length (ran log) + length (ran_by_all logs) = length-append (ran log) (ran_by_all logs) in
      let before = sum_by-cons f w ws in let after = sum_by-cons f v vs in
      omega arith
  all-rise step [] [] (v ∷ vs) h = absurd h
  all-rise step [] (log ∷ logs) vs h = absurd h
  all-rise step (w ∷ ws) [] vs h = absurd h
  all-rise step (w ∷ ws) (log ∷ logs) [] h = absurd h
