-- What workers give away with packets and take in with packets.
use Rattle.std.proofs.Common.{◌≡◌, ℕ, ◌+◌, Bool, true, false, cond, List, [], ◌∷◌, ◌++◌, All, refl, ap, arith}
use Rattle.std.specs.List.{sum_by}
use Rattle.std.proofs.lemmas.List.Sums.{sum_by-cons, sum_by-append}
use Rattle.std.proofs.lemmas.List.Sorted.{sum_by-IsPermutation}
use Rattle.std.proofs.lemmas.List.Elements.{All-head, All-tail}
use Rattle.work_packets.specs.declared.packet.Bucket.{Bucket}
use Rattle.work_packets.specs.declared.packet.Packet.{Packet}
use Rattle.work_packets.specs.Buckets.{is_before, is_same, IsSameOrLater}
use Rattle.work_packets.specs.Packets.{packets_of, packets_after}
use Rattle.work_packets.specs.Steps.{Step, BucketWork, Reaches, AllReach, RunsBucket, ran, ran_by_all, pushed, pushed_by_all}
use Rattle.work_packets.proofs.Reached.{one-of-two}

module _ {T : Type 0} (g : Packet T → ℕ) where
  sum-cond : (t : Bool) (p : Packet T) (ps : List (Packet T)) → sum_by g (cond t (p ∷ ps) ps) ≡ cond t (g p) 0 + sum_by g ps
  sum-cond true p ps = sum_by-cons g p ps
  sum-cond false p ps = omega arith

  one-of-two-counts : (s t : Bool) (n : ℕ) → cond s 1 0 + cond t 1 0 ≡ 1 → cond s n 0 + cond t n 0 ≡ n
  one-of-two-counts true true n e = absurd (omega arith)
  one-of-two-counts true false n e = omega arith
  one-of-two-counts false true n e = omega arith
  one-of-two-counts false false n e = absurd (omega arith)

  -- the packets of a bucket and of later ones are all packets
  sum-now-or-later : (b : Bucket) (ps : List (Packet T)) → All (λ p. IsSameOrLater b p.bucket) ps → sum_by g ps ≡ sum_by g (packets_of b ps) + sum_by g (packets_after b ps)
  sum-now-or-later b [] h = refl
  sum-now-or-later b (p ∷ ps) h =
      let one = one-of-two-counts (is_same b p.bucket) (is_before b p.bucket) (g p) (one-of-two b p.bucket (All-head (λ p. IsSameOrLater b p.bucket) p ps h)) in
      let rest = sum-now-or-later b ps (All-tail (λ p. IsSameOrLater b p.bucket) p ps h) in
      let now : sum_by g (packets_of b (p ∷ ps)) ≡ cond (is_same b p.bucket) (g p) 0 + sum_by g (packets_of b ps) = sum-cond (is_same b p.bucket) p (packets_of b ps) in
      let after : sum_by g (packets_after b (p ∷ ps)) ≡ cond (is_before b p.bucket) (g p) 0 + sum_by g (packets_after b ps) = sum-cond (is_before b p.bucket) p (packets_after b ps) in
      let all = sum_by-cons g p ps in omega arith

  module _ {W : Type 0} (steps : W → Packet T → List (Packet T) → W → Type 0) (gave took : W → ℕ)
      (step : (w v : W) (p : Packet T) (q : List (Packet T)) → steps w p q v → (gave v ≡ gave w + sum_by g q) × (took v ≡ took w + g p)) where
    -- what one worker gave and took
    given : (w : W) (log : List (Step W T)) (v : W) → Reaches steps w log v → (gave v ≡ gave w + sum_by g (pushed log)) × (took v ≡ took w + sum_by g (ran log))
    given w [] v h = (let e = ap gave h in omega arith, let e = ap took h in omega arith)
    given w (s ∷ log) v h =
        let rest = given s.worker log v h.1 in let here = step w s.worker s.packet s.pushed h.0 in
        let a = sum_by-append g s.pushed (pushed log) in let b = sum_by-cons g s.packet (ran log) in
        let c = rest.0 in let d = rest.1 in let e = here.0 in let f = here.1 in (omega arith, omega arith)

    -- what all workers gave and took
    all-given : (ws : List W) (logs : List (List (Step W T))) (vs : List W) → AllReach steps ws logs vs
        → (sum_by gave vs ≡ sum_by gave ws + sum_by g (pushed_by_all logs)) × (sum_by took vs ≡ sum_by took ws + sum_by g (ran_by_all logs))
    all-given [] [] [] h = (refl, refl)
    all-given (w ∷ ws) (log ∷ logs) (v ∷ vs) h =
        let here = given w log v h.0 in let rest = all-given ws logs vs h.1 in
        let a = sum_by-append g (pushed log) (pushed_by_all logs) in let b = sum_by-append g (ran log) (ran_by_all logs) in
        let c = sum_by-cons gave w ws in let d = sum_by-cons gave v vs in let e = sum_by-cons took w ws in let f = sum_by-cons took v vs in
        let i = here.0 in let j = here.1 in let k = rest.0 in let l = rest.1 in (omega arith, omega arith)
    all-given [] [] (v ∷ vs) h = absurd h
    all-given [] (log ∷ logs) vs h = absurd h
    all-given (w ∷ ws) [] vs h = absurd h
    all-given (w ∷ ws) (log ∷ logs) [] h = absurd h

    pub balance : (work : BucketWork W T) → RunsBucket steps work
        → sum_by took work.after + sum_by gave work.before + sum_by g work.later ≡ sum_by gave work.after + sum_by took work.before + sum_by g work.first
    balance work h =
        let b = work.bucket in let logs = work.logs in
        let all = all-given work.before logs work.after h.reached in
        let run = sum_by-IsPermutation g (work.first ++ packets_of b (pushed_by_all logs)) (ran_by_all logs) h.once in
        let sum = sum_by-append g work.first (packets_of b (pushed_by_all logs)) in
        let left = sum_by-IsPermutation g (packets_after b (pushed_by_all logs)) work.later h.left in
        let both = sum-now-or-later b (pushed_by_all logs) h.order in
        let i = all.0 in let j = all.1 in omega arith
