-- Workers that run no packet.
use Rattle.std.proofs.Common.{◌≡◌, ℕ, ◌<◌, List, [], ◌∷◌, ◌++◌, take, drop, min, max, All, refl, sym, ap, ◌∙◌, subst, inl, inr, arith}
use Rattle.std.specs.List.{flat_map}
use Rattle.std.specs.List.Sorted.{IsPermutation}
use Rattle.std.proofs.lemmas.List.{append-nil, take_all, drop_all}
use Rattle.std.proofs.lemmas.Grind.{flat_map-append}
use Rattle.work_packets.specs.declared.packet.Bucket.{Bucket}
use Rattle.work_packets.specs.declared.packet.Packet.{Packet}
use Rattle.work_packets.specs.Awaiting.{MayAwait}
use Rattle.work_packets.specs.Buckets.{IsSameOrLater}
use Rattle.work_packets.specs.Packets.{packets_of, packets_after}
use Rattle.work_packets.specs.Steps.{Step, BucketWork, AllReach, RunsBucket, ran, pushed, ran_by_all, pushed_by_all}

module _ {W T : Type 0} where
  abbrev pub idle_logs : List W → List (List (Step W T))
  idle_logs [] = []
  idle_logs (w ∷ ws) = [] ∷ idle_logs ws

  -- what workers did with a bucket, by its members
  abbrev pub worked : Bucket → List W → List (Packet T) → List (List (Step W T)) → List W → List (Packet T) → BucketWork W T
  worked b ws first logs vs later = record { bucket = b; before = ws; first = first; logs = logs; after = vs; later = later }

  flat-idle : (f : List (Step W T) → List (Packet T)) → f [] ≡ [] → (idle : List W) → flat_map f (idle_logs idle) ≡ []
  flat-idle f e [] = refl
  flat-idle f e (w ∷ ws) = ap (λ l. l ++ flat_map f (idle_logs ws)) e ∙ flat-idle f e ws

  flat-same : (f : List (Step W T) → List (Packet T)) → f [] ≡ [] → (logs : List (List (Step W T))) (idle : List W) → flat_map f (logs ++ idle_logs idle) ≡ flat_map f logs
  flat-same f e logs idle = flat_map-append f logs (idle_logs idle) ∙ ap (λ l. flat_map f logs ++ l) (flat-idle f e idle) ∙ append-nil (flat_map f logs)

module _ {W T : Type 0} (steps : W → Packet T → List (Packet T) → W → Type 0) where
  idle-reach : (idle : List W) → AllReach steps idle (idle_logs idle) idle
  idle-reach [] = tt
  idle-reach (w ∷ ws) = (refl, idle-reach ws)

  reach-with-idle : (ws : List W) (logs : List (List (Step W T))) (vs idle : List W) → AllReach steps ws logs vs → AllReach steps (ws ++ idle) (logs ++ idle_logs idle) (vs ++ idle)
  reach-with-idle [] [] [] idle h = idle-reach idle
  reach-with-idle (w ∷ ws) (log ∷ logs) (v ∷ vs) idle h = (h.0, reach-with-idle ws logs vs idle h.1)
  reach-with-idle [] [] (v ∷ vs) idle h = absurd h
  reach-with-idle [] (log ∷ logs) vs idle h = absurd h
  reach-with-idle (w ∷ ws) [] vs idle h = absurd h
  reach-with-idle (w ∷ ws) (log ∷ logs) [] idle h = absurd h

  -- more workers, who do nothing
  pub with-idle : (b : Bucket) (ws : List W) (first : List (Packet T)) (logs : List (List (Step W T))) (vs : List W) (later : List (Packet T)) (idle : List W)
      → RunsBucket steps (worked b ws first logs vs later) → RunsBucket steps (worked b (ws ++ idle) first (logs ++ idle_logs idle) (vs ++ idle) later)
  with-idle b ws first logs vs later idle h =
      let as-pushed : pushed_by_all logs ≡ pushed_by_all (logs ++ idle_logs idle) = sym (flat-same (λ log. pushed log) refl logs idle) in
      let as-ran : ran_by_all logs ≡ ran_by_all (logs ++ idle_logs idle) = sym (flat-same (λ log. ran log) refl logs idle) in
      record {
        reached = reach-with-idle ws logs vs idle h.reached;
        once = subst (λ l. IsPermutation (first ++ packets_of b l) (ran_by_all (logs ++ idle_logs idle))) as-pushed (subst (IsPermutation (first ++ packets_of b (pushed_by_all logs))) as-ran h.once);
        left = subst (λ l. IsPermutation (packets_after b l) later) as-pushed h.left;
        order = subst (All (λ p. IsSameOrLater b p.bucket)) as-pushed h.order;
      }

module _ {X : Type 0} where
  pub one-taken : (n : ℕ) (x : X) (xs : List X) → xs ≡ x ∷ [] → 0 < n → take n xs ≡ x ∷ []
  one-taken n x xs e lt = ap (take n) e ∙ take_all n (x ∷ []) lt

  pub none-dropped : (n : ℕ) (x : X) (xs : List X) → xs ≡ x ∷ [] → 0 < n → drop n xs ≡ []
  none-dropped n x xs e lt = ap (drop n) e ∙ drop_all n (x ∷ []) lt

module _ {S W T : Type 0} (awaits : S → W → List (Packet T) → Type 0) where
  pub taken-await : (n : ℕ) (ws : List W) (first : List (Packet T)) → 0 < n → MayAwait awaits ws first → MayAwait awaits (take n ws) first
  taken-await n ws first lt (inl h) = inl (h.0, h.1, one-taken n h.1 ws h.2 lt, h.3)
  taken-await n ws first lt (inr h) = inr h

-- some worker is busy
pub some-busy : (n m : ℕ) → 0 < n → 0 < min n (max 1 m)
some-busy n m lt = omega arith
