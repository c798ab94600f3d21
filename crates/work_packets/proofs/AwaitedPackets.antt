-- The packets that a worker awaits, from step to step and from the first packets to those that are left.
use Rattle.std.proofs.Common.{◌≡◌, Bool, true, false, not, cond, List, [], ◌∷◌, ◌++◌, map, All, get_or, length, refl, sym, ap, ◌∙◌, subst, inl, inr, arith}
use Rattle.std.specs.List.{AllZip, flat_map}
use Rattle.std.proofs.lemmas.List.{append-nil}
use Rattle.std.proofs.lemmas.List.Elements.{All-cons, All-nil, All-head, All-tail}
use Rattle.std.proofs.lemmas.List.Sorted.{IsPermutation-refl, IsPermutation-sym, IsPermutation-trans, IsPermutation-cons, IsPermutation-append, IsPermutation-append_left, IsPermutation-middle}
use Rattle.std.specs.List.Sorted.{IsPermutation}
use Rattle.work_packets.specs.declared.packet.Bucket.{Bucket}
use Rattle.work_packets.specs.declared.packet.Packet.{Packet}
use Rattle.work_packets.specs.declared.plain_split.Finished.{Finished}
use Rattle.work_packets.specs.declared.share.Share.{Share}
use Rattle.work_packets.specs.Awaiting.{AwaitsAll, MayAwait}
use Rattle.work_packets.specs.Buckets.{is_before, is_same, IsSameOrLater}
use Rattle.work_packets.specs.Packets.{packets_of, packets_after}
use Rattle.work_packets.specs.Shares.{packets_in, Finishes}
use Rattle.work_packets.proofs.BucketOrder.{after-or-same}
use Rattle.work_packets.proofs.Pieces.{piece, join, rearranged}

module _ {T : Type 0} where
  one-side : (p : Packet T) (ps of after : List (Packet T)) (same later : Bool) → later ≡ not same → IsPermutation ps (of ++ after) → IsPermutation (p ∷ ps) (cond same (p ∷ of) of ++ cond later (p ∷ after) after)
  one-side p ps of after true true e h = absurd (let wrong : true ≡ false = e in cc)
  one-side p ps of after true false e h = IsPermutation-cons p _ _ h
  one-side p ps of after false true e h = IsPermutation-trans _ _ _ (IsPermutation-cons p _ _ h) (IsPermutation-sym _ _ (IsPermutation-middle of p after))
  one-side p ps of after false false e h = absurd (let wrong : false ≡ true = e in cc)

  -- packets of a bucket or later ones are those of the bucket and the later ones
  two-sides : (b : Bucket) (ps : List (Packet T)) → All (λ q. IsSameOrLater b q.bucket) ps → IsPermutation ps (packets_of b ps ++ packets_after b ps)
  two-sides b [] h = IsPermutation-refl []
  two-sides b (p ∷ ps) h = one-side p ps (packets_of b ps) (packets_after b ps) (is_same b p.bucket) (is_before b p.bucket) (after-or-same b p.bucket _ refl (All-head (λ q. IsSameOrLater b q.bucket) p ps h))
      (two-sides b ps (All-tail (λ q. IsSameOrLater b q.bucket) p ps h))

module _ {S W T : Type 0} (awaits : S → W → List (Packet T) → Type 0) where
  pub reordered : (s : S) (w : W) (ps qs : List (Packet T)) → IsPermutation ps qs → AwaitsAll awaits s w ps → AwaitsAll awaits s w qs
  reordered s w ps qs e h = λ rs k. h rs (IsPermutation-trans ps qs rs e k)

  -- the last packet to run comes first
  pub next-first : (s : S) (w : W) (todo later : List (Packet T)) (p : Packet T) → AwaitsAll awaits s w ((todo ++ p ∷ []) ++ later) → AwaitsAll awaits s w (p ∷ (todo ++ later))
  next-first s w todo later p h =
      let turned : IsPermutation ((todo ++ p ∷ []) ++ later) ((p ∷ []) ++ (todo ++ later)) = rearranged (todo ∷ (p ∷ []) ∷ later ∷ []) (join (join (piece 0) (piece 1)) (piece 2)) (join (piece 1) (join (piece 0) (piece 2))) refl in
      reordered s w _ (p ∷ (todo ++ later)) turned h

  -- what was pushed joins the packets of its bucket or the later ones
  pub sorted-out : (b : Bucket) (s : S) (w : W) (todo later pushed todo' later' : List (Packet T)) → All (λ q. IsSameOrLater b q.bucket) pushed
      → IsPermutation (todo ++ packets_of b pushed) todo' → IsPermutation (later ++ packets_after b pushed) later' → AwaitsAll awaits s w (pushed ++ (todo ++ later)) → AwaitsAll awaits s w (todo' ++ later')
  sorted-out b s w todo later pushed todo' later' order now after h =
      let of = packets_of b pushed in let rest = packets_after b pushed in
      let halves : IsPermutation (pushed ++ (todo ++ later)) ((of ++ rest) ++ (todo ++ later)) = IsPermutation-append_left (todo ++ later) _ _ (two-sides b pushed order) in
      let turned : IsPermutation ((of ++ rest) ++ (todo ++ later)) ((todo ++ of) ++ (later ++ rest)) =
      rearranged (of ∷ rest ∷ todo ∷ later ∷ []) (join (join (piece 0) (piece 1)) (join (piece 2) (piece 3))) (join (join (piece 2) (piece 0)) (join (piece 3) (piece 1))) refl in
      reordered s w _ _ (IsPermutation-trans _ _ _ halves (IsPermutation-trans _ _ _ turned (IsPermutation-append _ _ _ _ now after))) h

  pub dealt-awaited : (ws vs : List W) (first dealt : List (Packet T)) → vs ≡ ws → IsPermutation first dealt → MayAwait awaits ws first → MayAwait awaits vs dealt
  dealt-awaited ws vs first dealt same e (inl h) = inl (h.0, h.1, same ∙ h.2, reordered h.0 h.1 first dealt e h.3)
  dealt-awaited ws vs first dealt same e (inr h) = inr h

  -- the worker of each share awaits its packets
  pub each-awaits : (shares : List (Share T W)) → MayAwait awaits (map (λ s. s.worker) shares) (packets_in shares) → All (λ s. (start : S) × AwaitsAll awaits start s.worker s.packets.items) shares
  each-awaits [] h = All-nil _
  each-awaits (s ∷ []) (inl h) =
      let same : s.worker ≡ h.1 = ap (λ l. get_or l 0 h.1) h.2 in
      let all : AwaitsAll awaits h.0 h.1 s.packets.items = subst (AwaitsAll awaits h.0 h.1) (append-nil s.packets.items) h.3 in
      All-cons (λ s. (start : S) × AwaitsAll awaits start s.worker s.packets.items) s [] (h.0, subst (λ w. AwaitsAll awaits h.0 w s.packets.items) (sym same) all) (All-nil _)
  each-awaits (s ∷ t ∷ shares) (inl h) = absurd (let one = ap length h.2 in omega arith)
  each-awaits (s ∷ shares) (inr h) = λ k d lt. h _ _

module _ {S W T H : Type 0} (home : W → H) (takes : H → Packet T → Type 0) (awaits : S → W → List (Packet T) → Type 0) (b : Bucket) (steps : W → Packet T → List (Packet T) → W → Type 0) where
  -- the only worker awaits what is left
  pub one-awaits : (shares : List (Share T W)) (fs : List (Finished T W)) → AllZip (Finishes home takes awaits b steps) shares fs → (start : S) (w : W) → map (λ s. s.worker) shares ≡ w ∷ []
      → AwaitsAll awaits start w (packets_in shares) → (v : W) × (map (λ f. f.worker) fs ≡ v ∷ []) × AwaitsAll awaits start v (flat_map (λ f. f.later.items) fs)
  one-awaits [] fs z start w e h = absurd (let none = ap length e in omega arith)
  one-awaits (s ∷ []) [] z start w e h = absurd z
  one-awaits (s ∷ []) (f ∷ []) z start w e h =
      let same : s.worker ≡ w = ap (λ l. get_or l 0 w) e in
      let own : AwaitsAll awaits start w s.packets.items = subst (AwaitsAll awaits start w) (append-nil s.packets.items) h in
      let left : AwaitsAll awaits start f.worker f.later.items = z.0.awaits_later start (subst (λ w. AwaitsAll awaits start w s.packets.items) (sym same) own) in
      (f.worker, refl, subst (AwaitsAll awaits start f.worker) (sym (append-nil f.later.items)) left)
  one-awaits (s ∷ []) (f ∷ g ∷ fs) z start w e h = absurd z.1
  one-awaits (s ∷ t ∷ shares) fs z start w e h = absurd (let one = ap length e in omega arith)
