-- The packets that are dealt to a worker are put into its deque, or refused.
use Rattle.std.proofs.Common.{◌≡◌, true, false, cond, List, [], ◌∷◌, ◌++◌, All, length, refl, sym, ap, ◌∙◌, subst}
use Rattle.std.specs.List.Sorted.{IsPermutation}
use Rattle.std.proofs.lemmas.List.{nil_from_length}
use Rattle.std.proofs.lemmas.List.Elements.{All-head, All-tail}
use Rattle.std.proofs.lemmas.List.Sorted.{length_permutation}
use Rattle.work_packets.specs.declared.packet.Bucket.{Bucket}
use Rattle.work_packets.specs.declared.packet.Packet.{Packet}
use Rattle.work_packets.specs.Buckets.{is_same, is_before, IsSameOrLater}
use Rattle.work_packets.specs.Packets.{packets_of, packets_after}
use Rattle.work_packets.proofs.BucketOrder.{same-itself, never-before-itself}
use Rattle.steal_pool.specs.Served.{IsServed}
use Rattle.steal_pool.proofs.Services.{served-begins}

module _ {T : Type 0} (b : Bucket) where
  pub in-order : (ps : List (Packet T)) → All (λ p. p.bucket ≡ b) ps → All (λ p. IsSameOrLater b p.bucket) ps
  in-order ps h = λ k d lt. subst (λ c. is_before c b ≡ false) (sym (h k d lt)) (never-before-itself b)

  of-itself : (ps : List (Packet T)) → All (λ p. p.bucket ≡ b) ps → packets_of b ps ≡ ps
  of-itself [] h = refl
  of-itself (p ∷ ps) h =
      let is : is_same b p.bucket ≡ true = subst (λ c. is_same b c ≡ true) (sym (All-head (λ p. p.bucket ≡ b) p ps h)) (same-itself b) in
      ap (λ t. cond t (p ∷ packets_of b ps) (packets_of b ps)) is ∙ ap (λ l. p ∷ l) (of-itself ps (All-tail (λ p. p.bucket ≡ b) p ps h))

  none-after : (ps : List (Packet T)) → All (λ p. p.bucket ≡ b) ps → packets_after b ps ≡ []
  none-after [] h = refl
  none-after (p ∷ ps) h =
      let is : is_before b p.bucket ≡ false = subst (λ c. is_before b c ≡ false) (sym (All-head (λ p. p.bucket ≡ b) p ps h)) (never-before-itself b) in
      ap (λ t. cond t (p ∷ packets_after b ps) (packets_after b ps)) is ∙ none-after ps (All-tail (λ p. p.bucket ≡ b) p ps h)

module _ {W T H : Type 0} (home : W → H) (takes : H → Packet T → Type 0) (steps : W → Packet T → List (Packet T) → W → Type 0) (b : Bucket) where
  pub begun : (w : W) (ps put0 put us backlog0 backlog rs later0 later : List (Packet T)) → All (λ p. p.bucket ≡ b) ps → put0 ≡ [] → backlog0 ≡ [] → later0 ≡ [] → put ≡ put0 ++ us → backlog ≡ backlog0 ++ rs
      → IsPermutation (packets_of b ps) (us ++ rs) → IsPermutation (later0 ++ packets_after b ps) later → IsServed home takes steps b w ps w put [] backlog later
  begun w ps put0 put us backlog0 backlog rs later0 later in-b e0 f0 g0 e f k m =
      let empty : later0 ++ packets_after b ps ≡ [] = ap (λ l. l ++ packets_after b ps) g0 ∙ none-after b ps in-b in
      let nothing : length later ≡ 0 = length_permutation _ _ m ∙ ap length empty in
      let is-put : put ≡ us = e ∙ ap (λ l. l ++ us) e0 in let is-refused : backlog ≡ rs = f ∙ ap (λ l. l ++ rs) f0 in
      let dealt : IsPermutation ps (us ++ rs) = subst (λ l. IsPermutation l (us ++ rs)) (of-itself b ps in-b) k in
      subst (λ l. IsServed home takes steps b w ps w l [] backlog later) (sym is-put)
      (subst (λ l. IsServed home takes steps b w ps w us [] l later) (sym is-refused)
      (subst (λ l. IsServed home takes steps b w ps w us [] rs l) (sym (nil_from_length later nothing)) (served-begins home takes steps b w ps us rs dealt)))
