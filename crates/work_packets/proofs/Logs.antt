-- One step more of a worker.
use Rattle.std.proofs.Common.{◌≡◌, Bool, true, false, cond, List, [], ◌∷◌, ◌++◌, All, refl, sym, ap, ◌∙◌, subst, append_assoc, length, arith}
use Rattle.std.specs.List.{filter}
use Rattle.std.proofs.lemmas.List.{append-nil, map-append}
use Rattle.std.proofs.lemmas.Grind.{flat_map-append}
use Rattle.std.proofs.lemmas.List.Elements.{All-append, All-nil, filter-append, filter_passes}
use Rattle.std.proofs.lemmas.List.Sorted.{IsPermutation-refl, IsPermutation-trans, IsPermutation-append_right, IsPermutation-append_left}
use Rattle.std.specs.List.Sorted.{IsPermutation}
use Rattle.work_packets.specs.declared.packet.Bucket.{Bucket}
use Rattle.work_packets.specs.declared.packet.Packet.{Packet}
use Rattle.work_packets.specs.Buckets.{is_same, IsSameOrLater}
use Rattle.work_packets.specs.Packets.{packets_of, packets_after}
use Rattle.work_packets.specs.Steps.{Step, ShareWork, Reaches, AllReach, ran, pushed, RunsShare}
use Rattle.work_packets.proofs.BucketOrder.{one-bucket}
use Rattle.work_packets.proofs.Pieces.{piece, join, rearranged}

module _ {W T : Type 0} where
  Reaches-more : (steps : W → Packet T → List (Packet T) → W → Type 0) (w : W) (log : List (Step W T)) (u : W) (s : Step W T) → Reaches steps w log u → steps u s.packet s.pushed s.worker → Reaches steps w (log ++ s ∷ []) s.worker
  Reaches-more steps w [] u s same h = (subst (λ x. steps x s.packet s.pushed s.worker) same h, refl)
  Reaches-more steps w (x ∷ log) u s r h = (r.0, Reaches-more steps x.worker log u s r.1 h)

  ran-more : (log : List (Step W T)) (s : Step W T) → ran (log ++ s ∷ []) ≡ ran log ++ s.packet ∷ []
  ran-more log s = map-append (λ (x : Step W T). x.packet) log (s ∷ [])

  pushed-more : (log : List (Step W T)) (s : Step W T) → pushed (log ++ s ∷ []) ≡ pushed log ++ s.pushed
  pushed-more log s = flat_map-append (λ (x : Step W T). x.pushed) log (s ∷ []) ∙ ap (λ l. pushed log ++ l) (append-nil s.pushed)

module _ {X : Type 0} where
  -- the packet at the end of `todo` is run, and those pushed join the others
  goes-on : (first a more ran todo p todo' : List X) → IsPermutation (first ++ a) (ran ++ (todo ++ p)) → IsPermutation (todo ++ more) todo' → IsPermutation (first ++ (a ++ more)) ((ran ++ p) ++ todo')
  goes-on first a more ran todo p todo' h k =
      IsPermutation-trans _ _ _ (subst (IsPermutation (first ++ (a ++ more))) (sym (append_assoc first a more)) (IsPermutation-refl _))
      (IsPermutation-trans _ _ _ (IsPermutation-append_left more _ _ h)
      (IsPermutation-trans _ _ _
      (rearranged (ran ∷ todo ∷ p ∷ more ∷ []) (join (join (piece 0) (join (piece 1) (piece 2))) (piece 3)) (join (join (piece 0) (piece 2)) (join (piece 1) (piece 3))) refl)
      (IsPermutation-append_right (ran ++ p) _ _ k)))

module _ {W T : Type 0} where
  -- what a worker did, by its members
  abbrev pub did : Bucket → W → List (Packet T) → List (Step W T) → W → List (Packet T) → List (Packet T) → ShareWork W T
  did b w first log u todo later = record { bucket = b; before = w; first = first; log = log; after = u; todo = todo; later = later }

  pub share-begins : (steps : W → Packet T → List (Packet T) → W → Type 0) (b : Bucket) (w : W) (first : List (Packet T)) → RunsShare steps (did b w first [] w first [])
  share-begins steps b w first = record {
    reached = refl;
    once = subst (λ l. IsPermutation l first) (sym (append-nil first)) (IsPermutation-refl first);
    left = IsPermutation-refl [];
    order = All-nil _;
  }

  pub share-goes-on : (steps : W → Packet T → List (Packet T) → W → Type 0) (b : Bucket) (w : W) (first : List (Packet T)) (log : List (Step W T)) (u : W) (s : Step W T) (todo todo' later later' : List (Packet T))
      → RunsShare steps (did b w first log u (todo ++ s.packet ∷ []) later) → steps u s.packet s.pushed s.worker → IsPermutation (todo ++ packets_of b s.pushed) todo' → IsPermutation (later ++ packets_after b s.pushed) later' → All (λ p. IsSameOrLater b p.bucket) s.pushed
      → RunsShare steps (did b w first (log ++ s ∷ []) s.worker todo' later')
  share-goes-on steps b w first log u s todo todo' later later' h step now after order =
      let of : packets_of b (pushed (log ++ s ∷ [])) ≡ packets_of b (pushed log) ++ packets_of b s.pushed = ap (packets_of b) (pushed-more log s) ∙ filter-append _ (pushed log) s.pushed in
      let rest : packets_after b (pushed (log ++ s ∷ [])) ≡ packets_after b (pushed log) ++ packets_after b s.pushed = ap (packets_after b) (pushed-more log s) ∙ filter-append _ (pushed log) s.pushed in
      record {
        reached = Reaches-more steps w log u s h.reached step;
        once = subst (λ l. IsPermutation (first ++ l) (ran (log ++ s ∷ []) ++ todo')) (sym of)
            (subst (λ l. IsPermutation (first ++ (packets_of b (pushed log) ++ packets_of b s.pushed)) (l ++ todo')) (sym (ran-more log s))
            (goes-on first _ _ (ran log) todo (s.packet ∷ []) todo' h.once now));
        left = subst (λ l. IsPermutation l later') (sym rest) (IsPermutation-trans _ _ _ (IsPermutation-append_left (packets_after b s.pushed) _ _ h.left) after);
        order = subst (All (λ p. IsSameOrLater b p.bucket)) (sym (pushed-more log s)) (All-append (λ p. IsSameOrLater b p.bucket) (pushed log) s.pushed h.order order);
      }

module _ {T : Type 0} where
  pub in-bucket : (b : Bucket) (ps : List (Packet T)) → All (λ p. p.bucket ≡ b) (packets_of b ps)
  in-bucket b ps = λ k d lt. sym (one-bucket b _ (filter_passes (λ (p : Packet T). is_same b p.bucket) ps k d lt))

module _ {X : Type 0} where
  -- the last one of `from` passes the test and goes to the end of the other list
  pub moves-over : (test : X → Bool) (x : X) (rest from all to to' : List X) → test x ≡ true → from ≡ rest ++ x ∷ [] → to' ≡ to ++ x ∷ [] → IsPermutation all (to ++ filter test from) → IsPermutation all (to' ++ filter test rest)
  moves-over test x rest from all to to' passes e e' h =
      let split : filter test from ≡ filter test rest ++ x ∷ [] = ap (filter test) e ∙ filter-append test rest (x ∷ []) ∙ ap (λ t. filter test rest ++ cond t (x ∷ []) []) passes in
      IsPermutation-trans _ _ _ h (subst (λ l. IsPermutation (to ++ l) (to' ++ filter test rest)) (sym split)
      (subst (λ l. IsPermutation (to ++ (filter test rest ++ x ∷ [])) (l ++ filter test rest)) (sym e')
      (rearranged (to ∷ filter test rest ∷ (x ∷ []) ∷ []) (join (piece 0) (join (piece 1) (piece 2))) (join (join (piece 0) (piece 2)) (piece 1)) refl)))

  -- it fails the test
  pub stays-out : (test : X → Bool) (x : X) (rest from all to : List X) → test x ≡ false → from ≡ rest ++ x ∷ [] → IsPermutation all (to ++ filter test from) → IsPermutation all (to ++ filter test rest)
  stays-out test x rest from all to fails e h =
      let split : filter test from ≡ filter test rest = ap (filter test) e ∙ filter-append test rest (x ∷ []) ∙ ap (λ t. filter test rest ++ cond t (x ∷ []) []) fails ∙ append-nil (filter test rest) in
      subst (λ l. IsPermutation all (to ++ l)) split h

module _ {W T : Type 0} where
  pub AllReach-lengths : (steps : W → Packet T → List (Packet T) → W → Type 0) (ws : List W) (logs : List (List (Step W T))) (vs : List W) → AllReach steps ws logs vs → length vs ≡ length ws
  AllReach-lengths steps [] [] [] h = refl
  AllReach-lengths steps (w ∷ ws) (log ∷ logs) (v ∷ vs) h = let e = AllReach-lengths steps ws logs vs h.1 in omega arith
  AllReach-lengths steps [] [] (v ∷ vs) h = absurd h
  AllReach-lengths steps [] (log ∷ logs) vs h = absurd h
  AllReach-lengths steps (w ∷ ws) [] vs h = absurd h
  AllReach-lengths steps (w ∷ ws) (log ∷ logs) [] h = absurd h
