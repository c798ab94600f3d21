-- One worker goes on from packet to packet.
use Rattle.std.proofs.Common.{◌≡◌, ◌⊎◌, inl, inr, ℕ, ◌+◌, ◌≤◌, length, arith, List, [], ◌∷◌, ◌++◌, All, sym, refl, ap, ◌∙◌, subst, append_assoc}
use Rattle.std.proofs.lemmas.List.{append-nil, length-append, map-append}
use Rattle.std.proofs.lemmas.Grind.{flat_map-append}
use Rattle.std.proofs.lemmas.List.Elements.{All-append, All-nil, All-filter, filter-append}
use Rattle.std.specs.List.Sorted.{IsPermutation}
use Rattle.std.proofs.lemmas.List.Sorted.{All-permutation, IsPermutation-refl, IsPermutation-trans, IsPermutation-append_right, IsPermutation-append_left, IsPermutation-sym, IsPermutation-append, length_permutation}
use Rattle.work_packets.specs.declared.packet.Bucket.{Bucket}
use Rattle.work_packets.specs.declared.packet.Packet.{Packet}
use Rattle.work_packets.specs.Buckets.{IsSameOrLater}
use Rattle.work_packets.specs.Packets.{HasItems, packets_of, packets_after}
use Rattle.work_packets.specs.Steps.{Step, Reaches, ran, pushed}
use Rattle.work_packets.proofs.Pieces.{piece, join, rearranged}
use Rattle.steal_pool.proofs.Moves.{all-right}
use Rattle.work_packets.proofs.Logs.{in-bucket}
use Rattle.std.proofs.lemmas.List.Sums.{length-filter, count_by-le-length}
use Rattle.steal_pool.specs.Served.{IsServed, IsFitting}

module _ {W T : Type 0} where
  reaches-more : (steps : W → Packet T → List (Packet T) → W → Type 0) (w : W) (log : List (Step W T)) (u : W) (s : Step W T) → Reaches steps w log u → steps u s.packet s.pushed s.worker → Reaches steps w (log ++ s ∷ []) s.worker
  reaches-more steps w [] u s same h = (subst (λ x. steps x s.packet s.pushed s.worker) same h, refl)
  reaches-more steps w (x ∷ log) u s r h = (r.0, reaches-more steps x.worker log u s r.1 h)

  ran-more : (log : List (Step W T)) (s : Step W T) → ran (log ++ s ∷ []) ≡ ran log ++ s.packet ∷ []
  ran-more log s = map-append (λ (x : Step W T). x.packet) log (s ∷ [])

  pushed-more : (log : List (Step W T)) (s : Step W T) → pushed (log ++ s ∷ []) ≡ pushed log ++ s.pushed
  pushed-more log s = flat_map-append (λ (x : Step W T). x.pushed) log (s ∷ []) ∙ ap (λ l. pushed log ++ l) (append-nil s.pushed)

module _ {X : Type 0} where
  -- what is pushed is refused, or put
  offered-more : (first now q r put us rs : List X) → IsPermutation (first ++ now) (r ++ put) → IsPermutation q (us ++ rs) → IsPermutation (first ++ (now ++ q)) ((r ++ rs) ++ (put ++ us))
  offered-more first now q r put us rs h k =
      let grouped : IsPermutation (first ++ (now ++ q)) ((first ++ now) ++ q) = rearranged (first ∷ now ∷ q ∷ []) (join (piece 0) (join (piece 1) (piece 2))) (join (join (piece 0) (piece 1)) (piece 2)) refl in
      let turned : IsPermutation ((r ++ put) ++ (us ++ rs)) ((r ++ rs) ++ (put ++ us)) = rearranged (r ∷ put ∷ us ∷ rs ∷ []) (join (join (piece 0) (piece 1)) (join (piece 2) (piece 3))) (join (join (piece 0) (piece 3)) (join (piece 1) (piece 2))) refl in
      IsPermutation-trans _ _ _ grouped (IsPermutation-trans _ _ _ (IsPermutation-append _ _ _ _ h k) turned)

  -- the packet at hand is run, and others are refused
  once-more : (r rs got run backlog p : List X) → IsPermutation (r ++ got) (run ++ (backlog ++ p)) → IsPermutation ((r ++ rs) ++ got) ((run ++ p) ++ (backlog ++ rs))
  once-more r rs got run backlog p h =
      let grouped : IsPermutation ((r ++ rs) ++ got) ((r ++ got) ++ rs) = rearranged (r ∷ rs ∷ got ∷ []) (join (join (piece 0) (piece 1)) (piece 2)) (join (join (piece 0) (piece 2)) (piece 1)) refl in
      let turned : IsPermutation ((run ++ (backlog ++ p)) ++ rs) ((run ++ p) ++ (backlog ++ rs)) = rearranged (run ∷ backlog ∷ p ∷ rs ∷ []) (join (join (piece 0) (join (piece 1) (piece 2))) (piece 3)) (join (join (piece 0) (piece 2)) (join (piece 1) (piece 3))) refl in
      IsPermutation-trans _ _ _ grouped (IsPermutation-trans _ _ _ (IsPermutation-append_left rs _ _ h) turned)

  -- one more is taken, and is at hand
  got-more : (r got got' run held p : List X) → IsPermutation (got ++ p) got' → IsPermutation (r ++ got) (run ++ held) → IsPermutation (r ++ got') (run ++ (held ++ p))
  got-more r got got' run held p k h =
      let grouped : IsPermutation (r ++ (got ++ p)) ((r ++ got) ++ p) = rearranged (r ∷ got ∷ p ∷ []) (join (piece 0) (join (piece 1) (piece 2))) (join (join (piece 0) (piece 1)) (piece 2)) refl in
      let turned : IsPermutation ((run ++ held) ++ p) (run ++ (held ++ p)) = rearranged (run ∷ held ∷ p ∷ []) (join (join (piece 0) (piece 1)) (piece 2)) (join (piece 0) (join (piece 1) (piece 2))) refl in
      IsPermutation-trans _ _ _ (IsPermutation-append_right r _ _ (IsPermutation-sym _ _ k))
      (IsPermutation-trans _ _ _ grouped (IsPermutation-trans _ _ _ (IsPermutation-append_left p _ _ h) turned))

module _ {W T H : Type 0} (home : W → H) (takes : H → Packet T → Type 0) (steps : W → Packet T → List (Packet T) → W → Type 0) (b : Bucket) (w : W) (first : List (Packet T)) where
  -- a packet is run
  pub served-run : (v u : W) (put us rs backlog got later later' q : List (Packet T)) (p : Packet T) → steps v p q u → home u ≡ home v → All (λ p. IsSameOrLater b p.bucket) q → All HasItems q → All (takes (home v)) q
      → IsPermutation (packets_of b q) (us ++ rs) → IsPermutation (later ++ packets_after b q) later'
      → IsServed home takes steps b w first v put got (backlog ++ p ∷ []) later → IsServed home takes steps b w first u (put ++ us) got (backlog ++ rs) later'
  served-run v u put us rs backlog got later later' q p step same order sized taken given after h =
      let log = h.0 in let s : Step W T = record { packet = p; pushed = q; worker = u } in let was = h.2 in
      let of : packets_of b (pushed (log ++ s ∷ [])) ≡ packets_of b (pushed log) ++ packets_of b q = ap (packets_of b) (pushed-more log s) ∙ filter-append _ (pushed log) q in
      let rest : packets_after b (pushed (log ++ s ∷ [])) ≡ packets_after b (pushed log) ++ packets_after b q = ap (packets_after b) (pushed-more log s) ∙ filter-append _ (pushed log) q in
      let fit : All (takes (home w)) q = subst (λ h. All (takes h) q) was.same_home taken in (
        log ++ s ∷ [],
        h.1 ++ rs,
        record {
          same_home = same ∙ was.same_home;
          reached = reaches-more steps w log v s was.reached step;
          offered = subst (λ l. IsPermutation (first ++ l) ((h.1 ++ rs) ++ (put ++ us))) (sym of) (offered-more first _ _ h.1 put us rs was.offered given);
          once = subst (λ l. IsPermutation ((h.1 ++ rs) ++ got) (l ++ (backlog ++ rs))) (sym (ran-more log s)) (once-more h.1 rs got (ran log) backlog (p ∷ []) was.once);
          left = subst (λ l. IsPermutation l later') (sym rest) (IsPermutation-trans _ _ _ (IsPermutation-append_left (packets_after b q) _ _ was.left) after);
          order = subst (All (λ p. IsSameOrLater b p.bucket)) (sym (pushed-more log s)) (All-append (λ p. IsSameOrLater b p.bucket) (pushed log) q was.order order);
          sized = All-permutation HasItems (later ++ packets_after b q) later' after (All-append HasItems later (packets_after b q) was.sized (All-filter _ HasItems q sized));
          taken = All-permutation (takes (home w)) (later ++ packets_after b q) later' after (All-append (takes (home w)) later (packets_after b q) was.taken (All-filter _ (takes (home w)) q fit));
        },
      )

  -- a packet comes from a deque
  pub served-got : (v : W) (put got got' held later : List (Packet T)) (p : Packet T) → IsPermutation (got ++ p ∷ []) got' → IsServed home takes steps b w first v put got held later → IsServed home takes steps b w first v put got' (held ++ p ∷ []) later
  served-got v put got got' held later p k h = let was = h.2 in (
    h.0,
    h.1,
    record {
      same_home = was.same_home;
      reached = was.reached;
      offered = was.offered;
      once = got-more h.1 got got' (ran h.0) held (p ∷ []) k was.once;
      left = was.left;
      order = was.order;
      sized = was.sized;
      taken = was.taken;
    },
  )

  pub served-shuffled : (v : W) (put got got' held later : List (Packet T)) → IsPermutation got got' → IsServed home takes steps b w first v put got held later → IsServed home takes steps b w first v put got' held later
  served-shuffled v put got got' held later k h = let was = h.2 in (
    h.0,
    h.1,
    record {
      same_home = was.same_home;
      reached = was.reached;
      offered = was.offered;
      once = IsPermutation-trans _ _ _ (IsPermutation-append_right h.1 _ _ (IsPermutation-sym _ _ k)) was.once;
      left = was.left;
      order = was.order;
      sized = was.sized;
      taken = was.taken;
    },
  )

  -- the first packets are put, or refused
  pub served-begins : (put refused : List (Packet T)) → IsPermutation first (put ++ refused) → IsServed home takes steps b w first w put [] refused []
  served-begins put refused k = (
    [],
    refused,
    record {
      same_home = refl;
      reached = refl;
      offered = subst (λ l. IsPermutation l (refused ++ put)) (sym (append-nil first)) (IsPermutation-trans _ _ _ k (rearranged (put ∷ refused ∷ []) (join (piece 0) (piece 1)) (join (piece 1) (piece 0)) refl));
      once = subst (λ l. IsPermutation l refused) (sym (append-nil refused)) (IsPermutation-refl refused);
      left = IsPermutation-refl [];
      order = All-nil _;
      sized = All-nil _;
      taken = All-nil _;
    },
  )

module _ {W T H : Type 0} (home : W → H) (takes : H → Packet T → Type 0) (steps : W → Packet T → List (Packet T) → W → Type 0) (b : Bucket) where
  -- whatever the worker had done before, what it took since then leads from the one state to the other
  abbrev pub GoesOn : W → List (Packet T) → List (Packet T) → List (Packet T) → W → List (Packet T) → List (Packet T) → List (Packet T) → List (Packet T) → Type 0
  GoesOn v put held later v' put' held' later' more = (w : W) (first got : List (Packet T))
      → IsServed home takes steps b w first v put got held later → IsServed home takes steps b w first v' put' (got ++ more) held' later'

  pub goes-nowhere : (v : W) (put held later : List (Packet T)) → GoesOn v put held later v put held later []
  goes-nowhere v put held later w first got h = subst (λ l. IsServed home takes steps b w first v put l held later) (sym (append-nil got)) h

  -- the next packet is at hand
  pub goes-next : {Z : Type 0} (v0 : W) (put0 held0 later0 : List (Packet T)) (v : W) (put put' backlog backlog' later tk0 tk tk' : List (Packet T)) (p : Packet T) → put' ≡ put
      → ((tk' ≡ tk) × (backlog ≡ backlog' ++ p ∷ [])) ⊎ ((backlog' ≡ backlog) × (tk' ≡ tk ++ p ∷ []) × Z)
      → ((more : List (Packet T)) × (tk ≡ tk0 ++ more) × GoesOn v0 put0 held0 later0 v put backlog later more) → (more : List (Packet T)) × (tk' ≡ tk0 ++ more) × GoesOn v0 put0 held0 later0 v put' (backlog' ++ p ∷ []) later more
  goes-next v0 put0 held0 later0 v put put' backlog backlog' later tk0 tk tk' p e (inl x) m = (
    m.0,
    x.0 ∙ m.1,
    λ w first got s. subst (λ l. IsServed home takes steps b w first v l (got ++ m.0) (backlog' ++ p ∷ []) later) (sym e) (subst (λ l. IsServed home takes steps b w first v put (got ++ m.0) l later) x.1 (m.2 w first got s)),
  )
  goes-next v0 put0 held0 later0 v put put' backlog backlog' later tk0 tk tk' p e (inr x) m = (
    m.0 ++ p ∷ [],
    x.1 ∙ ap (λ l. l ++ p ∷ []) m.1 ∙ append_assoc tk0 m.0 (p ∷ []),
    λ w first got s. subst (λ l. IsServed home takes steps b w first v l (got ++ (m.0 ++ p ∷ [])) (backlog' ++ p ∷ []) later) (sym e)
        (subst (λ l. IsServed home takes steps b w first v put (got ++ (m.0 ++ p ∷ [])) (l ++ p ∷ []) later) (sym x.0)
        (served-got home takes steps b w first v put (got ++ m.0) (got ++ (m.0 ++ p ∷ [])) backlog later p
        (subst (IsPermutation ((got ++ m.0) ++ p ∷ [])) (append_assoc got m.0 (p ∷ [])) (IsPermutation-refl _)) (m.2 w first got s))),
  )

  -- nothing is left
  pub goes-end : (v0 : W) (put0 held0 later0 : List (Packet T)) (v : W) (put put' backlog later tk0 tk tk' : List (Packet T)) → put' ≡ put → tk' ≡ tk → backlog ≡ []
      → ((more : List (Packet T)) × (tk ≡ tk0 ++ more) × GoesOn v0 put0 held0 later0 v put backlog later more) → (more : List (Packet T)) × (tk' ≡ tk0 ++ more) × GoesOn v0 put0 held0 later0 v put' [] later more
  goes-end v0 put0 held0 later0 v put put' backlog later tk0 tk tk' e f g m = (
    m.0,
    f ∙ m.1,
    λ w first got s.
        subst (λ l. IsServed home takes steps b w first v l (got ++ m.0) [] later) (sym e) (subst (λ l. IsServed home takes steps b w first v put (got ++ m.0) l later) g (m.2 w first got s)),
  )

module _ {X : Type 0} where
  -- the counts of the drain's measure
  pub counts : (put put' us backlog backlog' rs of q : List X) (l l' : ℕ) → put' ≡ put ++ us → backlog' ≡ backlog ++ rs → IsPermutation of (us ++ rs) → length of ≤ length q → l' + length q ≤ l
      → (length put' + length backlog' + l' ≤ length put + length backlog + l) × (length put ≤ length put')
  counts put put' us backlog backlog' rs of q l l' e f h n m =
      let a : length put' ≡ length put + length us = ap length e ∙ length-append put us in
      let b : length backlog' ≡ length backlog + length rs = ap length f ∙ length-append backlog rs in
      let c : length us + length rs ≡ length of = sym (length-append us rs) ∙ length_permutation _ _ h in
      (omega arith, omega arith)

module _ {T H : Type 0} (fits : Packet T → Type 0) (b : Bucket) (takes : H → Packet T → Type 0) (h : H) where
  -- what is pushed for the bucket may stand in the deques
  pub pushed-fit : IsFitting fits b takes h → (q : List (Packet T)) → All HasItems q → All (takes h) q → All fits (packets_of b q)
  pushed-fit fitting q sized taken = λ k d lt. fitting.fit _ (in-bucket b q k d lt) (All-filter _ HasItems q sized k d lt) (All-filter _ (takes h) q taken k d lt)

module _ {X : Type 0} (P : X → Type 0) where
  -- what is refused is of that which was offered
  pub refused-fit : (old new of us rs : List X) → new ≡ old ++ rs → IsPermutation of (us ++ rs) → All P old → All P of → All P new
  refused-fit old new of us rs e k h m = subst (All P) (sym e) (All-append P old rs h (all-right P us rs (All-permutation P of (us ++ rs) k m)))

module _ {T : Type 0} where
  pub few-of : (b : Bucket) (q : List (Packet T)) → length (packets_of b q) ≤ length q
  few-of b q = subst (λ n. n ≤ length q) (sym (length-filter _ q)) (count_by-le-length _ q)
