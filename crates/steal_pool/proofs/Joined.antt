-- What holds of each seat holds of all.
use Rattle.std.proofs.Common.{◌≡◌, ℕ, ◌+◌, ◌-◌, ◌<◌, List, [], ◌∷◌, ◌++◌, All, Ok, IfOk, map, length, refl, sym, ap, ◌∙◌, subst, inl, inr, arith}
use Rattle.std.specs.List.{AllZip, flat_map}
use Rattle.std.proofs.lemmas.List.{append-nil}
use Rattle.std.proofs.lemmas.List.Elements.{All-cons, All-nil, All-head, All-tail, All-map}
use Rattle.std.specs.declared.alloc.AllocError.{AllocError}
use Rattle.std.specs.declared.alloc.Global.{Global}
use Rattle.atomic_blocks.specs.Lent.{RowsId}
use Rattle.work_packets.specs.declared.packet.Bucket.{Bucket}
use Rattle.work_packets.specs.declared.packet.Packet.{Packet}
use Rattle.work_packets.specs.Awaiting.{MayAwait}
use Rattle.work_packets.specs.Packets.{HasItems}
use Rattle.steal_pool.specs.declared.seats.Seat.{Seat}
use Rattle.steal_pool.specs.Ends.{takings, stolen}
use Rattle.work_packets.specs.declared.share.Share.{Share}
use Rattle.steal_pool.specs.Seats.{account, desk_of, deques, got_by, HasBegun, HasParts, HasTickets, GoesOnTo, IsServable}
use Rattle.steal_pool.specs.Served.{IsFitting, AwaitsAny}
use Rattle.steal_pool.proofs.Rounds.{still-owner}

module _ {A B : Type 0} where
  pub zip-ok : (Q : A → B → Type 0) (xs : List A) (ys : List B) → AllZip (λ x r. IfOk {E = AllocError} r (Q x)) xs (map (λ y. Ok y) ys) → AllZip Q xs ys
  zip-ok Q [] [] z = tt
  zip-ok Q [] (y ∷ ys) z = z
  zip-ok Q (x ∷ xs) [] z = z
  zip-ok Q (x ∷ xs) (y ∷ ys) z = (z.0, zip-ok Q xs ys z.1)

  pub zip-left : (Q : A → B → Type 0) (P : B → Type 0) (xs : List A) (ys : List B) → AllZip (λ x y. Q x y × P y) xs ys → AllZip Q xs ys
  zip-left Q P [] [] z = tt
  zip-left Q P [] (y ∷ ys) z = z
  zip-left Q P (x ∷ xs) [] z = z
  zip-left Q P (x ∷ xs) (y ∷ ys) z = (z.0.0, zip-left Q P xs ys z.1)

  pub zip-right : (Q : A → B → Type 0) (P : B → Type 0) (xs : List A) (ys : List B) → AllZip (λ x y. Q x y × P y) xs ys → All P ys
  zip-right Q P [] [] z = All-nil P
  zip-right Q P [] (y ∷ ys) z = absurd z
  zip-right Q P (x ∷ xs) [] z = absurd z
  zip-right Q P (x ∷ xs) (y ∷ ys) z = All-cons P y ys z.0.1 (zip-right Q P xs ys z.1)

module _ {W T K H : Type 0} (home : W → H) (takes : H → Packet T → Type 0) (steps : W → Packet T → List (Packet T) → W → Type 0) (b : Bucket) where
  pub deques-stay : (olds news : List (Seat T W K)) → AllZip (GoesOnTo home takes steps b) olds news → deques news ≡ deques olds
  deques-stay [] [] z = refl
  deques-stay [] (n ∷ news) z = absurd z
  deques-stay (o ∷ olds) [] z = absurd z
  deques-stay (o ∷ olds) (n ∷ news) z = let e = z.0.keeps.0 in let rest = deques-stay olds news z.1 in cc

  pub parts-stay : (m : ℕ) (olds news : List (Seat T W K)) → AllZip (GoesOnTo home takes steps b) olds news → All (HasParts m) olds → All (HasParts m) news
  parts-stay m [] [] z h = All-nil (HasParts m)
  parts-stay m [] (n ∷ news) z h = absurd z
  parts-stay m (o ∷ olds) [] z h = absurd z
  parts-stay m (o ∷ olds) (n ∷ news) z h =
      let here = All-head (HasParts m) o olds h in
      All-cons (HasParts m) n news (still-owner (desk_of o).own (desk_of n).own z.0.keeps here.0, z.0.keeps.3 ∙ here.1) (parts-stay m olds news z.1 (All-tail (HasParts m) o olds h))

  pub as-many : (olds news : List (Seat T W K)) → AllZip (GoesOnTo home takes steps b) olds news → length news ≡ length olds
  as-many [] [] z = refl
  as-many [] (n ∷ news) z = absurd z
  as-many (o ∷ olds) [] z = absurd z
  as-many (o ∷ olds) (n ∷ news) z = let e = as-many olds news z.1 in omega arith

module _ {T W H : Type 0} (home : W → H) (takes : H → Packet T → Type 0) where
  -- a packet that all workers may run is one that workers of their home may run
  pub of-home : (h : H) (p : Packet T) (ws : List W) → 0 < length ws → All (λ w. home w ≡ h) ws → All (λ w. takes (home w) p) ws → takes h p
  of-home h p [] lt own all = absurd (omega arith)
  of-home h p (w ∷ ws) lt own all = subst (λ k. takes k p) (All-head (λ w. home w ≡ h) w ws own) (All-head (λ w. takes (home w) p) w ws all)

module _ {S W T : Type 0} (awaits : S → W → List (Packet T) → Type 0) where
  -- several workers await whatever they are given
  pub several-await : (ws : List W) (first : List (Packet T)) → 1 < length ws → MayAwait awaits ws first → AwaitsAny awaits
  several-await ws first lt (inl h) = absurd (let one = ap length h.2 in omega arith)
  several-await ws first lt (inr h) = h

module _ {X Y : Type 0} (f : X → Y) (P : Y → Type 0) where
  pub of-map : (xs : List X) → All P (map f xs) → All (λ x. P (f x)) xs
  of-map [] h = All-nil _
  of-map (x ∷ xs) h = All-cons (λ x. P (f x)) x xs (All-head P (f x) (map f xs) h) (of-map xs (All-tail P (f x) (map f xs) h))

  -- what follows from f holds where f is the same
  pub all-parts : (xs ys : List X) → map f xs ≡ map f ys → All (λ x. P (f x)) ys → All (λ x. P (f x)) xs
  all-parts xs ys e h = of-map xs (subst (All P) (sym e) (All-map P f ys h))

module _ {T H : Type 0} (fits : Packet T → Type 0) (b : Bucket) (takes : H → Packet T → Type 0) (h : H) where
  pub all-fit : IsFitting fits b takes h → (ps : List (Packet T)) → All (λ p. p.bucket ≡ b) ps → All HasItems ps → All (takes h) ps → All fits ps
  all-fit fitting ps in-b sized taken = λ k d lt. fitting.fit _ (in-b k d lt) (sized k d lt) (taken k d lt)

module _ {W T K H S : Type 0} (fits : Packet T → Type 0) (b : Bucket) (home : W → H) (takes : H → Packet T → Type 0) (awaits : S → W → List (Packet T) → Type 0) (steps : W → Packet T → List (Packet T) → W → Type 0) (ds : List (RowsId × Global)) (h : H) (m : ℕ) where
  -- all workers can begin
  pub all-servable : IsFitting fits b takes h → AwaitsAny awaits → (shares : List (Share T W)) (seats : List (Seat T W K)) → AllZip (HasBegun home takes steps b) shares (map account seats) → All (λ w. home w ≡ h) (map (λ s. s.worker) shares)
      → All (HasParts m) seats → All (λ s. All fits (desk_of s).backlog.items) seats → All (HasTickets ds) seats → All (IsServable fits b home takes awaits ds) seats
  all-servable fitting awaited [] [] begun own parts fit tickets = All-nil _
  all-servable fitting awaited [] (s ∷ seats) begun own parts fit tickets = absurd begun
  all-servable fitting awaited (x ∷ shares) [] begun own parts fit tickets = All-nil _
  all-servable fitting awaited (x ∷ shares) (s ∷ seats) begun own parts fit tickets =
      let same : home (desk_of s).worker ≡ h = ap home begun.0.0 ∙ All-head (λ w. home w ≡ h) x.worker (map (λ s. s.worker) shares) own in
      let here : IsServable fits b home takes awaits ds s = record {
        owner = (All-head (HasParts m) s seats parts).0;
        fitting = subst (IsFitting fits b takes) (sym same) fitting;
        fit = All-head (λ s. All fits (desk_of s).backlog.items) s seats fit;
        awaited = awaited;
        tickets = All-head (HasTickets ds) s seats tickets;
      } in
      All-cons (IsServable fits b home takes awaits ds) s seats here
      (all-servable fitting awaited shares seats begun.1 (All-tail (λ w. home w ≡ h) x.worker (map (λ s. s.worker) shares) own) (All-tail (HasParts m) s seats parts) (All-tail (λ s. All fits (desk_of s).backlog.items) s seats fit) (All-tail (HasTickets ds) s seats tickets))

module _ {W T K : Type 0} where
  -- without tickets, what the workers took is what they took from their own deques
  pub own-takings : (seats : List (Seat T W K)) → All (λ s. s.tickets.items ≡ []) seats → flat_map (λ s. got_by s) seats ≡ flat_map (λ s. takings (desk_of s).own) seats
  own-takings [] h = refl
  own-takings (s ∷ seats) h =
      let none : s.tickets.items ≡ [] = All-head (λ s. s.tickets.items ≡ []) s seats h in
      let here : got_by s ≡ takings (desk_of s).own = ap (λ l. takings (desk_of s).own ++ flat_map stolen l) none ∙ append-nil (takings (desk_of s).own) in
      ap (λ l. l ++ flat_map (λ s. got_by s) seats) here ∙ ap (λ l. takings (desk_of s).own ++ l) (own-takings seats (All-tail (λ s. s.tickets.items ≡ []) s seats h))

module _ {W H : Type 0} (home : W → H) where
  pub one-home : (ws : List W) (h k : H) → 0 < length ws → All (λ w. home w ≡ h) ws → All (λ w. home w ≡ k) ws → h ≡ k
  one-home [] h k lt own other = absurd (omega arith)
  one-home (w ∷ ws) h k lt own other = sym (All-head (λ w. home w ≡ h) w ws own) ∙ All-head (λ w. home w ≡ k) w ws other
