-- What all workers did together, and how the plain split goes on from there.
use Rattle.std.proofs.Common.{◌≡◌, List, [], ◌∷◌, ◌++◌, All, map, length, refl, sym, ap, ◌∙◌, subst}
use Rattle.std.specs.List.{AllZip, flat_map}
use Rattle.std.specs.List.Sorted.{IsPermutation}
use Rattle.std.proofs.lemmas.List.{append-nil}
use Rattle.std.proofs.lemmas.Grind.{flat_map-append}
use Rattle.std.proofs.lemmas.List.{map-append}
use Rattle.std.proofs.lemmas.List.Elements.{All-append, All-cons, All-nil, All-head, All-tail, filter-append}
use Rattle.std.proofs.lemmas.List.Sorted.{All-permutation, IsPermutation-refl, IsPermutation-trans, IsPermutation-append, IsPermutation-append_right, IsPermutation-append_left, IsPermutation-sym}
use Rattle.work_packets.specs.declared.packet.Bucket.{Bucket}
use Rattle.work_packets.specs.declared.packet.Packet.{Packet}
use Rattle.work_packets.specs.declared.share.Share.{Share}
use Rattle.work_packets.specs.Buckets.{IsSameOrLater}
use Rattle.work_packets.specs.Packets.{HasItems, packets_of, packets_after}
use Rattle.work_packets.specs.Shares.{packets_in}
use Rattle.work_packets.specs.Steps.{Step, BucketWork, Reaches, AllReach, ran, ran_by_all, pushed, pushed_by_all, RunsBucket}
use Rattle.work_packets.proofs.Logs.{AllReach-lengths}
use Rattle.work_packets.proofs.Pieces.{piece, join, rearranged}
use Rattle.steal_pool.specs.declared.seats.Seat.{Seat}
use Rattle.steal_pool.specs.Ends.{puts}
use Rattle.steal_pool.specs.Seats.{account, desk_of, got_by, HasBegun, GoesOnTo}
use Rattle.steal_pool.specs.Served.{IsServed, RunsPart}

module _ {W T H : Type 0} (home : W → H) (takes : H → Packet T → Type 0) (steps : W → Packet T → List (Packet T) → W → Type 0) (b : Bucket) where
  pub record AreServed (before : List W) (first : List (Packet T)) (logs : List (List (Step W T))) (refused : List (Packet T)) (after : List W) (put got later : List (Packet T)) : Type 0 where
    pub reached : AllReach steps before logs after
    pub offered : IsPermutation (first ++ packets_of b (pushed_by_all logs)) (refused ++ put)
    pub once : IsPermutation (refused ++ got) (ran_by_all logs)
    pub left : IsPermutation (packets_after b (pushed_by_all logs)) later
    pub order : All (λ p. IsSameOrLater b p.bucket) (pushed_by_all logs)
    pub sized : All HasItems later
    pub homes : (h : H) → All (λ w. home w ≡ h) before → All (λ w. home w ≡ h) after
    pub taken : (h : H) → All (λ w. home w ≡ h) before → All (takes h) later

  none-served : AreServed [] [] [] [] [] [] [] []
  none-served = record { reached = tt; offered = IsPermutation-refl []; once = IsPermutation-refl []; left = IsPermutation-refl []; order = All-nil _; sized = All-nil _; homes = λ h own. All-nil _; taken = λ h own. All-nil _ }

  -- one worker more
  one-more-served : (w v : W) (ps put got later : List (Packet T)) (ws vs : List W) (first puts gots laters : List (Packet T)) (logs : List (List (Step W T))) (refused : List (Packet T))
      → (s : IsServed home takes steps b w ps v put got [] later) → AreServed ws first logs refused vs puts gots laters
      → AreServed (w ∷ ws) (ps ++ first) (s.0 ∷ logs) (s.1 ++ refused) (v ∷ vs) (put ++ puts) (got ++ gots) (later ++ laters)
  one-more-served w v ps put got later ws vs first puts gots laters logs refused s rest =
      let log = s.0 in let r = s.1 in let one = s.2 in
      let mine = packets_of b (pushed log) in let theirs = packets_of b (pushed_by_all logs) in
      let now : packets_of b (pushed log ++ pushed_by_all logs) ≡ mine ++ theirs = filter-append _ (pushed log) (pushed_by_all logs) in
      let after : packets_after b (pushed log ++ pushed_by_all logs) ≡ packets_after b (pushed log) ++ packets_after b (pushed_by_all logs) = filter-append _ (pushed log) (pushed_by_all logs) in
      let offered-order : IsPermutation ((ps ++ first) ++ (mine ++ theirs)) ((ps ++ mine) ++ (first ++ theirs)) =
      rearranged (ps ∷ first ∷ mine ∷ theirs ∷ []) (join (join (piece 0) (piece 1)) (join (piece 2) (piece 3))) (join (join (piece 0) (piece 2)) (join (piece 1) (piece 3))) refl in
      let offered-end : IsPermutation ((r ++ put) ++ (refused ++ puts)) ((r ++ refused) ++ (put ++ puts)) =
      rearranged (r ∷ put ∷ refused ∷ puts ∷ []) (join (join (piece 0) (piece 1)) (join (piece 2) (piece 3))) (join (join (piece 0) (piece 2)) (join (piece 1) (piece 3))) refl in
      let once-order : IsPermutation ((r ++ refused) ++ (got ++ gots)) ((r ++ got) ++ (refused ++ gots)) =
      rearranged (r ∷ refused ∷ got ∷ gots ∷ []) (join (join (piece 0) (piece 1)) (join (piece 2) (piece 3))) (join (join (piece 0) (piece 2)) (join (piece 1) (piece 3))) refl in
      record {
        reached = (one.reached, rest.reached);
        offered = subst (λ l. IsPermutation ((ps ++ first) ++ l) ((r ++ refused) ++ (put ++ puts))) (sym now)
            (IsPermutation-trans _ _ _ offered-order (IsPermutation-trans _ _ _ (IsPermutation-append _ _ _ _ one.offered rest.offered) offered-end));
        once = IsPermutation-trans _ _ _ once-order (IsPermutation-append _ _ _ _ (subst (IsPermutation (r ++ got)) (append-nil (ran log)) one.once) rest.once);
        left = subst (λ l. IsPermutation l (later ++ laters)) (sym after) (IsPermutation-append _ _ _ _ one.left rest.left);
        order = All-append (λ p. IsSameOrLater b p.bucket) (pushed log) (pushed_by_all logs) one.order rest.order;
        sized = All-append HasItems later laters one.sized rest.sized;
        homes = λ h own. All-cons (λ w. home w ≡ h) v vs (one.same_home ∙ All-head (λ w. home w ≡ h) w ws own) (rest.homes h (All-tail (λ w. home w ≡ h) w ws own));
        taken = λ h own. All-append (takes h) later laters (subst (λ k. All (takes k) later) (All-head (λ w. home w ≡ h) w ws own) one.taken) (rest.taken h (All-tail (λ w. home w ≡ h) w ws own));
      }

module _ {W T K H : Type 0} (home : W → H) (takes : H → Packet T → Type 0) (steps : W → Packet T → List (Packet T) → W → Type 0) (b : Bucket) where
  -- all workers, from their shares to their ends
  pub all-served : (shares : List (Share T W)) (olds news : List (Seat T W K)) → AllZip (HasBegun home takes steps b) shares (map account olds) → All (λ s. got_by s ≡ []) olds → AllZip (GoesOnTo home takes steps b) olds news
      → (logs : List (List (Step W T))) × (refused : List (Packet T)) × AreServed home takes steps b (map (λ s. s.worker) shares) (packets_in shares) logs refused (map (λ s. (desk_of s).worker) news) (flat_map (λ s. puts (desk_of s).own) news) (flat_map (λ s. got_by s) news) (flat_map (λ s. (desk_of s).later.items) news)
  all-served [] [] [] begun none goes = ([], [], none-served home takes steps b)
  all-served [] [] (n ∷ news) begun none goes = absurd goes
  all-served [] (o ∷ olds) news begun none goes = absurd begun
  all-served (s ∷ shares) [] news begun none goes = absurd begun
  all-served (s ∷ shares) (o ∷ olds) [] begun none goes = absurd goes
  all-served (s ∷ shares) (o ∷ olds) (n ∷ news) begun none goes =
      let rest = all-served shares olds news begun.1 (All-tail (λ s. got_by s ≡ []) o olds none) goes.1 in
      let empty : got_by o ≡ [] = All-head (λ s. got_by s ≡ []) o olds none in
      let first : IsServed home takes steps b s.worker s.packets.items (desk_of o).worker (puts (desk_of o).own) (got_by o) (desk_of o).backlog.items (desk_of o).later.items =
      subst (λ l. IsServed home takes steps b s.worker s.packets.items (desk_of o).worker (puts (desk_of o).own) l (desk_of o).backlog.items (desk_of o).later.items) (sym empty) begun.0.1 in
      let one = goes.0.served s.worker s.packets.items first in (
        one.0 ∷ rest.0,
        one.1 ++ rest.1,
        one-more-served home takes steps b s.worker (desk_of n).worker s.packets.items (puts (desk_of n).own) (got_by n) (desk_of n).later.items _ _ _ _ _ _ rest.0 rest.1 one rest.2,
      )

-- The steps of each worker are those of two runs, one after the other.
module _ {W T : Type 0} where
  abbrev pub both_logs : List (List (Step W T)) → List (List (Step W T)) → List (List (Step W T))
  both_logs [] ms = []
  both_logs (l ∷ ls) [] = []
  both_logs (l ∷ ls) (m ∷ ms) = (l ++ m) ∷ both_logs ls ms

  both-reach : (steps : W → Packet T → List (Packet T) → W → Type 0) (w : W) (l m : List (Step W T)) (v u : W) → Reaches steps w l v → Reaches steps v m u → Reaches steps w (l ++ m) u
  both-reach steps w [] m v u h k = subst (λ x. Reaches steps x m u) h k
  both-reach steps w (s ∷ l) m v u h k = (h.0, both-reach steps s.worker l m v u h.1 k)

  all-both-reach : (steps : W → Packet T → List (Packet T) → W → Type 0) (ws : List W) (ls : List (List (Step W T))) (vs : List W) (ms : List (List (Step W T))) (us : List W) → AllReach steps ws ls vs → AllReach steps vs ms us → AllReach steps ws (both_logs ls ms) us
  all-both-reach steps [] [] [] [] [] h k = tt
  all-both-reach steps [] [] [] [] (u ∷ us) h k = absurd k
  all-both-reach steps [] [] [] (m ∷ ms) us h k = absurd k
  all-both-reach steps [] [] (v ∷ vs) ms us h k = absurd h
  all-both-reach steps [] (l ∷ ls) vs ms us h k = absurd h
  all-both-reach steps (w ∷ ws) [] vs ms us h k = absurd h
  all-both-reach steps (w ∷ ws) (l ∷ ls) [] ms us h k = absurd h
  all-both-reach steps (w ∷ ws) (l ∷ ls) (v ∷ vs) [] us h k = absurd k
  all-both-reach steps (w ∷ ws) (l ∷ ls) (v ∷ vs) (m ∷ ms) [] h k = absurd k
  all-both-reach steps (w ∷ ws) (l ∷ ls) (v ∷ vs) (m ∷ ms) (u ∷ us) h k = (both-reach steps w l m v u h.0 k.0, all-both-reach steps ws ls vs ms us h.1 k.1)

  -- what is read from the steps of both
  both-flat : (f : List (Step W T) → List (Packet T)) → ((l m : List (Step W T)) → f (l ++ m) ≡ f l ++ f m) → (steps : W → Packet T → List (Packet T) → W → Type 0) (ws : List W) (ls : List (List (Step W T))) (vs : List W) (ms : List (List (Step W T))) (us : List W)
      → AllReach steps ws ls vs → AllReach steps vs ms us → IsPermutation (flat_map f ls ++ flat_map f ms) (flat_map f (both_logs ls ms))
  both-flat f join-of steps [] [] [] [] [] h k = IsPermutation-refl []
  both-flat f join-of steps [] [] [] [] (u ∷ us) h k = absurd k
  both-flat f join-of steps [] [] [] (m ∷ ms) us h k = absurd k
  both-flat f join-of steps [] [] (v ∷ vs) ms us h k = absurd h
  both-flat f join-of steps [] (l ∷ ls) vs ms us h k = absurd h
  both-flat f join-of steps (w ∷ ws) [] vs ms us h k = absurd h
  both-flat f join-of steps (w ∷ ws) (l ∷ ls) [] ms us h k = absurd h
  both-flat f join-of steps (w ∷ ws) (l ∷ ls) (v ∷ vs) [] us h k = absurd k
  both-flat f join-of steps (w ∷ ws) (l ∷ ls) (v ∷ vs) (m ∷ ms) [] h k = absurd k
  both-flat f join-of steps (w ∷ ws) (l ∷ ls) (v ∷ vs) (m ∷ ms) (u ∷ us) h k =
      let turned : IsPermutation ((f l ++ flat_map f ls) ++ (f m ++ flat_map f ms)) ((f l ++ f m) ++ (flat_map f ls ++ flat_map f ms)) =
      rearranged (f l ∷ flat_map f ls ∷ f m ∷ flat_map f ms ∷ []) (join (join (piece 0) (piece 1)) (join (piece 2) (piece 3))) (join (join (piece 0) (piece 2)) (join (piece 1) (piece 3))) refl in
      subst (λ l'. IsPermutation ((f l ++ flat_map f ls) ++ (f m ++ flat_map f ms)) (l' ++ flat_map f (both_logs ls ms))) (sym (join-of l m))
      (IsPermutation-trans _ _ _ turned (IsPermutation-append_right (f l ++ f m) _ _ (both-flat f join-of steps ws ls vs ms us h.1 k.1)))

  pushed-both : (l m : List (Step W T)) → pushed (l ++ m) ≡ pushed l ++ pushed m
  pushed-both l m = flat_map-append (λ (s : Step W T). s.pushed) l m

  ran-both : (l m : List (Step W T)) → ran (l ++ m) ≡ ran l ++ ran m
  ran-both l m = map-append (λ (s : Step W T). s.packet) l m

  of-all : (b : Bucket) (ls : List (List (Step W T))) → packets_of b (pushed_by_all ls) ≡ flat_map (λ l. packets_of b (pushed l)) ls
  of-all b [] = refl
  of-all b (l ∷ ls) = filter-append _ (pushed l) (pushed_by_all ls) ∙ ap (λ x. packets_of b (pushed l) ++ x) (of-all b ls)

  after-all : (b : Bucket) (ls : List (List (Step W T))) → packets_after b (pushed_by_all ls) ≡ flat_map (λ l. packets_after b (pushed l)) ls
  after-all b [] = refl
  after-all b (l ∷ ls) = filter-append _ (pushed l) (pushed_by_all ls) ∙ ap (λ x. packets_after b (pushed l) ++ x) (after-all b ls)

module _ {W T : Type 0} (steps : W → Packet T → List (Packet T) → W → Type 0) (b : Bucket) where
  abbrev pub bucket_work : List W → List (Packet T) → List (List (Step W T)) → List W → List (Packet T) → BucketWork W T
  bucket_work ws first logs vs later = record { bucket = b; before = ws; first = first; logs = logs; after = vs; later = later }

  pub reach-as-many : (ws : List W) (first : List (Packet T)) (logs : List (List (Step W T))) (vs : List W) (rest later : List (Packet T)) → RunsPart steps b ws first logs vs rest later → length vs ≡ length ws
  reach-as-many ws first logs vs rest later h = AllReach-lengths steps ws logs vs h.reached

  pub part-goes-on : (ws : List W) (first : List (Packet T)) (ls : List (List (Step W T))) (vs : List W) (rest later : List (Packet T)) (ms : List (List (Step W T))) (us : List W) (last : List (Packet T))
      → RunsPart steps b ws first ls vs rest later → RunsBucket steps (bucket_work vs rest ms us last) → RunsBucket steps (bucket_work ws first (both_logs ls ms) us (later ++ last))
  part-goes-on ws first ls vs rest later ms us last h k =
      let of-both : IsPermutation (packets_of b (pushed_by_all ls) ++ packets_of b (pushed_by_all ms)) (packets_of b (pushed_by_all (both_logs ls ms))) =
      subst (λ l. IsPermutation l (packets_of b (pushed_by_all (both_logs ls ms)))) (sym (ap (λ l. l ++ packets_of b (pushed_by_all ms)) (of-all b ls) ∙ ap (λ l. flat_map (λ l. packets_of b (pushed l)) ls ++ l) (of-all b ms)))
      (subst (IsPermutation (flat_map (λ l. packets_of b (pushed l)) ls ++ flat_map (λ l. packets_of b (pushed l)) ms)) (sym (of-all b (both_logs ls ms)))
      (both-flat (λ l. packets_of b (pushed l)) (λ l m. ap (packets_of b) (pushed-both l m) ∙ filter-append _ (pushed l) (pushed m)) steps ws ls vs ms us h.reached k.reached)) in
      let after-both : IsPermutation (packets_after b (pushed_by_all ls) ++ packets_after b (pushed_by_all ms)) (packets_after b (pushed_by_all (both_logs ls ms))) =
      subst (λ l. IsPermutation l (packets_after b (pushed_by_all (both_logs ls ms)))) (sym (ap (λ l. l ++ packets_after b (pushed_by_all ms)) (after-all b ls) ∙ ap (λ l. flat_map (λ l. packets_after b (pushed l)) ls ++ l) (after-all b ms)))
      (subst (IsPermutation (flat_map (λ l. packets_after b (pushed l)) ls ++ flat_map (λ l. packets_after b (pushed l)) ms)) (sym (after-all b (both_logs ls ms)))
      (both-flat (λ l. packets_after b (pushed l)) (λ l m. ap (packets_after b) (pushed-both l m) ∙ filter-append _ (pushed l) (pushed m)) steps ws ls vs ms us h.reached k.reached)) in
      let ran-all : IsPermutation (ran_by_all ls ++ ran_by_all ms) (ran_by_all (both_logs ls ms)) = both-flat (λ l. ran l) ran-both steps ws ls vs ms us h.reached k.reached in
      let pushed-all : IsPermutation (pushed_by_all ls ++ pushed_by_all ms) (pushed_by_all (both_logs ls ms)) = both-flat (λ l. pushed l) pushed-both steps ws ls vs ms us h.reached k.reached in
      let of = packets_of b (pushed_by_all ls) in let of' = packets_of b (pushed_by_all ms) in
      let first-order : IsPermutation (first ++ (of ++ of')) ((first ++ of) ++ of') = rearranged (first ∷ of ∷ of' ∷ []) (join (piece 0) (join (piece 1) (piece 2))) (join (join (piece 0) (piece 1)) (piece 2)) refl in
      let rest-order : IsPermutation ((ran_by_all ls ++ rest) ++ of') (ran_by_all ls ++ (rest ++ of')) = rearranged (ran_by_all ls ∷ rest ∷ of' ∷ []) (join (join (piece 0) (piece 1)) (piece 2)) (join (piece 0) (join (piece 1) (piece 2))) refl in
      record {
        reached = all-both-reach steps ws ls vs ms us h.reached k.reached;
        once = IsPermutation-trans _ _ _ (IsPermutation-append_right first _ _ (IsPermutation-sym _ _ of-both))
            (IsPermutation-trans _ _ _ first-order (IsPermutation-trans _ _ _ (IsPermutation-append_left of' _ _ h.once)
            (IsPermutation-trans _ _ _ rest-order (IsPermutation-trans _ _ _ (IsPermutation-append_right (ran_by_all ls) _ _ k.once) ran-all))));
        left = IsPermutation-trans _ _ _ (IsPermutation-sym _ _ after-both) (IsPermutation-append _ _ _ _ h.left k.left);
        order = All-permutation (λ p. IsSameOrLater b p.bucket) (pushed_by_all ls ++ pushed_by_all ms) (pushed_by_all (both_logs ls ms)) pushed-all (All-append (λ p. IsSameOrLater b p.bucket) (pushed_by_all ls) (pushed_by_all ms) h.order k.order);
      }

module _ {W T H : Type 0} (home : W → H) (takes : H → Packet T → Type 0) (steps : W → Packet T → List (Packet T) → W → Type 0) (b : Bucket) where
  -- what was put into the deques was taken, or is left there
  pub served-part : (ws : List W) (dealt first : List (Packet T)) (logs : List (List (Step W T))) (refused : List (Packet T)) (vs : List W) (put got later taken rest : List (Packet T)) → AreServed home takes steps b ws dealt logs refused vs put got later
      → IsPermutation first dealt → IsPermutation put (taken ++ rest) → IsPermutation got taken → RunsPart steps b ws first logs vs rest later
  served-part ws dealt first logs refused vs put got later taken rest h e k m =
      let of = packets_of b (pushed_by_all logs) in
      let regrouped : IsPermutation (refused ++ (taken ++ rest)) ((refused ++ taken) ++ rest) = rearranged (refused ∷ taken ∷ rest ∷ []) (join (piece 0) (join (piece 1) (piece 2))) (join (join (piece 0) (piece 1)) (piece 2)) refl in
      let run : IsPermutation (refused ++ taken) (ran_by_all logs) = IsPermutation-trans _ _ _ (IsPermutation-append_right refused _ _ (IsPermutation-sym _ _ m)) h.once in
      record {
        reached = h.reached;
        once = IsPermutation-trans _ _ _ (IsPermutation-append_left of _ _ e) (IsPermutation-trans _ _ _ h.offered (IsPermutation-trans _ _ _ (IsPermutation-append_right refused _ _ k)
            (IsPermutation-trans _ _ _ regrouped (IsPermutation-append_left rest _ _ run))));
        left = h.left;
        order = h.order;
      }
