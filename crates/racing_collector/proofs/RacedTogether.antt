-- What all workers of a trace have done once its two buckets are run.
use Rattle.std.proofs.Common.{◌≡◌, refl, sym, subst, ap, ap₂, ◌∙◌, ℕ, ◌+◌, ◌-◌, ◌^◌, arith, nat_eq, List, [], ◌∷◌, ◌++◌, length, map}
use Rattle.std.specs.Prelude.{All, sum_by}
use Rattle.std.specs.List.{flat_map, range_with_len}
use Rattle.std.proofs.lemmas.List.{length-map, map-append}
use Rattle.std.proofs.lemmas.List.Elements.{All-nil, All-cons, All-head, All-tail, All-weaker}
use Rattle.std.proofs.lemmas.List.FromFn.{length-range_with_len}
use Rattle.std.proofs.lemmas.List.Sums.{sum_by-cons}
use Rattle.object_model.specs.Times.{times}
use Rattle.trace_core.proofs.CountedRights.{count-append}
use Rattle.trace_words.specs.Shares.{total, worker_share}
use Rattle.trace_words.specs.declared.share.Share.{Share}
use Rattle.trace_table.specs.Ends.{NewSeats, shares_of}
use Rattle.trace_table.specs.Seats.{setup_at}
use Rattle.trace_table.specs.declared.table.WorkerSeat.{WorkerSeat}
use Rattle.work_packets.specs.declared.packet.Bucket.TheVariants.{Roots, Closure}
use Rattle.work_packets.specs.declared.packet.Packet.{Packet}
use Rattle.work_packets.specs.Steps.{Step, RunsBucket, pushed_by_all}
use Rattle.racing_collector.specs.declared.item.RaceItem.{RaceItem}
use Rattle.racing_collector.specs.declared.raced.Raced.{Raced}
use Rattle.racing_collector.specs.declared.racing.Racing.{Racing}
use Rattle.racing_collector.specs.declared.served.Served.{Served}
use Rattle.racing_collector.specs.Accounts.{Accounts, IsGiven, IsRacer, IsServed, capped, places}
use Rattle.racing_collector.specs.Items.{IsPacketOf, items_of, registers, tokens}
use Rattle.racing_collector.specs.Raced.{HasRaced}
use Rattle.racing_collector.specs.Working.{Worked, IsWorked}
use Rattle.racing_collector.proofs.Bucketed.{Steps, IsOf, gives, takes, serves, of-after, as-many, tokens-balance, roots-balance, none-left}
use Rattle.racing_collector.proofs.Joined.{all-accounted, all_served, all_shares}

-- sums over a list of results
module _ {X Y : Type 0} (f : X → Y) where
  sum-map : (g : Y → ℕ) (xs : List X) → sum_by g (map f xs) ≡ sum_by (λ x. g (f x)) xs
  sum-map g [] = refl
  sum-map g (x ∷ xs) = sum_by-cons g (f x) (map f xs) ∙ ap (λ n. g (f x) + n) (sum-map g xs) ∙ sym (sum_by-cons (λ y. g (f y)) x xs)

  flat-map : {Z : Type 0} (g : Y → List Z) (xs : List X) → flat_map g (map f xs) ≡ flat_map (λ x. g (f x)) xs
  flat-map g [] = refl
  flat-map g (x ∷ xs) = ap (λ l. g (f x) ++ l) (flat-map g xs)

  map-map : {Z : Type 0} (g : Y → Z) (xs : List X) → map g (map f xs) ≡ map (λ x. g (f x)) xs
  map-map g [] = refl
  map-map g (x ∷ xs) = ap (λ l. g (f x) ∷ l) (map-map g xs)

  all-map : (P : Y → Type 0) (xs : List X) → All (λ x. P (f x)) xs → All P (map f xs)
  all-map P [] all = All-nil P
  all-map P (x ∷ xs) all = All-cons P (f x) (map f xs) (All-head (λ y. P (f y)) x xs all) (all-map P xs (All-tail (λ y. P (f y)) x xs all))

total-sum : (f : Share → ℕ) (seats : List WorkerSeat) → total f (shares_of seats) ≡ sum_by (λ (s : WorkerSeat). f s.seat.me.0) seats
total-sum f [] = refl
total-sum f (s ∷ seats) = ap (λ n. f s.seat.me.0 + n) (total-sum f seats) ∙ sym (sum_by-cons (λ (u : WorkerSeat). f u.seat.me.0) s seats)

sum-places : (i : ℕ) (ws : List Worked) → times i (places (all_served ws)) ≡ sum_by (λ (w : Worked). times i (places w.served)) ws
sum-places i [] = refl
sum-places i (w ∷ ws) =
    let a : times i (places (w.served ++ all_served ws)) ≡ times i (places w.served ++ places (all_served ws)) = ap (times i) (map-append (λ (s : Served). s.place) w.served (all_served ws)) in
    let b = count-append (nat_eq i) (places w.served) (places (all_served ws)) in let c = sum-places i ws in let d = sum_by-cons (λ (u : Worked). times i (places u.served)) w ws in omega arith

sum-zero : {X : Type 0} (f : X → ℕ) (xs : List X) → All (λ x. f x ≡ 0) xs → sum_by f xs ≡ 0
sum-zero f [] all = refl
sum-zero f (x ∷ xs) all = let a = sum_by-cons f x xs in let b : f x ≡ 0 = All-head (λ y. f y ≡ 0) x xs all in let c = sum-zero f xs (All-tail (λ y. f y ≡ 0) x xs all) in omega arith

-- a share that did nothing
pub no-accounts : (r : Racing) (k : ℕ) → Accounts r (worker_share 1 k) [] []
no-accounts r k = record {
  copied = λ x. refl;
  tokens = All-nil (IsGiven r.table (worker_share 1 k));
  lines = λ on x j has. absurd (omega arith);
  roots = All-nil (IsServed r (worker_share 1 k));
  by_roots = λ x some. absurd (omega arith);
  sparse = refl;
}

module _ {W : Type 0} (home : W → Racing) (work : W → Worked) (seat : W → WorkerSeat) (share-is : (w : W) → (work w).share ≡ (seat w).seat.me.0) (racer : (w : W) → IsRacer (home w) (seat w)) where
  -- a worker as it begins
  pub record IsNew (r : Racing) (w : W) : Type 0 where
    pub at_home : home w ≡ r
    pub number : ℕ
    pub share : (work w).share ≡ worker_share 1 number
    pub served : (work w).served ≡ []
    pub tally : ((work w).tally.kept ≡ 0) × ((work w).tally.moved ≡ 0) × ((work w).tally.words ≡ 0)

  new-of : (r : Racing) (w : W) → IsNew r w → IsOf home work r w
  new-of r w is = (
    is.at_home,
    record {
      greys = [];
      accounts = subst (λ v. Accounts r v (work w).served []) (sym is.share) (subst (λ l. Accounts r (worker_share 1 is.number) l []) (sym is.served) (no-accounts r is.number));
      kept = (let a = is.tally.0 in omega arith);
      moved = (let a = is.tally.1 in omega arith);
      words = (let a = is.tally.2 in omega arith);
    },
  )

  -- the workers of the seats
  pub new-workers : (r : Racing) (ws : List W) (ks : List ℕ) → map (λ w. (seat w).seat.me.0) ws ≡ map (worker_share 1) ks → All (λ w. home w ≡ r) ws → All (λ w. (work w).served ≡ []) ws
      → All (λ w. ((work w).tally.kept ≡ 0) × ((work w).tally.moved ≡ 0) × ((work w).tally.words ≡ 0)) ws → All (IsNew r) ws
  new-workers r [] ks shares homes served tallies = All-nil (IsNew r)
  new-workers r (w ∷ ws) [] shares homes served tallies = absurd (let a : length (map (λ u. (seat u).seat.me.0) (w ∷ ws)) ≡ 0 = ap length shares in omega arith)
  new-workers r (w ∷ ws) (k ∷ ks) shares homes served tallies = All-cons (IsNew r) w ws (record {
    at_home = All-head (λ u. home u ≡ r) w ws homes;
    number = k;
    share = share-is w ∙ head-is shares;
    served = All-head (λ u. (work u).served ≡ []) w ws served;
    tally = All-head (λ u. ((work u).tally.kept ≡ 0) × ((work u).tally.moved ≡ 0) × ((work u).tally.words ≡ 0)) w ws tallies;
  }) (new-workers r ws ks (tail-is shares) (All-tail (λ u. home u ≡ r) w ws homes) (All-tail (λ u. (work u).served ≡ []) w ws served)
      (All-tail (λ u. ((work u).tally.kept ≡ 0) × ((work u).tally.moved ≡ 0) × ((work u).tally.words ≡ 0)) w ws tallies))
    where
      head-is : {x y : Share} {xs ys : List Share} → x ∷ xs ≡ y ∷ ys → x ≡ y
      head-is e = cc

      tail-is : {x y : Share} {xs ys : List Share} → x ∷ xs ≡ y ∷ ys → xs ≡ ys
      tail-is e = cc

  pub new-workers-at : (r : Racing) (n : ℕ) (ws : List W) (seats : List WorkerSeat) → map seat ws ≡ seats → NewSeats r.table n seats → All (λ w. home w ≡ r) ws → All (λ w. (work w).served ≡ []) ws
      → All (λ w. ((work w).tally.kept ≡ 0) × ((work w).tally.moved ≡ 0) × ((work w).tally.words ≡ 0)) ws → All (IsNew r) ws
  new-workers-at r n ws seats same new homes served tallies = new-workers r ws (range_with_len 1 n) (sym (map-map seat (λ (s : WorkerSeat). s.seat.me.0) ws) ∙ ap shares_of same ∙ new.shares) homes served tallies

  pub as-many-seats : (r : Racing) (n : ℕ) (ws : List W) (seats : List WorkerSeat) → map seat ws ≡ seats → NewSeats r.table n seats → length ws ≡ n
  as-many-seats r n ws seats same new = sym (length-map ws seat) ∙ ap length same ∙ sym (length-map seats (λ (s : WorkerSeat). s.seat.me.0)) ∙ ap length new.shares
      ∙ length-map (range_with_len 1 n) (worker_share 1) ∙ length-range_with_len 1 n

  module _ (r : Racing) (ws us vs : List W) (first scans later : List (Packet RaceItem)) (new : All (IsNew r) ws) (logs logs' : List (List (Step W RaceItem)))
      (roots-run : RunsBucket (Steps home work) (record { bucket = Roots; before = ws; first = first; logs = logs; after = us; later = scans }))
      (scans-run : RunsBucket (Steps home work) (record { bucket = Closure; before = us; first = scans; logs = logs'; after = vs; later = later }))
      (of : All (IsPacketOf r) later) where
    all-of : All (IsOf home work r) vs
    all-of = of-after home work Closure us scans logs' vs later scans-run r (of-after home work Roots ws first logs us scans roots-run r (All-weaker (IsNew r) (IsOf home work r) (new-of r) ws new))

    nothing : later ≡ []
    nothing = none-left r (pushed_by_all logs') later scans-run.left of

    gave-none : sum_by (gives home work) ws ≡ 0
    gave-none = sum-zero (gives home work) ws (All-weaker (IsNew r) (λ w. gives home work w ≡ 0) (λ w is. ap (λ (v : Share). v.gave) is.share) ws new)

    took-none : sum_by (takes home work) ws ≡ 0
    took-none = sum-zero (takes home work) ws (All-weaker (IsNew r) (λ w. takes home work w ≡ 0) (λ w is. ap (λ (v : Share). v.took) is.share) ws new)

    served-none : (i : ℕ) → sum_by (serves home work i) ws ≡ 0
    served-none i = sum-zero (serves home work i) ws (All-weaker (IsNew r) (λ w. serves home work i w ≡ 0) (λ w is. ap (λ l. times i (places l)) is.served) ws new)

    balanced : sum_by (gives home work) vs + tokens (items_of first) ≡ sum_by (takes home work) vs
    balanced =
        let a = tokens-balance home work Roots ws first logs us scans roots-run in
        let b = tokens-balance home work Closure us scans logs' vs later scans-run in
        let c : tokens (items_of later) ≡ 0 = ap (λ l. tokens (items_of l)) nothing in
        let d = gave-none in let e = took-none in omega arith

    all-served : (i : ℕ) → sum_by (serves home work i) vs ≡ registers i (items_of first)
    all-served i =
        let a = roots-balance home work Roots ws first logs us scans roots-run i in
        let b = roots-balance home work Closure us scans logs' vs later scans-run i in
        let c : registers i (items_of later) ≡ 0 = ap (λ l. registers i (items_of l)) nothing in
        let d = served-none i in omega arith

    module _ (raced : Raced) (seats : raced.seats.items ≡ map seat vs) (served : raced.served.items ≡ flat_map (λ w. (work w).served) vs)
        (kept : raced.tally.kept ≡ capped (2 ^ 32 - 1) (sum_by (λ w. (work w).tally.kept) vs)) (moved : raced.tally.moved ≡ capped (2 ^ 32 - 1) (sum_by (λ w. (work w).tally.moved) vs))
        (counted : raced.tally.words ≡ capped (2 ^ 64 - 1) (sum_by (λ w. (work w).tally.words) vs)) (workers : length ws ≡ (setup_at r.table).workers) where
      shares : shares_of raced.seats.items ≡ all_shares (map work vs)
      shares = ap shares_of seats ∙ map-map seat (λ (s : WorkerSeat). s.seat.me.0) vs ∙ same vs ∙ sym (map-map work (λ (w : Worked). w.share) vs)
        where
          same : (us : List W) → map (λ w. (seat w).seat.me.0) us ≡ map (λ w. (work w).share) us
          same [] = refl
          same (u ∷ us) = ap₂ (λ (v : Share) (l : List Share). v ∷ l) (sym (share-is u)) (same us)

      sum-shares : (f : Share → ℕ) → total f (shares_of raced.seats.items) ≡ sum_by (λ w. f (work w).share) vs
      sum-shares f = ap (total f) shares ∙ total-map f vs
        where
          total-map : (f : Share → ℕ) (us : List W) → total f (all_shares (map work us)) ≡ sum_by (λ w. f (work w).share) us
          total-map f [] = refl
          total-map f (u ∷ us) = ap (λ n. f (work u).share + n) (total-map f us) ∙ sym (sum_by-cons (λ w. f (work w).share) u us)

      pub has-raced : HasRaced r first raced
      has-raced = record {
        seats = subst (All (IsRacer r)) (sym seats) (all-map seat (IsRacer r) vs (All-weaker (IsOf home work r) (λ w. IsRacer r (seat w)) (λ w is. subst (λ h. IsRacer h (seat w)) is.0 (racer w)) vs all-of));
        count = ap length seats ∙ length-map vs seat ∙ as-many home work Closure us scans logs' vs later scans-run ∙ as-many home work Roots ws first logs us scans roots-run ∙ workers;
        tokens = (let a = sum-shares (λ (v : Share). v.gave) in let b = sum-shares (λ (v : Share). v.took) in let c = balanced in omega arith);
        roots = λ i. ap (λ l. times i (places l)) (served ∙ sym (flat-map work (λ (w : Worked). w.served) vs)) ∙ sum-places i (map work vs) ∙ sum-map work (λ (w : Worked). times i (places w.served)) vs ∙ all-served i;
        accounts = λ v none. all-accounted r v none (map work vs) (all-map work (IsWorked r) vs (All-weaker (IsOf home work r) (λ w. IsWorked r (work w)) (λ w is. is.1) vs all-of))
            raced.served.items raced.tally (shares_of raced.seats.items) shares (served ∙ sym (flat-map work (λ (w : Worked). w.served) vs))
            (kept ∙ ap (capped (2 ^ 32 - 1)) (sym (sum-map work (λ (w : Worked). w.tally.kept) vs))) (moved ∙ ap (capped (2 ^ 32 - 1)) (sym (sum-map work (λ (w : Worked). w.tally.moved) vs)))
            (counted ∙ ap (capped (2 ^ 64 - 1)) (sym (sum-map work (λ (w : Worked). w.tally.words) vs)));
      }
