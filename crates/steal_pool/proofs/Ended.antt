-- What all workers did, once their tickets are back and their deques are empty.
use Rattle.std.proofs.Common.{◌≡◌, List, [], ◌++◌, All, map, sym, ◌∙◌, subst}
use Rattle.std.specs.List.{AllZip, flat_map}
use Rattle.std.specs.List.Sorted.{IsPermutation}
use Rattle.work_packets.specs.declared.packet.Bucket.{Bucket}
use Rattle.work_packets.specs.declared.packet.Packet.{Packet}
use Rattle.work_packets.specs.declared.share.Share.{Share}
use Rattle.work_packets.specs.Packets.{HasItems}
use Rattle.work_packets.specs.Shares.{packets_in}
use Rattle.work_packets.specs.Steps.{Step}
use Rattle.steal_pool.specs.declared.seats.Seat.{Seat}
use Rattle.steal_pool.specs.Ends.{puts, takings}
use Rattle.steal_pool.specs.Seats.{account, desk_of, got_by, HasBegun, GoesOnTo}
use Rattle.steal_pool.specs.Served.{RunsPart}
use Rattle.steal_pool.proofs.Places.{same-parts, same-flat-parts}
use Rattle.steal_pool.proofs.Totals.{all-served, served-part}

module _ {W T H : Type 0} (home : W → H) (takes : H → Packet T → Type 0) (steps : W → Packet T → List (Packet T) → W → Type 0) (b : Bucket) where
  pub record HaveEnded (before : List W) (first : List (Packet T)) (after : List W) (rest later : List (Packet T)) : Type 0 where
    pub logs : List (List (Step W T))
    pub runs : RunsPart steps b before first logs after rest later
    pub sized : All HasItems later
    pub homes : (h : H) → All (λ w. home w ≡ h) before → All (λ w. home w ≡ h) after
    pub taken : (h : H) → All (λ w. home w ≡ h) before → All (takes h) later

module _ {W T K H : Type 0} (home : W → H) (takes : H → Packet T → Type 0) (steps : W → Packet T → List (Packet T) → W → Type 0) (b : Bucket) where
  pub ended : (before : List W) (first : List (Packet T)) (shares : List (Share T W)) (seats served emptied : List (Seat T W K)) (after : List W) (rest later : List (Packet T)) → map (λ s. s.worker) shares ≡ before → IsPermutation first (packets_in shares)
      → AllZip (HasBegun home takes steps b) shares (map account seats) → All (λ s. got_by s ≡ []) seats → AllZip (GoesOnTo home takes steps b) seats served → map account emptied ≡ map account served
      → IsPermutation (flat_map (λ s. got_by s) served) (flat_map (λ s. takings (desk_of s).own) emptied) → after ≡ map (λ s. (desk_of s).worker) emptied → later ≡ flat_map (λ s. (desk_of s).later.items) emptied
      → IsPermutation (flat_map (λ s. puts (desk_of s).own) emptied) (flat_map (λ s. takings (desk_of s).own) emptied ++ rest) → HaveEnded home takes steps b before first after rest later
  ended before first shares seats served emptied after rest later were dealt begun none goes same taken workers laters left =
      let all = all-served home takes steps b shares seats served begun none goes in
      let put : flat_map (λ s. puts (desk_of s).own) emptied ≡ flat_map (λ s. puts (desk_of s).own) served = same-flat-parts account (λ a. a.put) emptied served same in
      let w : after ≡ map (λ s. (desk_of s).worker) served = workers ∙ same-parts account (λ a. a.worker) emptied served same in
      let l : later ≡ flat_map (λ s. (desk_of s).later.items) served = laters ∙ same-flat-parts account (λ a. a.later) emptied served same in
      let part = served-part home takes steps b (map (λ s. s.worker) shares) (packets_in shares) first all.0 all.1 (map (λ s. (desk_of s).worker) served) (flat_map (λ s. puts (desk_of s).own) served) (flat_map (λ s. got_by s) served) (flat_map (λ s. (desk_of s).later.items) served)
      (flat_map (λ s. takings (desk_of s).own) emptied) rest all.2 dealt (subst (λ p. IsPermutation p (flat_map (λ s. takings (desk_of s).own) emptied ++ rest)) put left) taken in
      record {
        logs = all.0;
        runs = subst (λ ws. RunsPart steps b ws first all.0 after rest later) were (subst (λ vs. RunsPart steps b (map (λ s. s.worker) shares) first all.0 vs rest later) (sym w) (subst (RunsPart steps b (map (λ s. s.worker) shares) first all.0 (map (λ s. (desk_of s).worker) served) rest) (sym l) part));
        sized = subst (All HasItems) (sym l) all.2.sized;
        homes = λ h own. subst (All (λ w. home w ≡ h)) (sym w) (all.2.homes h (subst (All (λ w. home w ≡ h)) (sym were) own));
        taken = λ h own. subst (All (takes h)) (sym l) (all.2.taken h (subst (All (λ w. home w ≡ h)) (sym were) own));
      }
