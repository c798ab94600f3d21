-- A worker goes on from seat to seat.
use Rattle.std.proofs.Common.{◌≡◌, ◌+◌, ◌<◌, List, [], ◌∷◌, ◌++◌, refl, sym, ap, ◌∙◌, subst}
use Rattle.std.specs.List.{flat_map}
use Rattle.std.specs.List.Sorted.{IsPermutation}
use Rattle.work_packets.specs.declared.packet.Bucket.{Bucket}
use Rattle.work_packets.specs.declared.packet.Packet.{Packet}
use Rattle.work_packets.proofs.Pieces.{piece, join, rearranged}
use Rattle.crossbeam_deque.specs.declared.handles.Worker.{Worker}
use Rattle.steal_pool.specs.declared.rule.Hand.{Hand}
use Rattle.steal_pool.specs.declared.desk.Desk.{Desk}
use Rattle.steal_pool.specs.declared.seats.Seat.{Seat}
use Rattle.steal_pool.specs.Ends.{IsOwner, Keeps, puts, takings, stolen}
use Rattle.std.specs.declared.alloc.Global.{Global}
use Rattle.atomic_blocks.specs.Lent.{RowsId}
use Rattle.steal_pool.specs.Seats.{Account, desk_of, got_by, GoesOnTo}
use Rattle.steal_pool.specs.Served.{IsServed}
use Rattle.steal_pool.proofs.Services.{GoesOn, served-got, served-shuffled}

module _ {W T K H : Type 0} (home : W → H) (takes : H → Packet T → Type 0) (steps : W → Packet T → List (Packet T) → W → Type 0) (b : Bucket) where
  pub stays-there : (s : Seat T W K) → (desk_of s).backlog.items ≡ [] → GoesOnTo home takes steps b s s
  stays-there s none = record {
    keeps = (refl, refl, refl, refl);
    same_home = refl;
    none = none;
    served = λ w first h. subst (λ l. IsServed home takes steps b w first (desk_of s).worker (puts (desk_of s).own) (got_by s) l (desk_of s).later.items) none h;
  }

  pub then-goes : (s t u : Seat T W K) → GoesOnTo home takes steps b s t → GoesOnTo home takes steps b t u → GoesOnTo home takes steps b s u
  then-goes s t u h k = record {
    keeps = (k.keeps.0 ∙ h.keeps.0, k.keeps.1 ∙ h.keeps.1, k.keeps.2 ∙ h.keeps.2, k.keeps.3 ∙ h.keeps.3);
    same_home = k.same_home ∙ h.same_home;
    none = k.none;
    served = λ w first x. k.served w first (subst (λ l. IsServed home takes steps b w first (desk_of t).worker (puts (desk_of t).own) (got_by t) l (desk_of t).later.items) (sym h.none) (h.served w first x));
  }

  -- it drained its deque
  pub goes-drained : (s t : Seat T W K) → t.tickets ≡ s.tickets → Keeps (desk_of s).own (desk_of t).own → home (desk_of t).worker ≡ home (desk_of s).worker → (desk_of t).backlog.items ≡ []
      → ((more : List (Packet T)) × (takings (desk_of t).own ≡ takings (desk_of s).own ++ more)
      × GoesOn home takes steps b (desk_of s).worker (puts (desk_of s).own) (desk_of s).backlog.items (desk_of s).later.items (desk_of t).worker (puts (desk_of t).own) [] (desk_of t).later.items more) → GoesOnTo home takes steps b s t
  goes-drained s t same keeps homes none m = record {
    keeps = keeps;
    same_home = homes;
    none = none;
    served = λ w first x.
        let st = flat_map stolen s.tickets.items in let tk = takings (desk_of s).own in
        let turned : IsPermutation ((tk ++ st) ++ m.0) ((tk ++ m.0) ++ st) = rearranged (tk ∷ st ∷ m.0 ∷ []) (join (join (piece 0) (piece 1)) (piece 2)) (join (join (piece 0) (piece 2)) (piece 1)) refl in
        let e : (tk ++ m.0) ++ st ≡ got_by t = ap (λ l. l ++ st) (sym m.1) ∙ ap (λ v. takings (desk_of t).own ++ flat_map stolen v.items) (sym same) in
        served-shuffled home takes steps b w first (desk_of t).worker (puts (desk_of t).own) ((tk ++ st) ++ m.0) (got_by t) [] (desk_of t).later.items (subst (IsPermutation ((tk ++ st) ++ m.0)) e turned) (m.2 w first (got_by s) x);
  }

  -- it stole a packet, and went on from there
  pub goes-stolen : (s t u : Seat T W K) (p : Packet T) → (desk_of t).worker ≡ (desk_of s).worker → (desk_of t).own ≡ (desk_of s).own → (desk_of t).later ≡ (desk_of s).later → (desk_of t).backlog.items ≡ (desk_of s).backlog.items ++ p ∷ []
      → IsPermutation (got_by s ++ p ∷ []) (got_by t) → GoesOnTo home takes steps b t u → GoesOnTo home takes steps b s u
  goes-stolen s t u p same own later backlog got k = record {
    keeps = subst (λ o. Keeps o (desk_of u).own) own k.keeps;
    same_home = k.same_home ∙ ap home same;
    none = k.none;
    served = λ w first x. k.served w first
        (subst (λ v. IsServed home takes steps b w first v (puts (desk_of t).own) (got_by t) (desk_of t).backlog.items (desk_of t).later.items) (sym same)
        (subst (λ o. IsServed home takes steps b w first (desk_of s).worker (puts o) (got_by t) (desk_of t).backlog.items (desk_of t).later.items) (sym own)
        (subst (λ l. IsServed home takes steps b w first (desk_of s).worker (puts (desk_of s).own) (got_by t) l (desk_of t).later.items) (sym backlog)
        (subst (λ l. IsServed home takes steps b w first (desk_of s).worker (puts (desk_of s).own) (got_by t) ((desk_of s).backlog.items ++ p ∷ []) l.items) (sym later)
        (served-got home takes steps b w first (desk_of s).worker (puts (desk_of s).own) (got_by s) (got_by t) (desk_of s).backlog.items (desk_of s).later.items p got x)))));
  }

module _ {W T K H : Type 0} (home : W → H) (takes : H → Packet T → Type 0) (steps : W → Packet T → List (Packet T) → W → Type 0) (b : Bucket) where
  -- it looked at a deque, and took nothing
  pub goes-looked : (s t : Seat T W K) → desk_of t ≡ desk_of s → got_by t ≡ got_by s → (desk_of s).backlog.items ≡ [] → GoesOnTo home takes steps b s t
  goes-looked s t same got none = record {
    keeps = subst (λ (d : Desk T W K). Keeps (desk_of s).own d.own) (sym same) (refl, refl, refl, refl);
    same_home = ap (λ (d : Desk T W K). home d.worker) same;
    none = ap (λ (d : Desk T W K). d.backlog.items) same ∙ none;
    served = λ w first x. subst (λ (d : Desk T W K). IsServed home takes steps b w first d.worker (puts d.own) (got_by t) [] d.later.items) (sym same)
        (subst (λ l. IsServed home takes steps b w first (desk_of s).worker (puts (desk_of s).own) l [] (desk_of s).later.items) (sym got)
        (subst (λ l. IsServed home takes steps b w first (desk_of s).worker (puts (desk_of s).own) (got_by s) l (desk_of s).later.items) none x));
  }

module _ {T A P : Type 0} where
  pub still-owner : (old new : Worker (Packet T) A (Hand T) P) → Keeps old new → IsOwner old → IsOwner new
  still-owner old new k h = (k.1 ∙ h.0, k.2 ∙ h.1, subst (λ n. 0 < n) (sym k.3) h.2)

module _ {T W : Type 0} where
  abbrev pub accounted : W → RowsId × Global → List (Packet T) → List (Packet T) → List (Packet T) → Account T W
  accounted w d put backlog later = record { worker = w; deque = d; put = put; backlog = backlog; later = later }

  pub same-account : (w : W) (d d' : RowsId × Global) (put put' backlog later : List (Packet T)) → d' ≡ d → put' ≡ put → accounted w d' put' backlog later ≡ accounted w d put backlog later
  same-account w d d' put put' backlog later e f = ap (λ x. accounted w x put' backlog later) e ∙ ap (λ x. accounted w d x backlog later) f
