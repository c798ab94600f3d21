-- The workers of a trace after the packets of roots and those that scan objects.
use Rattle.std.proofs.Common.{◌≡◌, refl, sym, subst, ap, ◌∙◌, ℕ, ◌+◌, ◌⊎◌, inl, inr, arith, true, false, List, [], ◌∷◌, length}
use Rattle.std.specs.Prelude.{All, sum_by}
use Rattle.std.specs.List.Sorted.{IsPermutation}
use Rattle.std.proofs.lemmas.List.Elements.{All-nil, All-cons, All-head, All-tail, filter_passes}
use Rattle.std.proofs.lemmas.List.Sorted.{All-permutation}
use Rattle.std.proofs.lemmas.List.Sums.{sum_by-cons}
use Rattle.object_model.specs.Times.{times}
use Rattle.trace_core.proofs.CountedRights.{count-append, count-cons}
use Rattle.trace_table.specs.declared.table.TraceTable.{TraceTable}
use Rattle.work_packets.specs.declared.packet.Bucket.{Bucket}
use Rattle.work_packets.specs.declared.packet.Bucket.TheVariants.{Roots, Closure}
use Rattle.work_packets.specs.declared.packet.Packet.{Packet}
use Rattle.work_packets.specs.Buckets.{is_before}
use Rattle.work_packets.specs.Packets.{packets_after}
use Rattle.work_packets.specs.Steps.{Step, RunsBucket, Reaches, AllReach}
use Rattle.work_packets.proofs.Balances.{balance}
use Rattle.work_packets.proofs.Logs.{AllReach-lengths}
use Rattle.racing_collector.specs.declared.item.RaceItem.{RaceItem}
use Rattle.racing_collector.specs.declared.item.RaceItem.TheVariants.{Register, Global, Object}
use Rattle.racing_collector.specs.declared.racing.Racing.{Racing}
use Rattle.racing_collector.specs.Accounts.{places}
use Rattle.racing_collector.specs.Items.{AreScans, IsPacketOf, IsScan, is_register, is_token, items_of, registers, tokens}
use Rattle.racing_collector.specs.Working.{Worked, IsWorked, RunsPacket}

no-truth : false ≡ true → ⊥
no-truth e = cc

-- packets of the trace after one of its buckets
module _ (b : Bucket) where
  after-roots : is_before Roots b ≡ true → (b ≡ Roots) ⊎ (b ≡ Closure) → b ≡ Closure
  after-roots after (inl e) = absurd (no-truth (subst (λ c. is_before Roots c ≡ true) e after))
  after-roots after (inr e) = e

  after-closure : is_before Closure b ≡ true → (b ≡ Roots) ⊎ (b ≡ Closure) → ⊥
  after-closure after (inl e) = no-truth (subst (λ c. is_before Closure c ≡ true) e after)
  after-closure after (inr e) = no-truth (subst (λ c. is_before Closure c ≡ true) e after)

module _ (r : Racing) (ps later : List (Packet RaceItem)) where
  all-after : (b : Bucket) → IsPermutation (packets_after b ps) later → All (λ p. is_before b p.bucket ≡ true) later
  all-after b left = All-permutation (λ p. is_before b p.bucket ≡ true) (packets_after b ps) later left (filter_passes (λ (p : Packet RaceItem). is_before b p.bucket) ps)

  closure-all : (l : List (Packet RaceItem)) → All (λ p. is_before Roots p.bucket ≡ true) l → All (IsPacketOf r) l → All (λ p. p.bucket ≡ Closure) l
  closure-all [] after of = All-nil (λ p. p.bucket ≡ Closure)
  closure-all (p ∷ l) after of = All-cons (λ p. p.bucket ≡ Closure) p l (after-roots p.bucket (All-head (λ p. is_before Roots p.bucket ≡ true) p l after) (All-head (IsPacketOf r) p l of).bucket)
      (closure-all l (All-tail (λ p. is_before Roots p.bucket ≡ true) p l after) (All-tail (IsPacketOf r) p l of))

  -- what is left after the roots scans objects, and after that nothing is left
  pub scans-left : IsPermutation (packets_after Roots ps) later → All (IsPacketOf r) later → All (λ p. p.bucket ≡ Closure) later
  scans-left left of = closure-all later (all-after Roots left) of

  none-of : (l : List (Packet RaceItem)) → All (λ p. is_before Closure p.bucket ≡ true) l → All (IsPacketOf r) l → l ≡ []
  none-of [] after of = refl
  none-of (p ∷ l) after of = absurd (after-closure p.bucket (All-head (λ p. is_before Closure p.bucket ≡ true) p l after) (All-head (IsPacketOf r) p l of).bucket)

  pub none-left : IsPermutation (packets_after Closure ps) later → All (IsPacketOf r) later → later ≡ []
  none-left left of = none-of later (all-after Closure left) of

-- sums over packets are those of their items
sum-tokens : (ps : List (Packet RaceItem)) → sum_by (λ (p : Packet RaceItem). tokens p.items.items) ps ≡ tokens (items_of ps)
sum-tokens [] = refl
sum-tokens (p ∷ ps) = let a = sum_by-cons (λ (q : Packet RaceItem). tokens q.items.items) p ps in let b = count-append is_token p.items.items (items_of ps) in let c = sum-tokens ps in omega arith

sum-registers : (i : ℕ) (ps : List (Packet RaceItem)) → sum_by (λ (p : Packet RaceItem). registers i p.items.items) ps ≡ registers i (items_of ps)
sum-registers i [] = refl
sum-registers i (p ∷ ps) = let a = sum_by-cons (λ (q : Packet RaceItem). registers i q.items.items) p ps in let b = count-append (is_register i) p.items.items (items_of ps) in let c = sum-registers i ps in omega arith

-- scans are for no root
no-registers : (t : TraceTable) (i : ℕ) (l : List RaceItem) → All (IsScan t) l → registers i l ≡ 0
no-registers t i [] all = refl
no-registers t i (Register j ∷ l) all = absurd (All-head (IsScan t) (Register j) l all)
no-registers t i (Global root ∷ l) all = absurd (All-head (IsScan t) (Global root) l all)
no-registers t i (Object grey ∷ l) all = let a = count-cons (is_register i) (Object grey) l in let b = no-registers t i l (All-tail (IsScan t) (Object grey) l all) in omega arith

scans-none : (t : TraceTable) (i : ℕ) (ps : List (Packet RaceItem)) → All (AreScans t) ps → sum_by (λ (p : Packet RaceItem). registers i p.items.items) ps ≡ 0
scans-none t i [] all = refl
scans-none t i (p ∷ ps) all = let a = sum_by-cons (λ (q : Packet RaceItem). registers i q.items.items) p ps in let b = no-registers t i p.items.items (All-head (AreScans t) p ps all).objects in
    let c = scans-none t i ps (All-tail (AreScans t) p ps all) in omega arith

module _ {W : Type 0} (home : W → Racing) (work : W → Worked) where
  abbrev pub Steps : W → Packet RaceItem → List (Packet RaceItem) → W → Type 0
  Steps w p q v = (home v ≡ home w) × RunsPacket (home w) (work w) p q (work v)

  -- what steps keep, all workers keep
  module _ (P : W → Type 0) (keeps : (w v : W) (p : Packet RaceItem) (q : List (Packet RaceItem)) → Steps w p q v → P w → P v) where
    reach : (w : W) (log : List (Step W RaceItem)) (v : W) → Reaches Steps w log v → P w → P v
    reach w [] v same was = subst P (sym same) was
    reach w (s ∷ log) v steps was = reach s.worker log v steps.1 (keeps w s.worker s.packet s.pushed steps.0 was)

    pub reach-all : (ws : List W) (logs : List (List (Step W RaceItem))) (vs : List W) → AllReach Steps ws logs vs → All P ws → All P vs
    reach-all [] [] [] h all = All-nil P
    reach-all (w ∷ ws) (log ∷ logs) (v ∷ vs) h all = All-cons P v vs (reach w log v h.0 (All-head P w ws all)) (reach-all ws logs vs h.1 (All-tail P w ws all))
    reach-all [] [] (v ∷ vs) h all = absurd h
    reach-all [] (log ∷ logs) vs h all = absurd h
    reach-all (w ∷ ws) [] vs h all = absurd h
    reach-all (w ∷ ws) (log ∷ logs) [] h all = absurd h

  abbrev pub IsOf : Racing → W → Type 0
  IsOf r w = (home w ≡ r) × IsWorked r (work w)

  of-on : (r : Racing) (w v : W) (p : Packet RaceItem) (q : List (Packet RaceItem)) → Steps w p q v → IsOf r w → IsOf r v
  of-on r w v p q steps was = (steps.0 ∙ was.0, subst (λ (h : Racing). IsWorked h (work w) → IsWorked h (work v)) was.0 steps.1.accounts was.1)

  abbrev pub gives : W → ℕ
  gives w = (work w).share.gave

  abbrev pub takes : W → ℕ
  takes w = (work w).share.took

  abbrev pub serves : ℕ → W → ℕ
  serves i w = times i (places (work w).served)

  -- a bucket
  module _ (b : Bucket) (ws : List W) (first : List (Packet RaceItem)) (logs : List (List (Step W RaceItem))) (vs : List W) (later : List (Packet RaceItem))
      (runs : RunsBucket Steps (record { bucket = b; before = ws; first = first; logs = logs; after = vs; later = later })) where
    pub of-after : (r : Racing) → All (IsOf r) ws → All (IsOf r) vs
    of-after r all = reach-all (IsOf r) (of-on r) ws logs vs runs.reached all

    pub as-many : length vs ≡ length ws
    as-many = AllReach-lengths Steps ws logs vs runs.reached

    pub tokens-balance : sum_by takes vs + sum_by gives ws + tokens (items_of later) ≡ sum_by gives vs + sum_by takes ws + tokens (items_of first)
    tokens-balance =
        let all = balance (λ (p : Packet RaceItem). tokens p.items.items) Steps gives takes
        (λ w v p q is. (is.1.gave ∙ ap (λ n. gives w + n) (sym (sum-tokens q)), is.1.took)) (record { bucket = b; before = ws; first = first; logs = logs; after = vs; later = later }) runs in
        let left = sum-tokens later in let begun = sum-tokens first in omega arith

    abbrev none : W → ℕ
    none w = 0

    sum-none : (us : List W) → sum_by none us ≡ 0
    sum-none [] = refl
    sum-none (u ∷ us) = let a = sum_by-cons none u us in let b = sum-none us in omega (arith, a, b)

    no-sum : (r : Racing) (i : ℕ) (q : List (Packet RaceItem)) → All (AreScans r.table) q → 0 ≡ 0 + sum_by (λ (p : Packet RaceItem). registers i p.items.items) q
    no-sum r i q all = let a = scans-none r.table i q all in omega (arith, a)

    pub roots-balance : (i : ℕ) → sum_by (serves i) vs + registers i (items_of later) ≡ sum_by (serves i) ws + registers i (items_of first)
    roots-balance i =
        let all = balance (λ (p : Packet RaceItem). registers i p.items.items) Steps none (serves i)
        (λ w v p q is. (no-sum (home w) i q is.1.scans, is.1.roots i)) (record { bucket = b; before = ws; first = first; logs = logs; after = vs; later = later }) runs in
        let a = sum-none ws in let c = sum-none vs in let left = sum-registers i later in let begun = sum-registers i first in omega arith
