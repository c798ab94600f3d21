-- Each move keeps the rule of a deque.
use Rattle.std.proofs.Common.{◌≡◌, ℕ, zero, suc, ◌+◌, ◌-◌, ◌<◌, ◌≤◌, All, List, [], ◌∷◌, ◌++◌, length, set, sym, refl, ap, ◌∙◌, subst, append_assoc, arith}
use Rattle.std.proofs.lemmas.List.{append-nil, length-append}
use Rattle.std.proofs.lemmas.List.Elements.{All-append, All-nil, All-take, All-drop}
use lib.Seq.{take-append_seam, drop-append_seam}
use mathlib.Core.Option.{some, none, some-ne-none}
use lib.ListN.{get_elem?}
use Rattle.std.specs.List.Sorted.{IsPermutation}
use Rattle.std.proofs.lemmas.List.Sorted.{IsPermutation-refl, IsPermutation-trans, IsPermutation-append_right, IsPermutation-append_left, IsPermutation-sym, length_permutation}
use Rattle.crossbeam_deque.specs.Tasks.{Pushes, Takes, Pops, Finds, Forks, Merges}
use Rattle.work_packets.specs.declared.packet.Packet.{Packet}
use Rattle.work_packets.proofs.Pieces.{nothing, piece, join, rearranged}
use Rattle.steal_pool.specs.declared.rule.Hand.{Hand}
use Rattle.steal_pool.specs.Rule.{hand, parts_of, taken_by, put_by_owner, AreIdle, IsBalanced}
use Rattle.steal_pool.specs.declared.rule.TheConstants.{PARTS}

module _ {X : Type 0} where
  pub all-left : (P : X → Type 0) (xs ys : List X) → All P (xs ++ ys) → All P xs
  all-left P xs ys h = subst (All P) (take-append_seam xs ys) (All-take P (length xs) (xs ++ ys) h)

  pub all-right : (P : X → Type 0) (xs ys : List X) → All P (xs ++ ys) → All P ys
  all-right P xs ys h = subst (All P) (drop-append_seam xs ys) (All-drop P (length xs) (xs ++ ys) h)

module _ {A : Type 0} where
  same_some : (x y : A) → some x ≡ some y → x ≡ y
  same_some x y e = cc

module _ {T : Type 0} where
  parts-set : (views : List (Hand T)) (port : ℕ) (v w : Hand T) → get_elem? views port ≡ some v → parts_of (set views port w) + v.parts ≡ parts_of views + w.parts
  parts-set [] port v w at = absurd (some-ne-none v (sym at))
  parts-set (x ∷ xs) zero v w at = let e = ap (λ (y : Hand T). y.parts) (same_some x v at) in omega arith
  parts-set (x ∷ xs) (suc j) v w at = let e = parts-set xs j v w at in omega arith

  taken-set : (views : List (Hand T)) (port : ℕ) (v w : Hand T) (xs : List (Packet T)) → get_elem? views port ≡ some v → w.taken ≡ v.taken ++ xs → IsPermutation (taken_by (set views port w)) (taken_by views ++ xs)
  taken-set [] port v w xs at e = absurd (some-ne-none v (sym at))
  taken-set (x ∷ vs) zero v w xs at e =
      subst (λ l. IsPermutation (l ++ taken_by vs) ((x.taken ++ taken_by vs) ++ xs)) (sym (e ∙ ap (λ (y : Hand T). y.taken ++ xs) (sym (same_some x v at))))
      (rearranged (x.taken ∷ xs ∷ taken_by vs ∷ []) (join (join (piece 0) (piece 1)) (piece 2)) (join (join (piece 0) (piece 2)) (piece 1)) refl)
  taken-set (x ∷ vs) (suc j) v w xs at e =
      subst (IsPermutation (x.taken ++ taken_by (set vs j w))) (sym (append_assoc x.taken (taken_by vs) xs)) (IsPermutation-append_right x.taken _ _ (taken-set vs j v w xs at e))

  idle-set : (views : List (Hand T)) (port : ℕ) (w : Hand T) → (w.parts ≡ 0 → w.taken ≡ []) → AreIdle views → AreIdle (set views port w)
  idle-set [] port w h i = i
  idle-set (x ∷ xs) zero w h i = (h, i.1)
  idle-set (x ∷ xs) (suc j) w h i = (i.0, idle-set xs j w h i.1)

  put-set : (views : List (Hand T)) (port : ℕ) (v w : Hand T) → get_elem? views port ≡ some v → w.put ≡ v.put → put_by_owner (set views port w) ≡ put_by_owner views
  put-set [] port v w at e = refl
  put-set (x ∷ xs) zero v w at e = e ∙ ap (λ (y : Hand T). y.put) (sym (same_some x v at))
  put-set (x ∷ xs) (suc j) v w at e = refl

  put-front : (views : List (Hand T)) (v : Hand T) → get_elem? views 0 ≡ some v → put_by_owner views ≡ v.put
  put-front [] v at = absurd (some-ne-none v (sym at))
  put-front (x ∷ xs) v at = ap (λ (y : Hand T). y.put) (same_some x v at)

  put-owner : (views : List (Hand T)) (v w : Hand T) → get_elem? views 0 ≡ some v → put_by_owner (set views 0 w) ≡ w.put
  put-owner [] v w at = absurd (some-ne-none v (sym at))
  put-owner (x ∷ xs) v w at = refl

  idle-none : (views : List (Hand T)) → AreIdle views → parts_of views ≡ 0 → taken_by views ≡ []
  idle-none [] i e = refl
  idle-none (x ∷ xs) i e = ap (λ l. l ++ taken_by xs) (i.0 (omega arith)) ∙ idle-none xs i.1 (omega arith)

module _ {T : Type 0} (fits : Packet T → Type 0) where
  pub begins : IsBalanced fits [] (hand PARTS [] [] ∷ [])
  begins = record { parts = omega arith; once = IsPermutation-refl []; idle = ((λ e. absurd (let n : PARTS ≡ 0 = e in omega arith)), tt); fit = All-nil fits }

  pub pushes : (v : Hand T) (xs : List (Packet T)) → 0 < v.parts → All fits xs → Pushes (IsBalanced fits) 0 v xs (λ w. w ≡ hand v.parts (v.put ++ xs) v.taken)
  pushes v xs pos fit items views h at =
      let w : Hand T = hand v.parts (v.put ++ xs) v.taken in
      let t = taken-set views 0 v w [] at (sym (append-nil v.taken)) in
      let p : IsPermutation (v.put ++ xs) ((taken_by views ++ items) ++ xs) = IsPermutation-append_left xs _ _ (subst (λ l. IsPermutation l (taken_by views ++ items)) (put-front views v at) h.once) in
      let s : IsPermutation ((taken_by views ++ items) ++ xs) ((taken_by views ++ []) ++ (items ++ xs)) = rearranged (taken_by views ∷ items ∷ xs ∷ []) (join (join (piece 0) (piece 1)) (piece 2)) (join (join (piece 0) nothing) (join (piece 1) (piece 2))) refl in (
        w,
        record {
          parts = let e = parts-set views 0 v w at in let f = h.parts in omega arith;
          once = subst (λ l. IsPermutation l (taken_by (set views 0 w) ++ (items ++ xs))) (sym (put-owner views v w at)) (IsPermutation-trans _ _ _ p (IsPermutation-trans _ _ _ s (IsPermutation-append_left (items ++ xs) _ _ (IsPermutation-sym _ _ t))));
          idle = idle-set views 0 w (λ e. absurd (omega arith)) h.idle;
          fit = All-append fits items xs h.fit fit;
        },
        refl,
      )

  gone : (port : ℕ) (v : Hand T) (xs items : List (Packet T)) (views : List (Hand T)) → 0 < v.parts → IsBalanced fits (xs ++ items) views → get_elem? views port ≡ some v → IsBalanced fits items (set views port (hand v.parts v.put (v.taken ++ xs)))
  gone port v xs items views pos h at =
      let w : Hand T = hand v.parts v.put (v.taken ++ xs) in
      record {
        parts = let e = parts-set views port v w at in let f = h.parts in omega arith;
        once = subst (λ l. IsPermutation l (taken_by (set views port w) ++ items)) (sym (put-set views port v w at refl))
            (IsPermutation-trans _ _ _ (subst (IsPermutation (put_by_owner views)) (sym (append_assoc (taken_by views) xs items)) h.once) (IsPermutation-append_left items _ _ (IsPermutation-sym _ _ (taken-set views port v w xs at refl))));
        idle = idle-set views port w (λ e. absurd (omega arith)) h.idle;
        fit = all-right fits xs items h.fit;
      }

  pub steals : (port : ℕ) (v : Hand T) (most : ℕ) → 0 < v.parts → Takes (IsBalanced fits) port v most (λ xs w. (w ≡ hand v.parts v.put (v.taken ++ xs)) × All fits xs)
  steals port v most pos xs items views _ _ h at = (hand v.parts v.put (v.taken ++ xs), gone port v xs items views pos h at, (refl, all-left fits xs items h.fit))

  own_taken : (views : List (Hand T)) (w : Hand T) → length (w.taken) ≤ length (taken_by (w ∷ views))
  own_taken views w = omega (arith, length-append w.taken (taken_by views))

  within : (items : List (Packet T)) (views : List (Hand T)) (v w : Hand T) → get_elem? views 0 ≡ some v → IsBalanced fits items (set views 0 w) → length w.taken ≤ length w.put
  within items [] v w at h = absurd (some-ne-none v (sym at))
  within items (x ∷ xs) v w at h = let n = length_permutation _ _ h.once in let m = own_taken xs w in omega (arith, length-append (taken_by (w ∷ xs)) items)

  pops : (v : Hand T) (most : ℕ) → 0 < v.parts → Takes (IsBalanced fits) 0 v most (λ xs w. (w ≡ hand v.parts v.put (v.taken ++ xs)) × (length w.taken ≤ length w.put) × All fits xs)
  pops v most pos xs items views _ _ h at = let w : Hand T = hand v.parts v.put (v.taken ++ xs) in let b = gone 0 v xs items views pos h at in (w, b, (refl, within items views v w at b, all-left fits xs items h.fit))

  turned : (items xs : List (Packet T)) (views : List (Hand T)) → IsBalanced fits (items ++ xs) views → IsBalanced fits (xs ++ items) views
  turned items xs views h = record {
    parts = h.parts;
    once = IsPermutation-trans _ _ _ h.once (rearranged (taken_by views ∷ items ∷ xs ∷ []) (join (piece 0) (join (piece 1) (piece 2))) (join (piece 0) (join (piece 2) (piece 1))) refl);
    idle = h.idle;
    fit = All-append fits xs items (all-right fits items xs h.fit) (all-left fits items xs h.fit);
  }

  pops_last : (v : Hand T) → 0 < v.parts → Pops (IsBalanced fits) 0 v (λ xs w. (w ≡ hand v.parts v.put (v.taken ++ xs)) × (length w.taken ≤ length w.put) × All fits xs)
  pops_last v pos x items views h at = pops v 1 pos (x ∷ []) items views (omega arith) (omega arith) (turned items (x ∷ []) views h) at

  finds : (v : Hand T) → Finds (IsBalanced fits) 0 v (v.parts ≡ PARTS → IsPermutation v.put v.taken)
  finds v [] h at = absurd (some-ne-none v (sym at))
  finds v (x ∷ xs) h at = λ all.
      let e : x ≡ v = same_some x v at in
      let ps = ap (λ (y : Hand T). y.parts) e in
      let t : taken_by xs ≡ [] = idle-none xs h.idle.1 (let f = h.parts in omega arith) in
      let p : IsPermutation x.put x.taken = subst (IsPermutation x.put) (append-nil _ ∙ ap (λ l. x.taken ++ l) t ∙ append-nil x.taken) h.once in
      subst (λ (y : Hand T). IsPermutation y.put y.taken) e p

module _ {T : Type 0} where
  parts-snoc : (views : List (Hand T)) (w : Hand T) → parts_of (views ++ w ∷ []) ≡ parts_of views + w.parts
  parts-snoc [] w = omega arith
  parts-snoc (x ∷ xs) w = let e = parts-snoc xs w in omega arith

  taken-snoc : (views : List (Hand T)) (w : Hand T) → w.taken ≡ [] → taken_by (views ++ w ∷ []) ≡ taken_by views
  taken-snoc [] w e = append-nil w.taken ∙ e
  taken-snoc (x ∷ xs) w e = ap (λ l. x.taken ++ l) (taken-snoc xs w e)

  idle-snoc : (views : List (Hand T)) (w : Hand T) → w.taken ≡ [] → AreIdle views → AreIdle (views ++ w ∷ [])
  idle-snoc [] w e i = ((λ _. e), tt)
  idle-snoc (x ∷ xs) w e i = (i.0, idle-snoc xs w e i.1)

  spends : (views : List (Hand T)) (j : ℕ) (u : Hand T) → get_elem? views j ≡ some u → IsPermutation (u.taken ++ taken_by (set views j (hand 0 [] []))) (taken_by views)
  spends [] j u at = absurd (some-ne-none u (sym at))
  spends (x ∷ xs) zero u at = subst (λ (y : Hand T). IsPermutation (y.taken ++ taken_by xs) (x.taken ++ taken_by xs)) (same_some x u at) (IsPermutation-refl _)
  spends (x ∷ xs) (suc j) u at = IsPermutation-trans _ _ _ (rearranged (u.taken ∷ x.taken ∷ taken_by (set xs j (hand 0 [] [])) ∷ []) (join (piece 0) (join (piece 1) (piece 2))) (join (piece 1) (join (piece 0) (piece 2))) refl) (IsPermutation-append_right x.taken _ _ (spends xs j u at))

module _ {T : Type 0} (fits : Packet T → Type 0) where
  forks : (v : Hand T) → 1 < v.parts → Forks (IsBalanced fits) 0 v (hand (v.parts - 1) v.put v.taken) (hand 1 [] [])
  forks v many items [] h at = absurd (some-ne-none v (sym at))
  forks v many items (x ∷ xs) h at =
      let e : x ≡ v = same_some x v at in let ps = ap (λ (y : Hand T). y.parts) e in
      let g : Hand T = hand 1 [] [] in
      record {
        parts = let k = parts-snoc xs g in let f = h.parts in omega arith;
        once = subst (λ l. IsPermutation v.put ((v.taken ++ l) ++ items)) (sym (taken-snoc xs g refl)) (subst (λ (y : Hand T). IsPermutation y.put ((y.taken ++ taken_by xs) ++ items)) e h.once);
        idle = ((λ z. absurd (omega arith)), idle-snoc xs g refl h.idle.1);
        fit = h.fit;
      }

  merges : (v : Hand T) (other : ℕ) (u : Hand T) → 0 < v.parts → Merges (IsBalanced fits) 0 v other u (hand (v.parts + u.parts) v.put (v.taken ++ u.taken)) (hand 0 [] [])
  merges v other u pos items [] h at apart at' = absurd (some-ne-none v (sym at))
  merges v zero u pos items (x ∷ xs) h at apart at' = absurd (apart refl)
  merges v (suc j) u pos items (x ∷ xs) h at apart at' =
      let e : x ≡ v = same_some x v at in let ps = ap (λ (y : Hand T). y.parts) e in
      let none : Hand T = hand 0 [] [] in
      let s : IsPermutation ((v.taken ++ taken_by xs) ++ items) (((v.taken ++ u.taken) ++ taken_by (set xs j none)) ++ items) =
      IsPermutation-append_left items _ _ (subst (IsPermutation (v.taken ++ taken_by xs)) (sym (append_assoc v.taken u.taken (taken_by (set xs j none)))) (IsPermutation-append_right v.taken _ _ (IsPermutation-sym _ _ (spends xs j u at')))) in
      record {
        parts = let k = parts-set xs j u none at' in let f = h.parts in omega arith;
        once = IsPermutation-trans _ _ _ (subst (λ (y : Hand T). IsPermutation y.put ((y.taken ++ taken_by xs) ++ items)) e h.once) s;
        idle = ((λ z. absurd (omega arith)), idle-set xs j none (λ _. refl) h.idle.1);
        fit = h.fit;
      }

  pub own_pushes : (port : ℕ) (v : Hand T) (xs : List (Packet T)) → port ≡ 0 → 0 < v.parts → All fits xs → Pushes (IsBalanced fits) port v xs (λ w. w ≡ hand v.parts (v.put ++ xs) v.taken)
  own_pushes port v xs e pos fit = subst (λ n. Pushes (IsBalanced fits) n v xs (λ w. w ≡ hand v.parts (v.put ++ xs) v.taken)) (sym e) (pushes fits v xs pos fit)

  pub own_pops : (port : ℕ) (v : Hand T) → port ≡ 0 → 0 < v.parts → Pops (IsBalanced fits) port v (λ xs w. (w ≡ hand v.parts v.put (v.taken ++ xs)) × (length w.taken ≤ length w.put) × All fits xs)
  own_pops port v e pos = subst (λ n. Pops (IsBalanced fits) n v (λ xs w. (w ≡ hand v.parts v.put (v.taken ++ xs)) × (length w.taken ≤ length w.put) × All fits xs)) (sym e) (pops_last fits v pos)

  pub own_finds : (port : ℕ) (v : Hand T) → port ≡ 0 → Finds (IsBalanced fits) port v (v.parts ≡ PARTS → IsPermutation v.put v.taken)
  own_finds port v e = subst (λ n. Finds (IsBalanced fits) n v (v.parts ≡ PARTS → IsPermutation v.put v.taken)) (sym e) (finds fits v)

  pub own_forks : (port : ℕ) (v : Hand T) → port ≡ 0 → 1 < v.parts → Forks (IsBalanced fits) port v (hand (v.parts - 1) v.put v.taken) (hand 1 [] [])
  own_forks port v e many = subst (λ n. Forks (IsBalanced fits) n v (hand (v.parts - 1) v.put v.taken) (hand 1 [] [])) (sym e) (forks v many)

  pub own_merges : (port : ℕ) (v : Hand T) (other : ℕ) (u : Hand T) → port ≡ 0 → 0 < v.parts → Merges (IsBalanced fits) port v other u (hand (v.parts + u.parts) v.put (v.taken ++ u.taken)) (hand 0 [] [])
  own_merges port v other u e pos = subst (λ n. Merges (IsBalanced fits) n v other u (hand (v.parts + u.parts) v.put (v.taken ++ u.taken)) (hand 0 [] [])) (sym e) (merges v other u pos)
