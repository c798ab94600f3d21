-- Packets are put into the deque, or refused.
use Rattle.std.proofs.Common.{◌≡◌, Bool, true, false, cond, All, List, [], ◌∷◌, ◌++◌, refl, sym, ap, ◌∙◌, subst, append_assoc}
use Rattle.std.specs.List.{filter}
use Rattle.std.specs.List.Sorted.{IsPermutation}
use Rattle.std.proofs.lemmas.List.Sorted.{IsPermutation-trans, IsPermutation-append_left}
use Rattle.std.proofs.lemmas.List.Elements.{All-head, filter-append}
use Rattle.steal_pool.proofs.Moves.{all-left, all-right}
use Rattle.work_packets.proofs.Logs.{moves-over, stays-out}
use Rattle.work_packets.proofs.Pieces.{piece, join, rearranged}

module _ {X : Type 0} (test : X → Bool) where
  -- of all that pass the test, some were put, some were refused, and some are among those to come
  abbrev pub IsOffered : List X → List X → List X → List X → List X → List X → Type 0
  IsOffered put0 backlog0 all put backlog from = (us : List X) × (rs : List X) × (put ≡ put0 ++ us) × (backlog ≡ backlog0 ++ rs) × IsPermutation (filter test all) ((us ++ rs) ++ filter test from)

  pub offer-puts : (put0 backlog0 all put backlog from rest put' : List X) (x : X) → test x ≡ true → from ≡ rest ++ x ∷ [] → put' ≡ put ++ x ∷ [] → IsOffered put0 backlog0 all put backlog from → IsOffered put0 backlog0 all put' backlog rest
  offer-puts put0 backlog0 all put backlog from rest put' x passes e f h = (
    h.0 ++ x ∷ [],
    h.1,
    f ∙ ap (λ l. l ++ x ∷ []) h.2 ∙ append_assoc put0 h.0 (x ∷ []),
    h.3,
    IsPermutation-trans _ _ _ (moves-over test x rest from (filter test all) (h.0 ++ h.1) ((h.0 ++ h.1) ++ x ∷ []) passes e refl h.4)
        (IsPermutation-append_left (filter test rest) _ _ (rearranged (h.0 ∷ h.1 ∷ (x ∷ []) ∷ []) (join (join (piece 0) (piece 1)) (piece 2)) (join (join (piece 0) (piece 2)) (piece 1)) refl)),
  )

  pub offer-refused : (put0 backlog0 all put backlog from rest put' backlog' : List X) (x : X) → test x ≡ true → from ≡ rest ++ x ∷ [] → put' ≡ put → backlog' ≡ backlog ++ x ∷ [] → IsOffered put0 backlog0 all put backlog from → IsOffered put0 backlog0 all put' backlog' rest
  offer-refused put0 backlog0 all put backlog from rest put' backlog' x passes e f g h = (
    h.0,
    h.1 ++ x ∷ [],
    f ∙ h.2,
    g ∙ ap (λ l. l ++ x ∷ []) h.3 ∙ append_assoc backlog0 h.1 (x ∷ []),
    moves-over test x rest from (filter test all) (h.0 ++ h.1) (h.0 ++ (h.1 ++ x ∷ [])) passes e (sym (append_assoc h.0 h.1 (x ∷ []))) h.4,
  )

  pub offer-skips : (put0 backlog0 all put backlog from rest : List X) (x : X) → test x ≡ false → from ≡ rest ++ x ∷ [] → IsOffered put0 backlog0 all put backlog from → IsOffered put0 backlog0 all put backlog rest
  offer-skips put0 backlog0 all put backlog from rest x fails e h = (h.0, h.1, h.2, h.3, stays-out test x rest from (filter test all) (h.0 ++ h.1) fails e h.4)

  -- what holds of those to come that pass the test
  pub rest-fit : (P : X → Type 0) (from rest : List X) (x : X) → from ≡ rest ++ x ∷ [] → All P (filter test from) → All P (filter test rest)
  rest-fit P from rest x e h = all-left P (filter test rest) (filter test (x ∷ [])) (subst (All P) (ap (filter test) e ∙ filter-append test rest (x ∷ [])) h)

  pub last-fits : (P : X → Type 0) (from rest : List X) (x : X) → test x ≡ true → from ≡ rest ++ x ∷ [] → All P (filter test from) → P x
  last-fits P from rest x passes e h =
      let last : All P (filter test (x ∷ [])) = all-right P (filter test rest) (filter test (x ∷ [])) (subst (All P) (ap (filter test) e ∙ filter-append test rest (x ∷ [])) h) in
      All-head P x [] (subst (λ t. All P (cond t (x ∷ []) [])) passes last)
