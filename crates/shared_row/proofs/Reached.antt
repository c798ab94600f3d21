-- What a step reaches behind the `&` to the shared words and the `&mut` to a seat, and how it lets both go. Assumes `Logic`.
--     finds_start     where the words lie, the invariant, and that their age lasts
--     takes_seat      with the start read: a share of the age, and what the seat owns
--     shuts_seat      the seat at what it has after a step, and the tokens of all lifetimes
--     lets_go         the same after a step that tells what the seat has
use Rattle.shared_row.proofs.Names.{◌≡◌, ℕ, List, [], ◌∷◌, refl, full_share, Gv, Val, vptr, Body, Ura, Lft, Share, GName, Fml, fhide, fsep, feq, fobs, fbor, fobor, fauth, flft, fex, guard_i, Logic, sem, Goal, Item, Seq, Step, Soaks, kit_step as step, ‵, ◌⊛◌, given, ◌$◌, move, drop, join, split, fsplit, fpick, fjoin, fjoin3, feq_i, learn, use1, rewrite, shr_bor-open, obor_close, tokens_halve, fact_use, unit, Is, shows, hidden_shr, cell_at, part_at, mem, opens, closes, looks, shuts, peeks, unhide, Shut, RattleType, Ptr, block_ptr, lent_out, Tuple, Me, RuleGhosts as Ghosts, TableId, Placed, age, common, seated_fact as fact, lasts, mine, placed}
use Rattle.core.specs.contracts.marker.PhantomData as tie
use Rattle.shared_row.specs.contracts.shared_words.SharedWords as bare
use Rattle.shared_row.specs.contracts.shared_words.RowSeat as seat
use Rattle.shared_row.proofs.Values.{BareFields, SeatFields, bare_val, bare_told, bare_opens}

module _ (V K P : RattleType) (g : Ghosts P.Denot unit.Denot V.Denot K.Denot) where
  abbrev pub Row : RattleType
  Row = bare.the_row V K P g

  abbrev pub invariant_of : Row.Denot → Fml
  invariant_of t = common unit V.coded.code (g.holds t.key) t.start t.start t.table_id

  abbrev pub start_at : Ptr → Share → ℕ → ℕ → Fml
  start_at w q b o = cell_at q (BareFields V K P g).mir (bare_val w ∷ []) b o

  module _ {M : Type 1} {𝓤 : Ura M} (𝓛 : Logic 𝓤) where
    -- the way to give the token of the `&` back
    abbrev pub shut : Lft → Share → Share → Ptr → ℕ → ℕ → Item 𝓤
    shut κ q s w b o = ‵ ((BareFields V K P g).own_val (w, (tt, tt)) (bare_val w ∷ [])) ⊛ Shut 𝓛 κ q (part_at (BareFields V K P g) s (w, (tt, tt)) b o)

    module _ {X : Type 0} {Γ : List (Item 𝓤)} {G : Goal 𝓤 𝓛.H} where
      pub finds_start : X → Soaks G → (t : Row.Denot) (b o : ℕ) (κ : Lft) {q : Share}
          → (Placed unit t.start t.start t.table_id → (s : Share)
          → Seq X 𝓛 (‵ (start_at t.start s b o) ∷ shut κ q s t.start b o ∷ ‵ (invariant_of t) ∷ ‵ (lasts t.table_id κ) ∷ Γ) G)
          → Seq X 𝓛 (‵ (hidden_shr Row κ t b o) ∷ ‵ (flft κ q) ∷ Γ) G
      unfolding Rattle.atomic_table.specs.Seated.seal
      finds_start x soak t b o κ {q} k = let D : RattleType = BareFields V K P g in let w : Ptr = t.start in let here : D.Denot = (w, (tt, tt)) in let Lies : Type 0 = Placed unit w w t.table_id in
          use1 𝓛 (‵ (hidden_shr D κ here b o) ⊛ ‵ (fhide (bare.the_lent V K P g t (block_ptr b o) κ)))
          (lent_out 𝓛 (bare.struct V K P g) (bare.the_codes V.Denot K.Denot P.Denot V.coded K.coded P.coded (tie.the_row (Tuple (P ∷ V ∷ K ∷ []))).coded) (bare.the_heap V K P g) (bare.the_lent V K P g) κ t b o) $
          split x $ move x (1 ∷ []) $ unhide x $ fsplit x $ move x (1 ∷ []) $
          use1 𝓛 (given Lies (‵ (invariant_of t))) (fact_use 𝓤 _ (placed 𝓛 unit V.coded (g.holds t.key) w w t.table_id) (guard_i 𝓤 Lies (sem 𝓛 (invariant_of t)))) $ learn x (λ at. move x (2 ∷ 3 ∷ []) $
          looks x soak D (bare_opens V K P g 𝓛) here b o (λ s vs. move x (1 ∷ []) $ peeks x D (Is D) (shows 𝓛 D) here vs (λ so.
          rewrite x 0 (λ (us : List Val). ‵ (D.own_val here us)) (bare_told V K P g w vs so) refl $ rewrite x 1 (λ (us : List Val). ‵ (cell_at s D.mir us b o)) (bare_told V K P g w vs so) refl $
          move x (3 ∷ []) $ drop x $ move x (0 ∷ 2 ∷ []) $ join x $ move x (1 ∷ []) $ k at s)))

  abbrev Sr : RattleType
  Sr = seat.the_row V

  -- the seat with this view and these slots
  abbrev pub seated : Sr.Denot → TableId → Me (Unit {0}) V.Denot → Sr.Denot
  seated h z me = record { tied = h.tied; table_id = z; id = h.id; me = me }

  module _ {M : Type 1} {𝓤 : Ura M} {𝓛 : Logic 𝓤} {X : Type 0} {Γ : List (Item 𝓤)} {G : Goal 𝓤 𝓛.H} (w : Ptr) (b o : ℕ) (z : TableId) (h : Sr.Denot) (b' o' : ℕ) where
    pub takes_seat : X → Soaks G → h.table_id ≡ z → {C : Fml} {κ κ' : Lft} {q q' r : Share} {γ : GName}
        → ((s : Share) (ts : List Val) → Seq X 𝓛 (‵ C ∷ ‵ (flft (age z) s) ∷ ‵ (mine unit V.coded.code z h.id h.me) ∷ ‵ ((SeatFields V).own_val (tt, tt) ts) ∷ ‵ (cell_at full_share Sr.mir ts b' o')
        ∷ ‵ (fobor κ' q' (Body (mem Sr) b' o' γ)) ∷ ‵ (fobs γ (Sr.coded.code h)) ∷ ‵ (fauth γ (Sr.coded.code h)) ∷ ‵ (fobor κ q (flft (age z) s)) ∷ Γ) G)
        → Seq X 𝓛 (‵ (start_at w r b o) ∷ shut 𝓛 κ q r w b o ∷ ‵ C ∷ ‵ (lasts z κ) ∷ ‵ (fobs γ (Sr.coded.code h)) ∷ ‵ (fbor κ' (Body (mem Sr) b' o' γ)) ∷ ‵ (flft κ' q') ∷ Γ) G
    takes_seat x soak same {C} {κ} {κ'} {q} {q'} {r} {γ} k = move x (1 ∷ []) $ split x $ move x (2 ∷ 0 ∷ 1 ∷ []) $ shuts x soak (BareFields V K P g) r (w, (tt, tt)) (bare_val w ∷ []) b o $
        move x (2 ∷ 0 ∷ []) $ shr_bor-open x soak (tokens_halve 𝓛 (age z)) (λ s. move x (3 ∷ 4 ∷ 5 ∷ []) $ opens x soak Sr b' o' (λ ts. move x (1 ∷ []) $ fsplit x $
        rewrite x 1 (λ (n : TableId). ‵ (mine unit V.coded.code n h.id h.me)) same refl $ move x (8 ∷ 7 ∷ 1 ∷ []) $ k s ts))

    pub shuts_seat : X → Soaks G → (me : Me (Unit {0}) V.Denot) {κ κ' : Lft} {q s q' : Share} {γ : GName} {u v : Gv} (ts : List Val) {others : Item 𝓤}
        → Step X 𝓛 (‵ (fsep (feq (List Val) (vptr b' o' ∷ []) (vptr b' o' ∷ [])) (fsep (fobs γ (Sr.coded.code (seated h z me))) (fbor κ' (Body (mem Sr) b' o' γ)))) ∷ (‵ (flft κ q) ⊛ ‵ (flft κ' q') ⊛ others) ∷ Γ) G
        (‵ (flft (age z) s) ∷ ‵ (mine unit V.coded.code z h.id me) ∷ ‵ ((SeatFields V).own_val (tt, tt) ts) ∷ ‵ (cell_at full_share Sr.mir ts b' o')
        ∷ ‵ (fobor κ' q' (Body (mem Sr) b' o' γ)) ∷ ‵ (fobs γ u) ∷ ‵ (fauth γ v) ∷ ‵ (fobor κ q (flft (age z) s)) ∷ others ∷ Γ) G
    shuts_seat x soak me ts = step (λ k. move x (7 ∷ 0 ∷ []) $ obor_close x soak $ drop x $ move x (2 ∷ 1 ∷ []) $ fjoin x $ move x (2 ∷ 0 ∷ 3 ∷ 4 ∷ 5 ∷ []) $ closes x soak Sr (seated h z me) ts b' o' $
        feq_i x (List Val) (vptr b' o' ∷ []) (vptr b' o' ∷ []) refl $ fjoin3 x $ move x (1 ∷ 3 ∷ []) $ join x $ move x (2 ∷ 0 ∷ []) $ join x $ move x (1 ∷ []) $ k)

    pub lets_go : X → Soaks G → (φ : Me (Unit {0}) V.Denot → Type 0) {κ κ' : Lft} {q s q' : Share} {γ : GName} {u v : Gv} (ts : List Val) {others : Item 𝓤}
        → ((me : Me (Unit {0}) V.Denot) → φ me → Seq X 𝓛 (‵ (fsep (feq (List Val) (vptr b' o' ∷ []) (vptr b' o' ∷ [])) (fsep (fobs γ (Sr.coded.code (seated h z me))) (fbor κ' (Body (mem Sr) b' o' γ)))) ∷ (‵ (flft κ q) ⊛ ‵ (flft κ' q') ⊛ others) ∷ Γ) G)
        → Seq X 𝓛 (‵ (fsep (flft (age z) s) (fex (Me (Unit {0}) V.Denot) (λ me. fsep (fact (φ me)) (mine unit V.coded.code z h.id me)))) ∷ ‵ ((SeatFields V).own_val (tt, tt) ts) ∷ ‵ (cell_at full_share Sr.mir ts b' o')
        ∷ ‵ (fobor κ' q' (Body (mem Sr) b' o' γ)) ∷ ‵ (fobs γ u) ∷ ‵ (fauth γ v) ∷ ‵ (fobor κ q (flft (age z) s)) ∷ others ∷ Γ) G
    lets_go x soak φ ts k = fsplit x $ move x (1 ∷ []) $ fpick x (λ me. fsplit x $ fpick x (λ so. drop x $ move x (1 ∷ 0 ∷ []) $ shuts_seat x soak me ts $ k me so))
