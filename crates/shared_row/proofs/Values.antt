-- The machine values of the structs that hold a pointer or nothing, and what tells them. Assumes `Logic`.
use Rattle.shared_row.proofs.Names.{◌≡◌, T, List, [], ◌∷◌, ◌++◌, refl, ap, ◌∙◌, Ura, Ty, ty_ptr, ty_struct, tcons, tnil, Val, vstruct, vcons, vnil, of_list, has_ty, WT, ent, emp, Logic, sem, unit, u64, RattleType, Is, Opens, Struct-Copied, Ptr, block_ptr, null_ptr, ptr_val, InBlock, makes_shadow, RawPtr-copy, field_copy, u64-laws, u64-copy, u64-field, Laws, of_field, copy_shared, Struct, shape, Tuple, RuleGhosts as Ghosts}
use Rattle.core.specs.contracts.marker.PhantomData as tie
use Rattle.shared_row.specs.contracts.shared_words.SharedWords as bare
use Rattle.shared_row.specs.contracts.shared_words.RowSeat as seat

pub word_laws : Laws u64
word_laws = of_field u64-field u64-laws refl (copy_shared u64-field u64-copy)

abbrev pub seat_val : Val
seat_val = vstruct (vcons (vstruct vnil) vnil)

abbrev pub bare_val : Ptr → Val
bare_val w = vstruct (vcons (ptr_val w) (vcons (vstruct vnil) vnil))

abbrev pub opened_val : Ptr → Val
opened_val w = vstruct (vcons (bare_val w) (vcons seat_val vnil))

abbrev seat_ty : Ty
seat_ty = ty_struct [] (tcons (ty_struct [] tnil) tnil)

abbrev bare_ty : Ty
bare_ty = ty_struct [] (tcons ty_ptr (tcons (ty_struct [] tnil) tnil))

-- a machine value of this type, as a place of it wants
abbrev pub Fits : Ty → Val → Type 0
Fits τ v = T (has_ty τ v) × WT v

pub bare_fits : (w : Ptr) → InBlock w → Fits bare_ty (bare_val w)
bare_fits (block_ptr b o) near = (tt, (tt, (tt, tt)))
bare_fits null_ptr near = absurd near

pub opened_fits : (w : Ptr) → InBlock w → Fits (ty_struct [] (tcons bare_ty (tcons seat_ty tnil))) (opened_val w)
opened_fits (block_ptr b o) near = (tt, ((tt, (tt, tt)), ((tt, tt), tt)))
opened_fits null_ptr near = absurd near

module _ (V : RattleType) where
  abbrev pub SeatFields : RattleType
  SeatFields = Struct (shape (seat.the_type V))

  pub seat_made : {M : Type 1} {𝓤 : Ura M} (𝓛 : Logic 𝓤) → ent 𝓤 (emp 𝓤) (sem 𝓛 (SeatFields.own_val (tt, tt) (seat_val ∷ [])))
  seat_made 𝓛 = makes_shadow 𝓛 (SeatFields.own_val (tt, tt) (seat_val ∷ [])) (λ vss. (tt, ((λ uss. (tt, tt)), tt))) ((vstruct vnil ∷ [], tt), (refl, ((tt, (refl, tt)), tt)))

module _ (V K P : RattleType) (g : Ghosts P.Denot unit.Denot V.Denot K.Denot) where
  abbrev pub BareFields : RattleType
  BareFields = Struct (shape (bare.the_type V K P g))

  pub bare_told : (w : Ptr) (vs : List Val) → Is BareFields (w, (tt, tt)) vs → vs ≡ bare_val w ∷ []
  bare_told w vs is = is.1.0 ∙ ap (λ (us : List Val). vstruct (of_list (us ++ (is.0.1.0 ++ []))) ∷ []) is.1.1.0 ∙ ap (λ (us : List Val). vstruct (of_list (ptr_val w ∷ (us ++ []))) ∷ []) is.1.1.1.0.1.0

  pub bare_opens : {M : Type 1} {𝓤 : Ura M} (𝓛 : Logic 𝓤) → Opens 𝓛 BareFields
  bare_opens {M} {𝓤 = 𝓤} 𝓛 = (Struct-Copied 𝓛 (shape (bare.the_type V K P g)) (refl, (refl, tt))
      (RawPtr-copy.copied M 𝓤 𝓛, ((field_copy (tie.the_type (Tuple (P ∷ V ∷ K ∷ []))) tt).copied M 𝓤 𝓛, tt))).opens

  pub bare_made : {M : Type 1} {𝓤 : Ura M} (𝓛 : Logic 𝓤) (w : Ptr) → ent 𝓤 (emp 𝓤) (sem 𝓛 (BareFields.own_val (w, (tt, tt)) (bare_val w ∷ [])))
  bare_made 𝓛 w = makes_shadow 𝓛 (BareFields.own_val (w, (tt, tt)) (bare_val w ∷ [])) (λ vss. (tt, (tt, ((λ uss. (tt, tt)), tt)))) ((ptr_val w ∷ [], (vstruct vnil ∷ [], tt)), (refl, (refl, ((tt, (refl, tt)), tt))))
