-- The words go under the invariant, and the first seat is made.
use Rattle.shared_row.proofs.Walked.{◌≡◌, ℕ, ◌*◌, ◌^◌, ◌<◌, List, [], ◌∷◌, sym, refl, subst, arith, lit<, a_type, dcons, dnil, Val, vptr, inst_fn, SProp, ent, emp, ftrue, fsep, flft, ‵, raw, ◌⊛◌, given, at_ret, ◌$◌, ◌∵◌, !, qed, by, move, keep, drop, split, join, fsplit, fsplit3, fjoin, fjoin3, learn, use0, feq_i, stop, fld, of_opd, no_more, and_then, first, blocks, exec, returns, enter, alloc_all, pass_all, free_all, look_at, get, sets, lands_last, is, env, agg, sub, whole, tables, yes, RattleType, owns, types_at, plain, Ptr, block_ptr, nothing, param, bounded, Stays, stay_dropped, walk_of, Goes-dropped, fact, fact_i, RefOf, u64, Valss, pick, some, later, await, use1, use2, fpack, of_list, vstruct, InBlock, alive, length, get_in, mem, WT, WpFn, id⊢, suffices, calls_at_last, Bool, ◌∙◌, ◌++◌, tail, unit, TableId, mine, leaves, fm, Seat, Shared, BareFields, bare_val, feq_l, full_share, ⊑_static, slots_items, slots_filled, slots_ptr, slots_len, slots_counts, IsFull, El, row_val, proved_at, places, parts_typed, Row-seen, Into, at_into, Into-goes, Into-gives, to_strip, opening, strip, table_owns, deals, word_laws, SeatFields, seat_val, seat_made, bare_made, bare_fits, opened_val, opened_fits}
use Rattle.core.specs.contracts.slots.Slots as slots
use Rattle.core.proofs.slots.Slots.into_raw_parts.Met as callee
use Rattle.shared_row.specs.contracts.shared_words.SharedWords.open.{ended, clauses}
use Rattle.shared_row.specs.contracts.shared_words.SharedWords.open.Key.{name as #self}
use Rattle.shared_row.proofs.shared_words.SharedWords.open.Statement.{statement}
use Rattle.shared_row.proofs.shared_words.SharedWords.open.Code as code

pub open_spec : {M : Type 1} → statement M
open_spec 𝓤 𝓛 𝓜 𝓡 wired U Q P _ _ _ g d _ =
    let H = 𝓛.H in let 𝓣 = tables 𝓤 H 𝓜 𝓡 𝓡.env in let W : RattleType = param 0 U in let X : RattleType = param 1 Q in let Y : RattleType = param 2 P in let Row : RattleType = Shared W X Y g in let Sr : RattleType = Seat W in
    let En = ended U Q P g d in let inst = bounded (a_type ∷ a_type ∷ a_type ∷ []) (U, (Q, (P, tt))) (dcons d dnil) in let fn = inst_fn inst code.function in let c = clauses U Q P g d 𝓛 𝓜.mem 𝓡.returns in
    let E : El = record { row = u64; laws = word_laws } in let self = RefOf (0 ∷ []) tt (plain (λ _. X)) (λ _. tt) in let rows = plain (λ _. slots.the_row u64) in let hs : Stays En.signature.params En.kept = (stay_dropped self yes, (stay_dropped rows yes, tt)) in
    let met = callee.met 𝓤 𝓛 𝓜 𝓡 (code.calls-core::slots::Slots::into_raw_parts 𝓡.env wired) u64 word_laws in
    proved_at 𝓛 En hs c 𝓜 𝓡 (Goes-dropped 𝓛 4 self yes (λ κs x f. refl), (Goes-dropped 𝓛 4 rows yes (λ κs x f. refl), tt)) (#self inst) fn (code.unfolded 𝓤 H 𝓜 𝓡 wired (U, (Q, (P, tt))) d) (λ y are.
    let key : Q.Denot = y.0.3.0.now in let hp : ℕ × ℕ = y.0.3.0.ref_ptr in let r = y.0.3.1.0 in let vss = y.0.4 in let k : ℕ = slots_len r in let ns : List ℕ = slots_items r in let fs : List Bool = slots_filled r in let v : U.Denot = g.first key in let none_ : List (Unit {0}) = [] in
    let Post : Val → SProp 𝓤 = (walk_of 𝓛 En hs c).post y in let Run : List Val → SProp 𝓤 = λ ws. WpFn 𝓤 H 𝓣.C 𝓣.Λ fn ws Post in
    qed 𝓛 ((raw (alive 𝓛 En.signature y.0.0 y.0.1) ⊛ ‵ (owns (types_at En.signature.params y.0.0) y.0.3 vss)) ∷ raw (fact 𝓤 _) ∷ raw (fact 𝓤 _) ∷ raw (fact 𝓤 _) ∷ given (IsFull r × g.holds key (opening ns none_ v)) (‵ ftrue) ∷ []) ∵
    keep ! (4 ∷ 0 ∷ []) $ learn ! (λ good. drop ! $ split ! $ move ! (1 ∷ []) $ fsplit3 ! $ fsplit ! $ feq_l ! (λ e₀. move ! (1 ∷ []) $ Row-seen E ! r vss.1.0 (λ b o at e₁ fk fit. keep ! (0 ∷ 3 ∷ []) $
    let us : List Val = vptr hp.0 hp.1 ∷ row_val b o k ∷ [] in let lx : k ≡ length ns = (slots_counts r).0 in let lf : k ≡ length fs = (slots_counts r).1 in let w : Ptr = block_ptr b o in let u : Val = opened_val w in let word : WT (row_val b o k) = (tt, (record { fits = fk }, tt)) in let y' = at_into E 𝓛 𝓜.mem 𝓡.returns [] full_share r b o in
    suffices ! (Run us) (subst (λ (ws : List Val). ent 𝓤 (Run us) (Run ws)) (sym (λ i. e₀ i ++ (e₁ i ++ []))) (id⊢ 𝓤 (Run us))) $
    enter ! 𝓣.C 𝓣.Λ fn us Post $ alloc_all ! (λ l. pass_all ! refl ((tt, tt), ((tt, word), tt)) $ let Ev = env fn.locals l in first ! $ blocks ! $ sets ! (of_opd ! (get ! refl)) refl (tt, word) $
    use0 𝓛 (‵ (flft [] full_share)) (𝓛.lfts.lft-nil full_share) $ move ! (1 ∷ 0 ∷ []) $ use2 𝓛 (raw ((Into E 𝓛 𝓜.mem 𝓡.returns).pre y')) (Into-goes E 𝓛 𝓜.mem 𝓡.returns [] full_share r b o (⊑_static [])) $
    calls_at_last ! (fm 𝓛 𝓜 𝓡) (Into E 𝓛 𝓜.mem 𝓡.returns) met y' (and_then ! (get ! refl) (no_more !)) (λ found.
    use1 𝓛 (later (given (found ≡ row_val b o k) (‵ (places E b o ns fs) ⊛ ‵ (flft [] full_share)))) (Into-gives E 𝓛 𝓜.mem 𝓡.returns [] full_share r b o found at) $ await ! tt $ learn ! (λ ev. split ! $ move ! (1 ∷ []) $ drop ! $
    lands_last ! refl (parts_typed found b o k ev fk) $ exec ! 𝓣.C 𝓣.Λ Ev (tail fn.body) (at_ret Ev Post) $ sets ! (is ! (of_opd ! (get ! refl)) ev) refl (tt, word) $
    use1 𝓛 (‵ (strip u64 w ns)) (to_strip E 𝓛 b o ns fs (sym lf ∙ lx) (λ j h. good.0 j (omega arith) (omega arith)) (subst (λ (n : ℕ). n * (mem u64).size < 2 ^ 63) lx fit)) $
    let near : InBlock w = tt in let small : length none_ * (mem unit).size < 2 ^ 63 = lit< tt in nothing ! $ nothing ! $ fpack ! (InBlock w × (length none_ * (mem unit).size < 2 ^ 63)) (λ _. ftrue) (near, small) $ fjoin ! $ move ! (1 ∷ 0 ∷ []) $
    use2 𝓛 (later (some (λ (z : TableId). given ((z.words ≡ length ns) × (z.slots ≡ length none_) × InBlock w × InBlock w) (‵ (table_owns unit W.coded.code (g.holds key) w w z) ⊛ ‵ (mine unit W.coded.code z 0 (v, [])))))) (deals 𝓛 unit W.coded (g.holds key) w w ns none_ v good.1) $ await ! tt $ pick ! (λ z. learn ! (λ so. split ! $
    let t : Row.Denot = record { start = w; tied = record {}; table_id = z; key = key } in let s : Sr.Denot = record { tied = record {}; table_id = z; id = 0; me = (v, []) } in
    let A₁ : Type 0 = (w ≡ slots_ptr r) × (key ≡ key) × (z.words ≡ k) × (z.slots ≡ 0) in let A₂ : Type 0 = (z ≡ z) × (0 ≡ 0) × (s.me ≡ s.me) in
    use0 𝓛 (‵ ((BareFields W X Y g).own_val (w, (tt, tt)) (bare_val w ∷ []))) (bare_made W X Y g 𝓛 w) $ fjoin ! $ move ! (1 ∷ []) $ use0 𝓛 (‵ ((SeatFields W).own_val (tt, tt) (seat_val ∷ []))) (seat_made W 𝓛) $ fjoin ! $
    nothing ! $ move ! (2 ∷ 1 ∷ 0 ∷ []) $ fjoin3 ! $ feq_i ! (List Val) (u ∷ []) (u ∷ []) refl $ fjoin ! $
    fpack ! (Valss (Row ∷ Sr ∷ [])) (λ vss. fsep (base.Fml.feq (List Val) (u ∷ []) (vstruct (of_list (vss.0 ++ (vss.1.0 ++ []))) ∷ [])) (owns (Row ∷ Sr ∷ []) (t, (s, tt)) vss)) (bare_val w ∷ [], (seat_val ∷ [], tt)) $
    sets ! (agg ! (no_more !)) refl (tt, tt) $
    sets ! (agg ! (and_then ! (get_in ! (fld ! refl (stop !)) (sub ! 0 refl (whole !))) (and_then ! (get ! refl) (no_more !)))) refl (bare_fits w near) $ sets ! (agg ! (no_more !)) refl (tt, tt) $ sets ! (agg ! (and_then ! (get ! refl) (no_more !))) refl (tt, (tt, tt)) $
    sets ! (agg ! (and_then ! (get ! refl) (and_then ! (get ! refl) (no_more !)))) refl (opened_fits w near) $
    use0 𝓛 (raw (fact 𝓤 A₂)) (fact_i 𝓤 A₂ (emp 𝓤) (refl, refl, refl)) $ use0 𝓛 (raw (fact 𝓤 A₁)) (fact_i 𝓤 A₁ (emp 𝓤) (sym at, refl, so.0 ∙ sym lx, so.1)) $ join ! $
    nothing ! $ nothing ! $ fjoin ! $ nothing ! $ fjoin ! $ returns ! (look_at ! 0 refl) $ free_all ! refl $ keep ! (3 ∷ 0 ∷ 2 ∷ 1 ∷ []) $ by ! (leaves 𝓛 En hs c y u (t, s) (tt, (tt, tt)) (tt, (tt, tt))))))))))))
