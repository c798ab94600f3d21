-- A load at which the seat's view is cut in two.
use Rattle.shared_row.proofs.Walked.{◌≡◌, ℕ, ◌+◌, ◌*◌, ◌<◌, [], ◌∷◌, sym, refl, ap, subst, arith, lit<, a_type, dcons, dnil, named, Val, vptr, inst_fn, SProp, ent, sep, emp, Fml, ftrue, fsep, flft, sem, ‵, raw, ◌⊛◌, given, mean, at_ret, ◌$◌, ◌∵◌, !, qed, by, move, keep, drop, split, split3, fsplit, fsplit3, fjoin, fpick, learn, use0, use3, stop, fld, load, lit, of_opd, no_more, and_then, first, blocks, exec, Calls-last, returns, enter, alloc_all, pass_all, free_all, look_at, get, through, sets, lands_last, is, env, agg, sub, whole, look_in, tables, yes, RattleType, owns, types_at, plain, Ptr, block_ptr, ptr_val, nothing, param, bounded, Stays, stay_dropped, walk_of, Goes-dropped, fact, fact_i, block_of, count_of, at_block, via, RefOf, mut_vals, mut_Tells, shr_vals, shr_Tells, stay_ref, Goes-ref, unit, tail, asks, always, Splits, TableId, age, mine, proved, leaves, forks, two, fm, seq_cst, found, finds, loads, Seat, Shared, invariant_of, finds_start, takes_seat, shuts_seat, seated, SeatFields, seat_val, seat_made, fex}
use Rattle.shared_row.specs.contracts.shared_words.SharedWords.split.{ended, clauses}
use Rattle.shared_row.specs.contracts.shared_words.SharedWords.split.Key.{name as #self}
use Rattle.shared_row.proofs.shared_words.SharedWords.split.Statement.{statement}
use Rattle.shared_row.proofs.shared_words.SharedWords.split.Code as code

pub split_spec : {M : Type 1} → statement M
split_spec 𝓤 𝓛 𝓜 𝓡 wired U Q P Mv _ _ _ _ g d g' d' _ _ =
    let H = 𝓛.H in let 𝓣 = tables 𝓤 H 𝓜 𝓡 𝓡.env in let W : RattleType = param 0 U in let X : RattleType = param 1 Q in let Y : RattleType = param 2 P in let Row : RattleType = Shared W X Y g in let Sr : RattleType = Seat W in
    let En = ended U Q P Mv g d g' d' in let inst = bounded (a_type ∷ a_type ∷ a_type ∷ a_type ∷ []) (U, (Q, (P, (Mv, tt)))) (dcons d (dcons d' dnil)) in let fn = inst_fn inst code.function in let c = clauses U Q P Mv g d g' d' 𝓛 𝓜.mem 𝓡.returns in
    let self = RefOf (0 ∷ []) tt (plain (λ _. Row)) (λ _. tt) in let sitter = plain (λ _. Sr) in
    let hs : Stays En.signature.params En.kept = (stay_dropped self yes, (stay_ref (1 ∷ []) tt sitter, tt)) in
    proved 𝓛 En hs c 𝓜 𝓡 (Goes-dropped 𝓛 6 self yes (λ κs x f. refl), (Goes-ref 𝓛 6 1 tt sitter, tt)) (#self inst) fn (code.unfolded 𝓤 H 𝓜 𝓡 wired (U, (Q, (P, (Mv, tt)))) d d')
    (λ κs. (shr_vals, (mut_vals, tt))) (λ κs. (shr_Tells (named 0) κs.0 Row, (mut_Tells (named 1) κs.1.0 Sr, tt))) (λ κs qs bounds a gh are.
    let b : ℕ = a.0.ref_ptr.0 in let o : ℕ = a.0.ref_ptr.1 in let t : Row.Denot = a.0.now in let w : Ptr = t.start in let z : TableId = t.table_id in let b' : ℕ = a.1.0.ref_ptr.0 in let o' : ℕ = a.1.0.ref_ptr.1 in let h : Sr.Denot = a.1.0.now in let lv : U.Denot = g'.left h.me.0 in let rv : U.Denot = g'.right h.me.0 in
    let y : (walk_of 𝓛 En hs c).Ghost = ((κs, qs, bounds, a, (vptr b o ∷ [], (vptr b' o' ∷ [], tt))), gh) in let Post : Val → SProp 𝓤 = (walk_of 𝓛 En hs c).post y in
    let others : Fml = fsep (flft κs.1.1.0 qs.1.1.0) (fsep (flft κs.1.1.1.0 qs.1.1.1.0) (fsep (flft κs.1.1.1.1.0 qs.1.1.1.1.0) (fsep (flft κs.1.1.1.1.1.0 qs.1.1.1.1.1.0) (ftrue)))) in
    qed 𝓛 (((‵ (flft κs.0 qs.0) ⊛ ‵ (flft κs.1.0 qs.1.0) ⊛ ‵ others) ⊛ ‵ (owns (types_at En.signature.params κs) a y.0.4)) ∷ raw (fact 𝓤 _) ∷ raw (fact 𝓤 _) ∷ raw (fact 𝓤 _) ∷ raw (fact 𝓤 _) ∷ given ((h.table_id ≡ z) × (0 < z.words) × Splits (g.holds t.key) h.id h.me.0 lv rv) (‵ ftrue) ∷ []) ∵
    keep ! (5 ∷ 0 ∷ []) $ learn ! (λ asked. drop ! $ split ! $ split3 ! $ move ! (3 ∷ []) $ fsplit3 ! $ fsplit ! $ move ! (2 ∷ []) $ fsplit3 ! $ keep ! (4 ∷ 6 ∷ 1 ∷ 2 ∷ 7 ∷ 8 ∷ []) $
    enter ! 𝓣.C 𝓣.Λ fn (vptr b o ∷ vptr b' o' ∷ []) Post $ alloc_all ! (λ l. pass_all ! refl ((tt, tt), ((tt, tt), tt)) $ let Ev = env fn.locals l in
    finds_start W X Y g 𝓛 ! tt t b o κs.0 (λ at s. let zero_is : 0 * 8 + count_of w ≡ count_of w = omega arith in first ! $ blocks ! $
    sets ! (is ! (of_opd ! (load ! (through ! refl (fld ! refl (stop !))) (look_in ! 0 (sub ! 0 refl (whole !))))) (ap ptr_val (at_block w at.0))) refl (tt, tt) $
    takes_seat W X Y g w b o z h b' o' ! tt asked.0 (λ q ts. let both : ℕ → Fml = two 𝓛 unit W.coded (g.holds t.key) w w z q h.id h.me lv rv in let out : ℕ → Fml = λ n. fsep (flft (age z) q) (fex ℕ both) in
    use3 𝓛 (raw (𝓣.C _ (vptr (block_of w) (count_of w) ∷ seq_cst ∷ []) (λ u. mean 𝓛 (found out u))))
    (via 𝓤 _ (subst (λ (e : ℕ). ent 𝓤 (sep 𝓤 (sem 𝓛 (invariant_of W X Y g t)) (sep 𝓤 (𝓛.A.lft (age z) q) (sem 𝓛 (mine unit W.coded.code z h.id h.me)))) (asks 𝓛 (block_ptr (block_of w) e) (λ n. n) always out)) zero_is (forks 𝓛 unit W.coded (g.holds t.key) w w z q h.id h.me lv rv asked.1 asked.2))
    (loads 𝓛 𝓜 𝓡 (code.calls-core::raw_atomic::load 𝓡.env wired) (block_ptr (block_of w) (count_of w)) out)) $
    sets ! (agg ! (and_then ! (lit ! tt) (no_more !))) refl (tt, (record { fits = lit< tt }, tt)) $
    Calls-last ! (fm 𝓛 𝓜 𝓡) (found out) (and_then ! (get ! refl) (and_then ! (get ! refl) (no_more !))) (λ u. finds ! out (λ n fits.
    lands_last ! refl (tt, record { fits = fits }) $ exec ! 𝓣.C 𝓣.Λ Ev (tail fn.body) (at_ret Ev Post) $
    sets ! (agg ! (no_more !)) refl (tt, tt) $ sets ! (agg ! (and_then ! (get ! refl) (no_more !))) refl (tt, (tt, tt)) $
    fsplit ! $ move ! (1 ∷ []) $ fpick ! (λ j. fsplit ! $ move ! (2 ∷ 0 ∷ 3 ∷ 4 ∷ 5 ∷ 6 ∷ 7 ∷ 8 ∷ 9 ∷ []) $ shuts_seat W X Y g w b o z h b' o' ! tt (lv, h.me.1) ts $
    nothing ! $ move ! (1 ∷ 0 ∷ []) $ fjoin ! $ nothing ! $ fjoin ! $ move ! (2 ∷ []) $
    let r : Sr.Denot = record { tied = record {}; table_id = z; id = j; me = (rv, []) } in let it : Sr.Denot = seated W X Y g h z (lv, h.me.1) in let Told : Type 0 = (z ≡ h.table_id) × (h.id ≡ h.id) × (it.me ≡ it.me) × (z ≡ h.table_id) × (r.me ≡ r.me) in
    use0 𝓛 (‵ ((SeatFields W).own_val (tt, tt) (seat_val ∷ []))) (seat_made W 𝓛) $ fjoin ! $ use0 𝓛 (raw (fact 𝓤 Told)) (fact_i 𝓤 Told (emp 𝓤) (sym asked.0, refl, refl, sym asked.0, refl)) $
    returns ! (look_at ! 0 refl) $ free_all ! refl $ keep ! (3 ∷ 2 ∷ 1 ∷ 0 ∷ []) $ by ! (leaves 𝓛 En hs c y seat_val r (tt, (it, tt)) (tt, (tt, tt)))))))))))
