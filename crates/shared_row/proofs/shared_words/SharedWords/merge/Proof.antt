-- A load at which one seat takes in another's view.
use Rattle.shared_row.proofs.Walked.{◌≡◌, ℕ, ◌+◌, ◌*◌, ◌<◌, List, [], ◌∷◌, sym, refl, ap, subst, arith, lit<, a_type, dcons, dnil, named, Val, vunit, vptr, inst_fn, SProp, ent, sep, emp, Fml, ftrue, fsep, flft, sem, ‵, raw, ◌⊛◌, given, mean, at_ret, ◌$◌, ◌∵◌, !, qed, by, move, keep, drop, split, split3, join, fsplit, fsplit3, fjoin, fjoin3, learn, use0, use3, rewrite, feq_i, stop, fld, load, lit, unit_lit, of_opd, no_more, and_then, first, blocks, exec, Calls-last, returns, enter, alloc_all, pass_all, free_all, look_at, get, through, sets, lands_last, is, env, agg, sub, whole, look_in, tables, yes, RattleType, owns, types_at, plain, Ptr, block_ptr, ptr_val, nothing, param, bounded, Stays, stay_dropped, walk_of, Goes-dropped, fact, fact_i, block_of, count_of, at_block, via, RefOf, mut_vals, mut_Tells, shr_vals, shr_Tells, stay_ref, Goes-ref, opens, closes, unit, tail, asks, always, Joins, TableId, age, mine, proved, leaves, absorbs, merged, fm, seq_cst, found, finds, loads, Seat, Shared, invariant_of, finds_start, takes_seat, shuts_seat, seated}
use Rattle.shared_row.specs.contracts.shared_words.SharedWords.merge.{ended, clauses}
use Rattle.shared_row.specs.contracts.shared_words.SharedWords.merge.Key.{name as #self}
use Rattle.shared_row.proofs.shared_words.SharedWords.merge.Statement.{statement}
use Rattle.shared_row.proofs.shared_words.SharedWords.merge.Code as code

pub merge_spec : {M : Type 1} → statement M
merge_spec 𝓤 𝓛 𝓜 𝓡 wired U Q P Mv _ _ _ _ g d g' d' _ _ =
    let H = 𝓛.H in let 𝓣 = tables 𝓤 H 𝓜 𝓡 𝓡.env in let W : RattleType = param 0 U in let X : RattleType = param 1 Q in let Y : RattleType = param 2 P in let Row : RattleType = Shared W X Y g in let Sr : RattleType = Seat W in
    let En = ended U Q P Mv g d g' d' in let inst = bounded (a_type ∷ a_type ∷ a_type ∷ a_type ∷ []) (U, (Q, (P, (Mv, tt)))) (dcons d (dcons d' dnil)) in let fn = inst_fn inst code.function in let c = clauses U Q P Mv g d g' d' 𝓛 𝓜.mem 𝓡.returns in
    let self = RefOf (0 ∷ []) tt (plain (λ _. Row)) (λ _. tt) in let sitter = plain (λ _. Sr) in
    let hs : Stays En.signature.params En.kept = (stay_dropped self yes, (stay_ref (1 ∷ []) tt sitter, (stay_ref (2 ∷ []) tt sitter, tt))) in
    proved 𝓛 En hs c 𝓜 𝓡 (Goes-dropped 𝓛 7 self yes (λ κs x f. refl), (Goes-ref 𝓛 7 1 tt sitter, (Goes-ref 𝓛 7 2 tt sitter, tt))) (#self inst) fn (code.unfolded 𝓤 H 𝓜 𝓡 wired (U, (Q, (P, (Mv, tt)))) d d')
    (λ κs. (shr_vals, (mut_vals, (mut_vals, tt)))) (λ κs. (shr_Tells (named 0) κs.0 Row, (mut_Tells (named 1) κs.1.0 Sr, (mut_Tells (named 2) κs.1.1.0 Sr, tt)))) (λ κs qs bounds a gh are.
    let b : ℕ = a.0.ref_ptr.0 in let o : ℕ = a.0.ref_ptr.1 in let t : Row.Denot = a.0.now in let w : Ptr = t.start in let z : TableId = t.table_id in let b' : ℕ = a.1.0.ref_ptr.0 in let o' : ℕ = a.1.0.ref_ptr.1 in let h : Sr.Denot = a.1.0.now in let b₂ : ℕ = a.1.1.0.ref_ptr.0 in let o₂ : ℕ = a.1.1.0.ref_ptr.1 in let h₂ : Sr.Denot = a.1.1.0.now in let all : U.Denot = g'.both h.me.0 h₂.me.0 in
    let y : (walk_of 𝓛 En hs c).Ghost = ((κs, qs, bounds, a, (vptr b o ∷ [], (vptr b' o' ∷ [], (vptr b₂ o₂ ∷ [], tt)))), gh) in let Post : Val → SProp 𝓤 = (walk_of 𝓛 En hs c).post y in
    let others : Fml = fsep (flft κs.1.1.1.0 qs.1.1.1.0) (fsep (flft κs.1.1.1.1.0 qs.1.1.1.1.0) (fsep (flft κs.1.1.1.1.1.0 qs.1.1.1.1.1.0) (fsep (flft κs.1.1.1.1.1.1.0 qs.1.1.1.1.1.1.0) (ftrue)))) in let seats : Fml = fsep (mine unit W.coded.code z h.id h.me) (mine unit W.coded.code z h₂.id h₂.me) in
    qed 𝓛 (((‵ (flft κs.0 qs.0) ⊛ ‵ (flft κs.1.0 qs.1.0) ⊛ ‵ (flft κs.1.1.0 qs.1.1.0) ⊛ ‵ others) ⊛ ‵ (owns (types_at En.signature.params κs) a y.0.4)) ∷ raw (fact 𝓤 _) ∷ raw (fact 𝓤 _) ∷ raw (fact 𝓤 _) ∷ raw (fact 𝓤 _) ∷ given ((h.table_id ≡ z) × (h₂.table_id ≡ z) × (0 < z.words) × Joins (g.holds t.key) h.id h.me.0 h₂.id h₂.me.0 all g'.spent) (‵ ftrue) ∷ []) ∵
    keep ! (5 ∷ 0 ∷ []) $ learn ! (λ asked. drop ! $ split ! $ split3 ! $ move ! (2 ∷ []) $ split ! $ move ! (4 ∷ []) $ fsplit3 ! $ fsplit ! $ move ! (2 ∷ []) $ fsplit3 ! $ move ! (5 ∷ []) $ fsplit ! $ fsplit3 ! $ keep ! (8 ∷ 11 ∷ 5 ∷ 6 ∷ 12 ∷ 1 ∷ 2 ∷ 9 ∷ 10 ∷ []) $
    enter ! 𝓣.C 𝓣.Λ fn (vptr b o ∷ vptr b' o' ∷ vptr b₂ o₂ ∷ []) Post $ alloc_all ! (λ l. pass_all ! refl ((tt, tt), ((tt, tt), ((tt, tt), tt))) $ let Ev = env fn.locals l in
    finds_start W X Y g 𝓛 ! tt t b o κs.0 (λ at s. let zero_is : 0 * 8 + count_of w ≡ count_of w = omega arith in first ! $ blocks ! $
    sets ! (is ! (of_opd ! (load ! (through ! refl (fld ! refl (stop !))) (look_in ! 0 (sub ! 0 refl (whole !))))) (ap ptr_val (at_block w at.0))) refl (tt, tt) $
    takes_seat W X Y g w b o z h b' o' ! tt asked.0 (λ q ts. let out : ℕ → Fml = λ n. fsep (flft (age z) q) (merged 𝓛 unit W.coded (g.holds t.key) w w z q h.id h.me h₂.id h₂.me all g'.spent) in
    move ! (9 ∷ 10 ∷ 11 ∷ []) $ opens ! tt Sr b₂ o₂ (λ ts₂. move ! (1 ∷ []) $ fsplit ! $ rewrite ! 1 (λ (n : TableId). ‵ (mine unit W.coded.code n h₂.id h₂.me)) asked.1 refl $ move ! (8 ∷ 1 ∷ []) $ fjoin ! $ move ! (6 ∷ 7 ∷ 0 ∷ []) $
    use3 𝓛 (raw (𝓣.C _ (vptr (block_of w) (count_of w) ∷ seq_cst ∷ []) (λ u. mean 𝓛 (found out u))))
    (via 𝓤 _ (subst (λ (e : ℕ). ent 𝓤 (sep 𝓤 (sem 𝓛 (invariant_of W X Y g t)) (sep 𝓤 (𝓛.A.lft (age z) q) (sem 𝓛 seats))) (asks 𝓛 (block_ptr (block_of w) e) (λ n. n) always out)) zero_is (absorbs 𝓛 unit W.coded (g.holds t.key) w w z q h.id h.me h₂.id h₂.me all g'.spent asked.2 asked.3))
    (loads 𝓛 𝓜 𝓡 (code.calls-core::raw_atomic::load 𝓡.env wired) (block_ptr (block_of w) (count_of w)) out)) $
    sets ! (agg ! (and_then ! (lit ! tt) (no_more !))) refl (tt, (record { fits = lit< tt }, tt)) $
    Calls-last ! (fm 𝓛 𝓜 𝓡) (found out) (and_then ! (get ! refl) (and_then ! (get ! refl) (no_more !))) (λ u. finds ! out (λ n fits.
    lands_last ! refl (tt, record { fits = fits }) $ exec ! 𝓣.C 𝓣.Λ Ev (tail fn.body) (at_ret Ev Post) $ sets ! (of_opd ! (unit_lit !)) refl (tt, tt) $
    let it : Sr.Denot = seated W X Y g h z (all, h.me.1) in let it₂ : Sr.Denot = seated W X Y g h₂ z (g'.spent, h₂.me.1) in let Told : Type 0 = (z ≡ h.table_id) × (h.id ≡ h.id) × (it.me ≡ it.me) in
    fsplit ! $ move ! (1 ∷ []) $ fsplit ! $ move ! (3 ∷ 1 ∷ []) $ fjoin ! $ move ! (3 ∷ 0 ∷ 4 ∷ 5 ∷ 6 ∷ []) $ closes ! tt Sr it₂ ts₂ b₂ o₂ $ feq_i ! (List Val) (vptr b₂ o₂ ∷ []) (vptr b₂ o₂ ∷ []) refl $ fjoin3 ! $
    move ! (1 ∷ 10 ∷ []) $ join ! $ move ! (3 ∷ 2 ∷ 4 ∷ 5 ∷ 6 ∷ 7 ∷ 8 ∷ 9 ∷ 0 ∷ []) $ shuts_seat W X Y g w b o z h b' o' ! tt (all, h.me.1) ts $
    nothing ! $ move ! (3 ∷ 0 ∷ []) $ fjoin ! $ move ! (1 ∷ 0 ∷ []) $ fjoin ! $ nothing ! $ fjoin ! $
    use0 𝓛 (raw (fact 𝓤 Told)) (fact_i 𝓤 Told (emp 𝓤) (sym asked.0, refl, refl)) $ feq_i ! (List Val) (vunit ∷ []) (vunit ∷ []) refl $
    returns ! (look_at ! 0 refl) $ free_all ! refl $ keep ! (3 ∷ 2 ∷ 0 ∷ 1 ∷ []) $ by ! (leaves 𝓛 En hs c y vunit tt (tt, (it, (it₂, tt))) (tt, (tt, (tt, tt))))))))))))
