-- A compare and exchange, with which the seat goes.
use Rattle.shared_row.proofs.Walked.{◌≡◌, ℕ, ◌+◌, ◌*◌, ◌^◌, ◌<◌, List, [], ◌∷◌, sym, refl, ap, arith, w64, a_type, dcons, dnil, named, Val, vint, vptr, inst_fn, SProp, emp, Fml, ftrue, fsep, flft, ‵, raw, ◌⊛◌, given, mean, at_ret, ◌$◌, ◌∵◌, !, qed, by, move, keep, drop, split, split3, fsplit, fsplit3, fjoin, learn, use0, use3, feq_i, flt_i, stop, fld, load, lit, of_opd, bin, no_more, and_then, first, blocks, exec, Calls-last, returns, enter, alloc_all, pass_all, free_all, look_at, get, through, sets, lands_last, is, env, sub, whole, look_in, tables, yes, RattleType, owns, types_at, plain, Ptr, block_ptr, ptr_val, nothing, param, bounded, Stays, stay_dropped, walk_of, Goes-dropped, fact, fact_i, block_of, count_of, at_block, via, RefOf, usize, u64, mut_vals, mut_Tells, shr_vals, shr_Tells, uint_vals, uint_Tells, stay_ref, Goes-ref, none, either, eqb, unit, tail, Me, step, Allows, TableId, age, proved, leaves, steps, after, fm, found, finds, exchanges, Seat, Shared, finds_start, takes_seat, lets_go, seated}
use Rattle.shared_row.specs.contracts.shared_words.SharedWords.compare_exchange.{ended, clauses}
use Rattle.shared_row.specs.contracts.shared_words.SharedWords.compare_exchange.Key.{name as #self}
use Rattle.shared_row.proofs.shared_words.SharedWords.compare_exchange.Statement.{statement}
use Rattle.shared_row.proofs.shared_words.SharedWords.compare_exchange.Code as code

pub compare_exchange_spec : {M : Type 1} → statement M
compare_exchange_spec 𝓤 𝓛 𝓜 𝓡 wired U Q P Mv _ _ _ _ g d g' d' _ _ =
    let H = 𝓛.H in let 𝓣 = tables 𝓤 H 𝓜 𝓡 𝓡.env in let W : RattleType = param 0 U in let X : RattleType = param 1 Q in let Y : RattleType = param 2 P in let Row : RattleType = Shared W X Y g in let Sr : RattleType = Seat W in
    let En = ended U Q P Mv g d g' d' in let inst = bounded (a_type ∷ a_type ∷ a_type ∷ a_type ∷ []) (U, (Q, (P, (Mv, tt)))) (dcons d (dcons d' dnil)) in let fn = inst_fn inst code.function in let c = clauses U Q P Mv g d g' d' 𝓛 𝓜.mem 𝓡.returns in
    let self = RefOf (0 ∷ []) tt (plain (λ _. Row)) (λ _. tt) in let sitter = plain (λ _. Sr) in let counted = plain (λ _. usize) in let wide = plain (λ _. u64) in
    let hs : Stays En.signature.params En.kept = (stay_dropped self yes, (stay_ref (1 ∷ []) tt sitter, (stay_dropped counted yes, (stay_dropped wide yes, (stay_dropped wide yes, tt))))) in
    proved 𝓛 En hs c 𝓜 𝓡 (Goes-dropped 𝓛 6 self yes (λ κs x f. refl), (Goes-ref 𝓛 6 1 tt sitter, (Goes-dropped 𝓛 6 counted yes (λ κs x f. refl), (Goes-dropped 𝓛 6 wide yes (λ κs x f. refl), (Goes-dropped 𝓛 6 wide yes (λ κs x f. refl), tt))))) (#self inst) fn (code.unfolded 𝓤 H 𝓜 𝓡 wired (U, (Q, (P, (Mv, tt)))) d d')
    (λ κs. (shr_vals, (mut_vals, (uint_vals w64, (uint_vals w64, (uint_vals w64, tt)))))) (λ κs. (shr_Tells (named 0) κs.0 Row, (mut_Tells (named 1) κs.1.0 Sr, (uint_Tells w64, (uint_Tells w64, (uint_Tells w64, tt)))))) (λ κs qs bounds a gh are.
    let b : ℕ = a.0.ref_ptr.0 in let o : ℕ = a.0.ref_ptr.1 in let t : Row.Denot = a.0.now in let w : Ptr = t.start in let z : TableId = t.table_id in let b' : ℕ = a.1.0.ref_ptr.0 in let o' : ℕ = a.1.0.ref_ptr.1 in let h : Sr.Denot = a.1.0.now in let i : ℕ = a.1.1.0 in let old : ℕ = a.1.1.1.0 in let new : ℕ = a.1.1.1.1.0 in
    let f : ℕ → ℕ = λ n. either (eqb n old) new n in let then : ℕ → Me (Unit {0}) U.Denot → Type 0 = g'.then (step z.slots i old new none) h.me in
    let y : (walk_of 𝓛 En hs c).Ghost = ((κs, qs, bounds, a, (vptr b o ∷ [], (vptr b' o' ∷ [], (vint w64 i ∷ [], (vint w64 old ∷ [], (vint w64 new ∷ [], tt)))))), gh) in let Post : Val → SProp 𝓤 = (walk_of 𝓛 En hs c).post y in
    let others : Fml = fsep (flft κs.1.1.0 qs.1.1.0) (fsep (flft κs.1.1.1.0 qs.1.1.1.0) (fsep (flft κs.1.1.1.1.0 qs.1.1.1.1.0) (fsep (flft κs.1.1.1.1.1.0 qs.1.1.1.1.1.0) ftrue))) in
    qed 𝓛 (((‵ (flft κs.0 qs.0) ⊛ ‵ (flft κs.1.0 qs.1.0) ⊛ ‵ others) ⊛ ‵ (owns (types_at En.signature.params κs) a y.0.4)) ∷ raw (fact 𝓤 _) ∷ raw (fact 𝓤 _) ∷ raw (fact 𝓤 _) ∷ raw (fact 𝓤 _) ∷ given ((h.table_id ≡ z) × (i < z.words) × Allows (g.holds t.key) z.slots h.id h.me i f then) (‵ ftrue) ∷ []) ∵
    keep ! (5 ∷ 0 ∷ []) $ learn ! (λ asked. drop ! $ split ! $ split3 ! $ move ! (3 ∷ []) $ fsplit3 ! $ fsplit ! $ move ! (2 ∷ []) $ fsplit3 ! $ keep ! (4 ∷ 6 ∷ 1 ∷ 2 ∷ 7 ∷ 8 ∷ []) $
    enter ! 𝓣.C 𝓣.Λ fn (vptr b o ∷ vptr b' o' ∷ vint w64 i ∷ vint w64 old ∷ vint w64 new ∷ []) Post $ alloc_all ! (λ l. pass_all ! refl ((tt, tt), ((tt, tt), ((tt, record { fits = are.1.1.0.1 }), ((tt, record { fits = are.1.1.1.0.1 }), ((tt, record { fits = are.1.1.1.1.0.1 }), tt))))) $ let Ev = env fn.locals l in
    finds_start W X Y g 𝓛 ! tt t b o κs.0 (λ at s. let inside : i < z.words = asked.1 in let room : z.words * 8 < 2 ^ 63 = at.2 in let small : i * 8 < 2 ^ 64 = omega arith in let e : ℕ = i * 8 + count_of w in first ! $ blocks ! $
    sets ! (is ! (of_opd ! (load ! (through ! refl (fld ! refl (stop !))) (look_in ! 0 (sub ! 0 refl (whole !))))) (ap ptr_val (at_block w at.0))) refl (tt, tt) $
    sets ! (bin ! (get ! refl) (lit ! tt) (record { fits = small })) refl (tt, record { fits = small }) $ sets ! (bin ! (get ! refl) (get ! refl) tt) refl (tt, tt) $
    takes_seat W X Y g w b o z h b' o' ! tt asked.0 (λ q ts. let out : ℕ → Fml = λ n. fsep (flft (age z) q) (after 𝓛 unit W.coded (g.holds t.key) w w z q h.id h.me i f then n) in
    use3 𝓛 (raw (𝓣.C _ (vptr (block_of w) e ∷ vint w64 old ∷ vint w64 new ∷ []) (λ u. mean 𝓛 (found out u)))) (via 𝓤 _ (steps 𝓛 unit W.coded (g.holds t.key) w w z q h.id h.me i f then inside asked.2) (exchanges 𝓛 𝓜 𝓡 (code.calls-atomic_table::exchange 𝓡.env wired) (block_ptr (block_of w) e) old new are.1.1.1.0.1 are.1.1.1.1.0.1 out)) $
    Calls-last ! (fm 𝓛 𝓜 𝓡) (found out) (and_then ! (get ! refl) (and_then ! (get ! refl) (and_then ! (get ! refl) (no_more !)))) (λ u. finds ! out (λ n fits.
    lands_last ! refl (tt, record { fits = fits }) $ exec ! 𝓣.C 𝓣.Λ Ev (tail fn.body) (at_ret Ev Post) $ sets ! (of_opd ! (get ! refl)) refl (tt, record { fits = fits }) $
    lets_go W X Y g w b o z h b' o' ! tt (then n) ts (λ me so. let Told : Type 0 = (z ≡ h.table_id) × (h.id ≡ h.id) × then n me in
    nothing ! $ nothing ! $ fjoin ! $ nothing ! $ fjoin ! $ nothing ! $ fjoin ! $ move ! (1 ∷ 0 ∷ []) $ fjoin ! $ nothing ! $ fjoin ! $ use0 𝓛 (raw (fact 𝓤 Told)) (fact_i 𝓤 Told (emp 𝓤) (sym asked.0, refl, so)) $ flt_i ! n (2 ^ 64) fits $ feq_i ! (List Val) (vint w64 n ∷ []) (vint w64 n ∷ []) refl $ fjoin ! $
    returns ! (look_at ! 0 refl) $ free_all ! refl $ keep ! (3 ∷ 2 ∷ 0 ∷ 1 ∷ []) $ by ! (leaves 𝓛 En hs c y (vint w64 n) n (tt, (seated W X Y g h z me, (tt, (tt, (tt, tt))))) (tt, (tt, (tt, (tt, (tt, tt))))))))))))))
