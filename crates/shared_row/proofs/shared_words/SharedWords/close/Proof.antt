-- The words' age ends, and what it lent comes back, in a state that has the seat's view.
use Rattle.shared_row.proofs.Walked.{◌≡◌, ℕ, List, [], ◌∷◌, sym, refl, a_type, dcons, dnil, named, Val, vptr, inst_fn, SProp, emp, Fml, ftrue, fsep, flft, ‵, raw, ◌⊛◌, given, ◌$◌, ◌∵◌, !, qed, by, move, keep, drop, split, split3, join, fsplit, fsplit3, fjoin, fjoin3, learn, use0, rewrite, feq_i, stop, fld, of_opd, no_more, and_then, returns, enter, alloc_all, pass_all, free_all, look_at, get, sets, sub, whole, tables, RattleType, owns, types_at, plain, Ptr, nothing, param, bounded, Stays, stay_dropped, walk_of, Goes-dropped, fact, fact_i, u64, mut_vals, mut_Tells, stay_ref, Goes-ref, opens, closes, pick, some, later, await, use1, use2, InBlock, length, get_in, no, unit, TableId, mine, proved, leaves, Seat, Shared, bare_val, ◌*◌, ◌^◌, ◌<◌, ap, subst, w64, vint, at_ret, first, blocks, exec, lands_last, is, env, yes, block_ptr, ptr_val, block_of, count_of, at_block, usize, uint_vals, uint_Tells, WT, calls_at_last, mem, ◌∙◌, Bool, true, replicate, length-replicate, get_or-replicate, tail, fm, Final, Seen, strip, table_owns, strip_lies, table_lies, gathers_with, full_share, ⊑_static, false, get_or, El, row_val, slots_ptr, slots_len, slots_items, IsFull, Places, places, row_Typed, From, at_from, Made, from_goes, from_gives, of_strip, word_laws, bare_told, bare_fits, AllFit, strip_fits}
use Rattle.core.proofs.slots.Slots.from_raw_parts.Met as callee
use Rattle.shared_row.specs.contracts.shared_words.SharedWords.close.{ended, clauses}
use Rattle.shared_row.specs.contracts.shared_words.SharedWords.close.Key.{name as #self}
use Rattle.shared_row.proofs.shared_words.SharedWords.close.Statement.{statement}
use Rattle.shared_row.proofs.shared_words.SharedWords.close.Code as code

pub close_spec : {M : Type 1} → statement M
close_spec 𝓤 𝓛 𝓜 𝓡 wired U Q P _ _ _ g d _ =
    let H = 𝓛.H in let 𝓣 = tables 𝓤 H 𝓜 𝓡 𝓡.env in let W : RattleType = param 0 U in let X : RattleType = param 1 Q in let Y : RattleType = param 2 P in let Row : RattleType = Shared W X Y g in let Sr : RattleType = Seat W in
    let En = ended U Q P g d in let inst = bounded (a_type ∷ a_type ∷ a_type ∷ []) (U, (Q, (P, tt))) (dcons d dnil) in let fn = inst_fn inst code.function in let c = clauses U Q P g d 𝓛 𝓜.mem 𝓡.returns in
    let self = plain (λ _. Row) in let sitter = plain (λ _. Sr) in let counted = plain (λ _. usize) in let E : El = record { row = u64; laws = word_laws } in let met = callee.met 𝓤 𝓛 𝓜 𝓡 (code.calls-core::slots::Slots::from_raw_parts 𝓡.env wired) u64 word_laws in
    let hs : Stays En.signature.params En.kept = (stay_dropped self no, (stay_ref (0 ∷ []) tt sitter, (stay_dropped counted yes, tt))) in
    proved 𝓛 En hs c 𝓜 𝓡 (Goes-dropped 𝓛 4 self no (λ κs x f. refl), (Goes-ref 𝓛 4 0 tt sitter, (Goes-dropped 𝓛 4 counted yes (λ κs x f. refl), tt))) (#self inst) fn (code.unfolded 𝓤 H 𝓜 𝓡 wired (U, (Q, (P, tt))) d)
    (λ κs. ((λ x. bare_val x.start ∷ []), (mut_vals, (uint_vals w64, tt)))) (λ κs. ((λ x vs so. bare_told W X Y g x.start vs so.0), (mut_Tells (named 0) κs.0 Sr, (uint_Tells w64, tt)))) (λ κs qs bounds a gh are.
    let w : Ptr = a.0.start in let b : ℕ = block_of w in let o : ℕ = count_of w in let k : ℕ = a.1.1.0 in let fk : k < 2 ^ 64 = are.1.1.0.1 in let z : TableId = a.0.table_id in let b' : ℕ = a.1.0.ref_ptr.0 in let o' : ℕ = a.1.0.ref_ptr.1 in let h : Sr.Denot = a.1.0.now in let good = Seen (g.holds a.0.key) h.id h.me.0 in let Mine : TableId → Fml = λ n. mine unit W.coded.code n h.id h.me in
    let others : Fml = fsep (flft κs.1.0 qs.1.0) (fsep (flft κs.1.1.0 qs.1.1.0) (fsep (flft κs.1.1.1.0 qs.1.1.1.0) (ftrue))) in let Owns : Fml = table_owns unit W.coded.code (g.holds a.0.key) w w z in
    let y : (walk_of 𝓛 En hs c).Ghost = ((κs, qs, bounds, a, (bare_val w ∷ [], (vptr b' o' ∷ [], (vint w64 k ∷ [], tt)))), gh) in let Post : Val → SProp 𝓤 = (walk_of 𝓛 En hs c).post y in
    qed 𝓛 (((‵ (flft κs.0 qs.0) ⊛ ‵ others) ⊛ ‵ (owns (types_at En.signature.params κs) a y.0.4)) ∷ raw (fact 𝓤 _) ∷ raw (fact 𝓤 _) ∷ raw (fact 𝓤 _) ∷ given ((h.table_id ≡ z) × (k ≡ z.words)) (‵ ftrue) ∷ []) ∵
    keep ! (4 ∷ 0 ∷ []) $ learn ! (λ asked. let same : h.table_id ≡ z = asked.0 in drop ! $ split ! $ split ! $ move ! (2 ∷ []) $ fsplit3 ! $ fsplit ! $ move ! (2 ∷ []) $ fsplit3 ! $ keep ! (4 ∷ 1 ∷ 2 ∷ 6 ∷ 7 ∷ []) $
    use1 𝓛 (given (InBlock w × InBlock w) (‵ Owns)) (table_lies 𝓛 unit W.coded (g.holds a.0.key) w w z) $ learn ! (λ at. let start : w ≡ block_ptr b o = at_block w at.0 in
    enter ! 𝓣.C 𝓣.Λ fn (bare_val w ∷ vptr b' o' ∷ vint w64 k ∷ []) Post $ alloc_all ! (λ l. pass_all ! refl (bare_fits w at.0, ((tt, tt), ((tt, record { fits = fk }), tt))) $ let Ev = env fn.locals l in
    move ! (1 ∷ 2 ∷ 3 ∷ []) $ opens ! tt Sr b' o' (λ ts. move ! (1 ∷ []) $ fsplit ! $ rewrite ! 1 (λ (n : TableId). ‵ (Mine n)) same refl $ move ! (6 ∷ 1 ∷ []) $
    use2 𝓛 (later (some (λ (t : List ℕ × List (Unit {0})). given ((length t.0 ≡ z.words) × (length t.1 ≡ z.slots) × Final good t.0 t.1 × InBlock w × InBlock w) (‵ (strip u64 w t.0) ⊛ ‵ (strip unit w t.1) ⊛ ‵ (Mine z))))) (gathers_with 𝓛 unit W.coded (g.holds a.0.key) w w z h.id h.me) $ await ! tt $ pick ! (λ t. learn ! (λ so. split3 ! $ move ! (1 ∷ []) $ drop ! $
    rewrite ! 1 (λ (n : TableId). ‵ (Mine n)) (sym same) refl $ move ! (2 ∷ 1 ∷ []) $ fjoin ! $ move ! (2 ∷ 0 ∷ 3 ∷ 4 ∷ 5 ∷ []) $ closes ! tt Sr h ts b' o' $ feq_i ! (List Val) (vptr b' o' ∷ []) (vptr b' o' ∷ []) refl $ fjoin3 ! $
    nothing ! $ nothing ! $ fjoin ! $ move ! (1 ∷ 0 ∷ []) $ fjoin ! $ nothing ! $ fjoin ! $ move ! (1 ∷ 3 ∷ []) $ join ! $ move ! (2 ∷ []) $ use1 𝓛 (given (AllFit t.0) (‵ (strip u64 w t.0))) (strip_fits 𝓛 w t.0) $ learn ! (λ fit.
    let lx : k ≡ length t.0 = asked.1 ∙ sym so.0 in let fs : List Bool = replicate (length t.0) true in let y' = at_from E 𝓛 𝓜.mem 𝓡.returns [] full_share b o k t.0 fs in let word : WT (row_val b o k) = (tt, (record { fits = fk }, tt)) in
    use1 𝓛 (given (InBlock w × (length t.0 * (mem u64).size < 2 ^ 63)) (‵ (strip u64 w t.0))) (strip_lies 𝓛 u64 w t.0) $ learn ! (λ near. rewrite ! 0 (λ (π : Ptr). ‵ (strip u64 π t.0)) start refl $ use1 𝓛 (‵ (places E b o t.0 fs)) (of_strip E 𝓛 b o t.0) $
    sets ! (is ! (of_opd ! (get_in ! (fld ! refl (stop !)) (sub ! 0 refl (whole !)))) (ap ptr_val start)) refl (tt, tt) $ first ! $ blocks ! $ use0 𝓛 (‵ (flft [] full_share)) (𝓛.lfts.lft-nil full_share) $ move ! (1 ∷ 0 ∷ []) $
    use2 𝓛 (raw ((From E 𝓛 𝓜.mem 𝓡.returns).pre y')) (from_goes E 𝓛 𝓜.mem 𝓡.returns [] full_share b o k t.0 fs (⊑_static []) lx (lx ∙ sym (length-replicate (length t.0) true)) fk (subst (λ (n : ℕ). n * (mem u64).size < 2 ^ 63) (sym lx) near.1)) $
    calls_at_last ! (fm 𝓛 𝓜 𝓡) (From E 𝓛 𝓜.mem 𝓡.returns) met y' (and_then ! (get ! refl) (and_then ! (get ! refl) (no_more !))) (λ v.
    use1 𝓛 (later (some (λ (r : (Places E).Denot). given ((v ≡ row_val b o k) × Made E 𝓛 𝓜.mem 𝓡.returns [] full_share b o k t.0 fs r) (‵ ((Places E).own_val r (row_val b o k ∷ [])) ⊛ ‵ (flft [] full_share))))) (from_gives E 𝓛 𝓜.mem 𝓡.returns [] full_share b o k t.0 fs v) $
    await ! tt $ pick ! (λ r. learn ! (λ got. split ! $ move ! (1 ∷ []) $ drop ! $ let made = got.1 in
    let full : IsFull r = λ j low high. let there : j < length t.0 = subst (λ (n : ℕ). j < n) (made.1 ∙ lx) high in ap (λ (gs : List Bool). get_or gs j false) made.3 ∙ get_or-replicate (length t.0) j true false there in
    let A₁ : Type 0 = (slots_ptr r ≡ w) × (slots_len r ≡ k) × IsFull r in let A₂ : Type 0 = (xs : List (Unit {0})) × Final good (slots_items r) xs in let A₃ : Type 0 = AllFit (slots_items r) in
    lands_last ! refl (row_Typed E v b o k got.0 fk) $ exec ! 𝓣.C 𝓣.Λ Ev (tail (tail fn.body)) (at_ret Ev Post) $ sets ! (is ! (of_opd ! (get ! refl)) got.0) refl (tt, word) $
    use0 𝓛 (raw (fact 𝓤 A₃)) (fact_i 𝓤 A₃ (emp 𝓤) (subst AllFit (sym made.2) fit)) $ use0 𝓛 (raw (fact 𝓤 A₂)) (fact_i 𝓤 A₂ (emp 𝓤) (t.1, subst (λ (ns : List ℕ). Final good ns t.1) (sym made.2) so.2)) $ join ! $
    use0 𝓛 (raw (fact 𝓤 A₁)) (fact_i 𝓤 A₁ (emp 𝓤) (made.0 ∙ sym start, made.1, full)) $ join ! $
    returns ! (look_at ! 0 refl) $ free_all ! refl $ keep ! (2 ∷ 3 ∷ 1 ∷ 0 ∷ []) $ by ! (leaves 𝓛 En hs c y (row_val b o k) r (tt, (h, (tt, tt))) (tt, (tt, (tt, tt))))))))))))))))
