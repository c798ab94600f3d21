-- The words' age ends, and what it lent comes back.
use Rattle.shared_row.proofs.Walked.{◌≡◌, ℕ, ◌*◌, ◌^◌, ◌<◌, List, [], ◌∷◌, sym, refl, ap, subst, w64, a_type, dcons, dnil, Val, vint, inst_fn, SProp, emp, Fml, ftrue, flft, ‵, raw, ◌⊛◌, given, at_ret, ◌$◌, ◌∵◌, !, qed, by, move, keep, drop, split, split3, fsplit, fjoin, learn, use0, rewrite, stop, fld, of_opd, no_more, and_then, first, blocks, exec, returns, enter, alloc_all, pass_all, free_all, look_at, get, sets, lands_last, is, env, sub, whole, tables, yes, no, RattleType, owns, types_at, plain, Ptr, block_ptr, ptr_val, nothing, param, bounded, Stays, stay_dropped, walk_of, Goes-dropped, fact, fact_i, block_of, count_of, at_block, usize, u64, uint_vals, uint_Tells, pick, some, later, await, use1, use2, InBlock, alive, length, get_in, WT, calls_at_last, mem, ◌∙◌, Bool, true, replicate, length-replicate, unit, tail, TableId, proved, leaves, fm, Seat, Shared, bare_val, Final, strip, table_owns, strip_lies, table_lies, gathers, full_share, ⊑_static, El, row_val, slots_ptr, slots_len, Places, places, row_Typed, From, at_from, Made, from_goes, from_gives, of_strip, word_laws, bare_told, bare_fits}
use Rattle.core.proofs.slots.Slots.from_raw_parts.Met as callee
use Rattle.shared_row.specs.contracts.shared_words.SharedWords.end.{ended, clauses}
use Rattle.shared_row.specs.contracts.shared_words.SharedWords.end.Key.{name as #self}
use Rattle.shared_row.proofs.shared_words.SharedWords.end.Statement.{statement}
use Rattle.shared_row.proofs.shared_words.SharedWords.end.Code as code

pub end_spec : {M : Type 1} → statement M
end_spec 𝓤 𝓛 𝓜 𝓡 wired U Q P _ _ _ g d _ =
    let H = 𝓛.H in let 𝓣 = tables 𝓤 H 𝓜 𝓡 𝓡.env in let W : RattleType = param 0 U in let X : RattleType = param 1 Q in let Y : RattleType = param 2 P in let Row : RattleType = Shared W X Y g in let Sr : RattleType = Seat W in
    let En = ended U Q P g d in let inst = bounded (a_type ∷ a_type ∷ a_type ∷ []) (U, (Q, (P, tt))) (dcons d dnil) in let fn = inst_fn inst code.function in let c = clauses U Q P g d 𝓛 𝓜.mem 𝓡.returns in
    let self = plain (λ _. Row) in let counted = plain (λ _. usize) in let hs : Stays En.signature.params En.kept = (stay_dropped self no, (stay_dropped counted yes, tt)) in
    let E : El = record { row = u64; laws = word_laws } in let met = callee.met 𝓤 𝓛 𝓜 𝓡 (code.calls-core::slots::Slots::from_raw_parts 𝓡.env wired) u64 word_laws in
    proved 𝓛 En hs c 𝓜 𝓡 (Goes-dropped 𝓛 3 self no (λ κs x f. refl), (Goes-dropped 𝓛 3 counted yes (λ κs x f. refl), tt)) (#self inst) fn (code.unfolded 𝓤 H 𝓜 𝓡 wired (U, (Q, (P, tt))) d)
    (λ κs. ((λ x. bare_val x.start ∷ []), (uint_vals w64, tt))) (λ κs. ((λ x vs so. bare_told W X Y g x.start vs so.0), (uint_Tells w64, tt))) (λ κs qs bounds a gh are.
    let w : Ptr = a.0.start in let b : ℕ = block_of w in let o : ℕ = count_of w in let k : ℕ = a.1.0 in let fk : k < 2 ^ 64 = are.1.0.1 in let z : TableId = a.0.table_id in let Owns : Fml = table_owns unit W.coded.code (g.holds a.0.key) w w z in
    let y : (walk_of 𝓛 En hs c).Ghost = ((κs, qs, bounds, a, (bare_val w ∷ [], (vint w64 k ∷ [], tt))), gh) in let Post : Val → SProp 𝓤 = (walk_of 𝓛 En hs c).post y in
    qed 𝓛 ((raw (alive 𝓛 En.signature κs qs) ⊛ ‵ (owns (types_at En.signature.params κs) a y.0.4)) ∷ raw (fact 𝓤 _) ∷ raw (fact 𝓤 _) ∷ raw (fact 𝓤 _) ∷ given (k ≡ z.words) (‵ ftrue) ∷ []) ∵
    keep ! (4 ∷ 0 ∷ []) $ learn ! (λ long. drop ! $ split ! $ move ! (1 ∷ []) $ fsplit ! $ fsplit ! $ keep ! (1 ∷ 3 ∷ []) $
    use1 𝓛 (given (InBlock w × InBlock w) (‵ Owns)) (table_lies 𝓛 unit W.coded (g.holds a.0.key) w w z) $ learn ! (λ at. let start : w ≡ block_ptr b o = at_block w at.0 in
    enter ! 𝓣.C 𝓣.Λ fn (bare_val w ∷ vint w64 k ∷ []) Post $ alloc_all ! (λ l. pass_all ! refl (bare_fits w at.0, ((tt, record { fits = fk }), tt)) $ let Ev = env fn.locals l in
    use1 𝓛 (later (some (λ (t : List ℕ × List (Unit {0})). given ((length t.0 ≡ z.words) × (length t.1 ≡ z.slots) × Final (g.holds a.0.key) t.0 t.1 × InBlock w × InBlock w) (‵ (strip u64 w t.0) ⊛ ‵ (strip unit w t.1) ⊛ ‵ ftrue)))) (gathers 𝓛 unit W.coded (g.holds a.0.key) w w z) $ await ! tt $ pick ! (λ t. learn ! (λ so. split3 ! $ move ! (1 ∷ []) $ drop ! $ move ! (1 ∷ []) $ drop ! $
    let lx : k ≡ length t.0 = long ∙ sym so.0 in let fs : List Bool = replicate (length t.0) true in let y' = at_from E 𝓛 𝓜.mem 𝓡.returns [] full_share b o k t.0 fs in let word : WT (row_val b o k) = (tt, (record { fits = fk }, tt)) in
    use1 𝓛 (given (InBlock w × (length t.0 * (mem u64).size < 2 ^ 63)) (‵ (strip u64 w t.0))) (strip_lies 𝓛 u64 w t.0) $ learn ! (λ near. rewrite ! 0 (λ (π : Ptr). ‵ (strip u64 π t.0)) start refl $ use1 𝓛 (‵ (places E b o t.0 fs)) (of_strip E 𝓛 b o t.0) $
    sets ! (is ! (of_opd ! (get_in ! (fld ! refl (stop !)) (sub ! 0 refl (whole !)))) (ap ptr_val start)) refl (tt, tt) $ first ! $ blocks ! $ use0 𝓛 (‵ (flft [] full_share)) (𝓛.lfts.lft-nil full_share) $ move ! (1 ∷ 0 ∷ []) $
    use2 𝓛 (raw ((From E 𝓛 𝓜.mem 𝓡.returns).pre y')) (from_goes E 𝓛 𝓜.mem 𝓡.returns [] full_share b o k t.0 fs (⊑_static []) lx (lx ∙ sym (length-replicate (length t.0) true)) fk (subst (λ (n : ℕ). n * (mem u64).size < 2 ^ 63) (sym lx) near.1)) $
    calls_at_last ! (fm 𝓛 𝓜 𝓡) (From E 𝓛 𝓜.mem 𝓡.returns) met y' (and_then ! (get ! refl) (and_then ! (get ! refl) (no_more !))) (λ v.
    use1 𝓛 (later (some (λ (r : (Places E).Denot). given ((v ≡ row_val b o k) × Made E 𝓛 𝓜.mem 𝓡.returns [] full_share b o k t.0 fs r) (‵ ((Places E).own_val r (row_val b o k ∷ [])) ⊛ ‵ (flft [] full_share))))) (from_gives E 𝓛 𝓜.mem 𝓡.returns [] full_share b o k t.0 fs v) $
    await ! tt $ pick ! (λ r. learn ! (λ got. split ! $ move ! (1 ∷ []) $ drop ! $ let Told : Type 0 = (slots_ptr r ≡ w) × (slots_len r ≡ k) in
    lands_last ! refl (row_Typed E v b o k got.0 fk) $ exec ! 𝓣.C 𝓣.Λ Ev (tail (tail fn.body)) (at_ret Ev Post) $ sets ! (is ! (of_opd ! (get ! refl)) got.0) refl (tt, word) $
    use0 𝓛 (raw (fact 𝓤 Told)) (fact_i 𝓤 Told (emp 𝓤) (got.1.0 ∙ sym start, got.1.1)) $ nothing ! $ nothing ! $ fjoin ! $ nothing ! $ fjoin ! $
    returns ! (look_at ! 0 refl) $ free_all ! refl $ keep ! (3 ∷ 0 ∷ 2 ∷ 1 ∷ []) $ by ! (leaves 𝓛 En hs c y (row_val b o k) r (tt, (tt, tt)) (tt, (tt, tt)))))))))))))
