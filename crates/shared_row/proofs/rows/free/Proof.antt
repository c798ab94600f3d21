-- The places become room again, and the block goes back.
use Rattle.shared_row.proofs.Walked.{◌≡◌, ℕ, ◌*◌, ◌^◌, ◌<◌, List, [], ◌∷◌, sym, refl, ap, subst, arith, w64, Val, vunit, vint, vptr, inst_fn, SProp, ent, Lft, ftrue, flft, ‵, raw, ◌⊛◌, given, at_ret, ◌$◌, ◌∵◌, !, qed, by, move, keep, split, join, fsplit, fsplit3, fjoin, learn, use3, rewrite, feq_i, stop, fld, unit_lit, of_opd, bin, no_more, and_then, first, blocks, exec, returns, enter, alloc_all, pass_all, free_all, look_at, get, sets, lands_last, is, env, sub, whole, tables, yes, owns, types_at, plain, Ptr, block_ptr, nothing, Stays, stay_dropped, walk_of, Goes-dropped, fact, RefOf, later, await, use1, use2, length, get_in, no, WT, heard, WpFn, id⊢, suffices, Share, calls_at_last, ◌∙◌, ◌⊑◌, ◌++◌, leaves, fm, feq_l, ty_array, ty_unit, has_ty, T as Holds, Incl-trans, froom, align, capped, capped_fits, size_word, align_word, El, elτ, Al, token, Gives, at_gives, Gives-goes, Gives-Gives, past, args, P, lease_val, uncapped, block_ty, block_size, block_align, row_val, sz, to_room, slots_ptr, slots_len, slots_items, slots_filled, slots_counts, proved_at, Places as Row, places, parts_typed, Row-seen, Into, at_into, Into-goes, Into-gives, Rr, right_had}
use Rattle.core.proofs.slots.Slots.into_raw_parts.Met as callee
use Rattle.shared_row.specs.contracts.rows.free.{ended, clauses}
use Rattle.shared_row.specs.contracts.rows.free.Key.{name as #self}
use Rattle.shared_row.proofs.rows.free.Statement.{statement}
use Rattle.shared_row.proofs.rows.free.Code as code

pub free_spec : {M : Type 1} → statement M
free_spec 𝓤 𝓛 𝓜 𝓡 wired T A LT LA g d dd met md =
    let H = 𝓛.H in let 𝓣 = tables 𝓤 H 𝓜 𝓡 𝓡.env in let E : El = record { row = T; laws = LT } in let Z : Al = record { row = A; laws = LA; g = g; d = d; drops = dd } in let s : ℕ = sz E in let al : ℕ = capped (align (elτ E)) in
    let En = ended T A g d dd in let c = clauses T A g d dd 𝓛 𝓜.mem 𝓡.returns in let fn = inst_fn (args E Z) code.function in let heaps = RefOf (0 ∷ []) tt (plain (λ _. P E Z)) (λ _. tt) in
    let rows = plain (λ _. Row E) in let rights = plain (λ _. Rr E Z) in let hs : Stays En.signature.params En.kept = (stay_dropped heaps yes, (stay_dropped rows no, (stay_dropped rights no, tt))) in
    proved_at 𝓛 En hs c 𝓜 𝓡 (Goes-dropped 𝓛 3 heaps yes (λ κs x f. refl), (Goes-dropped 𝓛 3 rows no (λ κs x f. refl), (Goes-dropped 𝓛 3 rights no (λ κs x f. refl), tt))) (#self (args E Z)) fn (code.unfolded 𝓤 H 𝓜 𝓡 wired (T, (A, tt)) d dd) (λ z are.
    let κ : Lft = z.0.0.0 in let κ₁ : Lft = z.0.0.1.0 in let κ₂ : Lft = z.0.0.1.1.0 in let q : Share = z.0.1.0 in let q₁ : Share = z.0.1.1.0 in let q₂ : Share = z.0.1.1.1.0 in
    let hp : ℕ × ℕ = z.0.3.0.ref_ptr in let a : A.Denot = z.0.3.0.now in let h : (Row E).Denot = z.0.3.1.0 in let r : (Rr E Z).Denot = z.0.3.1.1.0 in let vss = z.0.4 in let n : ℕ = slots_len h in let xs = slots_items h in
    let Post : Val → SProp 𝓤 = (walk_of 𝓛 En hs c).post z in let Run : List Val → SProp 𝓤 = λ ws. WpFn 𝓤 H 𝓣.C 𝓣.Λ fn ws Post in let Ok : Type 0 = (r.start ≡ slots_ptr h) × (r.count ≡ n) × (r.heap ≡ a) in
    qed 𝓛 (((‵ (flft κ q) ⊛ ‵ (flft κ₁ q₁) ⊛ ‵ (flft κ₂ q₂) ⊛ ‵ ftrue) ⊛ ‵ (owns (types_at En.signature.params z.0.0) z.0.3 vss)) ∷ raw (fact 𝓤 (κ₁ ⊑ T.lives)) ∷ raw (fact 𝓤 (κ₂ ⊑ A.lives)) ∷ raw (fact 𝓤 Ok) ∷ []) ∵
    move ! (1 ∷ 2 ∷ 3 ∷ []) $ heard ! (κ₁ ⊑ T.lives) (λ inT. heard ! (κ₂ ⊑ A.lives) (λ inA. heard ! Ok (λ ok. split ! $ split ! $ move ! (1 ∷ []) $ split ! $ move ! (3 ∷ []) $ fsplit3 ! $ fsplit ! $ feq_l ! (λ e₀.
    move ! (1 ∷ []) $ Row-seen E ! h vss.1.0 (λ b o at e₁ fk fit. move ! (2 ∷ []) $ fsplit ! $ right_had E Z ! r vss.1.1.0 (λ e₂. keep ! (2 ∷ 0 ∷ 3 ∷ 4 ∷ 6 ∷ 5 ∷ []) $
    rewrite ! 1 (λ (w : A.Denot). ‵ (token Z w (block_ty E r.count) r.start)) ok.2 refl $ rewrite ! 1 (λ (p : Ptr). ‵ (token Z a (block_ty E r.count) p)) (ok.0 ∙ at) refl $ rewrite ! 1 (λ (k : ℕ). ‵ (token Z a (block_ty E k) (block_ptr b o))) ok.1 refl $
    let us : List Val = vptr hp.0 hp.1 ∷ row_val b o n ∷ lease_val (block_ptr b o) n ∷ [] in let small : n * s < 2 ^ 63 = fit in let bytes : n * s < 2 ^ 64 = omega arith in let word : WT (row_val b o n) = (tt, (record { fits = fk }, tt)) in
    let e₃ : vss.1.1.0 ≡ lease_val (block_ptr b o) n ∷ [] = e₂ ∙ (λ i. lease_val ((ok.0 ∙ at) i) (ok.1 i) ∷ []) in
    suffices ! (Run us) (subst (λ (ws : List Val). ent 𝓤 (Run us) (Run ws)) (sym (λ k. e₀ k ++ (e₁ k ++ (e₃ k ++ [])))) (id⊢ 𝓤 (Run us))) $
    enter ! 𝓣.C 𝓣.Λ fn us Post $ alloc_all ! (λ l. pass_all ! refl ((tt, tt), ((tt, word), ((tt, (tt, (record { fits = fk }, (tt, tt)))), tt))) $ let Ev = env fn.locals l in let y = at_into E 𝓛 𝓜.mem 𝓡.returns κ₁ q₁ h b o in
    let y' = at_gives Z 𝓛 𝓜.mem 𝓡.returns κ q hp a b o (n * s) al (block_ty E n) in let into = callee.met 𝓤 𝓛 𝓜 𝓡 (code.calls-core::slots::Slots::into_raw_parts 𝓡.env wired) T LT in
    first ! $ blocks ! $ sets ! (of_opd ! (get ! refl)) refl (tt, word) $ move ! (0 ∷ 3 ∷ []) $
    use2 𝓛 (raw ((Into E 𝓛 𝓜.mem 𝓡.returns).pre y)) (Into-goes E 𝓛 𝓜.mem 𝓡.returns κ₁ q₁ h b o inT) $ calls_at_last ! (fm 𝓛 𝓜 𝓡) (Into E 𝓛 𝓜.mem 𝓡.returns) into y (and_then ! (get ! refl) (no_more !)) (λ v.
    use1 𝓛 (later (given (v ≡ row_val b o n) (‵ (places E b o xs (slots_filled h)) ⊛ ‵ (flft κ₁ q₁)))) (Into-gives E 𝓛 𝓜.mem 𝓡.returns κ₁ q₁ h b o v at) $ await ! tt $ learn ! (λ ev. split ! $
    lands_last ! refl (parts_typed v b o n ev fk) $ exec ! 𝓣.C 𝓣.Λ Ev (past 1 fn.body) (at_ret Ev Post) $ sets ! (is ! (of_opd ! (get ! refl)) ev) refl (tt, word) $
    sets ! (of_opd ! (get_in ! (fld ! refl (stop !)) (sub ! 0 refl (whole !)))) refl (tt, tt) $ sets ! (of_opd ! (get_in ! (fld ! refl (stop !)) (sub ! 1 refl (whole !)))) refl (tt, record { fits = fk }) $ first ! $ blocks ! $ sets ! (of_opd ! (get ! refl)) refl (tt, tt) $
    sets ! (is ! (bin ! (get ! refl) (size_word !) (record { fits = subst (λ (k : ℕ). k < 2 ^ 64) (sym (uncapped n s bytes)) bytes })) (ap (vint w64) (uncapped n s bytes))) refl (tt, record { fits = bytes }) $
    use1 𝓛 (‵ (froom (ty_array (elτ E) (length xs)) b o)) (to_room E 𝓛 b xs (slots_filled h) o (sym (slots_counts h).1 ∙ (slots_counts h).0)) $ rewrite ! 0 (λ (k : ℕ). ‵ (froom (ty_array (elτ E) k) b o)) (sym (slots_counts h).0) refl $
    use1 𝓛 (‵ (froom (block_ty E n) b o)) (𝓛.laws.room-raw (ty_array (elτ E) n) b o) $ move ! (3 ∷ 4 ∷ []) $ join ! $ move ! (1 ∷ 3 ∷ 0 ∷ []) $
    use3 𝓛 (raw ((Gives Z 𝓛 𝓜.mem 𝓡.returns).pre y')) (Gives-goes Z 𝓛 𝓜.mem 𝓡.returns κ q hp a (Incl-trans z.0.2.0 inA) b o (n * s) al (block_ty E n) (block_size E n bytes) (block_align E n) bytes (capped_fits (align (elτ E)))) $
    calls_at_last ! (fm 𝓛 𝓜 𝓡) (Gives Z 𝓛 𝓜.mem 𝓡.returns) (met.deallocate dd) y' (and_then ! (get ! refl) (and_then ! (get ! refl) (and_then ! (get ! refl) (and_then ! (align_word !) (no_more !))))) (λ u.
    use1 𝓛 (later (given (u ≡ vunit) (‵ (flft κ q)))) (Gives-Gives Z 𝓛 𝓜.mem 𝓡.returns κ q hp a b o (n * s) al (block_ty E n) u) $ await ! tt $ learn ! (λ e₄.
    lands_last ! refl (subst (λ (w : Val). Holds (has_ty ty_unit w) × WT w) (sym e₄) (tt, tt)) $ exec ! 𝓣.C 𝓣.Λ Ev (past 5 fn.body) (at_ret Ev Post) $ sets ! (of_opd ! (unit_lit !)) refl (tt, tt) $
    move ! (1 ∷ 2 ∷ []) $ join ! $ move ! (1 ∷ 0 ∷ []) $ join ! $ nothing ! $ nothing ! $ nothing ! $ fjoin ! $ nothing ! $ fjoin ! $ nothing ! $ fjoin ! $ feq_i ! (List Val) (vunit ∷ []) (vunit ∷ []) refl $
    returns ! (look_at ! 0 refl) $ free_all ! refl $ keep ! (3 ∷ 1 ∷ 0 ∷ 2 ∷ []) $ by ! (leaves 𝓛 En hs c z vunit tt (tt, (tt, (tt, tt))) (tt, (tt, (tt, tt))))))))))))))))
