-- The allocator gives a block, whose room becomes empty places, or refuses.
use Rattle.shared_row.proofs.Walked.{◌≡◌, ℕ, ◌*◌, ◌^◌, ◌<◌, List, [], ◌∷◌, sym, refl, ap, subst, arith, lit<, w64, named, Val, vint, vptr, inst_fn, SProp, emp, Lft, ftrue, flft, ‵, raw, ◌⊛◌, given, at_ret, ◌$◌, ◌∵◌, !, qed, by, move, keep, drop, split, join, fsplit, fjoin, fjoin3, learn, use0, rewrite, feq_i, stop, fld, lit, of_opd, bin, no_more, and_then, first, blocks, exec, returns, enter, alloc_all, pass_all, free_all, look_at, get, sets, lands_last, is, env, agg, whole, tables, yes, RattleType, owns, types_at, plain, Ptr, block_ptr, nothing, param, Stays, stay_dropped, walk_of, Goes-dropped, fact, fact_i, RefOf, usize, shr_vals, shr_Tells, uint_vals, uint_Tells, Valss, pick, some, later, await, use1, use2, fpack, vstruct, length, get_in, WT, heard, Share, calls_at_last, ◌∙◌, Bool, true, replicate, length-replicate, ◌⊑◌, proved, leaves, fm, calls_at, ty_array, Incl-trans, froom, align, capped, capped_fits, size_word, align_word, El, elτ, Al, Takes, at_takes, Takes-goes, Takes-gives, Answered, Answer-typed, answers, past, head, arm_body, args, P, lease_val, uncapped, block_ty, block_size, block_align, row_val, sz, of_room, slots_ptr, slots_len, Places as Row, places, row_Typed, From, at_from, Made, from_goes, from_gives, Rr, granted, right_made, Wp, after_seq, at_return, After, any_q, live, vrt, in_variant, switches_on, get_tag, lands_as, sets_last, CodeBody as Body, vcons, vnil, false, Is, owned, Struct, Struct-Makes, within_struct as within, Tuple, tuple_type, Ok, Err, ok_of, err_of}
use denote.Struct.Declared as Declared
use Rattle.core.proofs.slots.Slots.from_raw_parts.Met as callee
use Rattle.core.specs.contracts.result.Result as RS
use Rattle.core.specs.contracts.alloc.AllocError as AE
use Rattle.shared_row.specs.contracts.rows.take.{ended, clauses}
use Rattle.shared_row.specs.contracts.rows.take.Key.{name as #self}
use Rattle.shared_row.proofs.rows.take.Statement.{statement}
use Rattle.shared_row.proofs.rows.take.Code as code

pub take_spec : {M : Type 1} → statement M
take_spec 𝓤 𝓛 𝓜 𝓡 wired T A LT LA g d dd met md =
    let H = 𝓛.H in let 𝓣 = tables 𝓤 H 𝓜 𝓡 𝓡.env in let E : El = record { row = T; laws = LT } in let Z : Al = record { row = A; laws = LA; g = g; d = d; drops = dd } in let s : ℕ = sz E in let al : ℕ = capped (align (elτ E)) in
    let En = ended T A g d dd in let c = clauses T A g d dd 𝓛 𝓜.mem 𝓡.returns in let fn = inst_fn (args E Z) code.function in let heaps = RefOf (0 ∷ []) tt (plain (λ _. P E Z)) (λ _. tt) in
    let counted = plain (λ _. usize) in let likes = RefOf (1 ∷ []) tt (plain (λ _. param 0 T)) (λ _. tt) in let hs : Stays En.signature.params En.kept = (stay_dropped heaps yes, (stay_dropped counted yes, (stay_dropped likes yes, tt))) in let Two : RattleType = Tuple (Row E ∷ Rr E Z ∷ []) in let Answer : RattleType = RS.the_row Two AE.the_row in let Failed = Declared.shape AE.the_type in
    proved 𝓛 En hs c 𝓜 𝓡 (Goes-dropped 𝓛 4 heaps yes (λ κs x f. refl), (Goes-dropped 𝓛 4 counted yes (λ κs x f. refl), (Goes-dropped 𝓛 4 likes yes (λ κs x f. refl), tt))) (#self (args E Z)) fn (code.unfolded 𝓤 H 𝓜 𝓡 wired (T, (A, tt)) d dd)
    (λ κs. (shr_vals, (uint_vals w64, (shr_vals, tt)))) (λ κs. (shr_Tells (named 0) κs.0 (P E Z), (uint_Tells w64, (shr_Tells (named 1) κs.1.0 (param 0 T), tt)))) (λ κs qs bounds a gh are.
    let κ : Lft = κs.0 in let κ₀ : Lft = κs.1.0 in let κ₁ : Lft = κs.1.1.0 in let κ₂ : Lft = κs.1.1.1.0 in let q : Share = qs.0 in let q₀ : Share = qs.1.0 in let q₁ : Share = qs.1.1.0 in let q₂ : Share = qs.1.1.1.0 in
    let hp : ℕ × ℕ = a.0.ref_ptr in let w : A.Denot = a.0.now in let n : ℕ = a.1.0 in let fk : n < 2 ^ 64 = are.1.0.1 in let lp : ℕ × ℕ = a.1.1.0.ref_ptr in let xs : List T.Denot = replicate n a.1.1.0.now in let fs : List Bool = replicate (length xs) false in let long : n ≡ length xs = sym (length-replicate n a.1.1.0.now) in
    let z : (walk_of 𝓛 En hs c).Ghost = ((κs, qs, bounds, a, (vptr hp.0 hp.1 ∷ [], (vint w64 n ∷ [], (vptr lp.0 lp.1 ∷ [], tt)))), gh) in let Post : Val → SProp 𝓤 = (walk_of 𝓛 En hs c).post z in
    qed 𝓛 (((‵ (flft κ q) ⊛ ‵ (flft κ₀ q₀) ⊛ ‵ (flft κ₁ q₁) ⊛ ‵ (flft κ₂ q₂) ⊛ ‵ ftrue) ⊛ ‵ (owns (types_at En.signature.params κs) a z.0.4)) ∷ raw (fact 𝓤 (κ₁ ⊑ T.lives)) ∷ raw (fact 𝓤 (κ₂ ⊑ A.lives)) ∷ given (n * s < 2 ^ 63) (‵ ftrue) ∷ []) ∵
    move ! (1 ∷ 2 ∷ 3 ∷ []) $ heard ! (κ₁ ⊑ T.lives) (λ inT. heard ! (κ₂ ⊑ A.lives) (λ inA. learn ! (λ asked. drop ! $ split ! $ split ! $ move ! (1 ∷ []) $ split ! $ move ! (1 ∷ []) $ split ! $ move ! (4 ∷ []) $ fsplit ! $ fsplit ! $ keep ! (1 ∷ 6 ∷ 3 ∷ 5 ∷ 4 ∷ []) $
    let small : n * s < 2 ^ 63 = asked in let bytes : n * s < 2 ^ 64 = omega arith in let word : (b o : ℕ) → WT (row_val b o n) = λ b o. (tt, (record { fits = fk }, tt)) in let right : (b o : ℕ) → WT (lease_val (block_ptr b o) n) = λ b o. (tt, (record { fits = fk }, (tt, tt))) in
    enter ! 𝓣.C 𝓣.Λ fn (vptr hp.0 hp.1 ∷ vint w64 n ∷ vptr lp.0 lp.1 ∷ []) Post $ alloc_all ! (λ l. pass_all ! refl ((tt, tt), ((tt, record { fits = fk }), ((tt, tt), tt))) $ let Ev = env fn.locals l in let both : Body = head (past 2 fn.body) in
    let Then : After 𝓤 H = any_q (after_seq 𝓤 H (Wp 𝓤 H 𝓣.C 𝓣.Λ Ev (past 3 fn.body) (at_return 𝓤 H Ev Post)) (at_return 𝓤 H Ev Post)) in let y = at_takes Z 𝓛 𝓜.mem 𝓡.returns κ q hp w (n * s) al (block_ty E n) in
    sets ! (is ! (bin ! (get ! refl) (size_word !) (record { fits = subst (λ (k : ℕ). k < 2 ^ 64) (sym (uncapped n s bytes)) bytes })) (ap (vint w64) (uncapped n s bytes))) refl (tt, record { fits = bytes }) $
    use2 𝓛 (raw ((Takes Z 𝓛 𝓜.mem 𝓡.returns).pre y)) (Takes-goes Z 𝓛 𝓜.mem 𝓡.returns κ q hp w (Incl-trans bounds.0 inA) (n * s) al (block_ty E n) (block_size E n bytes) (block_align E n) bytes (capped_fits (align (elτ E)))) $
    calls_at ! (fm 𝓛 𝓜 𝓡) (Takes Z 𝓛 𝓜.mem 𝓡.returns) (met.allocate dd) y (and_then ! (get ! refl) (and_then ! (get ! refl) (and_then ! (align_word !) (no_more !)))) (λ v.
    use1 𝓛 (later (raw (Answered Z 𝓛 𝓜.mem 𝓡.returns w (block_ty E n) v) ⊛ ‵ (flft κ q))) (Takes-gives Z 𝓛 𝓜.mem 𝓡.returns κ q hp w (n * s) al (block_ty E n) v) $ await ! tt $ split ! $
    answers Z ! 𝓜.mem 𝓡.returns w (block_ty E n) v
    (λ b o e. let p : Ptr = block_ptr b o in let y' = at_from E 𝓛 𝓜.mem 𝓡.returns κ₁ q₁ b o n xs fs in let from = callee.met 𝓤 𝓛 𝓜 𝓡 (code.calls-core::slots::Slots::from_raw_parts 𝓡.env wired) T LT in
    let pair : Val = vstruct (vcons (row_val b o n) (vcons (lease_val p n) vnil)) in
    lands_as ! e refl (Answer-typed true b o) $ first ! $ switches_on ! (get_tag ! (vrt ! refl (fld ! refl (stop !))) (whole !)) $ exec ! 𝓣.C 𝓣.Λ Ev (arm_body 0 both) Then $
    sets ! (of_opd ! (get_in ! (vrt ! refl (fld ! refl (stop !))) (in_variant ! 0 0 refl refl (whole !)))) refl (tt, tt) $ sets ! (of_opd ! (get ! refl)) refl (tt, tt) $
    sets ! (agg ! (no_more !)) refl (tt, tt) $ sets ! (agg ! (and_then ! (get ! refl) (and_then ! (get ! refl) (and_then ! (get ! refl) (no_more !))))) refl (tt, right b o) $ first ! $ blocks ! $
    use1 𝓛 (‵ (froom (ty_array (elτ E) n) b o)) (𝓛.laws.raw-room (ty_array (elτ E) n) b o) $ rewrite ! 0 (λ (k : ℕ). ‵ (froom (ty_array (elτ E) k) b o)) long refl $ use1 𝓛 (‵ (places E b o xs fs)) (of_room E 𝓛 b xs o) $ move ! (0 ∷ 3 ∷ []) $
    use2 𝓛 (raw ((From E 𝓛 𝓜.mem 𝓡.returns).pre y')) (from_goes E 𝓛 𝓜.mem 𝓡.returns κ₁ q₁ b o n xs fs inT long (long ∙ sym (length-replicate (length xs) false)) fk small) $
    calls_at_last ! (fm 𝓛 𝓜 𝓡) (From E 𝓛 𝓜.mem 𝓡.returns) from y' (and_then ! (get ! refl) (and_then ! (get ! refl) (no_more !))) (λ v'.
    use1 𝓛 (later (some (λ (r : (Row E).Denot). given ((v' ≡ row_val b o n) × Made E 𝓛 𝓜.mem 𝓡.returns κ₁ q₁ b o n xs fs r) (‵ ((Row E).own_val r (row_val b o n ∷ [])) ⊛ ‵ (flft κ₁ q₁)))))
    (from_gives E 𝓛 𝓜.mem 𝓡.returns κ₁ q₁ b o n xs fs v') $ await ! tt $ pick ! (λ r. learn ! (λ got. split ! $
    let made = got.1 in let gave : (Rr E Z).Denot = granted E Z w b o n in let words : WT pair = (word b o, (right b o, tt)) in let answer : WT (live 0 (vcons pair vnil)) = (record { fits = lit< tt }, (words, tt)) in
    let Told : Type 0 = (slots_len r ≡ n) × (p ≡ slots_ptr r) × (n ≡ n) × (w ≡ w) in
    lands_last ! refl (row_Typed E v' b o n got.0 fk) $ exec ! 𝓣.C 𝓣.Λ Ev (past 5 (arm_body 0 both)) Then $ sets ! (is ! (of_opd ! (get ! refl)) got.0) refl (tt, word b o) $ sets ! (of_opd ! (get ! refl)) refl (tt, word b o) $ sets ! (of_opd ! (get ! refl)) refl (tt, right b o) $ sets ! (agg ! (and_then ! (get ! refl) (and_then ! (get ! refl) (no_more !)))) refl (tt, words) $
    sets_last ! (agg ! (and_then ! (lit ! tt) (and_then ! (get ! refl) (no_more !)))) refl (tt, answer) $ exec ! 𝓣.C 𝓣.Λ Ev (past 3 fn.body) (at_ret Ev Post) $ sets ! (of_opd ! (get ! refl)) refl (tt, answer) $
    move ! (2 ∷ []) $ right_made E Z ! w b o n fk $ nothing ! $ move ! (2 ∷ 1 ∷ 0 ∷ []) $ fjoin3 ! $ feq_i ! (List Val) (pair ∷ []) (pair ∷ []) refl $ fjoin ! $
    fpack ! (Valss (Row E ∷ Rr E Z ∷ [])) (within (Declared.shape (tuple_type (Row E ∷ Rr E Z ∷ []))) (r, (gave, tt)) (pair ∷ [])) (row_val b o n ∷ [], (lease_val p n ∷ [], tt)) $
    use1 𝓛 (‵ (Answer.own_val (Ok (r, gave)) (live 0 (vcons pair vnil) ∷ []))) (ok_of 𝓛 Two AE.the_row (r, gave) pair) $ move ! (1 ∷ 4 ∷ []) $ join ! $ move ! (3 ∷ 0 ∷ []) $ join ! $ move ! (2 ∷ 0 ∷ []) $ join ! $
    nothing ! $ nothing ! $ fjoin ! $ nothing ! $ fjoin ! $ nothing ! $ fjoin ! $ use0 𝓛 (raw (fact 𝓤 Told)) (fact_i 𝓤 Told (emp 𝓤) (made.1, sym made.0, refl, refl)) $
    returns ! (look_at ! 0 refl) $ free_all ! refl $ keep ! (2 ∷ 1 ∷ 3 ∷ 0 ∷ []) $ by ! (leaves 𝓛 En hs c z (live 0 (vcons pair vnil)) (Ok (r, gave)) (tt, (tt, (tt, tt))) (tt, (tt, (tt, tt))))))))
    (λ e. let none : WT (live 1 (vcons (vstruct vnil) vnil)) = (record { fits = lit< tt }, (tt, tt)) in
    lands_as ! e refl (Answer-typed false 0 0) $ first ! $ switches_on ! (get_tag ! (vrt ! refl (fld ! refl (stop !))) (whole !)) $ exec ! 𝓣.C 𝓣.Λ Ev (arm_body 1 both) Then $
    sets ! (of_opd ! (get_in ! (vrt ! refl (fld ! refl (stop !))) (in_variant ! 1 0 refl refl (whole !)))) refl (tt, tt) $ sets_last ! (agg ! (and_then ! (lit ! tt) (and_then ! (get ! refl) (no_more !)))) refl (tt, none) $
    exec ! 𝓣.C 𝓣.Λ Ev (past 3 fn.body) (at_ret Ev Post) $ sets ! (of_opd ! (get ! refl)) refl (tt, none) $ move ! (1 ∷ 3 ∷ []) $ join ! $ move ! (2 ∷ 0 ∷ []) $ join ! $ move ! (1 ∷ 0 ∷ []) $ join ! $ nothing ! $ nothing ! $ fjoin ! $ nothing ! $ fjoin ! $ nothing ! $ fjoin ! $ owned ! (Struct Failed) (Is (Struct Failed)) (Struct-Makes 𝓛 Failed tt) tt (vstruct vnil ∷ []) (tt, (refl, tt)) $
    use1 𝓛 (‵ (Answer.own_val (Err (record {})) (live 1 (vcons (vstruct vnil) vnil) ∷ []))) (err_of 𝓛 Two AE.the_row (record {}) (vstruct vnil)) $
    use0 𝓛 (raw (fact 𝓤 (Unit {0}))) (fact_i 𝓤 (Unit {0}) (emp 𝓤) tt) $ returns ! (look_at ! 0 refl) $ free_all ! refl $ keep ! (3 ∷ 2 ∷ 1 ∷ 0 ∷ []) $ by ! (leaves 𝓛 En hs c z (live 1 (vcons (vstruct vnil) vnil)) (Err (record {})) (tt, (tt, (tt, tt))) (tt, (tt, (tt, tt)))))))))))
