-- The tokens of a caller, as its tracer goes on.
use Rattle.std.proofs.Common.{◌≡◌, ℕ, ◌+◌, ◌<◌, ◌≤◌, nat_eq, eq-eqb, List, [], ◌∷◌, ◌++◌, map, refl, sym, ap, ◌∙◌, subst, arith, Option, Some, None}
use Rattle.std.specs.Prelude.{All}
use Rattle.std.proofs.lemmas.List.{map-append}
use Rattle.std.proofs.lemmas.List.Elements.{All-append, All-cons, All-nil, All-pop, All-weaker}
use Rattle.trace_core.specs.Setups.{Setup}
use Rattle.trace_core.specs.Machine.{Event, ByRoot}
use Rattle.trace_core.specs.Views.{View, without, is_pair, hits, claimed_view, copied_view, set_view}
use Rattle.object_model.specs.Times.{one_if, times}
use Rattle.plain_tracer.specs.TokenRights.{IsGrey, Scanned, to_scan_in}
use Rattle.plain_tracer.specs.Tracers.{Tracks}
use Rattle.trace_core.specs.CallEvents.{taken_in}
use Rattle.plain_tracer.specs.declared.plain_trace.PlainTrace.{PlainTrace}
use Rattle.plain_tracer.specs.declared.tokens.Grey.{Grey}
use Rattle.plain_tracer.specs.declared.tokens.GlobalRoot.{GlobalRoot}
use Rattle.plain_tracer.specs.declared.tokens.Won.{Won}
use Rattle.trace_core.proofs.CountedRights.{count-append, hits-cons, hits-here, hits-more, times-cons, times-without}
use Rattle.trace_tests.specs.Tokens.{IsOf, AreGrey, AreUnset, TracerGoesOn}

scan-append : (x k : ℕ) (gs hs : List Grey) → hits x k (to_scan_in (gs ++ hs)) ≡ hits x k (to_scan_in gs) + hits x k (to_scan_in hs)
scan-append x k gs hs = ap (hits x k) (map-append (λ (g : Grey). (g.object, 0)) gs hs) ∙ count-append (is_pair x k) (to_scan_in gs) (to_scan_in hs)

-- the view w knows what v knows
module _ (p : Setup) (v w : View) (known : (x t : ℕ) → 0 < hits x t v.known → 0 < hits x t w.known) where
  known-of : (g : Grey) → IsOf p v g → IsOf p w g
  known-of g is = record { target = known g.object g.target is.target; size = is.size; refs = is.refs }

  known-grey : (g : Grey) → IsGrey p w g → IsOf p w g
  known-grey g is = record { target = is.target; size = is.size; refs = is.refs }

  pub same-grey : (tokens : List Grey) → AreGrey p v tokens → ((x k : ℕ) → hits x k v.grey ≤ hits x k w.grey) → AreGrey p w tokens
  same-grey tokens are more = record {
    rights = λ x k. let a : hits x k (to_scan_in tokens) ≤ hits x k v.grey = are.rights x k in
        let b : hits x k v.grey ≤ hits x k w.grey = more x k in omega arith;
    each = All-weaker (IsOf p v) (IsOf p w) known-of tokens are.each;
  }

  -- tokens are pushed
  pub more-grey : (tokens pushed : List Grey) → AreGrey p v tokens
      → ((x k : ℕ) → hits x k w.grey ≡ hits x k (to_scan_in pushed) + hits x k v.grey) → All (IsGrey p w) pushed → AreGrey p w (tokens ++ pushed)
  more-grey tokens pushed are more all = record {
    rights = λ x k.
        let a : hits x k (to_scan_in tokens) ≤ hits x k v.grey = are.rights x k in
        let b : hits x k w.grey ≡ hits x k (to_scan_in pushed) + hits x k v.grey = more x k in
        let c : hits x k (to_scan_in (tokens ++ pushed)) ≡ hits x k (to_scan_in tokens) + hits x k (to_scan_in pushed) = scan-append x k tokens pushed in
        omega arith;
    each = All-append (IsOf p w) tokens pushed (All-weaker (IsOf p v) (IsOf p w) known-of tokens are.each)
        (All-weaker (IsGrey p w) (IsOf p w) known-grey pushed all);
  }

-- The last token is taken, and its object is scanned.
module _ (p : Setup) (v : View) (old rest : List Grey) (grey : Grey) (last : old ≡ rest ++ grey ∷ []) (are : AreGrey p v old) where
  parts : (x k : ℕ) → hits x k (to_scan_in old) ≡ hits x k (to_scan_in rest) + one_if (is_pair x k (grey.object, 0))
  parts x k =
      let a : hits x k (to_scan_in old) ≡ hits x k (to_scan_in rest) + hits x k ((grey.object, 0) ∷ []) =
      ap (λ l. hits x k (to_scan_in l)) last ∙ scan-append x k rest (grey ∷ []) in
      let b : hits x k ((grey.object, 0) ∷ []) ≡ one_if (is_pair x k (grey.object, 0)) + hits x k [] = hits-cons grey.object 0 [] x k in
      let c : hits x k [] ≡ 0 = refl in
      omega arith

  all : All (IsOf p v) rest × IsOf p v grey
  all = All-pop (IsOf p v) old rest (Some grey) last are.each

  pub last-grey : IsGrey p v grey
  last-grey =
      let x : ℕ = grey.object in
      let a : hits grey.object 0 (to_scan_in old) ≤ hits grey.object 0 v.grey = are.rights x 0 in
      let b : hits grey.object 0 (to_scan_in old) ≡ hits grey.object 0 (to_scan_in rest) + one_if (is_pair grey.object 0 (grey.object, 0)) = parts x 0 in
      let c : hits grey.object 0 ((grey.object, 0) ∷ []) ≡ one_if (is_pair grey.object 0 (grey.object, 0)) + hits grey.object 0 [] = hits-cons x 0 [] x 0 in
      let d : 0 < hits grey.object 0 ((grey.object, 0) ∷ []) = hits-here x 0 [] in
      let e : hits grey.object 0 [] ≡ 0 = refl in
      record { right = omega arith; target = all.1.target; size = all.1.size; refs = all.1.refs }

  pub scanned-grey : (w : View) (k : ℕ) (pushed : List Grey) → Scanned p grey.object k v w pushed → AreGrey p w (rest ++ pushed)
  scanned-grey w k pushed s = record {
    rights = λ y j.
        let a : hits y j (to_scan_in old) ≤ hits y j v.grey = are.rights y j in
        let b : hits y j (to_scan_in old) ≡ hits y j (to_scan_in rest) + one_if (is_pair y j (grey.object, 0)) = parts y j in
        let c : hits y j w.grey + one_if (is_pair y j (grey.object, 0))
        ≡ hits y j (to_scan_in pushed) + hits y j v.grey + one_if (is_pair y j (grey.object, k)) = s.grey y j in
        let d : hits y j (to_scan_in (rest ++ pushed)) ≡ hits y j (to_scan_in rest) + hits y j (to_scan_in pushed) = scan-append y j rest pushed in
        omega arith;
    each = All-append (IsOf p w) rest pushed (All-weaker (IsOf p v) (IsOf p w) (known-of p v w s.known) rest all.0)
        (All-weaker (IsGrey p w) (IsOf p w) (known-grey p v w s.known) pushed s.tokens);
  }

-- A root's object is claimed and copied, and its token is pushed. A block that is taken first changes nothing of this.
module _ (p : Setup) (v : View) (x : ℕ) (won : Won) where
  abbrev won_view : Option ℕ → View
  won_view taken = copied_view p won.object won.target (claimed_view p x won.target ByRoot (taken_in taken v))

  taken-grey : (taken : Option ℕ) → (taken_in taken v).grey ≡ v.grey
  taken-grey None = refl
  taken-grey (Some b) = refl

  taken-known : (taken : Option ℕ) → (taken_in taken v).known ≡ v.known
  taken-known None = refl
  taken-known (Some b) = refl

  taken-unset : (taken : Option ℕ) → (taken_in taken v).unset ≡ v.unset
  taken-unset None = refl
  taken-unset (Some b) = refl

  pub won-goes : (taken : Option ℕ) (es : List Event) (new : PlainTrace) (grey : Grey) (tokens out : List Grey) → AreGrey p v tokens → grey.object ≡ won.object
      → IsGrey p (won_view taken) grey → Tracks p es new (won_view taken) → out ≡ tokens ++ grey ∷ [] → TracerGoesOn p v new out
  won-goes taken es new grey tokens out are same token tracks pushed = record {
    events = es;
    view = won_view taken;
    tracks = tracks;
    unset = taken-unset taken;
    grey = subst (AreGrey p (won_view taken)) (sym pushed) (more-grey p v (won_view taken)
        (λ y t some. hits-more x won.target (taken_in taken v).known y t (subst (λ l. 0 < hits y t l) (sym (taken-known taken)) some))
        tokens (grey ∷ []) are grey-more (All-cons (IsGrey p (won_view taken)) grey [] token (All-nil (IsGrey p (won_view taken)))));
  }
    where
      grey-more : (y k : ℕ) → hits y k (won_view taken).grey ≡ hits y k (to_scan_in (grey ∷ [])) + hits y k v.grey
      grey-more y k =
          let a : hits y k ((won.object, 0) ∷ v.grey) ≡ one_if (is_pair y k (won.object, 0)) + hits y k v.grey = hits-cons won.object 0 v.grey y k in
          let b : hits y k ((won.object, 0) ∷ []) ≡ one_if (is_pair y k (won.object, 0)) + hits y k [] = hits-cons won.object 0 [] y k in
          let c : hits y k (to_scan_in (grey ∷ [])) ≡ hits y k ((won.object, 0) ∷ []) = ap (λ z. hits y k ((z, 0) ∷ [])) same in
          let d : hits y k (won_view taken).grey ≡ hits y k ((won.object, 0) ∷ v.grey) = ap (λ l. hits y k ((won.object, 0) ∷ l)) (taken-grey taken) in
          let e : hits y k [] ≡ 0 = refl in
          omega arith

-- A global is set, whose token is the first.
module _ (v : View) (g : GlobalRoot) (rest old : List GlobalRoot) (first : old ≡ g ∷ rest) (are : AreUnset v old) where
  abbrev numbers : List GlobalRoot → List ℕ
  numbers l = map (λ t. t.global) l

  parts-of : (h : ℕ) → times h (numbers old) ≡ one_if (nat_eq h g.global) + times h (numbers rest)
  parts-of h = ap (λ l. times h (numbers l)) first ∙ times-cons g.global (numbers rest) h

  pub first-unset : 0 < times g.global v.unset
  first-unset =
      let a : times g.global (numbers old) ≤ times g.global v.unset = are g.global in
      let b : times g.global (numbers old) ≡ one_if (nat_eq g.global g.global) + times g.global (numbers rest) = parts-of g.global in
      let c : one_if (nat_eq g.global g.global) ≡ 1 = ap one_if (eq-eqb g.global g.global refl) in
      omega arith

  pub set-grey : (p : Setup) (w : View) (tokens : List Grey) → AreGrey p w tokens → AreGrey p (set_view g.global w) tokens
  set-grey p w tokens are = same-grey p w (set_view g.global w) (λ x t some. some) tokens are (λ x k. omega arith)

  pub rest-unset : (w : View) → w.unset ≡ v.unset → AreUnset (set_view g.global w) rest
  rest-unset w same h =
      let a : times h (numbers old) ≤ times h v.unset = are h in
      let b : times h (numbers old) ≡ one_if (nat_eq h g.global) + times h (numbers rest) = parts-of h in
      let c : times h v.unset ≡ times h (without (nat_eq g.global) v.unset) + one_if (nat_eq h g.global) = times-without g.global v.unset first-unset h in
      let d : times h (without (nat_eq g.global) w.unset) ≡ times h (without (nat_eq g.global) v.unset) =
      ap (λ l. times h (without (nat_eq g.global) l)) same in
      omega arith
