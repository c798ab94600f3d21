-- The fields of an object are scanned one after another.
use Rattle.std.proofs.Common.{◌≡◌, ℕ, ◌+◌, ◌<◌, ◌≤◌, inl, inr, Bool, true, false, true≢false, nat_eq, List, [], ◌∷◌, ◌++◌, length, length-append, refl, sym, ap, ◌∙◌, subst, arith}
use Rattle.std.specs.Prelude.{All}
use Rattle.std.proofs.lemmas.Bool.{cases_eq, cases_Bool, and_from, and_right, eq-eqb, ne_eqb}
use Rattle.std.proofs.lemmas.List.{append-nil, append_assoc, map-append}
use Rattle.std.proofs.lemmas.List.Elements.{All-nil, All-cons, All-append, All-weaker}
use Rattle.trace_core.specs.Setups.{Setup, size, refs}
use Rattle.trace_core.specs.Machine.{Event, Claim, Ask, Copy, Scan, SetGlobal, MarkLines, TakeBlock}
use Rattle.trace_core.specs.Views.{View, without, is_pair, hits, scanned_view}
use Rattle.object_model.specs.Times.{one_if, times}
use Rattle.plain_tracer.specs.TokenRights.{IsGrey, Pushes, Scanned, copied_in, to_scan_in}
use Rattle.plain_tracer.specs.Tracers.{Tracks, MakesEvents, ScansField, ScansFields}
use Rattle.plain_tracer.specs.TokenRights.{IsMarking, IsNextField}
use Rattle.trace_core.specs.CallEvents.{Marks, Scans}
use Rattle.plain_tracer.specs.declared.plain_trace.PlainTrace.{PlainTrace}
use Rattle.plain_tracer.specs.declared.tokens.Grey.{Grey}
use Rattle.trace_core.proofs.CountedRights.{count-append, hits-cons, hits-here, hits-more, hits-without, pair-parts}

-- no field yet
pub none-scanned : (p : Setup) (es : List Event) (v : View) (t : PlainTrace) (grey : Grey) (out : List Grey) → Tracks p es t v
    → ScansFields p es v t false grey 0 out out
none-scanned p es v t grey out tracks = record {
  view = v;
  grows = record { events = []; all = All-nil (Scans false grey.object); tracks = subst (λ ds. Tracks p ds t v) (sym (append-nil es)) tracks };
  tokens = record { pushed = []; out = sym (append-nil out); few = omega arith };
  scanned = record {
    won = refl;
    grey = λ y j. omega arith;
    copied = λ y. omega arith;
    unset = refl;
    set = refl;
    asked = refl;
    known = λ y u some. some;
    sparse = refl;
    tokens = All-nil (IsGrey p v);
  };
}

at-most-one : (b : _) → one_if b ≤ 1
at-most-one b = elim (cases_Bool b) as (λ _. one_if b ≤ 1) [
  | inl is ↦ (let one : one_if b ≡ 1 = ap one_if is in omega arith)
  | inr fails ↦ (let zero : one_if b ≡ 0 = ap one_if fails in omega arith)
]

-- the right to scan the next field
pub next-field : (p : Setup) (v w : View) (grey : Grey) (k : ℕ) (pushed : List Grey) → Scanned p grey.object k v w pushed → IsGrey p v grey → k < grey.refs
    → IsNextField p w grey k
next-field p v w grey k pushed scanned token less =
    let x : ℕ = grey.object in
    let all : hits grey.object k w.grey + one_if (is_pair grey.object k (grey.object, 0))
    ≡ hits grey.object k (to_scan_in pushed) + hits grey.object k v.grey + one_if (is_pair grey.object k (grey.object, k)) = scanned.grey x k in
    let here : one_if (is_pair grey.object k (grey.object, k)) ≡ 1 = ap one_if (and_from (nat_eq x x) (nat_eq k k) (eq-eqb x x refl) (eq-eqb k k refl)) in
    let most : one_if (is_pair grey.object k (grey.object, 0)) ≤ 1 = at-most-one (is_pair x k (x, 0)) in
    let is : grey.refs ≡ refs p grey.object = token.refs in
    record {
      right = elim (cases_eq k 0) as (λ _. 0 < hits grey.object k w.grey) [
        | inl first ↦ (let some : 0 < hits grey.object k v.grey = subst (λ j. 0 < hits grey.object j v.grey) (sym first) token.right in omega arith)
        | inr later ↦ (let zero : one_if (is_pair grey.object k (grey.object, 0)) ≡ 0 =
            ap one_if (and_right (nat_eq x x) (nat_eq 0 k) (ne_eqb 0 k (λ e. later (sym e)))) in omega arith)
      ];
      target = scanned.known x grey.target token.target;
      field = omega arith;
    }

-- each token of a list has its right in the list
in-scan : (gs : List Grey) → All (λ g. 0 < hits g.object 0 (to_scan_in gs)) gs
in-scan [] = All-nil (λ g. 0 < hits g.object 0 [])
in-scan (g ∷ gs) = All-cons (λ h. 0 < hits h.object 0 (to_scan_in (g ∷ gs))) g gs (hits-here g.object 0 (to_scan_in gs))
    (All-weaker (λ h. 0 < hits h.object 0 (to_scan_in gs)) (λ h. 0 < hits h.object 0 (to_scan_in (g ∷ gs)))
    (λ h some. hits-more g.object 0 (to_scan_in gs) h.object 0 some) gs (in-scan gs))

-- the token says what is known, whether it has its right or not
record IsKnown (p : Setup) (v : View) (grey : Grey) : Type 0 where
  target : 0 < hits grey.object grey.target v.known
  size : grey.size ≡ size p grey.object
  refs : grey.refs ≡ refs p grey.object

-- one field more
module _ (p : Setup) (x k : ℕ) (v w w' : View) (ps qs : List Grey) (scanned : Scanned p x k v w ps) (pushes : Pushes p w w' qs)
    (first : 0 < hits x 0 v.grey) (right : 0 < hits x k w.grey) where
  abbrev last : View
  last = scanned_view x k w'

  grey-more : (y j : ℕ) → hits y j (scanned_view x k w').grey + one_if (is_pair y j (x, 0))
      ≡ hits y j (to_scan_in (ps ++ qs)) + hits y j v.grey + one_if (is_pair y j (x, k + 1))
  grey-more y j =
      let some : hits x k w'.grey ≡ hits x k (to_scan_in qs) + hits x k w.grey = pushes.grey x k in
      let a : hits y j w.grey + one_if (is_pair y j (x, 0)) ≡ hits y j (to_scan_in ps) + hits y j v.grey + one_if (is_pair y j (x, k)) = scanned.grey y j in
      let b : hits y j w'.grey ≡ hits y j (to_scan_in qs) + hits y j w.grey = pushes.grey y j in
      let c : hits y j ((x, k + 1) ∷ without (is_pair x k) w'.grey) ≡ one_if (is_pair y j (x, k + 1)) + hits y j (without (is_pair x k) w'.grey) =
      hits-cons x (k + 1) (without (is_pair x k) w'.grey) y j in
      let d : hits y j w'.grey ≡ hits y j (without (is_pair x k) w'.grey) + one_if (is_pair y j (x, k)) = hits-without x k w'.grey (omega arith) y j in
      let e : hits y j (to_scan_in (ps ++ qs)) ≡ hits y j (to_scan_in ps) + hits y j (to_scan_in qs) =
      ap (hits y j) (map-append (λ (g : Grey). (g.object, 0)) ps qs) ∙ count-append (is_pair y j) (to_scan_in ps) (to_scan_in qs) in
      omega arith

  right-more : (y : ℕ) → 0 < hits y 0 (to_scan_in (ps ++ qs)) → 0 < hits y 0 (scanned_view x k w').grey
  right-more y some =
      let all : hits y 0 (scanned_view x k w').grey + one_if (is_pair y 0 (x, 0))
      ≡ hits y 0 (to_scan_in (ps ++ qs)) + hits y 0 v.grey + one_if (is_pair y 0 (x, k + 1)) = grey-more y 0 in
      let most : one_if (is_pair y 0 (x, 0)) ≤ 1 = at-most-one (is_pair y 0 (x, 0)) in
      elim (cases_Bool (is_pair y 0 (x, 0))) as (λ _. 0 < hits y 0 (scanned_view x k w').grey) [
        | inl is ↦ (let there : 0 < hits y 0 v.grey = subst (λ z. 0 < hits z 0 v.grey) (pair-parts x 0 y 0 is).0 first in omega arith)
        | inr other ↦ (let zero : one_if (is_pair y 0 (x, 0)) ≡ 0 = ap one_if other in omega arith)
      ]

  known-of : (u : View) → ((y t : ℕ) → 0 < hits y t u.known → 0 < hits y t w'.known) → (g : Grey) → IsGrey p u g → IsKnown p last g
  known-of u more g token = record { target = more g.object g.target token.target; size = token.size; refs = token.refs }

  tokens-more : All (IsGrey p (scanned_view x k w')) (ps ++ qs)
  tokens-more i d l =
      let known = All-append (IsKnown p last) ps qs (All-weaker (IsGrey p w) (IsKnown p last) (known-of w pushes.known) ps scanned.tokens)
      (All-weaker (IsGrey p w') (IsKnown p last) (known-of w' (λ y t some. some)) qs pushes.tokens) i d l in
      let rights = in-scan (ps ++ qs) i d l in
      record { right = right-more _ rights; target = known.target; size = known.size; refs = known.refs }

  scanned-more : Scanned p x (k + 1) v (scanned_view x k w') (ps ++ qs)
  scanned-more = record {
    won = pushes.won ∙ scanned.won;
    grey = grey-more;
    copied = λ y.
        (let a : times y w.copied ≡ times y (copied_in ps) + times y v.copied = scanned.copied y in
        let b : times y w'.copied ≡ times y (copied_in qs) + times y w.copied = pushes.copied y in
        let e : times y (copied_in (ps ++ qs)) ≡ times y (copied_in ps) + times y (copied_in qs) =
        ap (times y) (map-append (λ (g : Grey). g.object) ps qs) ∙ count-append (nat_eq y) (copied_in ps) (copied_in qs) in
        omega arith);
    unset = pushes.unset ∙ scanned.unset;
    set = pushes.set ∙ scanned.set;
    asked = pushes.asked ∙ scanned.asked;
    known = λ y t some. pushes.known y t (scanned.known y t some);
    sparse = pushes.sparse ∙ scanned.sparse;
    tokens = tokens-more;
  }

pub one-more : (p : Setup) (es : List Event) (v : View) (mid new : PlainTrace) (grey : Grey) (k : ℕ) (out out' out'' : List Grey)
    (s : ScansFields p es v mid false grey k out out') → IsGrey p v grey → IsNextField p s.view grey k
    → ScansField p (es ++ s.grows.events) s.view new grey k out' out'' → ScansFields p es v new false grey (k + 1) out out''
one-more p es v mid new grey k out out' out'' s token next f =
    let fs : List Event = s.grows.events in
    let ds : List Event = f.grows.events in
    let last : View = scanned_view grey.object k f.view in
    let few : length s.tokens.pushed ≤ k = s.tokens.few in
    let one : length f.tokens.pushed ≤ 1 = f.tokens.few in
    let both : length (s.tokens.pushed ++ f.tokens.pushed) ≡ length s.tokens.pushed + length f.tokens.pushed = length-append s.tokens.pushed f.tokens.pushed in
    record {
      view = last;
      grows = record {
        events = fs ++ ds;
        all = All-append (Scans false grey.object) fs ds s.grows.all f.grows.all;
        tracks = subst (λ es'. Tracks p es' new (scanned_view grey.object k f.view)) (append_assoc es fs ds) f.grows.tracks;
      };
      tokens = record {
        pushed = s.tokens.pushed ++ f.tokens.pushed;
        out = f.tokens.out ∙ ap (λ o. o ++ f.tokens.pushed) s.tokens.out ∙ append_assoc out s.tokens.pushed f.tokens.pushed;
        few = omega arith;
      };
      scanned = scanned-more p grey.object k v s.view f.view s.tokens.pushed f.tokens.pushed s.scanned f.pushes token.right next.right;
    }

marks-scans : (x : ℕ) (e : Event) → Marks x e → Scans true x e
marks-scans x (MarkLines y word mask) is = (is, refl)
marks-scans x (Claim y t cause) is = absurd is
marks-scans x (Ask y) is = absurd is
marks-scans x (Copy y) is = absurd is
marks-scans x (Scan y) is = absurd is
marks-scans x (SetGlobal g) is = absurd is
marks-scans x (TakeBlock b w) is = absurd is

more-scans : (lines : Bool) (x : ℕ) (e : Event) → Scans false x e → Scans lines x e
more-scans lines x (MarkLines y word mask) is = absurd (true≢false (sym is.1))
more-scans lines x (Claim y t cause) is = is
more-scans lines x (Ask y) is = is
more-scans lines x (Copy y) is = is
more-scans lines x (Scan y) is = is
more-scans lines x (SetGlobal g) is = is
more-scans lines x (TakeBlock b w) is = is

-- no lines are marked
pub lines-unmarked : (p : Setup) (es : List Event) (v : View) (new : PlainTrace) (lines : Bool) (grey : Grey) (k : ℕ) (out out' : List Grey)
    → ScansFields p es v new false grey k out out' → ScansFields p es v new lines grey k out out'
lines-unmarked p es v new lines grey k out out' s = record {
  view = s.view;
  grows = record {
    events = s.grows.events;
    all = All-weaker (Scans false grey.object) (Scans lines grey.object) (more-scans lines grey.object) s.grows.events s.grows.all;
    tracks = s.grows.tracks;
  };
  tokens = s.tokens;
  scanned = s.scanned;
}

-- then the object's lines are marked
pub lines-marked : (p : Setup) (es : List Event) (v : View) (mid new : PlainTrace) (grey : Grey) (k : ℕ) (out out' : List Grey)
    (s : ScansFields p es v mid false grey k out out') → MakesEvents p (es ++ s.grows.events) new s.view (Marks grey.object) → ScansFields p es v new true grey k out out'
lines-marked p es v mid new grey k out out' s more = let fs : List Event = s.grows.events in record {
  view = s.view;
  grows = record {
    events = fs ++ more.events;
    all = All-append (Scans true grey.object) fs more.events (All-weaker (Scans false grey.object) (Scans true grey.object) (more-scans true grey.object) fs s.grows.all)
        (All-weaker (Marks grey.object) (Scans true grey.object) (marks-scans grey.object) more.events more.all);
    tracks = subst (λ ds. Tracks p ds new s.view) (append_assoc es fs more.events) more.tracks;
  };
  tokens = s.tokens;
  scanned = s.scanned;
}

-- a token of an object says what is needed to mark its lines
pub marking : (p : Setup) (v w : View) (grey : Grey) (k : ℕ) (pushed : List Grey) → Scanned p grey.object k v w pushed → IsGrey p v grey → IsMarking p w grey
marking p v w grey k pushed scanned token = record { target = scanned.known grey.object grey.target token.target; size = token.size }
