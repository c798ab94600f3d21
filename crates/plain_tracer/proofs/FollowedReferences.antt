-- A reference that is followed: its last value, and what the tracer did for it.
use Rattle.std.proofs.Common.{◌≡◌, ◌≢◌, ℕ, ◌+◌, ◌<◌, nat_eq, List, [], ◌∷◌, ◌++◌, refl, sym, ap, ◌∙◌, subst, arith, Option, Some, None}
use Rattle.std.specs.Prelude.{All, if◌then◌else◌}
use Rattle.std.proofs.lemmas.Bool.{cond-true, and_from, eq-eqb}
use Rattle.std.proofs.lemmas.List.{append-nil, append_assoc}
use Rattle.std.proofs.lemmas.List.Elements.{All-nil, All-cons, All-append, All-replicate}
use Rattle.trace_core.specs.Setups.{Setup, size, refs}
use Rattle.trace_core.specs.Machine.{Event, ClaimCause, Claim, Copy, TakeBlock, IsSettled, forward}
use Rattle.trace_core.specs.Traces.{stage_of, target_of}
use Rattle.trace_core.specs.Views.{View, is_pair, hits, steps_at_claim, claimed_view, copied_view}
use Rattle.object_model.specs.Times.{times}
use Rattle.plain_tracer.specs.TokenRights.{IsWon, IsGrey, Pushes}
use Rattle.plain_tracer.specs.Tracers.{Tracks, Wins, Forwards}
use Rattle.trace_core.specs.CallEvents.{block_taken, taken_in, copying, Follows, IsNoRoot}
use Rattle.plain_tracer.specs.declared.plain_trace.PlainTrace.{PlainTrace}
use Rattle.plain_tracer.specs.declared.tokens.Won.{Won}
use Rattle.plain_tracer.specs.declared.tokens.Grey.{Grey}
use Rattle.trace_core.proofs.CountedRights.{times-cons, hits-cons, hits-here, hits-more}
use Rattle.trace_core.proofs.LastValues.{settled-at, forward-at}

module _ (p : Setup) (es : List Event) (v : View) (new : PlainTrace) (x value : ℕ) (cause : ClaimCause) where
  -- what has its last value is left as it is
  pub at-once : (out : List Grey) → Tracks p es new v → IsSettled (stage_of p es) x → value ≡ forward (stage_of p es) x
      → Forwards p es v new x value cause out out
  at-once out tracks settled last = let same : es ≡ es ++ [] = sym (append-nil es) in record {
    view = v;
    grows = record { events = []; all = All-nil (Follows cause); tracks = subst (λ ds. Tracks p ds new v) same tracks };
    tokens = record { pushed = []; out = sym (append-nil out); few = omega arith };
    pushes = record {
      won = refl;
      grey = λ y k. omega arith;
      copied = λ y. omega arith;
      unset = refl;
      set = refl;
      asked = refl;
      known = λ y t some. some;
      sparse = refl;
      tokens = All-nil (IsGrey p v);
    };
    settled = subst (λ ds. IsSettled (stage_of p ds) x) same settled;
    last = subst (λ ds. value ≡ forward (stage_of p ds) x) same last;
  }

-- the view after an object is claimed and copied
module _ (p : Setup) (x t : ℕ) (cause : ClaimCause) (v : View) where
  abbrev won_view : View
  won_view = copied_view p x t (claimed_view p x t cause v)

  pushes-one : (grey : Grey) → IsNoRoot x cause → grey.object ≡ x → IsGrey p won_view grey → Pushes p v won_view (grey ∷ [])
  pushes-one grey unasked same token = let steps : ℕ = steps_at_claim p x t in record {
    won = cond-true (is_pair x steps (x, steps)) v.won _ (and_from (nat_eq x x) (nat_eq steps steps) (eq-eqb x x refl) (eq-eqb steps steps refl));
    grey = λ y k. subst (λ z. hits y k ((x, 0) ∷ v.grey) ≡ hits y k ((z, 0) ∷ []) + hits y k v.grey) (sym same)
        (let all = hits-cons x 0 v.grey y k in let one = hits-cons x 0 [] y k in omega arith);
    copied = λ y. subst (λ z. times y (x ∷ v.copied) ≡ times y (z ∷ []) + times y v.copied) (sym same)
        (let all = times-cons x v.copied y in let one = times-cons x [] y in omega arith);
    unset = refl;
    set = refl;
    asked = unasked v.asked;
    known = λ y u some. hits-more x t v.known y u some;
    sparse = refl;
    tokens = All-cons (IsGrey p won_view) grey [] token (All-nil (IsGrey p won_view));
  }

-- A block that is taken first changes nothing of this.
module _ (p : Setup) (es : List Event) (v : View) (mid : PlainTrace) (x : ℕ) (cause : ClaimCause) (won : Won) where
  abbrev claiming : Option ℕ → List Event
  claiming taken = block_taken taken ++ Claim x won.target cause ∷ []

  -- the token of the claim
  pub won-token : {old : PlainTrace} (taken : Option ℕ) → Wins p es v old mid taken x cause won → IsWon p (claimed_view p x won.target cause (taken_in taken v)) won
  won-token taken wins = let w : View = taken_in taken v in record {
    right = subst (λ y. 0 < hits y (steps_at_claim p y won.target) (claimed_view p x won.target cause w).won) (sym wins.object)
        (hits-here x (steps_at_claim p x won.target) w.won);
    target = subst (λ y. 0 < hits y won.target (claimed_view p x won.target cause w).known) (sym wins.object) (hits-here x won.target w.known);
    size = wins.size ∙ ap (size p) (sym wins.object);
    refs = wins.refs ∙ ap (refs p) (sym wins.object);
  }

  pushes-by : (taken : Option ℕ) (grey : Grey) → IsNoRoot x cause → grey.object ≡ x → IsGrey p (won_view p x won.target cause (taken_in taken v)) grey
      → Pushes p v (won_view p x won.target cause (taken_in taken v)) (grey ∷ [])
  pushes-by None grey unasked same token = pushes-one p x won.target cause v grey unasked same token
  pushes-by (Some b) grey unasked same token = let d = pushes-one p x won.target cause (taken_in (Some b) v) grey unasked same token in record {
    won = d.won;
    grey = d.grey;
    copied = d.copied;
    unset = d.unset;
    set = d.set;
    asked = d.asked;
    known = d.known;
    sparse = d.sparse;
    tokens = d.tokens;
  }

  follows-takes : (taken : Option ℕ) → All (Follows cause) (block_taken taken)
  follows-takes None = All-nil (Follows cause)
  follows-takes (Some b) = All-cons (Follows cause) (TakeBlock b 1) [] refl (All-nil (Follows cause))

  follows-all : (taken : Option ℕ) → All (Follows cause) (claiming taken ++ copying p x won.target)
  follows-all taken = All-append (Follows cause) (claiming taken) (copying p x won.target)
      (All-append (Follows cause) (block_taken taken) (Claim x won.target cause ∷ []) (follows-takes taken)
      (All-cons (Follows cause) (Claim x won.target cause) [] refl (All-nil (Follows cause))))
      (All-replicate (Follows cause) (if nat_eq won.target x then 1 else size p x + 2) (Copy x) tt)

  -- the object is claimed and copied, and its token is pushed
  pub by-claim : (taken : Option ℕ) (new : PlainTrace) (grey : Grey) (value : ℕ) (out out' : List Grey) → x ≢ 0 → IsNoRoot x cause → won.object ≡ x
      → Tracks p ((es ++ claiming taken) ++ copying p won.object won.target) new
      (copied_view p won.object won.target (claimed_view p x won.target cause (taken_in taken v)))
      → IsGrey p (copied_view p won.object won.target (claimed_view p x won.target cause (taken_in taken v))) grey
      → grey.object ≡ won.object → value ≡ won.target → out' ≡ out ++ grey ∷ []
      → Forwards p es v new x value cause out out'
  by-claim taken new grey value out out' some unasked object tracks token same at pushed =
      let t : ℕ = won.target in
      let v' : View = won_view p x won.target cause (taken_in taken v) in
      let ds : List Event = claiming taken ++ copying p x won.target in
      let now : Tracks p (es ++ (claiming taken ++ copying p x won.target)) new (won_view p x won.target cause (taken_in taken v)) =
      subst (λ fs. Tracks p fs new (won_view p x won.target cause (taken_in taken v))) (append_assoc es (claiming taken) (copying p x won.target))
      (subst (λ y. Tracks p ((es ++ claiming taken) ++ copying p y won.target) new
      (copied_view p y won.target (claimed_view p x won.target cause (taken_in taken v)))) object tracks) in
      let grey-is : IsGrey p (won_view p x won.target cause (taken_in taken v)) grey =
      subst (λ y. IsGrey p (copied_view p y won.target (claimed_view p x won.target cause (taken_in taken v))) grey) object token in
      let known : target_of p (es ++ (claiming taken ++ copying p x won.target)) x ≡ Some won.target =
      now.holds.known x won.target (hits-here x won.target (taken_in taken v).known) in
      record {
        view = v';
        grows = record { events = ds; all = follows-all taken; tracks = now };
        tokens = record { pushed = grey ∷ []; out = pushed; few = omega arith };
        pushes = pushes-by taken grey unasked (same ∙ object) grey-is;
        settled = settled-at (stage_of p (es ++ (claiming taken ++ copying p x won.target))) x t known;
        last = at ∙ forward-at (stage_of p (es ++ (claiming taken ++ copying p x won.target))) x t some known;
      }
