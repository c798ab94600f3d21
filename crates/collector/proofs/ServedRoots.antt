-- A root of the list is served: it is nil, or the object that it refers to is asked for, or claimed and copied.
use Rattle.std.proofs.Common.{◌≡◌, ◌≢◌, ℕ, ◌+◌, ◌<◌, ◌⊎◌, inl, inr, Bool, true, false, nat_eq, List, [], ◌∷◌, ◌++◌, length, slice_index, slice_set, get_or-set_other, get_or-set_same, length-set, refl, sym, ap, ◌∙◌, subst, arith, Option, Some, None}
use Rattle.std.specs.Prelude.{All, if◌then◌else◌}
use Rattle.std.proofs.lemmas.Bool.{cases_Bool, cond-true, and_from, eqb-true, eq-eqb}
use Rattle.std.proofs.lemmas.List.{append-nil, append_assoc}
use Rattle.std.proofs.lemmas.List.Elements.{All-nil, All-cons}
use Rattle.object_model.specs.Objects.{IsHeld}
use Rattle.trace_core.specs.Setups.{Setup, refs}
use Rattle.trace_core.specs.Machine.{Event, ByRoot, Claim}
use Rattle.trace_core.specs.Views.{View, is_pair, hits, steps_at_claim, asked_view, claimed_view, copied_view}
use Rattle.object_model.specs.Times.{one_if, times}
use Rattle.plain_tracer.specs.TokenRights.{IsGrey, copied_in, to_scan_in}
use Rattle.plain_tracer.specs.Tracers.{Tracks}
use Rattle.trace_core.specs.CallEvents.{block_taken, taken_in, copying}
use Rattle.plain_tracer.specs.declared.plain_trace.PlainTrace.{PlainTrace}
use Rattle.plain_tracer.specs.declared.tokens.Won.{Won}
use Rattle.plain_tracer.specs.declared.tokens.Grey.{Grey}
use Rattle.trace_core.proofs.CountedRights.{count-cons, times-cons, hits-cons, hits-here, hits-more}
use Rattle.collector.specs.declared.item.Item.TheVariants.{Register}
use Rattle.collector.specs.Items.{is_register, registers, objects}
use Rattle.collector.specs.Serving.{HasRights, ServesItems, IsTargetOf}

pub none-if : (b : Bool) (n : ℕ) → n ≡ 0 → (if b then n else 0) ≡ 0
none-if true n none = none
none-if false n none = refl

-- what a root changes of the view: its object at x has its target u, and these tokens were won
pub record AsksFor (p : Setup) (v w : View) (x u : ℕ) (pushed : List Grey) : Type 0 where
  pub won : w.won ≡ v.won
  pub grey : (y k : ℕ) → hits y k w.grey ≡ hits y k (to_scan_in pushed) + hits y k v.grey
  pub copied : (y : ℕ) → times y w.copied ≡ times y (copied_in pushed) + times y v.copied
  pub unset : w.unset ≡ v.unset
  pub set : w.set ≡ v.set
  pub asked : w.asked ≡ x ∷ v.asked
  pub known : (y t : ℕ) → 0 < hits y t v.known → 0 < hits y t w.known
  pub target : 0 < hits x u w.known
  pub sparse : w.sparse ≡ v.sparse
  pub tokens : All (IsGrey p w) pushed

-- the list has u at this place, and is else as it was
pub record Replaces (roots : List ℕ) (place u : ℕ) (roots' : List ℕ) : Type 0 where
  pub as_many : length roots' ≡ length roots
  pub here : slice_index roots' place ≡ u
  pub others : (i : ℕ) → i ≢ place → slice_index roots' i ≡ slice_index roots i

pub set-replaces : (roots : List ℕ) (place u : ℕ) → place < length roots → Replaces roots place u (slice_set roots place u)
set-replaces roots place u within = record {
  as_many = length-set roots place u;
  here = get_or-set_same roots place u 0 within;
  others = λ i other. get_or-set_other roots place i u 0 other;
}

pub same-replaces : (roots : List ℕ) (place u : ℕ) → u ≡ slice_index roots place → Replaces roots place u roots
same-replaces roots place u is = record { as_many = refl; here = sym is; others = λ i other. refl }

register-one : (place i : ℕ) → registers i (Register place ∷ []) ≡ one_if (nat_eq place i)
register-one place i = let d : registers i (Register place ∷ []) ≡ one_if (nat_eq place i) + 0 = count-cons (is_register i) (Register place) [] in omega arith

pub register-here : (place : ℕ) → 0 < registers place (Register place ∷ [])
register-here place = let one : one_if (nat_eq place place) ≡ 1 = ap one_if (eq-eqb place place refl) in
    let d : registers place (Register place ∷ []) ≡ one_if (nat_eq place place) = register-one place place in omega arith

register-only : (place i : ℕ) → 0 < registers i (Register place ∷ []) → place ≡ i
register-only place i some = elim (cases_Bool (nat_eq place i)) as (λ _. place ≡ i) [
  | inl is ↦ eqb-true place i is
  | inr other ↦ absurd (let zero : one_if (nat_eq place i) ≡ 0 = ap one_if other in
      let d : registers i (Register place ∷ []) ≡ one_if (nat_eq place i) = register-one place i in omega arith)
]

register-other : (place i : ℕ) → registers i (Register place ∷ []) ≡ 0 → i ≢ place
register-other place i none same = absurd (let some : 0 < registers place (Register place ∷ []) = register-here place in
    let zero : registers place (Register place ∷ []) ≡ 0 = subst (λ j. registers j (Register place ∷ []) ≡ 0) same none in omega arith)

module _ (p : Setup) (es : List Event) (v : View) (t : PlainTrace) (roots : List ℕ) (place : ℕ) (rights : HasRights p v roots (Register place ∷ [])) where
  pub place-inside : place < length roots
  place-inside = rights.places place (register-here place)

  pub root-held : (x : ℕ) → x ≡ slice_index roots place → x ≢ 0 → IsHeld p.before x
  root-held x is some = elim (rights.refer place (register-here place)) as (λ _. IsHeld p.before x) [
    | inl nil ↦ absurd (some (is ∙ nil))
    | inr held ↦ subst (IsHeld p.before) (sym is) held
  ]

  -- nothing is done for nil
  pub serves-nil : slice_index roots place ≡ 0 → Tracks p es t v → ServesItems p es v t roots (Register place ∷ []) t roots []
  serves-nil nil tracks = record {
    events = [];
    view = v;
    tracks = subst (λ ds. Tracks p ds t v) (sym (append-nil es)) tracks;
    run = refl;
    none_won = rights.none_won;
    sparse = refl;
    known = λ y u some. some;
    copied = λ y. omega arith;
    tokens = All-nil (IsGrey p v);
    grey = λ y k. (let n : ℕ = objects y (Register place ∷ []) in
        let a : (if nat_eq k 0 then objects y (Register place ∷ []) else 0) ≡ 0 = none-if (nat_eq k 0) n refl in
        let b : (if nat_eq k (refs p y) then objects y (Register place ∷ []) else 0) ≡ 0 = none-if (nat_eq k (refs p y)) n refl in omega arith);
    lines = λ on y some. absurd (omega (arith, some));
    unset = λ g. omega arith;
    set = λ g. omega arith;
    as_many = refl;
    served = λ i asked. subst (λ j. IsTargetOf v (slice_index roots j) (slice_index roots j)) (register-only place i asked) (inl (nil, nil));
    others = λ i none. refl;
    asks = λ i asked some. absurd (let zero : slice_index roots i ≡ 0 = subst (λ j. slice_index roots j ≡ 0) (register-only place i asked) nil in omega arith);
    asked = λ y some. some;
    by_roots = λ y some. inl some;
  }

  -- an object has its target, or gets it
  pub serves-root : (ds : List Event) (w : View) (x u : ℕ) (pushed : List Grey) (t' : PlainTrace) (roots' : List ℕ) → x ≡ slice_index roots place → x ≢ 0
      → Tracks p (es ++ ds) t' w → t'.run ≡ t.run → AsksFor p v w x u pushed → Replaces roots place u roots'
      → ServesItems p es v t roots (Register place ∷ []) t' roots' pushed
  serves-root ds w x u pushed t' roots' is some tracks run asks replaces = record {
    events = ds;
    view = w;
    tracks = tracks;
    run = run;
    none_won = asks.won ∙ rights.none_won;
    sparse = asks.sparse;
    known = asks.known;
    copied = asks.copied;
    tokens = asks.tokens;
    grey = λ y k. (let n : ℕ = objects y (Register place ∷ []) in
        let a : (if nat_eq k 0 then objects y (Register place ∷ []) else 0) ≡ 0 = none-if (nat_eq k 0) n refl in
        let b : (if nat_eq k (refs p y) then objects y (Register place ∷ []) else 0) ≡ 0 = none-if (nat_eq k (refs p y)) n refl in
        let d : hits y k w.grey ≡ hits y k (to_scan_in pushed) + hits y k v.grey = asks.grey y k in omega arith);
    lines = λ on y some. absurd (omega (arith, some));
    unset = λ g. (let d : times g w.unset ≡ times g v.unset = ap (times g) asks.unset in omega arith);
    set = λ g. (let d : times g w.set ≡ times g v.set = ap (times g) asks.set in omega arith);
    as_many = replaces.as_many;
    served = λ i asked. subst (λ j. IsTargetOf w (slice_index roots j) (slice_index roots' j)) (register-only place i asked)
        (inr (
          subst (λ y. 0 < y) is (omega (arith, some)),
          subst (λ y. 0 < hits y (slice_index roots' place) w.known) is
              (subst (λ z. 0 < hits x z w.known) (sym replaces.here) asks.target),
        ));
    others = λ i none. replaces.others i (register-other place i none);
    asks = λ i asked there. subst (λ j. 0 < times (slice_index roots j) w.asked) (register-only place i asked)
        (subst (λ y. 0 < times y w.asked) is (subst (λ l. 0 < times x l) (sym asks.asked)
        (let d = times-cons x v.asked x in let one : one_if (nat_eq x x) ≡ 1 = ap one_if (eq-eqb x x refl) in omega arith)));
    asked = λ y there. subst (λ l. 0 < times y l) (sym asks.asked) (let d = times-cons x v.asked y in omega arith);
    by_roots = λ y there. elim (cases_Bool (nat_eq y x)) as (λ _. (0 < times y v.asked) ⊎ ((i : ℕ) × (0 < registers i (Register place ∷ [])) × (slice_index roots i ≡ y))) [
      | inl same ↦ inr (place, register-here place, sym is ∙ sym (eqb-true y x same))
      | inr other ↦ inl (let d : times y (x ∷ v.asked) ≡ one_if (nat_eq y x) + times y v.asked = times-cons x v.asked y in
          let zero : one_if (nat_eq y x) ≡ 0 = ap one_if other in
          let all : times y w.asked ≡ times y (x ∷ v.asked) = ap (times y) asks.asked in omega arith)
    ];
  }

pub asks-known : (p : Setup) (v : View) (x u : ℕ) → AsksFor p v (asked_view x u v) x u []
asks-known p v x u = record {
  won = refl;
  grey = λ y k. omega arith;
  copied = λ y. omega arith;
  unset = refl;
  set = refl;
  asked = refl;
  known = λ y t some. hits-more x u v.known y t some;
  target = hits-here x u v.known;
  sparse = refl;
  tokens = All-nil (IsGrey p (asked_view x u v));
}

-- the view after an object is claimed and copied
module _ (p : Setup) (x t : ℕ) (v : View) where
  abbrev pub root_view : View
  root_view = copied_view p x t (claimed_view p x t ByRoot v)

  asks-won : (grey : Grey) → grey.object ≡ x → IsGrey p root_view grey → AsksFor p v root_view x t (grey ∷ [])
  asks-won grey same token = let steps : ℕ = steps_at_claim p x t in record {
    won = cond-true (is_pair x steps (x, steps)) v.won _ (and_from (nat_eq x x) (nat_eq steps steps) (eq-eqb x x refl) (eq-eqb steps steps refl));
    grey = λ y k. subst (λ z. hits y k ((x, 0) ∷ v.grey) ≡ hits y k ((z, 0) ∷ []) + hits y k v.grey) (sym same)
        (let all = hits-cons x 0 v.grey y k in let one = hits-cons x 0 [] y k in omega arith);
    copied = λ y. subst (λ z. times y (x ∷ v.copied) ≡ times y (z ∷ []) + times y v.copied) (sym same)
        (let all = times-cons x v.copied y in let one = times-cons x [] y in omega arith);
    unset = refl;
    set = refl;
    asked = refl;
    known = λ y u some. hits-more x t v.known y u some;
    target = hits-here x t v.known;
    sparse = refl;
    tokens = All-cons (IsGrey p root_view) grey [] token (All-nil (IsGrey p root_view));
  }

-- a block that is taken first changes nothing of this
asks-taken : (p : Setup) (x t : ℕ) (v : View) (taken : Option ℕ) (grey : Grey) → grey.object ≡ x → IsGrey p (root_view p x t (taken_in taken v)) grey
    → AsksFor p v (root_view p x t (taken_in taken v)) x t (grey ∷ [])
asks-taken p x t v None grey same token = asks-won p x t v grey same token
asks-taken p x t v (Some b) grey same token = let d = asks-won p x t (taken_in (Some b) v) grey same token in record {
  won = d.won;
  grey = d.grey;
  copied = d.copied;
  unset = d.unset;
  set = d.set;
  asked = d.asked;
  known = d.known;
  target = d.target;
  sparse = d.sparse;
  tokens = d.tokens;
}

-- the object is claimed and copied, and its token is pushed
pub serves-won : (p : Setup) (es : List Event) (v : View) (t : PlainTrace) (roots : List ℕ) (place : ℕ) → HasRights p v roots (Register place ∷ [])
    → (t' : PlainTrace) (x : ℕ) (won : Won) (taken : Option ℕ) (grey : Grey) (roots' : List ℕ) → x ≡ slice_index roots place → x ≢ 0 → won.object ≡ x
    → Tracks p ((es ++ (block_taken taken ++ Claim x won.target ByRoot ∷ [])) ++ copying p won.object won.target) t'
    (copied_view p won.object won.target (claimed_view p x won.target ByRoot (taken_in taken v)))
    → IsGrey p (copied_view p won.object won.target (claimed_view p x won.target ByRoot (taken_in taken v))) grey
    → grey.object ≡ won.object → t'.run ≡ t.run → Replaces roots place won.target roots'
    → ServesItems p es v t roots (Register place ∷ []) t' roots' (grey ∷ [])
serves-won p es v t roots place rights t' x won taken grey roots' is some object tracks token same run replaces =
    let ds : List Event = block_taken taken ++ Claim x won.target ByRoot ∷ [] in
    let w : View = root_view p x won.target (taken_in taken v) in
    let now : Tracks p (es ++ ((block_taken taken ++ Claim x won.target ByRoot ∷ []) ++ copying p x won.target)) t' (root_view p x won.target (taken_in taken v)) =
    subst (λ fs. Tracks p fs t' (root_view p x won.target (taken_in taken v))) (append_assoc es ds (copying p x won.target))
    (subst (λ y. Tracks p ((es ++ (block_taken taken ++ Claim x won.target ByRoot ∷ [])) ++ copying p y won.target) t'
    (copied_view p y won.target (claimed_view p x won.target ByRoot (taken_in taken v)))) object tracks) in
    let grey-is : IsGrey p (root_view p x won.target (taken_in taken v)) grey =
    subst (λ y. IsGrey p (copied_view p y won.target (claimed_view p x won.target ByRoot (taken_in taken v))) grey) object token in
    serves-root p es v t roots place rights (ds ++ copying p x won.target) w x won.target (grey ∷ []) t' roots' is some now run
    (asks-taken p x won.target v taken grey (same ∙ object) grey-is) replaces
