-- A global is served when it is set, and an object when its fields are scanned.
use Rattle.std.proofs.Common.{◌≡◌, ℕ, ◌+◌, ◌<◌, ◌≤◌, inl, inr, Bool, true, false, ◌&&◌, IsTrue, nat_eq, List, [], ◌∷◌, ◌++◌, refl, sym, ap, ◌∙◌, subst, arith}
use Rattle.std.specs.Prelude.{if◌then◌else◌}
use Rattle.std.proofs.lemmas.Bool.{cases_Bool, cases_eq, eqb-true, eq-eqb, ne_eqb}
use Rattle.std.proofs.lemmas.List.Elements.{All-head, All-weaker}
use Rattle.heap_layout.specs.Zones.{LineWords, bit_of}
use Rattle.object_model.specs.Objects.{HeapState, state_of}
use Rattle.object_model.specs.Lines.{TouchesLine}
use Rattle.trace_core.specs.Setups.{Setup, blocks, refs}
use Rattle.trace_core.specs.Machine.{Event}
use Rattle.trace_core.specs.Traces.{heap_after}
use Rattle.trace_core.specs.Views.{View, without, is_pair, hits, set_view}
use Rattle.object_model.specs.Times.{one_if, times}
use Rattle.plain_tracer.specs.TokenRights.{IsGrey, to_scan_in}
use Rattle.plain_tracer.specs.Tracers.{SetsGlobal, ScansFields}
use Rattle.plain_tracer.specs.declared.plain_trace.PlainTrace.{PlainTrace}
use Rattle.plain_tracer.specs.declared.tokens.Grey.{Grey}
use Rattle.plain_tracer.specs.declared.tokens.GlobalRoot.{GlobalRoot}
use Rattle.trace_core.proofs.CountedRights.{count-cons, times-cons, times-without}
use Rattle.collector.specs.declared.item.Item.TheVariants.{Global, Object}
use Rattle.collector.specs.Items.{is_global, is_object, globals, objects}
use Rattle.collector.specs.Serving.{HasRights, HasItsLines, ServesItems}
use Rattle.collector.proofs.ServedRoots.{none-if}

eq-flip : (a b : ℕ) → nat_eq a b ≡ nat_eq b a
eq-flip a b = elim (cases_eq a b) as (λ _. nat_eq a b ≡ nat_eq b a) [
  | inl e ↦ eq-eqb a b e ∙ sym (eq-eqb b a (sym e))
  | inr ne ↦ ne_eqb a b ne ∙ sym (ne_eqb b a (λ e. ne (sym e)))
]

global-one : (root : GlobalRoot) (g : ℕ) → globals g (Global root ∷ []) ≡ one_if (nat_eq root.global g)
global-one root g = let d : globals g (Global root ∷ []) ≡ one_if (nat_eq root.global g) + 0 = count-cons (is_global g) (Global root) [] in omega arith

object-one : (grey : Grey) (x : ℕ) → objects x (Object grey ∷ []) ≡ one_if (nat_eq grey.object x)
object-one grey x = let d : objects x (Object grey ∷ []) ≡ one_if (nat_eq grey.object x) + 0 = count-cons (is_object x) (Object grey) [] in omega arith

module _ (p : Setup) (es : List Event) (v : View) (t t' : PlainTrace) (roots : List ℕ) (out out' : List Grey) where
  -- the right to set the global
  pub global-right : (root : GlobalRoot) → HasRights p v roots (Global root ∷ []) → 0 < times root.global v.unset
  global-right root rights =
      let g : ℕ = root.global in
      let most : globals root.global (Global root ∷ []) ≤ times root.global v.unset = rights.globals_once g in
      let one : one_if (nat_eq root.global root.global) ≡ 1 = ap one_if (eq-eqb g g refl) in
      let d : globals root.global (Global root ∷ []) ≡ one_if (nat_eq root.global root.global) = global-one root g in omega arith

  pub serves-global : (root : GlobalRoot) → HasRights p v roots (Global root ∷ []) → SetsGlobal p es v t' root.global out out' → t'.run ≡ t.run
      → (pushed : List Grey) × (out' ≡ out ++ pushed) × ServesItems p es v t roots (Global root ∷ []) t' roots pushed
  serves-global root rights sets run =
      let g : ℕ = root.global in
      let w : View = sets.view in
      let right : 0 < times root.global sets.view.unset = subst (λ l. 0 < times root.global l) (sym sets.pushes.unset) (global-right root rights) in (
        sets.tokens.pushed,
        sets.tokens.out,
        record {
          events = sets.grows.events;
          view = set_view g w;
          tracks = sets.grows.tracks;
          run = run;
          none_won = sets.pushes.won ∙ rights.none_won;
          sparse = sets.pushes.sparse;
          known = sets.pushes.known;
          copied = sets.pushes.copied;
          tokens = All-weaker (IsGrey p w) (IsGrey p (set_view g w))
              (λ grey token. record { right = token.right; target = token.target; size = token.size; refs = token.refs }) sets.tokens.pushed sets.pushes.tokens;
          grey = λ y k. (let n : ℕ = objects y (Global root ∷ []) in
              let a : (if nat_eq k 0 then objects y (Global root ∷ []) else 0) ≡ 0 = none-if (nat_eq k 0) n refl in
              let b : (if nat_eq k (refs p y) then objects y (Global root ∷ []) else 0) ≡ 0 = none-if (nat_eq k (refs p y)) n refl in
              let d : hits y k sets.view.grey ≡ hits y k (to_scan_in sets.tokens.pushed) + hits y k v.grey = sets.pushes.grey y k in omega arith);
          lines = λ on y some. absurd (omega (arith, some));
          unset = λ h. (let was : times h sets.view.unset ≡ times h v.unset = ap (times h) sets.pushes.unset in
              let d : times h sets.view.unset ≡ times h (without (nat_eq root.global) sets.view.unset) + one_if (nat_eq h root.global) =
              times-without g w.unset right h in
              let flip : one_if (nat_eq root.global h) ≡ one_if (nat_eq h root.global) = ap one_if (eq-flip g h) in
              let one : globals h (Global root ∷ []) ≡ one_if (nat_eq root.global h) = global-one root h in omega arith);
          set = λ h. (let was : times h sets.view.set ≡ times h v.set = ap (times h) sets.pushes.set in
              let d : times h (root.global ∷ sets.view.set) ≡ one_if (nat_eq h root.global) + times h sets.view.set = times-cons g w.set h in
              let flip : one_if (nat_eq root.global h) ≡ one_if (nat_eq h root.global) = ap one_if (eq-flip g h) in
              let one : globals h (Global root ∷ []) ≡ one_if (nat_eq root.global h) = global-one root h in omega arith);
          as_many = refl;
          served = λ i asked. absurd (omega (arith, asked));
          others = λ i none. refl;
          asks = λ i asked there. absurd (omega (arith, asked));
          asked = λ x there. subst (λ l. 0 < times x l) (sym sets.pushes.asked) there;
          by_roots = λ x there. inl (subst (λ l. 0 < times x l) sets.pushes.asked there);
        },
      )

and-as-if : (b d : Bool) → one_if (b && d) ≡ (if d then one_if b else 0)
and-as-if true true = refl
and-as-if true false = refl
and-as-if false true = refl
and-as-if false false = refl

-- the right to scan field k of the object at x, as an equation of rights by object and field has it
pair-as-if : (x k y j : ℕ) → one_if (is_pair y j (x, k)) ≡ (if nat_eq j k then one_if (nat_eq x y) else 0)
pair-as-if x k y j = and-as-if (nat_eq x y) (nat_eq k j) ∙ ap (λ b. if b then one_if (nat_eq x y) else 0) (eq-flip k j)

same-refs : (p : Setup) (x y j : ℕ) → (if nat_eq j (refs p x) then one_if (nat_eq x y) else 0) ≡ (if nat_eq j (refs p y) then one_if (nat_eq x y) else 0)
same-refs p x y j = elim (cases_Bool (nat_eq x y)) as (λ _. (if nat_eq j (refs p x) then one_if (nat_eq x y) else 0) ≡ (if nat_eq j (refs p y) then one_if (nat_eq x y) else 0)) [
  | inl same ↦ ap (λ z. if nat_eq j (refs p z) then one_if (nat_eq x y) else 0) (eqb-true x y same)
  | inr other ↦ (let n : ℕ = one_if (nat_eq x y) in none-if (nat_eq j (refs p x)) n (ap one_if other) ∙ sym (none-if (nat_eq j (refs p y)) n (ap one_if other)))
]

-- the one object
only : (grey : Grey) (x : ℕ) → 0 < objects x (Object grey ∷ []) → grey.object ≡ x
only grey x some = elim (cases_Bool (nat_eq grey.object x)) as (λ _. grey.object ≡ x) [
  | inl is ↦ eqb-true grey.object x is
  | inr other ↦ absurd (let one : objects x (Object grey ∷ []) ≡ one_if (nat_eq grey.object x) = object-one grey x in
      let zero : one_if (nat_eq grey.object x) ≡ 0 = ap one_if other in omega (arith, some, one, zero))
]

module _ (p : Setup) (es : List Event) (v : View) (t t' : PlainTrace) (roots : List ℕ) (out out' : List Grey) (grey : Grey) (rights : HasRights p v roots (Object grey ∷ [])) where
  pub grey-token : IsGrey p v grey
  grey-token = All-head (IsGrey p v) grey [] rights.tokens

  pub serves-object : (lines : Bool) → ScansFields p es v t' lines grey grey.refs out out' → t'.run ≡ t.run
      → (IsTrue t.run.lines → (n : ℕ) → TouchesLine (blocks p) grey.target grey.size n → IsTrue (bit_of (blocks p) LineWords t'.row.words n))
      → (pushed : List Grey) × (out' ≡ out ++ pushed) × ServesItems p es v t roots (Object grey ∷ []) t' roots pushed
  serves-object lines scans run marked =
      let x : ℕ = grey.object in
      let w : View = scans.view in (
        scans.tokens.pushed,
        scans.tokens.out,
        record {
          events = scans.grows.events;
          view = w;
          tracks = scans.grows.tracks;
          run = run;
          none_won = scans.scanned.won ∙ rights.none_won;
          sparse = scans.scanned.sparse;
          known = scans.scanned.known;
          copied = scans.scanned.copied;
          tokens = scans.scanned.tokens;
          grey = λ y k. (let all : hits y k scans.view.grey + one_if (is_pair y k (grey.object, 0))
              ≡ hits y k (to_scan_in scans.tokens.pushed) + hits y k v.grey + one_if (is_pair y k (grey.object, grey.refs)) = scans.scanned.grey y k in
              let one : one_if (nat_eq grey.object y) ≡ objects y (Object grey ∷ []) = sym (object-one grey y) in
              let a : one_if (is_pair y k (grey.object, 0)) ≡ (if nat_eq k 0 then objects y (Object grey ∷ []) else 0) =
              pair-as-if x 0 y k ∙ ap (λ n. if nat_eq k 0 then n else 0) one in
              let b : one_if (is_pair y k (grey.object, grey.refs)) ≡ (if nat_eq k (refs p y) then objects y (Object grey ∷ []) else 0) =
              ap (λ r. one_if (is_pair y k (grey.object, r))) grey-token.refs ∙ pair-as-if x (refs p x) y k ∙ same-refs p x y k
              ∙ ap (λ n. if nat_eq k (refs p y) then n else 0) one in
              omega arith);
          lines = λ on y some. its-lines on y (only grey y some);
          unset = λ h. (let d : times h scans.view.unset ≡ times h v.unset = ap (times h) scans.scanned.unset in omega arith);
          set = λ h. (let d : times h scans.view.set ≡ times h v.set = ap (times h) scans.scanned.set in omega arith);
          as_many = refl;
          served = λ i asked. absurd (omega (arith, asked));
          others = λ i none. refl;
          asks = λ i asked there. absurd (omega (arith, asked));
          asked = λ y there. subst (λ l. 0 < times y l) (sym scans.scanned.asked) there;
          by_roots = λ y there. inl (subst (λ l. 0 < times y l) scans.scanned.asked there);
        },
      )
    where
      after : heap_after p (es ++ scans.grows.events) ≡ state_of t'.row
      after = sym scans.grows.tracks.row

      its-lines : IsTrue t.run.lines → (y : ℕ) → grey.object ≡ y → HasItsLines p (es ++ scans.grows.events) y
      its-lines on y is = subst (HasItsLines p (es ++ scans.grows.events)) is (record {
        target = grey.target;
        known = scans.grows.tracks.holds.known grey.object grey.target (scans.scanned.known grey.object grey.target grey-token.target);
        marked = λ n few touches. subst (λ (h : HeapState). IsTrue (bit_of (blocks p) LineWords h.words n)) (sym after)
            (marked on n (subst (λ k. TouchesLine (blocks p) grey.target k n) (sym grey-token.size) touches));
      })
