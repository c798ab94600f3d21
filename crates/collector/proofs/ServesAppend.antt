-- Items that were served in two parts: what is so of both parts is so of all items.
use Rattle.std.proofs.Common.{◌≡◌, ℕ, ◌+◌, ◌<◌, ◌≤◌, ◌⊎◌, inl, inr, Bool, true, false, IsTrue, nat_eq, List, [], ◌∷◌, ◌++◌, slice_index, refl, sym, ap, ◌∙◌, subst, arith}
use Rattle.std.specs.Prelude.{All, Contains, if◌then◌else◌}
use Rattle.std.proofs.lemmas.Bool.{cases_eq, cases_lt}
use Rattle.std.proofs.lemmas.List.{append_assoc, append-nil, map-append}
use Rattle.std.proofs.lemmas.List.Elements.{All-nil, All-cons, All-append, All-weaker, All-contains, All-contains_itself}
use Rattle.object_model.specs.Objects.{IsHeld}
use Rattle.trace_core.specs.Setups.{Setup, refs}
use Rattle.trace_core.specs.Machine.{Event}
use Rattle.trace_core.specs.Views.{View, is_pair, hits}
use Rattle.object_model.specs.Times.{times}
use Rattle.plain_tracer.specs.TokenRights.{IsGrey, copied_in, to_scan_in}
use Rattle.plain_tracer.specs.Tracers.{Tracks}
use Rattle.trace_core.specs.declared.run.TraceRun.{TraceRun}
use Rattle.plain_tracer.specs.declared.plain_trace.PlainTrace.{PlainTrace}
use Rattle.plain_tracer.specs.declared.tokens.Grey.{Grey}
use Rattle.trace_core.proofs.CountedRights.{count-append, hits-here, hits-more}
use Rattle.collector.specs.declared.item.Item.{Item}
use Rattle.collector.specs.Items.{registers, globals, objects, tokens_of}
use Rattle.collector.specs.Serving.{HasRights, IsTargetOf, HasItsLines, ServesItems}
use Rattle.collector.proofs.ItsLines.{lines-grow}
use Rattle.collector.proofs.ItemCounts.{all-left, all-right, registers-append, globals-append, objects-append, tokens-append, tokens-there}

-- The items are those of the first part and those of the second, in any order.
pub record Halves (all first second : List Item) : Type 0 where
  pub objects : (x : ℕ) → objects x all ≡ objects x first + objects x second
  pub globals : (g : ℕ) → globals g all ≡ globals g first + globals g second
  pub registers : (i : ℕ) → registers i all ≡ registers i first + registers i second
  pub tokens : All (Contains (tokens_of all)) (tokens_of second)

-- each token of a list is counted
in-scan : (gs : List Grey) → All (λ g. 0 < hits g.object 0 (to_scan_in gs)) gs
in-scan [] = All-nil (λ g. 0 < hits g.object 0 [])
in-scan (g ∷ gs) = All-cons (λ h. 0 < hits h.object 0 (to_scan_in (g ∷ gs))) g gs
    (hits-here g.object 0 (to_scan_in gs))
    (All-weaker (λ h. 0 < hits h.object 0 (to_scan_in gs)) (λ h. 0 < hits h.object 0 (to_scan_in (g ∷ gs)))
    (λ h some. hits-more g.object 0 (to_scan_in gs) h.object 0 some) gs (in-scan gs))

if-both : (b : Bool) (m n : ℕ) → (if b then m + n else 0) ≡ (if b then m else 0) + (if b then n else 0)
if-both true m n = refl
if-both false m n = refl

if-none : (b : Bool) (n : ℕ) → n ≡ 0 → (if b then n else 0) ≡ 0
if-none true n none = none
if-none false n none = refl

-- of items that have their rights, the second part has its own
module _ {p : Setup} {v : View} {roots : List ℕ} {all first second : List Item} (halves : Halves all first second)
    (rights : HasRights p v roots all) where
  tokens-part : All (IsGrey p v) (tokens_of second)
  tokens-part i d l = All-contains (IsGrey p v) (tokens_of all) _ rights.tokens (halves.tokens i d l)

  pub rights-part : HasRights p v roots second
  rights-part = record {
    none_won = rights.none_won;
    tokens = tokens-part;
    objects_once = λ x. (let sum = halves.objects x in let room = rights.objects_once x in omega arith);
    globals_once = λ g. (let sum = halves.globals g in let room = rights.globals_once g in omega arith);
    roots_once = λ i. (let sum = halves.registers i in let room = rights.roots_once i in omega arith);
    places = λ i some. rights.places i (let sum = halves.registers i in omega arith);
    refer = λ i some. rights.refer i (let sum = halves.registers i in omega arith);
  }

  -- a root is in one part alone
  one-part : (i : ℕ) → 0 < registers i second → registers i first ≡ 0
  one-part i some = let sum = halves.registers i in let room = rights.roots_once i in omega arith

  -- the first part was served
  module _ {es : List Event} {t t1 : PlainTrace} {roots1 : List ℕ} {won : List Grey}
      (served : ServesItems p es v t roots first t1 roots1 won) where
    root-stays : (i : ℕ) → 0 < registers i second → slice_index roots1 i ≡ slice_index roots i
    root-stays i some = served.others i (one-part i some)

    -- the right to scan each object of the second part, and of each that was copied, is left
    right-left : (x : ℕ) → objects x second + hits x 0 (to_scan_in won) ≤ hits x 0 served.view.grey
    right-left x =
        let sum = halves.objects x in
        let room = rights.objects_once x in
        let moved : hits x 0 served.view.grey + objects x first
        ≡ hits x 0 (to_scan_in won) + hits x 0 v.grey + (if nat_eq 0 (refs p x) then objects x first else 0) =
        served.grey x 0 in
        omega arith

    token-left : (g : Grey) → 0 < objects g.object second → IsGrey p v g → IsGrey p served.view g
    token-left g some token = record {
      right = (let left = right-left g.object in omega arith);
      target = served.known g.object g.target token.target;
      size = token.size;
      refs = token.refs;
    }

    -- what was served takes nothing from the other items
    pub rights-after : HasRights p served.view roots1 second
    rights-after = record {
      none_won = served.none_won;
      tokens = λ i d l. token-left _ (tokens-there second i d l) (tokens-part i d l);
      objects_once = λ x. (let left = right-left x in omega arith);
      globals_once = λ g.
          (let sum = halves.globals g in
          let room = rights.globals_once g in
          let less = served.unset g in omega arith);
      roots_once = λ i. (let sum = halves.registers i in let room = rights.roots_once i in omega arith);
      places = λ i some. subst (λ n. i < n) (sym served.as_many)
          (rights.places i (let sum = halves.registers i in omega arith));
      refer = λ i some. subst (λ r. (r ≡ 0) ⊎ IsHeld p.before r) (sym (root-stays i some))
          (rights.refer i (let sum = halves.registers i in omega arith));
    }

    -- the second part was served next
    module _ {t2 : PlainTrace} {roots2 : List ℕ} {won' : List Grey}
        (next : ServesItems p (es ++ served.events) served.view t1 roots1 second t2 roots2 won') where
      target-stays : (r u : ℕ) → IsTargetOf served.view r u → IsTargetOf next.view r u
      target-stays r u target = elim target as (λ _. IsTargetOf next.view r u) [
        | inl nil ↦ inl nil
        | inr known ↦ inr (known.0, next.known r u known.1)
      ]

      token-stays : (g : Grey) → 0 < hits g.object 0 (to_scan_in won) → IsGrey p served.view g → IsGrey p next.view g
      token-stays g some token = record {
        right =
            (let left = right-left g.object in
            let moved : hits g.object 0 next.view.grey + objects g.object second
            ≡ hits g.object 0 (to_scan_in won') + hits g.object 0 served.view.grey
            + (if nat_eq 0 (refs p g.object) then objects g.object second else 0) =
            next.grey g.object 0 in omega arith);
        target = next.known g.object g.target token.target;
        size = token.size;
        refs = token.refs;
      }

      objects-if : (x : ℕ) (b : Bool) → (if b then objects x all else 0)
          ≡ (if b then objects x first else 0) + (if b then objects x second else 0)
      objects-if x b = ap (λ n. if b then n else 0) (halves.objects x)
          ∙ if-both b (objects x first) (objects x second)

      grey-both : (x k : ℕ) → hits x k next.view.grey + (if nat_eq k 0 then objects x all else 0)
          ≡ hits x k (to_scan_in (won ++ won')) + hits x k v.grey + (if nat_eq k (refs p x) then objects x all else 0)
      grey-both x k =
          let a : hits x k served.view.grey + (if nat_eq k 0 then objects x first else 0)
          ≡ hits x k (to_scan_in won) + hits x k v.grey + (if nat_eq k (refs p x) then objects x first else 0) =
          served.grey x k in
          let b : hits x k next.view.grey + (if nat_eq k 0 then objects x second else 0)
          ≡ hits x k (to_scan_in won') + hits x k served.view.grey
          + (if nat_eq k (refs p x) then objects x second else 0) = next.grey x k in
          let c = objects-if x (nat_eq k 0) in
          let d = objects-if x (nat_eq k (refs p x)) in
          let e : hits x k (to_scan_in (won ++ won')) ≡ hits x k (to_scan_in won) + hits x k (to_scan_in won') =
          ap (hits x k) (map-append (λ (g : Grey). (g.object, 0)) won won')
          ∙ count-append (is_pair x k) (to_scan_in won) (to_scan_in won') in
          omega arith

      -- the root was in the first part, or in the second
      module _ (i : ℕ) (some : 0 < registers i all) where
        which : (0 < registers i first) ⊎ (0 < registers i second)
        which = elim (cases_eq (registers i first) 0) as (λ _. (0 < registers i first) ⊎ (0 < registers i second)) [
          | inl none ↦ inr (let sum = halves.registers i in omega arith)
          | inr one ↦ inl (let there : registers i first ≡ 0 → ⊥ = one in omega arith)
        ]

        served-both : IsTargetOf next.view (slice_index roots i) (slice_index roots2 i)
        served-both = elim which as (λ _. IsTargetOf next.view (slice_index roots i) (slice_index roots2 i)) [
          | inl before ↦ subst (λ u. IsTargetOf next.view (slice_index roots i) u)
              (sym (next.others i (let sum = halves.registers i in let room = rights.roots_once i in omega arith)))
              (target-stays (slice_index roots i) (slice_index roots1 i) (served.served i before))
          | inr after ↦ subst (λ r. IsTargetOf next.view r (slice_index roots2 i)) (root-stays i after)
              (next.served i after)
        ]

        asks-both : 0 < slice_index roots i → 0 < times (slice_index roots i) next.view.asked
        asks-both refers = elim which as (λ _. 0 < times (slice_index roots i) next.view.asked) [
          | inl before ↦ next.asked (slice_index roots i) (served.asks i before refers)
          | inr after ↦ subst (λ r. 0 < times r next.view.asked) (root-stays i after)
              (next.asks i after (subst (λ r. 0 < r) (sym (root-stays i after)) refers))
        ]

      others-both : (i : ℕ) → registers i all ≡ 0 → slice_index roots2 i ≡ slice_index roots i
      others-both i none =
          next.others i (let sum = halves.registers i in omega arith)
          ∙ served.others i (let sum = halves.registers i in omega arith)

      abbrev IsAskedFor : ℕ → Type 0
      IsAskedFor x = (0 < times x v.asked) ⊎ ((i : ℕ) × (0 < registers i all) × (slice_index roots i ≡ x))

      by-roots-both : (x : ℕ) → 0 < times x next.view.asked → IsAskedFor x
      by-roots-both x asked = elim (next.by_roots x asked) as (λ _. IsAskedFor x) [
        | inl before ↦ elim (served.by_roots x before) as (λ _. IsAskedFor x) [
          | inl was ↦ inl was
          | inr root ↦ inr (root.0, (let sum = halves.registers root.0 in let some = root.1 in omega arith), root.2)
        ]
        | inr root ↦ inr (
          root.0,
          (let sum = halves.registers root.0 in let some = root.1 in omega arith),
          sym (root-stays root.0 root.1) ∙ root.2,
        )
      ]

      -- the object was in the first part, or in the second
      lines-both : IsTrue t.run.lines → (x : ℕ) → 0 < objects x all → HasItsLines p ((es ++ served.events) ++ next.events) x
      lines-both on x some = elim (cases_lt 0 (objects x first)) as (λ _. HasItsLines p ((es ++ served.events) ++ next.events) x) [
        | inl before ↦ lines-grow p (es ++ served.events) next.events next.tracks.trace x (served.lines on x before)
        | inr none ↦ next.lines (subst (λ (r : TraceRun). IsTrue r.lines) (sym served.run) on) x (let sum = halves.objects x in omega (arith, sum, some, none))
      ]

      pub serves-both : ServesItems p es v t roots all t2 roots2 (won ++ won')
      serves-both = record {
        events = served.events ++ next.events;
        view = next.view;
        tracks = subst (λ ds. Tracks p ds t2 next.view) (append_assoc es served.events next.events) next.tracks;
        run = next.run ∙ served.run;
        none_won = next.none_won;
        sparse = next.sparse ∙ served.sparse;
        known = λ x u some. next.known x u (served.known x u some);
        copied = λ x.
            (let a : times x served.view.copied ≡ times x (copied_in won) + times x v.copied = served.copied x in
            let b : times x next.view.copied ≡ times x (copied_in won') + times x served.view.copied =
            next.copied x in
            let c : times x (copied_in (won ++ won')) ≡ times x (copied_in won) + times x (copied_in won') =
            ap (times x) (map-append (λ (g : Grey). g.object) won won')
            ∙ count-append (nat_eq x) (copied_in won) (copied_in won') in
            omega arith);
        tokens = All-append (IsGrey p next.view) won won'
            (λ i d l. token-stays _ (in-scan won i d l) (served.tokens i d l)) next.tokens;
        grey = grey-both;
        lines = λ on x some. subst (λ ds. HasItsLines p ds x) (append_assoc es served.events next.events) (lines-both on x some);
        unset = λ g. (let a = served.unset g in let b = next.unset g in let sum = halves.globals g in omega arith);
        set = λ g. (let a = served.set g in let b = next.set g in let sum = halves.globals g in omega arith);
        as_many = next.as_many ∙ served.as_many;
        served = served-both;
        others = others-both;
        asks = asks-both;
        asked = λ x some. next.asked x (served.asked x some);
        by_roots = by-roots-both;
      }

-- no items were served
pub serves-none : {p : Setup} {es : List Event} {v : View} {t : PlainTrace} (roots : List ℕ) → Tracks p es t v
    → v.won ≡ []
    → ServesItems p es v t roots [] t roots []
serves-none {p = p} {es = es} {v = v} {t = t} roots tracks idle = record {
  events = [];
  view = v;
  tracks = subst (λ ds. Tracks p ds t v) (sym (append-nil es)) tracks;
  run = refl;
  none_won = idle;
  sparse = refl;
  known = λ x u some. some;
  copied = λ x. omega arith;
  tokens = All-nil (IsGrey p v);
  grey = λ x k. (let a = if-none (nat_eq k 0) (objects x []) refl in
      let b = if-none (nat_eq k (refs p x)) (objects x []) refl in
      omega arith);
  lines = λ on x some. absurd (omega (arith, some));
  unset = λ g. omega arith;
  set = λ g. omega arith;
  as_many = refl;
  served = λ i some. absurd (omega (arith, some));
  others = λ i none. refl;
  asks = λ i some. absurd (omega (arith, some));
  asked = λ x some. some;
  by_roots = λ x some. inl some;
}

-- the tokens of items that were cut are those of both parts
in-both : (first second : List Item) → All (Contains (tokens_of (first ++ second)))
    (tokens_of first ++ tokens_of second)
in-both first second = subst (All (Contains (tokens_of (first ++ second)))) (tokens-append first second)
    (All-contains_itself (tokens_of (first ++ second)))

pub halves-cut : (left done : List Item) → Halves (left ++ done) done left
halves-cut left done = record {
  objects = λ x. (let sum = objects-append x left done in omega arith);
  globals = λ g. (let sum = globals-append g left done in omega arith);
  registers = λ i. (let sum = registers-append i left done in omega arith);
  tokens = all-left (Contains (tokens_of (left ++ done))) (tokens_of left) (tokens_of done) (in-both left done);
}

pub halves-ends : (first second : List Item) → Halves (first ++ second) first second
halves-ends first second = record {
  objects = λ x. objects-append x first second;
  globals = λ g. globals-append g first second;
  registers = λ i. registers-append i first second;
  tokens = all-right (Contains (tokens_of (first ++ second))) (tokens_of first) (tokens_of second)
      (in-both first second);
}
