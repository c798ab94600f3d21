-- The items of the roots are what a trace that begins has to serve.
use Rattle.std.proofs.Common.{◌≡◌, ℕ, ◌+◌, ◌<◌, ◌≤◌, ◌⊎◌, inl, inr, Bool, not, nat_eq, List, [], ◌∷◌, ◌++◌, map, length, slice_index, All, IsTrue, refl, sym, ap, ap₂, ◌∙◌, subst, arith, zero-add}
use Rattle.std.specs.Prelude.{sum_by}
use Rattle.std.specs.List.{range_with_len}
use Rattle.std.proofs.lemmas.Bool.{cases_eq, cases_lt, lt-ltb, le-ltb}
use Rattle.std.proofs.lemmas.List.{get_or_past}
use Rattle.std.proofs.lemmas.List.Elements.{All-nil, All-cons}
use Rattle.std.proofs.lemmas.List.Sums.{sum_by-cons}
use Rattle.std.proofs.Math.Nat.{zero-mul}
use Rattle.heap_layout.specs.Zones.{row_words}
use Rattle.object_model.specs.Objects.{HeapState, IsHeld, size_at}
use Rattle.object_model.specs.Lawful.{IsLawfulButLines, AreRoots}
use Rattle.plain_tracer.specs.TokenRights.{IsGrey}
use Rattle.trace_core.specs.Views.{first_view, hits}
use Rattle.object_model.specs.Times.{one_if, times}
use Rattle.plain_tracer.specs.Tracers.{Tracks}
use Rattle.trace_core.specs.Runs.{setup_of}
use Rattle.trace_core.specs.declared.run.TraceRun.{TraceRun}
use Rattle.plain_tracer.specs.declared.tokens.GlobalRoot.{GlobalRoot}
use Rattle.plain_tracer.specs.declared.tokens.Grey.{Grey}
use Rattle.trace_core.specs.Setups.{was_logged}
use Rattle.trace_core.proofs.FirstView.{hits-first, times-range}
use Rattle.trace_core.proofs.CountedRights.{count-cons, times-cons}
use Rattle.trace_core.proofs.Begun.{HasList, held-begun}
use Rattle.collector.specs.declared.item.Item.{Item}
use Rattle.collector.specs.declared.item.Item.TheVariants.{Register, Global, Object}
use Rattle.collector.specs.declared.packet_tracer.PacketTracer.{PacketTracer}
use Rattle.racing_collector.specs.declared.tally.Tally.{Tally}
use Rattle.collector.specs.Items.{registers, globals, objects, tokens_of, is_register, is_global, is_object, IsObject}
use Rattle.collector.specs.Serving.{HasRights}
use Rattle.collector.specs.Awaited.{IsAwaited}
use Rattle.collector.specs.Tallies.{IsTally}
use Rattle.collector.proofs.ItemCounts.{registers-append, globals-append, objects-append, tokens-append, no-registers, no-globals, eq-either}

-- items of roots that are no globals
abbrev for_places : List ℕ → List Item
for_places is = map (λ i. Register i) is

abbrev for_globals : List GlobalRoot → List Item
for_globals roots = map (λ root. Global root) roots

abbrev for_objects : List Grey → List Item
for_objects logged = map (λ grey. Object grey) logged

abbrev pub starting_items : ℕ → List GlobalRoot → List Grey → List Item
starting_items n roots logged = (for_places (range_with_len 0 n) ++ for_globals roots) ++ for_objects logged

objects-alone : (logged : List Grey) → All IsObject (for_objects logged)
objects-alone [] = All-nil IsObject
objects-alone (grey ∷ logged) = All-cons IsObject (Object grey) (for_objects logged) tt (objects-alone logged)

objects-objects : (x : ℕ) (logged : List Grey) → objects x (for_objects logged) ≡ times x (map (λ (grey : Grey). grey.object) logged)
objects-objects x [] = refl
objects-objects x (grey ∷ logged) = count-cons (is_object x) (Object grey) (for_objects logged)
    ∙ ap₂ (λ (b : Bool) (n : ℕ). one_if b + n) (eq-either grey.object x) (objects-objects x logged)
    ∙ sym (times-cons grey.object (map (λ (g : Grey). g.object) logged) x)

tokens-objects : (logged : List Grey) → tokens_of (for_objects logged) ≡ logged
tokens-objects [] = refl
tokens-objects (grey ∷ logged) = ap (λ l. grey ∷ l) (tokens-objects logged)

places-registers : (i : ℕ) (is : List ℕ) → registers i (for_places is) ≡ times i is
places-registers i [] = refl
places-registers i (j ∷ is) = count-cons (is_register i) (Register j) (for_places is)
    ∙ ap₂ (λ (b : Bool) (n : ℕ). one_if b + n) (eq-either j i) (places-registers i is) ∙ sym (times-cons j is i)

globals-registers : (i : ℕ) (roots : List GlobalRoot) → registers i (for_globals roots) ≡ 0
globals-registers i [] = refl
globals-registers i (root ∷ roots) = count-cons (is_register i) (Global root) (for_globals roots) ∙ zero-add (registers i (for_globals roots)) ∙ globals-registers i roots

places-globals : (g : ℕ) (is : List ℕ) → globals g (for_places is) ≡ 0
places-globals g [] = refl
places-globals g (j ∷ is) = count-cons (is_global g) (Register j) (for_places is) ∙ zero-add (globals g (for_places is)) ∙ places-globals g is

globals-globals : (g : ℕ) (roots : List GlobalRoot) → globals g (for_globals roots) ≡ times g (map (λ (root : GlobalRoot). root.global) roots)
globals-globals g [] = refl
globals-globals g (root ∷ roots) = count-cons (is_global g) (Global root) (for_globals roots)
    ∙ ap₂ (λ (b : Bool) (n : ℕ). one_if b + n) (eq-either root.global g) (globals-globals g roots)
    ∙ sym (times-cons root.global (map (λ (r : GlobalRoot). r.global) roots) g)

places-objects : (x : ℕ) (is : List ℕ) → objects x (for_places is) ≡ 0
places-objects x [] = refl
places-objects x (j ∷ is) = count-cons (is_object x) (Register j) (for_places is) ∙ zero-add (objects x (for_places is)) ∙ places-objects x is

globals-objects : (x : ℕ) (roots : List GlobalRoot) → objects x (for_globals roots) ≡ 0
globals-objects x [] = refl
globals-objects x (root ∷ roots) = count-cons (is_object x) (Global root) (for_globals roots) ∙ zero-add (objects x (for_globals roots)) ∙ globals-objects x roots

globals-tokens : (roots : List GlobalRoot) → tokens_of (for_globals roots) ≡ []
globals-tokens [] = refl
globals-tokens (root ∷ roots) = globals-tokens roots

no-tokens : (is : List ℕ) (roots : List GlobalRoot) → tokens_of (for_places is ++ for_globals roots) ≡ []
no-tokens [] roots = globals-tokens roots
no-tokens (i ∷ is) roots = no-tokens is roots

module _ (n : ℕ) (tokens : List GlobalRoot) (every : map (λ (token : GlobalRoot). token.global) tokens ≡ range_with_len 0 16) (logged : List Grey) where
  abbrev roots_alone : List Item
  roots_alone = for_places (range_with_len 0 n) ++ for_globals tokens

  abbrev first_items : List Item
  first_items = roots_alone ++ for_objects logged

  pub first-objects : (x : ℕ) → objects x first_items ≡ times x (map (λ (grey : Grey). grey.object) logged)
  first-objects x =
      let sum : objects x first_items ≡ objects x roots_alone + objects x (for_objects logged) = objects-append x roots_alone (for_objects logged) in
      let both : objects x roots_alone ≡ objects x (for_places (range_with_len 0 n)) + objects x (for_globals tokens) = objects-append x (for_places (range_with_len 0 n)) (for_globals tokens) in
      let a = places-objects x (range_with_len 0 n) in let b = globals-objects x tokens in let d = objects-objects x logged in omega (arith, sum, both, a, b, d)

  pub first-globals : (g : ℕ) → globals g first_items ≡ times g (range_with_len 0 16)
  first-globals g =
      let sum : globals g first_items ≡ globals g roots_alone + globals g (for_objects logged) = globals-append g roots_alone (for_objects logged) in
      let both : globals g roots_alone ≡ globals g (for_places (range_with_len 0 n)) + globals g (for_globals tokens) = globals-append g (for_places (range_with_len 0 n)) (for_globals tokens) in
      let a = places-globals g (range_with_len 0 n) in let b = globals-globals g tokens in let d = no-globals (for_objects logged) (objects-alone logged) g in
      let all : times g (map (λ (token : GlobalRoot). token.global) tokens) ≡ times g (range_with_len 0 16) = ap (times g) every in omega (arith, sum, both, a, b, d, all)

  first-times : (i : ℕ) → registers i first_items ≡ times i (range_with_len 0 n)
  first-times i =
      let sum : registers i first_items ≡ registers i roots_alone + registers i (for_objects logged) = registers-append i roots_alone (for_objects logged) in
      let both : registers i roots_alone ≡ registers i (for_places (range_with_len 0 n)) + registers i (for_globals tokens) = registers-append i (for_places (range_with_len 0 n)) (for_globals tokens) in
      let a = places-registers i (range_with_len 0 n) in let b = globals-registers i tokens in let d = no-registers (for_objects logged) (objects-alone logged) i in omega (arith, sum, both, a, b, d)

  pub first-tokens : tokens_of first_items ≡ logged
  first-tokens = tokens-append roots_alone (for_objects logged) ∙ ap₂ (λ (a b : List Grey). a ++ b) (no-tokens (range_with_len 0 n) tokens) (tokens-objects logged)

  pub first-registers : (i : ℕ) → i < n → registers i first_items ≡ 1
  first-registers i below = first-times i ∙ times-range 0 n i (omega arith) ∙ ap one_if (lt-ltb i (0 + n) (omega (arith, below)))

  pub first-others : (i : ℕ) → n ≤ i → registers i first_items ≡ 0
  first-others i past = first-times i ∙ times-range 0 n i (omega arith) ∙ ap one_if (le-ltb i (0 + n) (omega (arith, past)))

  -- each root has an item
  below-length : (i : ℕ) → 0 < registers i first_items → i < n
  below-length i some = elim (cases_lt i n) as (λ _. i < n) [
    | inl below ↦ below
    | inr past ↦ absurd (omega (arith, some, first-others i past))
  ]

  at-most-one : (i : ℕ) → registers i first_items ≤ 1
  at-most-one i = elim (cases_lt i n) as (λ _. registers i first_items ≤ 1) [
    | inl below ↦ omega (arith, first-registers i below)
    | inr past ↦ omega (arith, first-others i past)
  ]

module _ (s : HeapState) (run : TraceRun) (roots : List ℕ) (lawful : IsLawfulButLines s) (lists : HasList s run) (held : AreRoots s roots) (tokens : List GlobalRoot)
    (every : map (λ (token : GlobalRoot). token.global) tokens ≡ range_with_len 0 16) (logged : List Grey) (all : map (λ (grey : Grey). grey.object) logged ≡ run.logged.items)
    (rights : All (IsGrey (setup_of s run 1) (first_view run)) logged) where
  abbrev n : ℕ
  n = length roots

  abbrev items : List Item
  items = starting_items n tokens logged

  pub first-rights : HasRights (setup_of s run 1) (first_view run) roots items
  first-rights = record {
    none_won = refl;
    tokens = subst (λ l. All (IsGrey (setup_of s run 1) (first_view run)) l) (sym (first-tokens n tokens every logged)) rights;
    objects_once = λ x. (let is : objects x items ≡ times x (map (λ (grey : Grey). grey.object) logged) = first-objects n tokens every logged x in
        let same : times x (map (λ (grey : Grey). grey.object) logged) ≡ times x run.logged.items = ap (times x) all in
        let grey : hits x 0 (first_view run).grey ≡ times x run.logged.items = hits-first x run.logged.items in omega (arith, is, same, grey));
    globals_once = λ g. (let same : globals g items ≡ times g (range_with_len 0 16) = first-globals n tokens every logged g in omega (arith, same));
    roots_once = at-most-one n tokens every logged;
    places = below-length n tokens every logged;
    refer = λ i some. elim (cases_eq (slice_index roots i) 0) as (λ _. (slice_index roots i ≡ 0) ⊎ IsHeld (setup_of s run 1).before (slice_index roots i)) [
      | inl nil ↦ inl nil
      | inr some-root ↦ inr (held-begun s run lawful lists (slice_index roots i) (held i (below-length n tokens every logged i some) some-root))
    ];
  }

  -- each logged object has an item
  logged-item : (listed : (x : ℕ) → times x run.logged.items ≡ one_if (was_logged (setup_of s run 1) x)) (x : ℕ) → IsTrue (was_logged (setup_of s run 1) x) → 0 < objects x items
  logged-item listed x is =
      let item : objects x items ≡ times x (map (λ (grey : Grey). grey.object) logged) = first-objects n tokens every logged x in
      let same : times x (map (λ (grey : Grey). grey.object) logged) ≡ times x run.logged.items = ap (times x) all in
      let one : times x run.logged.items ≡ 1 = listed x ∙ ap one_if is in omega (arith, item, same, one)

sum-none : (f : ℕ → ℕ) → ((a : ℕ) → f a ≡ 0) → (ns : List ℕ) → sum_by f ns ≡ 0
sum-none f none [] = refl
sum-none f none (n ∷ ns) = sum_by-cons f n ns ∙ ap₂ (λ (a b : ℕ). a + b) (none n) (sum-none f none ns)

-- nothing is counted yet
first-tally : (s : HeapState) (F : ℕ → ℕ) (tally : Tally) → tally.kept ≡ 0 → tally.moved ≡ 0 → tally.words ≡ 0 → IsTally s F [] tally
first-tally s F tally kept moved words = record {
  kept = kept ∙ sym (sum-none _ (λ a. refl) (range_with_len 0 (row_words s.blocks)));
  moved = moved ∙ sym (sum-none _ (λ a. zero-mul (one_if (not (nat_eq (F a) a)))) (range_with_len 0 (row_words s.blocks)));
  words = words ∙ sym (sum-none _ (λ a. zero-mul (size_at s a)) (range_with_len 0 (row_words s.blocks)));
}

pub first-awaited : (s : HeapState) (run : TraceRun) (roots : List ℕ) → IsLawfulButLines s → HasList s run → AreRoots s roots → (tokens : List GlobalRoot)
    → map (λ (token : GlobalRoot). token.global) tokens ≡ range_with_len 0 16 → (logged : List Grey) → map (λ (grey : Grey). grey.object) logged ≡ run.logged.items
    → All (IsGrey (setup_of s run 1) (first_view run)) logged → ((x : ℕ) → times x run.logged.items ≡ one_if (was_logged (setup_of s run 1) x))
    → (w : PacketTracer) → Tracks (setup_of s run 1) [] w.tracer (first_view run)
    → w.tracer.run ≡ run → w.roots.items ≡ roots → w.won.items ≡ [] → w.tally.kept ≡ 0 → w.tally.moved ≡ 0 → w.tally.words ≡ 0
    → IsAwaited s run roots w (starting_items (length roots) tokens logged)
first-awaited s run roots lawful lists held tokens every logged all rights listed w tracks runs same none kept moved words = let n : ℕ = length roots in record {
  events = [];
  view = first_view run;
  tracer = record {
    tracks = tracks;
    runs = runs;
    rights = subst (λ l. HasRights (setup_of s run 1) (first_view run) l (starting_items n tokens logged)) (sym same) (first-rights s run roots lawful lists held tokens every logged all rights);
    none = none;
    sparse = refl;
  };
  of_objects = record {
    scanned = λ x some. absurd (omega (arith, some));
    logged = λ x is. inl (logged-item s run roots lawful lists held tokens every logged all rights listed x is);
    lines = λ on x some. absurd (omega (arith, some));
  };
  settled = λ g small. inl (let is : globals g (starting_items n tokens logged) ≡ times g (range_with_len 0 16) = first-globals n tokens every logged g in
      let one : times g (range_with_len 0 16) ≡ 1 = times-range 0 16 g (omega arith) ∙ ap one_if (lt-ltb g 16 (omega (arith, small))) in omega (arith, is, one));
  of_roots = record {
    as_many = ap length same;
    waiting = λ i some. ap (λ l. slice_index l i) same;
    served = λ i below zero. absurd (omega (arith, zero, first-registers n tokens every logged i below));
    asked = λ i zero some. elim (cases_lt i n) as (λ _. 0 < times (slice_index roots i) (first_view run).asked) [
      | inl below ↦ absurd (omega (arith, zero, first-registers n tokens every logged i below))
      | inr past ↦ absurd (let nil : slice_index roots i ≡ 0 = get_or_past roots i 0 past in omega (arith, nil, some))
    ];
    by_roots = λ x some. absurd (omega (arith, some));
  };
  tally = first-tally s _ w.tally kept moved words;
}
