-- The heap with five kinds of blocks and its two mutators represent their ideal heap.
use Rattle.std.proofs.Common.{◌≡◌, ◌≢◌, refl, sym, ◌∙◌, ap, subst, ℕ, zero, suc, ◌<◌, ◌≤◌, ◌↔◌, inl, inr, arith, true, ◌&&◌, ◌||◌, IsTrue, List, [], ◌∷◌, ◌++◌, slice_index, replicate, nat_eq, None, Some, Option, lit<}
use Rattle.std.specs.Prelude.{if◌then◌else◌}
use Rattle.std.specs.List.{range_with_len, list_all, Any, Contains}
use Rattle.std.proofs.lemmas.Bool.{and_parts, cases_Bool, cases_eq, eqb-true, ne_eqb, cond-false, or_cases}
use Rattle.ideal_heap.specs.declared.name.Name.{Name}
use Rattle.ideal_heap.specs.Names.{name, same_name}
use Rattle.object_model.specs.Objects.{global_at, is_pinned, IsHeld, name_at, record_at}
use Rattle.object_model.specs.Lawful.{IsLawful}
use Rattle.object_model.specs.Graphs.{AreDifferent, PointsTo, Represents, numbers_of}
use Rattle.object_model.specs.Agreement.{RepresentsOn}
use Rattle.worked_heaps.specs.WorkedKinds.{five_kinds, kinds_heap, kinds_held, kinds_mutators, kinds_ideal}
use Rattle.object_model.proofs.BuiltWords.{built-fits}
use Rattle.object_model.proofs.LawfulTests as tests
use Rattle.object_model.proofs.LawfulTests.{in-range, held-test, held-at}
use Rattle.object_model.proofs.Representation as representation
use Rattle.object_model.proofs.Representation.{points-reference}

pub lawful : IsLawful kinds_heap
lawful = tests.lawful kinds_heap kinds_held (record { held = refl; starts = refl; least = refl; most = refl; extent = refl; words = built-fits five_kinds (lit< tt) refl refl; base = refl; named = refl; refs = refl; nums = refl; number = refl; target = refl; marks = refl; within = refl; kind = refl; cell = refl; run = refl; apart = refl; heads = refl; tails = refl; references = refl; globals = refl; names = refl; codes = refl; owners = refl; free_words = refl; free_lines = refl; free_marks = refl; lines = refl })

-- what holds at the five addresses holds at each held object's
each : (P : ℕ → Type 0) → P 1212 → P 5312 → P 9384 → P 9392 → P 19632 → (a : ℕ) → IsHeld kinds_heap a → P a
each P one two three four five a holds =
    elim (or_cases (nat_eq a 1212) _ (held-test kinds_heap kinds_held refl (λ x. nat_eq x 1212 || (nat_eq x 5312 || (nat_eq x 9384 || (nat_eq x 9392 || nat_eq x 19632)))) refl a holds)) as (λ _. P a) [
      | inl e ↦ subst P (sym (eqb-true a 1212 e)) one
      | inr r ↦ elim (or_cases (nat_eq a 5312) _ r) as (λ _. P a) [
        | inl e ↦ subst P (sym (eqb-true a 5312 e)) two
        | inr r2 ↦ elim (or_cases (nat_eq a 9384) _ r2) as (λ _. P a) [
          | inl e ↦ subst P (sym (eqb-true a 9384 e)) three
          | inr r3 ↦ elim (or_cases (nat_eq a 9392) _ r3) as (λ _. P a) [
            | inl e ↦ subst P (sym (eqb-true a 9392 e)) four
            | inr r4 ↦ subst P (sym (eqb-true a 19632 r4)) five
          ]
        ]
      ]
    ]

nil-points : (v : ℕ) (o : Option Name) → v ≡ 0 → o ≡ None → PointsTo kinds_heap v o
nil-points v o nil none = let P : Option Name → Type 0 = λ x. PointsTo kinds_heap v x in subst P (sym none) nil

-- the words of a list of sixteen are nil, but for one place
nil-but : (xs : List ℕ) (k : ℕ) → list_all (λ d. nat_eq d k || nat_eq (slice_index xs d) 0) (range_with_len 0 16) ≡ true → (d : ℕ) → d < 16 → d ≢ k → slice_index xs d ≡ 0
nil-but xs k all d small differ = elim (or_cases (nat_eq d k) _ (in-range (λ e. nat_eq e k || nat_eq (slice_index xs e) 0) 0 16 all d (omega arith) (omega arith))) as (λ _. slice_index xs d ≡ 0) [
  | inl e ↦ absurd (differ (eqb-true d k e))
  | inr e ↦ eqb-true _ 0 e
]

first-points : (d : ℕ) → d < 16 → PointsTo kinds_heap (slice_index (replicate 15 0 ++ 9384 ∷ []) d) (kinds_ideal.registers 1 d)
first-points d small = elim (cases_eq d 15) as (λ _. PointsTo kinds_heap (slice_index (replicate 15 0 ++ 9384 ∷ []) d) (kinds_ideal.registers 1 d)) [
  | inl e ↦ (let P : ℕ → Type 0 = λ x. PointsTo kinds_heap (slice_index (replicate 15 0 ++ 9384 ∷ []) x) (kinds_ideal.registers 1 x) in
      subst P (sym e) (lit< tt, held-at kinds_heap 9384 refl, refl))
  | inr differ ↦ nil-points _ _ (nil-but (replicate 15 0 ++ 9384 ∷ []) 15 refl d small differ)
      (ap (λ b. if b then Some (name 1 2) else None) (ne_eqb d 15 differ))
]

second-points : (d : ℕ) → d < 16 → PointsTo kinds_heap (slice_index (19632 ∷ replicate 15 0) d) (kinds_ideal.registers 16 d)
second-points d small = elim (cases_eq d 0) as (λ _. PointsTo kinds_heap (slice_index (19632 ∷ replicate 15 0) d) (kinds_ideal.registers 16 d)) [
  | inl e ↦ (let P : ℕ → Type 0 = λ x. PointsTo kinds_heap (slice_index (19632 ∷ replicate 15 0) x) (kinds_ideal.registers 16 x) in
      subst P (sym e) (lit< tt, held-at kinds_heap 19632 refl, refl))
  | inr differ ↦ nil-points _ _ (nil-but (19632 ∷ replicate 15 0) 0 refl d small differ)
      (ap (λ b. if b then Some (name 16 2) else None) (ne_eqb d 0 differ))
]

global-points : (g : ℕ) → g < 16 → PointsTo kinds_heap (global_at kinds_heap g) (kinds_ideal.globals g)
global-points g small = elim (cases_eq g 0) as (λ _. PointsTo kinds_heap (global_at kinds_heap g) (kinds_ideal.globals g)) [
  | inl e ↦ (let P : ℕ → Type 0 = λ x. PointsTo kinds_heap (global_at kinds_heap x) (kinds_ideal.globals x) in subst P (sym e) (lit< tt, held-at kinds_heap 1212 refl, refl))
  | inr first ↦ elim (cases_eq g 15) as (λ _. PointsTo kinds_heap (global_at kinds_heap g) (kinds_ideal.globals g)) [
    | inl e ↦ (let P : ℕ → Type 0 = λ x. PointsTo kinds_heap (global_at kinds_heap x) (kinds_ideal.globals x) in subst P (sym e) (lit< tt, held-at kinds_heap 9392 refl, refl))
    | inr last ↦ nil-points _ _
        (elim (or_cases (nat_eq g 0) _ (in-range (λ x. nat_eq x 0 || (nat_eq x 15 || nat_eq (global_at kinds_heap x) 0)) 0 16 refl g (omega arith) (omega arith))) as (λ _. global_at kinds_heap g ≡ 0) [
          | inl e ↦ absurd (first (eqb-true g 0 e))
          | inr r ↦ elim (or_cases (nat_eq g 15) _ r) as (λ _. global_at kinds_heap g ≡ 0) [ inl e ↦ absurd (last (eqb-true g 15 e)) | inr e ↦ eqb-true _ 0 e ]
        ])
        (ap (λ b. if b then Some (name 1 1) else (if nat_eq g 15 then Some (name 1 3) else None)) (ne_eqb g 0 first) ∙ ap (λ b. if b then Some (name 1 3) else None) (ne_eqb g 15 last))
  ]
]

registers-confined : (m d : ℕ) (n : Name) → kinds_ideal.registers m d ≡ Some n → (d < 16) × Contains (numbers_of kinds_mutators) m
registers-confined m d n e = elim (cases_Bool (nat_eq m 1 && nat_eq d 15)) as (λ _. (d < 16) × Contains (numbers_of kinds_mutators) m) [
  | inl is ↦ (let both = and_parts (nat_eq m 1) _ is in let last : d ≡ 15 = eqb-true d 15 both.1 in (omega arith, (0, lit< tt, sym (eqb-true m 1 both.0))))
  | inr not_first ↦ elim (cases_Bool (nat_eq m 16 && nat_eq d 0)) as (λ _. (d < 16) × Contains (numbers_of kinds_mutators) m) [
    | inl is ↦ (let both = and_parts (nat_eq m 16) _ is in let start : d ≡ 0 = eqb-true d 0 both.1 in (omega arith, (1, lit< tt, sym (eqb-true m 16 both.0))))
    | inr neither ↦ absurd (let wrong : None ≡ Some n =
        sym (cond-false (nat_eq m 1 && nat_eq d 15) (Some (name 1 2)) (if nat_eq m 16 && nat_eq d 0 then Some (name 16 2) else None) not_first
        ∙ cond-false (nat_eq m 16 && nat_eq d 0) (Some (name 16 2)) None neither) ∙ e in cc)
  ]
]

globals-confined : (g : ℕ) (n : Name) → kinds_ideal.globals g ≡ Some n → g < 16
globals-confined g n e = elim (cases_eq g 0) as (λ _. g < 16) [
  | inl first ↦ omega arith
  | inr not_first ↦ elim (cases_eq g 15) as (λ _. g < 16) [
    | inl last ↦ omega arith
    | inr neither ↦ absurd (let wrong : None ≡ Some n =
        sym (ap (λ b. if b then Some (name 1 1) else (if nat_eq g 15 then Some (name 1 3) else None)) (ne_eqb g 0 not_first) ∙ ap (λ b. if b then Some (name 1 3) else None) (ne_eqb g 15 neither)) ∙ e in cc)
  ]
]

differ : AreDifferent (numbers_of kinds_mutators)
differ zero zero before after e = refl
differ zero (suc zero) before after e = absurd (let x : ℕ = 1 in let wrong : x ≡ 16 = e in omega arith)
differ zero (suc (suc j)) before after e = absurd (let more : suc (suc j) < 2 = after in omega arith)
differ (suc zero) zero before after e = absurd (let x : ℕ = 16 in let wrong : x ≡ 1 = e in omega arith)
differ (suc zero) (suc zero) before after e = refl
differ (suc zero) (suc (suc j)) before after e = absurd (let more : suc (suc j) < 2 = after in omega arith)
differ (suc (suc i)) j before after e = absurd (let more : suc (suc i) < 2 = before in omega arith)

models : RepresentsOn kinds_heap kinds_mutators kinds_ideal (IsHeld kinds_heap)
models = record {
  order = lawful.but_lines.order;
  mutators = record {
    each = (record { least = omega arith; most = omega arith; registers = refl }, (record { least = omega arith; most = omega arith; registers = refl }, tt));
    differ = differ;
  };
  pointers = record {
    registers = (first-points, (second-points, tt));
    globals = global-points;
    confined = record { registers = registers-confined; globals = globals-confined };
  };
  births = record {
    births = (refl, (refl, tt));
    held = each (λ a. Any (λ m. ((name_at kinds_heap a).mutator ≡ m.number) × ((name_at kinds_heap a).birth ≤ m.births)) kinds_mutators)
        (0, _, lit< tt, refl, (refl, omega arith)) (1, _, lit< tt, refl, (refl, omega arith)) (0, _, lit< tt, refl, (refl, omega arith)) (0, _, lit< tt, refl, (refl, omega arith)) (1, _, lit< tt, refl, (refl, omega arith));
    pinned = λ n is. elim (or_cases (same_name n (name 1 1)) (same_name n (name 16 2)) is) as (λ _. (n.mutator ≡ 1 → n.birth ≤ 3) × ((n.mutator ≡ 16 → n.birth ≤ 2) × Unit {0})) [
      | inl e ↦ (let both = and_parts (nat_eq n.mutator 1) _ e in let born : n.birth ≡ 1 = eqb-true n.birth 1 both.1 in (λ own. omega arith, (λ own. omega arith, tt)))
      | inr e ↦ (let both = and_parts (nat_eq n.mutator 16) _ e in let born : n.birth ≡ 2 = eqb-true n.birth 2 both.1 in (λ own. omega arith, (λ own. omega arith, tt)))
    ];
  };
  mirrors = record {
    held = λ a holds. holds;
    fields = lawful.but_lines.order.objects.references;
    registers = (λ d small some. points-reference kinds_heap _ (kinds_ideal.registers 1 d) (first-points d small) some, (λ d small some. points-reference kinds_heap _ (kinds_ideal.registers 16 d) (second-points d small) some, tt));
    globals = lawful.but_lines.order.objects.globals;
    records = each (λ a. kinds_ideal.records (name_at kinds_heap a) ≡ Some (record_at kinds_heap a)) refl refl refl refl refl;
    pins = each (λ a. IsTrue (is_pinned kinds_heap a) ↔ IsTrue (kinds_ideal.pinned (name_at kinds_heap a))) (λ x. x, λ x. x) (λ x. x, λ x. x) (λ x. x, λ x. x) (λ x. x, λ x. x) (λ x. x, λ x. x);
  };
}

pub represents : Represents kinds_heap kinds_mutators kinds_ideal
represents = representation.represents kinds_heap kinds_mutators kinds_ideal (IsHeld kinds_heap) models
