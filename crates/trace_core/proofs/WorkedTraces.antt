-- The worked traces may begin, and each of their events may come.
use Rattle.std.proofs.Common.{◌≢◌, slice_index, false, List, suc, zero, ◌≡◌, ℕ, ◌+◌, ◌-◌, ◌*◌, ◌^◌, ◌<◌, ◌≤◌, inl, inr, Bool, true, true≢false, IsTrue, not, nat_eq, nat_lt, ◌∙◌, if◌then◌else◌, ◌&&◌, ◌||◌, [], ◌∷◌, refl, sym, ap, subst, arith, Some, None, lit<}
use Rattle.std.specs.Int.{bit_at}
use Rattle.std.proofs.lemmas.Nat.Bits.{bit_at-pow_other}
use Rattle.std.proofs.lemmas.Bool.{cases_Bool, cases_eq, eqb-true, and_left, and_parts, and_right, false_from_ne_true, not-true, or_cases, or_right, ltb-true}
use Rattle.heap_layout.specs.Blocks.{kind_code}
use Rattle.heap_layout.specs.declared.block.Kind.{Kind}
use Rattle.heap_layout.specs.declared.block.Kind.TheVariants as kinds
use Rattle.object_model.specs.Objects.{has_kind, is_start, is_pinned, is_unlogged, ref_at}
use Rattle.object_model.specs.Ages.{is_old}
use Rattle.object_model.proofs.Marks as marks
use Rattle.std.specs.List.{range_with_len, list_all}
use Rattle.trace_core.proofs.Puts.{all_else, put_else}
use Rattle.object_model.specs.Lawful.{IsLawful, IsLawfulButLines}
use Rattle.object_model.proofs.LawfulTests as tests
use Rattle.object_model.proofs.BuiltWords.{built-fits}
use Rattle.std.specs.Prelude.{filter}
use Rattle.heap_layout.specs.Zones.{heap_of}
use Rattle.object_model.specs.Lines.{TouchesLine}
use Rattle.trace_core.specs.Setups.{Setup, TraceMayBegin, refs, stays_old, keeps_its_words}
use Rattle.trace_core.specs.Machine.{Stage, Unclaimed, Copying, Scanning, target, Event, first_machine, put}
use Rattle.trace_core.specs.Outcomes.{HaveAsked, NoOthersAsked}
use Rattle.trace_core.proofs.Objects.{Some-injective, None-not-Some}
use Rattle.trace_core.proofs.Clauses.{held-of}
use Rattle.trace_core.specs.Traces.{AreNext, IsTracing, IsFinished, machine_after, stage_of}
use Rattle.trace_core.specs.WorkedTraces.{cycle_parts, cycle_setup, cycle_events, nursery_parts, nursery_setup, nursery_events, shared_parts, shared_setup, worked_share_events, full_parts, full_setup, full_events}

pub cycle-lawful : IsLawful cycle_setup.before
cycle-lawful = tests.lawful cycle_setup.before (806 ∷ 810 ∷ []) (record { held = refl; starts = refl; least = refl; most = refl; extent = refl; words = built-fits cycle_parts (lit< tt) refl refl; base = refl; named = refl; refs = refl; nums = refl; number = refl; target = refl; marks = refl; within = refl; kind = refl; cell = refl; run = refl; apart = refl; heads = refl; tails = refl; references = refl; globals = refl; names = refl; codes = refl; owners = refl; free_words = refl; free_lines = refl; free_marks = refl; lines = refl })

pub nursery-lawful : IsLawful nursery_setup.before
nursery-lawful = tests.lawful nursery_setup.before (806 ∷ 810 ∷ 814 ∷ []) (record { held = refl; starts = refl; least = refl; most = refl; extent = refl; words = built-fits nursery_parts (lit< tt) refl refl; base = refl; named = refl; refs = refl; nums = refl; number = refl; target = refl; marks = refl; within = refl; kind = refl; cell = refl; run = refl; apart = refl; heads = refl; tails = refl; references = refl; globals = refl; names = refl; codes = refl; owners = refl; free_words = refl; free_lines = refl; free_marks = refl; lines = refl })

-- unlog bits are right if they are right at held objects
unlogs-by : (p : Setup) (hs : List ℕ) → filter (is_start p.before) (range_with_len (heap_of p.before.blocks) (4096 * p.before.blocks)) ≡ hs → IsLawfulButLines p.before
    → list_all (λ a. if is_unlogged p.before a then stays_old p a else not (stays_old p a)) hs ≡ true → (a : ℕ) → is_unlogged p.before a ≡ stays_old p a
unlogs-by p hs held lawful all a = elim (cases_Bool (is_start p.before a)) as (λ _. is_unlogged p.before a ≡ stays_old p a) [
  | inl start ↦ right (is_unlogged p.before a) (stays_old p a)
      (tests.held-test p.before hs held (λ x. if is_unlogged p.before x then stays_old p x else not (stays_old p x)) all a (marks.held p.before a start))
  | inr none ↦
      false_from_ne_true (is_unlogged p.before a) (λ set. true≢false (sym (lawful.order.objects.marks a (or_right (is_pinned p.before a) (is_unlogged p.before a) set)).start ∙ none))
      ∙ sym (and_right p.nursery (is_start p.before a && is_old p.before a) (and_left (is_start p.before a) (is_old p.before a) none))
]
  where
    right : (b c : Bool) → (if b then c else not c) ≡ true → b ≡ c
    right true c is = sym is
    right false c is = sym (not-true c is)

bump-not-free : kinds.Bump ≡ kinds.Free → ⊥
bump-not-free e = true≢false (sym (ap (λ k. nat_eq (kind_code k) 0) e))

pub cycle-ready : TraceMayBegin cycle_setup
cycle-ready = record {
  lawful = cycle-lawful.but_lines;
  number = lit< tt;
  some = omega arith;
  few = omega arith;
  base = λ nursery. absurd (true≢false (sym nursery));
  remembers = λ x i keeps. absurd (true≢false (sym keeps));
  unlogs = unlogs-by cycle_setup (806 ∷ 810 ∷ []) refl cycle-lawful.but_lines refl;
  kind = refl;
  small = λ b from large. (let at : b ≡ 0 = eqb-true b 0 from in
      true≢false (sym (subst (λ k. IsTrue (has_kind cycle_setup.before k kinds.LargeHead || has_kind cycle_setup.before k kinds.LargeTail)) at large)));
  fixed = λ none. absurd (bump-not-free none);
}

pub cycle-events : AreNext cycle_setup (first_machine cycle_setup) cycle_events
cycle-events = (
  (refl, refl, (omega arith), (omega arith), bump-not-free),
  (
    (refl, refl, ((omega arith), refl), inr (record { room = record { moves = refl; address = record { from = omega arith; below = omega arith }; block = omega arith; within = omega arith }; unowned = λ i inside. refl })),
    (
      (4902, 0, refl),
      (
        (4902, 1, refl),
        (
          (4902, 2, refl),
          (
            (4902, 3, refl),
            (
              (4902, 4, refl),
              (
                (4902, 5, refl),
                (
                  (4902, refl),
                  (
                    (
                      record { from = omega arith; below = omega arith },
                      (
                        4902,
                        refl,
                        λ k bit. elim (cases_eq k 0) as (λ _. (k < 64) × TouchesLine 4 4902 4 (64 * (26 - 22) + k)) [
                          | inl e ↦ (omega arith, record { from = omega arith; below = omega arith })
                          | inr ne ↦ absurd (let off : bit_at (2 ^ 0) k ≡ 0 = bit_at-pow_other 0 k ne in let on : bit_at (2 ^ 0) k ≡ 1 = bit in omega arith)
                        ],
                      ),
                    ),
                    (
                      (refl, refl, ((omega arith), refl, (4902, refl)), inr (record { room = record { moves = refl; address = record { from = omega arith; below = omega arith }; block = omega arith; within = omega arith }; unowned = λ i inside. all_else (λ a. None) 4902 (Some 806) 4 i (inr (let from : 4906 ≤ i = inside.from in omega arith)) })),
                      (
                        (4906, 0, refl),
                        (
                          (4906, 1, refl),
                          (
                            (4906, 2, refl),
                            (
                              (4906, 3, refl),
                              (
                                (4906, 4, refl),
                                (
                                  (4906, 5, refl),
                                  (
                                    (4906, 6, refl),
                                    (
                                      (4902, 0, refl, (omega arith), λ reference. (4906, refl)),
                                      (
                                        (4906, 0, refl, (omega arith), λ reference. (4902, refl)),
                                        (
                                          ((omega arith), refl, λ reference. (4902, refl)),
                                          (
                                            ((omega arith), refl, λ reference. absurd (true≢false (sym reference))),
                                            (
                                              ((omega arith), refl, λ reference. absurd (true≢false (sym reference))),
                                              (
                                                ((omega arith), refl, λ reference. absurd (true≢false (sym reference))),
                                                (
                                                  ((omega arith), refl, λ reference. absurd (true≢false (sym reference))),
                                                  (
                                                    ((omega arith), refl, λ reference. absurd (true≢false (sym reference))),
                                                    (
                                                      ((omega arith), refl, λ reference. absurd (true≢false (sym reference))),
                                                      (
                                                        ((omega arith), refl, λ reference. absurd (true≢false (sym reference))),
                                                        (
                                                          ((omega arith), refl, λ reference. absurd (true≢false (sym reference))),
                                                          (
                                                            ((omega arith), refl, λ reference. absurd (true≢false (sym reference))),
                                                            (
                                                              ((omega arith), refl, λ reference. absurd (true≢false (sym reference))),
                                                              (
                                                                ((omega arith), refl, λ reference. absurd (true≢false (sym reference))),
                                                                (
                                                                  ((omega arith), refl, λ reference. absurd (true≢false (sym reference))),
                                                                  (
                                                                    ((omega arith), refl, λ reference. absurd (true≢false (sym reference))),
                                                                    (
                                                                      ((omega arith), refl, λ reference. absurd (true≢false (sym reference))),
                                                                      (
                                                                        ((omega arith), refl, λ reference. absurd (true≢false (sym reference))),
                                                                        tt,
                                                                      ),
                                                                    ),
                                                                  ),
                                                                ),
                                                              ),
                                                            ),
                                                          ),
                                                        ),
                                                      ),
                                                    ),
                                                  ),
                                                ),
                                              ),
                                            ),
                                          ),
                                        ),
                                      ),
                                    ),
                                  ),
                                ),
                              ),
                            ),
                          ),
                        ),
                      ),
                    ),
                  ),
                ),
              ),
            ),
          ),
        ),
      ),
    ),
  ),
)

-- the old object that was not logged refers to an old one
kept-old : (x : ℕ) → IsTrue (keeps_its_words nursery_setup x) → x ≡ 806
kept-old x keeps =
    let start : IsTrue (is_start nursery_setup.before x) = (and_parts (is_start nursery_setup.before x) (is_old nursery_setup.before x) (and_parts (stays_old nursery_setup x) (not (nat_eq x 810)) keeps).0).0 in
    let test : (not (keeps_its_words nursery_setup x) || nat_eq x 806) ≡ true =
    tests.held-test nursery_setup.before (806 ∷ 810 ∷ 814 ∷ []) refl (λ a. not (keeps_its_words nursery_setup a) || nat_eq a 806) refl x (marks.held nursery_setup.before x start) in
    elim (or_cases (not (keeps_its_words nursery_setup x)) (nat_eq x 806) test) as (λ _. x ≡ 806) [
      | inl other ↦ absurd (true≢false (sym other ∙ ap not keeps))
      | inr same ↦ eqb-true x 806 same
    ]

none-but-0 : (i : ℕ) → i < 1 → i ≡ 0
none-but-0 i few = omega arith

nursery-remembers : (x i : ℕ) → x ≡ 806 → i < refs nursery_setup x → IsTrue (stays_old nursery_setup (ref_at nursery_setup.before x i))
nursery-remembers x i at less =
    let first : i ≡ 0 = none-but-0 i (subst (λ y. i < refs nursery_setup y) at less) in
    subst (λ y. IsTrue (stays_old nursery_setup (ref_at nursery_setup.before y i))) (sym at)
    (subst (λ k. IsTrue (stays_old nursery_setup (ref_at nursery_setup.before 806 k))) (sym first) refl)

mature-not-free : kinds.Mature ≡ kinds.Free → ⊥
mature-not-free e = true≢false (sym (ap (λ k. nat_eq (kind_code k) 0) e))

pub nursery-ready : TraceMayBegin nursery_setup
nursery-ready = record {
  lawful = nursery-lawful.but_lines;
  number = lit< tt;
  some = omega arith;
  few = omega arith;
  base = λ nursery. omega arith;
  remembers = λ x i keeps less reference. nursery-remembers x i (kept-old x keeps) less;
  unlogs = unlogs-by nursery_setup (806 ∷ 810 ∷ 814 ∷ []) refl nursery-lawful.but_lines refl;
  kind = refl;
  small = λ b from large. (let at : b ≡ 0 = eqb-true b 0 from in
      true≢false (sym (subst (λ k. IsTrue (has_kind nursery_setup.before k kinds.LargeHead || has_kind nursery_setup.before k kinds.LargeTail)) at large)));
  fixed = λ none. absurd (mature-not-free none);
}

pub nursery-events : AreNext nursery_setup (first_machine nursery_setup) nursery_events
nursery-events = (
  (refl, refl, (omega arith), (omega arith), mature-not-free),
  (
    (refl, refl, ((omega arith), refl, (810, refl)), inr (record { room = record { moves = refl; address = record { from = omega arith; below = omega arith }; block = omega arith; within = omega arith }; unowned = λ i inside. refl })),
    (
      (4902, 0, refl),
      (
        (4902, 1, refl),
        (
          (4902, 2, refl),
          (
            (4902, 3, refl),
            (
              (4902, 4, refl),
              (
                (810, 0, refl, (omega arith), λ reference. (4902, refl)),
                (
                  ((omega arith), refl, λ reference. absurd (true≢false (sym reference))),
                  (
                    ((omega arith), refl, λ reference. absurd (true≢false (sym reference))),
                    (
                      ((omega arith), refl, λ reference. absurd (true≢false (sym reference))),
                      (
                        ((omega arith), refl, λ reference. absurd (true≢false (sym reference))),
                        (
                          ((omega arith), refl, λ reference. absurd (true≢false (sym reference))),
                          (
                            ((omega arith), refl, λ reference. absurd (true≢false (sym reference))),
                            (
                              ((omega arith), refl, λ reference. absurd (true≢false (sym reference))),
                              (
                                ((omega arith), refl, λ reference. absurd (true≢false (sym reference))),
                                (
                                  ((omega arith), refl, λ reference. absurd (true≢false (sym reference))),
                                  (
                                    ((omega arith), refl, λ reference. absurd (true≢false (sym reference))),
                                    (
                                      ((omega arith), refl, λ reference. absurd (true≢false (sym reference))),
                                      (
                                        ((omega arith), refl, λ reference. absurd (true≢false (sym reference))),
                                        (
                                          ((omega arith), refl, λ reference. absurd (true≢false (sym reference))),
                                          (
                                            ((omega arith), refl, λ reference. absurd (true≢false (sym reference))),
                                            (
                                              ((omega arith), refl, λ reference. absurd (true≢false (sym reference))),
                                              (
                                                ((omega arith), refl, λ reference. absurd (true≢false (sym reference))),
                                                tt,
                                              ),
                                            ),
                                          ),
                                        ),
                                      ),
                                    ),
                                  ),
                                ),
                              ),
                            ),
                          ),
                        ),
                      ),
                    ),
                  ),
                ),
              ),
            ),
          ),
        ),
      ),
    ),
  ),
)

shared-lawful : IsLawful shared_setup.before
shared-lawful = tests.lawful shared_setup.before (806 ∷ 810 ∷ 814 ∷ []) (record { held = refl; starts = refl; least = refl; most = refl; extent = refl; words = built-fits shared_parts (lit< tt) refl refl; base = refl; named = refl; refs = refl; nums = refl; number = refl; target = refl; marks = refl; within = refl; kind = refl; cell = refl; run = refl; apart = refl; heads = refl; tails = refl; references = refl; globals = refl; names = refl; codes = refl; owners = refl; free_words = refl; free_lines = refl; free_marks = refl; lines = refl })

pub shared-ready : TraceMayBegin shared_setup
shared-ready = record {
  lawful = shared-lawful.but_lines;
  number = lit< tt;
  some = omega arith;
  few = omega arith;
  base = λ nursery. absurd (true≢false (sym nursery));
  remembers = λ x i keeps. absurd (true≢false (sym keeps));
  unlogs = unlogs-by shared_setup (806 ∷ 810 ∷ 814 ∷ []) refl shared-lawful.but_lines refl;
  kind = refl;
  small = λ b from large. (let at : b ≡ 0 = eqb-true b 0 from in
      true≢false (sym (subst (λ k. IsTrue (has_kind shared_setup.before k kinds.LargeHead || has_kind shared_setup.before k kinds.LargeTail)) at large)));
  fixed = λ none. absurd (bump-not-free none);
}

pub shared-events : AreNext shared_setup (first_machine shared_setup) worked_share_events
shared-events = (
  (refl, refl, (omega arith), (omega arith), bump-not-free),
  (
    (refl, refl, ((omega arith), refl), inl (record { same = refl; reason = λ moves. absurd (true≢false (sym moves)) })),
    (
      (806, 4, refl),
      (
        (refl, refl, ((omega arith), refl), inr (record { room = record { moves = refl; address = record { from = omega arith; below = omega arith }; block = omega arith; within = omega arith }; unowned = λ i inside. refl })),
        (
          (4902, 0, refl),
          (
            (4902, 1, refl),
            (
              (4902, 2, refl),
              (
                (4902, 3, refl),
                (
                  (4902, 4, refl),
                  (
                    (4902, 5, refl),
                    (
                      (refl, refl, ((omega arith), refl, (806, refl)), inr (record { room = record { moves = refl; address = record { from = omega arith; below = omega arith }; block = omega arith; within = omega arith }; unowned = λ i inside. all_else (λ a. None) 4902 (Some 810) 4 i (inr (let from : 4906 ≤ i = inside.from in omega arith)) })),
                      (
                        (4906, 0, refl),
                        (
                          (4906, 1, refl),
                          (
                            (4906, 2, refl),
                            (
                              (4906, 3, refl),
                              (
                                (4906, 4, refl),
                                (
                                  (806, 0, refl, (omega arith), λ reference. (4906, refl)),
                                  (
                                    (4902, 0, refl, (omega arith), λ reference. (4906, refl)),
                                    (
                                      ((omega arith), refl, λ reference. (806, refl)),
                                      (
                                        ((omega arith), refl, λ reference. (4902, refl)),
                                        (
                                          ((omega arith), refl, λ reference. absurd (true≢false (sym reference))),
                                          (
                                            ((omega arith), refl, λ reference. absurd (true≢false (sym reference))),
                                            (
                                              ((omega arith), refl, λ reference. absurd (true≢false (sym reference))),
                                              (
                                                ((omega arith), refl, λ reference. absurd (true≢false (sym reference))),
                                                (
                                                  ((omega arith), refl, λ reference. absurd (true≢false (sym reference))),
                                                  (
                                                    ((omega arith), refl, λ reference. absurd (true≢false (sym reference))),
                                                    (
                                                      ((omega arith), refl, λ reference. absurd (true≢false (sym reference))),
                                                      (
                                                        ((omega arith), refl, λ reference. absurd (true≢false (sym reference))),
                                                        (
                                                          ((omega arith), refl, λ reference. absurd (true≢false (sym reference))),
                                                          (
                                                            ((omega arith), refl, λ reference. absurd (true≢false (sym reference))),
                                                            (
                                                              ((omega arith), refl, λ reference. absurd (true≢false (sym reference))),
                                                              (
                                                                ((omega arith), refl, λ reference. absurd (true≢false (sym reference))),
                                                                (
                                                                  ((omega arith), refl, λ reference. absurd (true≢false (sym reference))),
                                                                  (
                                                                    ((omega arith), refl, λ reference. absurd (true≢false (sym reference))),
                                                                    tt,
                                                                  ),
                                                                ),
                                                              ),
                                                            ),
                                                          ),
                                                        ),
                                                      ),
                                                    ),
                                                  ),
                                                ),
                                              ),
                                            ),
                                          ),
                                        ),
                                      ),
                                    ),
                                  ),
                                ),
                              ),
                            ),
                          ),
                        ),
                      ),
                    ),
                  ),
                ),
              ),
            ),
          ),
        ),
      ),
    ),
  ),
)

full-lawful : IsLawful full_setup.before
full-lawful = tests.lawful full_setup.before (806 ∷ 4902 ∷ 8998 ∷ []) (record { held = refl; starts = refl; least = refl; most = refl; extent = refl; words = built-fits full_parts (lit< tt) refl refl; base = refl; named = refl; refs = refl; nums = refl; number = refl; target = refl; marks = refl; within = refl; kind = refl; cell = refl; run = refl; apart = refl; heads = refl; tails = refl; references = refl; globals = refl; names = refl; codes = refl; owners = refl; free_words = refl; free_lines = refl; free_marks = refl; lines = refl })

-- what no block of four passes, no block passes
no-kind : (kind : Kind) → list_all (λ b. not (has_kind full_setup.before b kind)) (range_with_len 0 4) ≡ true → (b : ℕ) → IsTrue (has_kind full_setup.before b kind) → ⊥
no-kind kind none b is = let there : b < 4 = ltb-true b 4 (and_parts (nat_lt b 4) _ is).0 in
    true≢false (sym (tests.below (λ b. not (has_kind full_setup.before b kind)) 4 none b there) ∙ ap not is)

-- block 3 alone was Free
last-free : (b : ℕ) → IsTrue (has_kind full_setup.before b kinds.Free) → b ≡ 3
last-free b is = let there : b < 4 = ltb-true b 4 (and_parts (nat_lt b 4) _ is).0 in
    let test = tests.below (λ b. not (has_kind full_setup.before b kinds.Free) || nat_eq b 3) 4 refl b there in
    elim (or_cases (not (has_kind full_setup.before b kinds.Free)) (nat_eq b 3) test) as (λ _. b ≡ 3) [
      | inl none ↦ absurd (true≢false (sym none ∙ ap not is))
      | inr at ↦ eqb-true b 3 at
    ]

pub full-ready : TraceMayBegin full_setup
full-ready = record {
  lawful = full-lawful.but_lines;
  number = lit< tt;
  some = omega arith;
  few = omega arith;
  base = λ nursery. absurd (true≢false (sym nursery));
  remembers = λ x i keeps. absurd (true≢false (sym keeps));
  unlogs = unlogs-by full_setup (806 ∷ 4902 ∷ 8998 ∷ []) refl full-lawful.but_lines refl;
  kind = refl;
  small = λ b from large. elim (or_cases (has_kind full_setup.before b kinds.LargeHead) (has_kind full_setup.before b kinds.LargeTail) large) as (λ _. ⊥) [
    | inl head ↦ no-kind kinds.LargeHead refl b head
    | inr tail ↦ no-kind kinds.LargeTail refl b tail
  ];
  fixed = λ none. absurd (bump-not-free none);
}

pub full-events : AreNext full_setup (first_machine full_setup) full_events
full-events = (
  (refl, refl, (omega arith), (omega arith), bump-not-free),
  (
    (refl, refl, tt, inl (record { same = refl; reason = λ moves b free. subst (λ k. 0 < put (λ b. 0) 3 1 k) (sym (last-free b free)) (omega arith) })),
    (
      (806, 3, refl),
      (
        ((omega arith), refl, λ reference. (806, refl)),
        (
          ((omega arith), refl, λ reference. absurd (true≢false (sym reference))),
          (
            ((omega arith), refl, λ reference. absurd (true≢false (sym reference))),
            (
              ((omega arith), refl, λ reference. absurd (true≢false (sym reference))),
              (
                ((omega arith), refl, λ reference. absurd (true≢false (sym reference))),
                (
                  ((omega arith), refl, λ reference. absurd (true≢false (sym reference))),
                  (
                    ((omega arith), refl, λ reference. absurd (true≢false (sym reference))),
                    (
                      ((omega arith), refl, λ reference. absurd (true≢false (sym reference))),
                      (
                        ((omega arith), refl, λ reference. absurd (true≢false (sym reference))),
                        (
                          ((omega arith), refl, λ reference. absurd (true≢false (sym reference))),
                          (
                            ((omega arith), refl, λ reference. absurd (true≢false (sym reference))),
                            (
                              ((omega arith), refl, λ reference. absurd (true≢false (sym reference))),
                              (
                                ((omega arith), refl, λ reference. absurd (true≢false (sym reference))),
                                (
                                  ((omega arith), refl, λ reference. absurd (true≢false (sym reference))),
                                  (
                                    ((omega arith), refl, λ reference. absurd (true≢false (sym reference))),
                                    (
                                      ((omega arith), refl, λ reference. absurd (true≢false (sym reference))),
                                      tt,
                                    ),
                                  ),
                                ),
                              ),
                            ),
                          ),
                        ),
                      ),
                    ),
                  ),
                ),
              ),
            ),
          ),
        ),
      ),
    ),
  ),
)

-- A trace is finished if its globals are set and each object that was held is done.
abbrev is-done : Setup → ℕ → Stage → Bool
is-done p x Unclaimed = true
is-done p x (Copying t k) = false
is-done p x (Scanning t k) = nat_eq k (refs p x)

done-stage : (p : Setup) (x t : ℕ) (st : Stage) → is-done p x st ≡ true → target st ≡ Some t → st ≡ Scanning t (refs p x)
done-stage p x t Unclaimed done is = absurd (None-not-Some t is)
done-stage p x t (Copying u k) done is = absurd (true≢false (sym done))
done-stage p x t (Scanning u k) done is = ap (λ z. Scanning z k) (Some-injective u t is) ∙ ap (Scanning t) (eqb-true k (refs p x) done)

finished-by : (p : Setup) (es : List Event) (hs : List ℕ) → IsTracing p es → filter (is_start p.before) (range_with_len (heap_of p.before.blocks) (4096 * p.before.blocks)) ≡ hs
    → list_all (λ x. is-done p x (stage_of p es x)) hs ≡ true → list_all (λ g. (machine_after p es).set g) (range_with_len 0 16) ≡ true → IsFinished p (machine_after p es)
finished-by p es hs trace held all set = record {
  globals = λ g few. tests.below (λ g. (machine_after p es).set g) 16 set g few;
  objects = λ x t is. done-stage p x t (stage_of p es x) (tests.held-test p.before hs held (λ x. is-done p x (stage_of p es x)) all x (marks.held p.before x (held-of p es trace x t is))) is;
}

pub cycle-finished : IsFinished cycle_setup (machine_after cycle_setup cycle_events)
cycle-finished = finished-by cycle_setup cycle_events (806 ∷ 810 ∷ []) (record { ready = cycle-ready; events = cycle-events }) refl refl refl

pub nursery-finished : IsFinished nursery_setup (machine_after nursery_setup nursery_events)
nursery-finished = finished-by nursery_setup nursery_events (806 ∷ 810 ∷ 814 ∷ []) (record { ready = nursery-ready; events = nursery-events }) refl refl refl

pub shared-finished : IsFinished shared_setup (machine_after shared_setup worked_share_events)
shared-finished = finished-by shared_setup worked_share_events (806 ∷ 810 ∷ 814 ∷ []) (record { ready = shared-ready; events = shared-events }) refl refl refl

pub full-finished : IsFinished full_setup (machine_after full_setup full_events)
full-finished = finished-by full_setup full_events (806 ∷ 4902 ∷ 8998 ∷ []) (record { ready = full-ready; events = full-events }) refl refl refl

-- register 0 of the cycle's mutator asked, and no other
pub cycle-asked : HaveAsked (806 ∷ 0 ∷ []) (machine_after cycle_setup cycle_events).asked
cycle-asked zero some = omega arith
cycle-asked (suc zero) some = absurd (omega arith)
cycle-asked (suc (suc i)) some = absurd (omega arith)

not-asked : (x : ℕ) → x ≢ 806 → 0 < (machine_after cycle_setup cycle_events).asked x → ⊥
not-asked x ne some =
    let none : (machine_after cycle_setup cycle_events).asked x ≡ 0 = put_else {B = ℕ} (λ z. 0) 806 1 x ne in
    omega (arith, none, some)

pub cycle-alone : NoOthersAsked (806 ∷ 0 ∷ []) (machine_after cycle_setup cycle_events).asked
cycle-alone x some = elim (cases_eq x 806) as (λ _. (i : ℕ) × (slice_index (806 ∷ 0 ∷ []) i ≡ x)) [
  | inl e ↦ (0, sym e)
  | inr ne ↦ absurd (not-asked x ne some)
]
