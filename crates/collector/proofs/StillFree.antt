-- Blocks that are Free before and after a collection in which a movable object stayed in place.
use Rattle.std.proofs.Common.{◌≡◌, refl, ◌≢◌, sym, ◌∙◌, ap, subst, ℕ, zero, suc, ◌+◌, ◌%◌, ◌<◌, ◌≤◌, ◌⊎◌, inl, inr, arith, true≢false, Bool, false, ◌&&◌, IsTrue, nat_eq, List, [], ◌∷◌, length}
use Rattle.std.specs.Prelude.{count_by, is_some}
use Rattle.std.specs.List.{range_with_len}
use Rattle.std.proofs.lemmas.Bool.{cases_Bool, cases_eq, and_parts, and_from, cond-true, cond-false, false_from_ne_true, ne_eqb}
use Rattle.heap_layout.specs.Zones.{block_start}
use Rattle.heap_layout.specs.declared.block.Kind.TheVariants as kinds
use Rattle.object_model.specs.declared.collect.Collect.{Collect}
use Rattle.object_model.specs.declared.collect.Collect.TheVariants.{Nursery, Full}
use Rattle.object_model.specs.Objects.{HeapState, with_words, has_kind, HasKind, IsHeld}
use Rattle.object_model.specs.Ages as ages
use Rattle.object_model.proofs.Marks as marks
use Rattle.object_model.proofs.OneKind.{kind-code, kind-within, kind-from}
use Rattle.sessions.specs.Plans.{Rules, Plan, rules_of}
use Rattle.sessions.specs.Collecting as collecting
use Rattle.sessions.specs.Collecting.{is_old_under, still_free}
use Rattle.trace_core.specs.Setups.{Setup, blocks, collection, held, stays_old}
use Rattle.trace_core.specs.Machine.{Event}
use Rattle.trace_core.specs.Traces.{IsTracing, IsFinished, machine_after, heap_after, stage_of}
use Rattle.trace_core.specs.Outcomes.{base_after_trace, image}
use Rattle.trace_core.specs.Views.{without}
use Rattle.object_model.specs.Times.{one_if, times}
use Rattle.trace_core.specs.Runs.{is_nursery}
use Rattle.trace_core.specs.Rooms.{IsFilled}
use Rattle.trace_core.proofs.CountedRights.{count-cons, times-without}
use Rattle.trace_core.proofs.Finished.{option-cases, preserved}
use Rattle.trace_core.proofs.Rows.{row, owner-lives}
use Rattle.collector.proofs.Given.{IsSetupUnder, old-given, moves-given}
use Rattle.block_release.proofs.Fates as fates
use Rattle.block_release.proofs.Fates.{IsAllReleased}
use Rattle.block_release.proofs.ReleasedBlocks as released_blocks

-- a list loses one element
length-without : (g : ℕ → Bool) (l : List ℕ) → 0 < count_by g l → length l ≡ length (without g l) + 1
length-without g [] some = absurd (omega (arith, some))
length-without g (e ∷ l) some = elim (cases_Bool (g e)) as (λ _. length (e ∷ l) ≡ length (without g (e ∷ l)) + 1) [
  | inl passes ↦ (let rest : length (without g (e ∷ l)) ≡ length l = ap length (cond-true (g e) l (e ∷ without g l) passes) in omega arith)
  | inr fails ↦ (let count : count_by g (e ∷ l) ≡ one_if (g e) + count_by g l = count-cons g e l in
      let none : one_if (g e) ≡ 0 = ap one_if fails in
      let rest : length (without g (e ∷ l)) ≡ length (e ∷ without g l) = ap length (cond-false (g e) l (e ∷ without g l) fails) in
      let less : length l ≡ length (without g l) + 1 = length-without g l (omega arith) in omega arith)
]

-- if each number that passes a test is in a list, as many pass as the list is long, or fewer
few-pass : (f : ℕ → Bool) (a n : ℕ) (l : List ℕ) → ((k : ℕ) → a ≤ k → k < a + n → IsTrue (f k) → 0 < times k l) → count_by f (range_with_len a n) ≤ length l
few-pass f a zero l among = omega arith
few-pass f a (suc n) l among =
    let count : count_by f (a ∷ range_with_len (a + 1) n) ≡ one_if (f a) + count_by f (range_with_len (a + 1) n) = count-cons f a (range_with_len (a + 1) n) in
    elim (cases_Bool (f a)) as (λ _. count_by f (range_with_len a (suc n)) ≤ length l) [
      | inl passes ↦ (let here : 0 < times a l = among a (omega arith) (omega arith) passes in
          let one : one_if (f a) ≡ 1 = ap one_if passes in
          let less : length l ≡ length (without (nat_eq a) l) + 1 = length-without (nat_eq a) l here in
          let rest : count_by f (range_with_len (a + 1) n) ≤ length (without (nat_eq a) l) = few-pass f (a + 1) n (without (nat_eq a) l) (λ k from below is.
          let there : 0 < times k l = among k (omega arith) (omega arith) is in
          let same : times k l ≡ times k (without (nat_eq a) l) + one_if (nat_eq k a) = times-without a l here k in
          let other : one_if (nat_eq k a) ≡ 0 = ap one_if (ne_eqb k a (λ e. omega arith)) in omega arith) in
          omega arith)
      | inr fails ↦ (let none : one_if (f a) ≡ 0 = ap one_if fails in
          let rest : count_by f (range_with_len (a + 1) n) ≤ length l = few-pass f (a + 1) n l (λ k from below is. among k (omega arith) (omega arith) is) in
          omega arith)
    ]

nursery-is : (kind : Collect) → IsTrue (is_nursery kind) → kind ≡ Nursery
nursery-is Nursery is = refl
nursery-is Full is = absurd (true≢false (sym is))

module _ {q : Plan} {c : Collect} {p : Setup} {u : List ℕ} (under : IsSetupUnder q c p u) {es : List Event} (trace : IsTracing p es) (finished : IsFinished p (machine_after p es))
    {v : List ℕ} (all : IsAllReleased (rules_of q) c (base_after_trace p) (heap_after p es) v (collection p) (base_after_trace p)) where
  abbrev r : Rules
  r = rules_of q

  abbrev old : HeapState
  old = with_words p.before u

  abbrev after : HeapState
  after = heap_after p es

  abbrev new : HeapState
  new = record { words = v; blocks = blocks p; number = collection p; base = base_after_trace p }

  abbrev taken : ℕ → ℕ
  taken = (machine_after p es).taken

  -- a block with the first word of a target is in use
  filled-used : (b n : ℕ) → 0 < n → IsFilled p (machine_after p es) b n → HasKind new b kinds.Free → ⊥
  filled-used b n some filled free =
      let i : ℕ = block_start (blocks p) b + 0 in
      elim (option-cases ((machine_after p es).owner i)) as (λ _. ⊥) [
        | inl none ↦ true≢false (sym (filled 0 some) ∙ ap is_some none)
        | inr own ↦ (let d = owner-lives p es trace finished i own.0 own.1 in
            let there : IsHeld new d.0 = fates.lives-held all d.0 d.1 in
            (released_blocks.clear all b free).empty d.0 i there
            (record { from = d.2.from; below = subst (λ size. i < d.0 + size) (sym (fates.size-same all d.0 there)) d.2.below }) (omega arith))
      ]

  -- In a full collection no object counts as old, and in a nursery collection the plan's old ones.
  young-given : (a : ℕ) → (c ≡ Full) ⊎ (is_old_under r old a ≡ false) → stays_old p a ≡ false
  young-given a young = false_from_ne_true (stays_old p a) (λ aged.
      let nursery = and_parts p.nursery (held p a && ages.is_old p.before a) aged in
      let both = and_parts (held p a) (ages.is_old p.before a) nursery.1 in
      elim young as (λ _. ⊥) [
        | inl full ↦ true≢false (sym nursery.0 ∙ under.nursery ∙ ap is_nursery full)
        | inr none ↦ true≢false (sym (and_from r.young (ages.is_old old a) (under.young (nursery-is c (sym under.nursery ∙ nursery.0)))
            (old-given under.like a (marks.held p.before a both.0) ∙ both.1)) ∙ none)
      ])

  module _ (last : List ℕ) (full : (b : ℕ) → 0 < taken b → (0 < times b last) ⊎ ((n : ℕ) × (2048 < n) × IsFilled p (machine_after p es) b n)) where
    -- a block that is Free before and after is the last one of a worker, if none is Free between
    last-one : ((b : ℕ) → HasKind after b kinds.Free → ⊥) → (b : ℕ) → IsTrue (has_kind old b kinds.Free && has_kind new b kinds.Free) → 0 < times b last
    last-one none b is =
        let free = and_parts (has_kind old b kinds.Free) (has_kind new b kinds.Free) is in
        let there : b < blocks p = kind-within new b kinds.Free free.1 in
        elim (cases_eq (taken b) 0) as (λ _. 0 < times b last) [
          | inl untaken ↦ absurd (none b (kind-from after b kinds.Free there
              (ap (λ w. w % 256) ((row p es trace finished).as_before b there untaken ∙ sym (under.like.blocks b there)) ∙ kind-code old b kinds.Free free.0)))
          | inr some ↦ (let differ : taken b ≢ 0 = some in
              elim (full b (omega arith)) as (λ _. 0 < times b last) [
                | inl here ↦ here
                | inr filled ↦ absurd (let many : 2048 < filled.0 = filled.1 in filled-used b filled.0 (omega arith) filled.2 free.1)
              ])
        ]

    pub in-place : (a : ℕ) → 0 < image (stage_of p es) a → (c ≡ Full) ⊎ (is_old_under r old a ≡ false) → IsTrue (collecting.may_move r c old a)
        → image (stage_of p es) a ≡ a → still_free old new ≤ length last
    in-place a some young moves same =
        let there : IsHeld p.before a = (preserved p es trace finished [] (λ i root. absurd (omega arith))).held a some in
        few-pass (λ k. has_kind old k kinds.Free && has_kind new k kinds.Free) 0 (blocks p) last (λ k from below.
        last-one (λ b. (row p es trace finished).moved a b same (subst (λ n. 0 < n) same some) (young-given a young) (moves-given under a there ∙ moves)) k)
