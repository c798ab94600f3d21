-- The objects of a heap after a finished trace and the release of all blocks: which are preserved, and how old they are.
use Rattle.std.proofs.Common.{◌≡◌, ◌≢◌, refl, sym, ◌∙◌, ap, ap₂, subst, ℕ, ◌+◌, ◌/◌, ◌<◌, ◌≤◌, inl, inr, arith, false, true≢false, ◌&&◌, not, IsTrue, Some, nat_eq, nat_lt, nat_le, List, map, slice_index}
use Rattle.std.proofs.lemmas.Bool.{cases_Bool, cases_eq, and_parts, and_from, cond-true, cond-false, lt-ltb, leb-true, not_from_true}
use Rattle.forward_word.specs.CollectorWords.{number_in}
use Rattle.object_model.specs.declared.collect.Collect.{Collect}
use Rattle.object_model.specs.declared.collect.Collect.TheVariants.{Nursery, Full}
use Rattle.object_model.specs.Objects.{HeapState, with_words, word_at, global_at, is_start, is_unlogged, is_pinned, IsHeld, refs_at, ref_at, num_at, number_at, target_at, is_reference}
use Rattle.object_model.specs.Ages as ages
use Rattle.object_model.specs.Ages.{Lives}
use Rattle.object_model.specs.Graphs.{IsReachable}
use Rattle.object_model.specs.Preserving.{PreservesObjects, SameObject, field_after}
use Rattle.trace_core.proofs.SameObjects as given
use Rattle.object_model.proofs.Marks as marks
use Rattle.object_model.proofs.References.{refers, refers-some}
use Rattle.sessions.specs.Plans.{Rules, Plan, rules_of}
use Rattle.sessions.specs.Collecting as collecting
use Rattle.sessions.specs.Collecting.{is_old_under, is_logged_under, IsNurseryReachable, is_root, is_global, was_old, is_field, IsPrecise}
use Rattle.trace_core.specs.Setups.{Setup, blocks, collection, may_be_moved, held, stays_old}
use Rattle.trace_core.specs.Machine.{Event}
use Rattle.trace_core.specs.Traces.{IsTracing, IsFinished, TraceKeeps, FromRoot, FromGlobal, FromOld, ByReference, machine_after, heap_after, stage_of, target_of}
use Rattle.trace_core.specs.Outcomes.{base_after_trace, image, HaveAsked, NoOthersAsked}
use Rattle.trace_core.specs.Runs.{is_nursery}
use Rattle.trace_core.proofs.Rows.{row}
use Rattle.trace_core.proofs.Clauses.{held-of}
use Rattle.trace_core.proofs.Finished.{preserved, kept-exactly, kept-reachable, lives, has-target, claimed-number, old-stays}
use Rattle.collector.proofs.Given.{IsSetupUnder, old-given, reachable-before, reachable-given, moves-given}
use Rattle.block_release.proofs.Fates as fates
use Rattle.block_release.proofs.Fates.{IsAllReleased}
use Rattle.block_release.proofs.ReleasedObjects as released

module _ {q : Plan} {c : Collect} {p : Setup} {u : List ℕ} (under : IsSetupUnder q c p u) {es : List Event} (trace : IsTracing p es) (finished : IsFinished p (machine_after p es))
    {v : List ℕ} (all : IsAllReleased (rules_of q) c (base_after_trace p) (heap_after p es) v (collection p) (base_after_trace p)) where
  abbrev r : Rules
  r = rules_of q

  abbrev old : HeapState
  old = with_words p.before u

  abbrev new : HeapState
  new = record { words = v; blocks = blocks p; number = collection p; base = base_after_trace p }

  abbrev F : ℕ → ℕ
  F = image (stage_of p es)

  module _ (roots : List ℕ) (asked : HaveAsked roots (machine_after p es).asked) where
    was : PreservesObjects (may_be_moved p) p.before roots (Lives (base_after_trace p) (heap_after p es)) (heap_after p es) (map F roots) F
    was = preserved p es trace finished roots asked

    held-now : (a : ℕ) → 0 < F a → IsHeld new (F a)
    held-now a some = fates.lives-held all (F a) (was.there a some)

    reached-held : (a : ℕ) → IsReachable p.before roots a → IsHeld p.before a
    reached-held a from = was.held a (was.reached a from)

    same-object : (a : ℕ) → 0 < F a → SameObject old a new (F a)
    same-object a some =
        let is : SameObject p.before a (heap_after p es) (F a) = was.same a some in
        let there : IsHeld p.before a = was.held a some in
        let now : IsHeld new (F a) = held-now a some in
        let count : refs_at new (F a) ≡ refs_at (heap_after p es) (F a) = released.refs-same all (F a) now in
        let before : refs_at old a ≡ refs_at p.before a = given.refs-same p.before u under.like.heap a there in
        record {
          name = released.name-same all (F a) now ∙ is.name ∙ sym (given.name-same p.before u under.like.heap a there);
          refs = count ∙ is.refs ∙ sym before;
          nums = ap (λ w. w / 65536) (fates.word-same all (F a) 1 now) ∙ is.nums ∙ sym (given.nums-same p.before u under.like.heap a there);
          numbers = λ j few. number-of new (heap_after p es) (F a) j count (λ o. fates.word-same all (F a) o now)
              ∙ is.numbers j (subst (λ n. j < n) (given.nums-same p.before u under.like.heap a there) few)
              ∙ sym (number-of old p.before a j before (λ o. given.at p.before u under.like.heap a o there));
          pin = pin-of (F a) (was.there a some) ∙ is.pin ∙ sym (under.like.heap.pins a);
        }
      where
        number-of : (s t : HeapState) (a j : ℕ) → refs_at s a ≡ refs_at t a → ((o : ℕ) → word_at s (a + o) ≡ word_at t (a + o)) → num_at s a j ≡ num_at t a j
        number-of s t a j count same =
            let at : a + 3 + refs_at s a + j ≡ a + (3 + refs_at s a + j) = omega arith in
            let to : a + (3 + refs_at s a + j) ≡ a + 3 + refs_at t a + j = omega arith in
            ap (word_at s) at ∙ same (3 + refs_at s a + j) ∙ ap (word_at t) to

        pin-of : (x : ℕ) → Lives (base_after_trace p) (heap_after p es) x → is_pinned new x ≡ is_pinned (heap_after p es) x
        pin-of x lives = fates.pin-same all x (fates.lives-held all x lives)

    pub kept : PreservesObjects (collecting.may_move r c old) old roots (IsHeld new) new (map F roots) F
    kept = record {
      nil = was.nil;
      held = λ a some. given.held-after p.before u under.like.heap a (was.held a some);
      one_to_one = was.one_to_one;
      there = held-now;
      onto = λ x now. was.onto x (fates.held-lives all x now);
      same = same-object;
      fields = λ a i some few. let there : IsHeld p.before a = was.held a some in
          released.field-same all (F a) i (held-now a some)
          ∙ was.fields a i some (subst (λ n. i < n) (given.refs-same p.before u under.like.heap a there) few)
          ∙ ap (field_after F) (sym (given.ref-same p.before u under.like.heap a i there));
      closed = λ a i some few reference. let there : IsHeld p.before a = was.held a some in
          let same : ref_at old a i ≡ ref_at p.before a i = given.ref-same p.before u under.like.heap a i there in
          subst (λ w. 0 < F w) (sym same) (was.closed a i some (subst (λ n. i < n) (given.refs-same p.before u under.like.heap a there) few)
          (subst (λ w. IsTrue (is_reference w)) same reference));
      globals = λ g few. released.global-same all g few ∙ was.globals g few ∙ ap F (sym (under.like.heap.globals g few));
      registers = refl;
      stays = λ a some fixed. was.stays a some (moves-given under a (was.held a some) ∙ fixed);
      reached = λ a from. was.reached a (reachable-before under.like roots reached-held a from);
    }

    -- nil is kept nowhere
    positive : (a : ℕ) → 0 < F a → 0 < a
    positive a some = elim (cases_eq a 0) as (λ _. 0 < a) [
      | inl e ↦ absurd (let none : F a ≡ 0 = ap F e ∙ was.nil in omega arith)
      | inr ne ↦ (let other : a ≢ 0 = ne in omega arith)
    ]

    kept-held : (a : ℕ) → TraceKeeps p (machine_after p es).asked a → IsHeld p.before a
    kept-held a from = was.held a ((kept-exactly p es trace finished a).1 from)

    -- in a nursery collection, what is kept is what roots, globals and old objects reach
    module _ (no-others : NoOthersAsked roots (machine_after p es).asked) where
      module _ (nursery : IsTrue p.nursery) (young : IsTrue r.young) where
        to-nursery : (a : ℕ) → TraceKeeps p (machine_after p es).asked a → IsNurseryReachable r old roots a
        to-nursery _ (FromRoot a some) = let d = no-others a some in is_root d.0 d.1 (positive a ((kept-exactly p es trace finished a).1 (FromRoot a some)))
        to-nursery _ (FromGlobal g few reference) = is_global g few (under.like.heap.globals g few) (let some : global_at p.before g ≢ 0 = refers-some (global_at p.before g) reference in omega arith)
        to-nursery _ (FromOld a aged) =
            let both = and_parts (held p a) (ages.is_old p.before a) (and_parts p.nursery (held p a && ages.is_old p.before a) aged).1 in
            let there : IsHeld p.before a = marks.held p.before a both.0 in
            was_old (given.held-after p.before u under.like.heap a there) (and_from r.young (ages.is_old old a) young (old-given under.like a there ∙ both.1))
        to-nursery _ (ByReference y i from few reference) =
            let there : IsHeld p.before y = kept-held y from in
            is_field y i (to-nursery y from) (subst (λ n. i < n) (sym (given.refs-same p.before u under.like.heap y there)) few) (given.ref-same p.before u under.like.heap y i there) reference

        from-nursery : (a : ℕ) → IsNurseryReachable r old roots a → TraceKeeps p (machine_after p es).asked a
        from-nursery a (is_root i is some) = subst (TraceKeeps p (machine_after p es).asked) is (FromRoot (slice_index roots i) (asked i (subst (λ n. 0 < n) (sym is) some)))
        from-nursery a (is_global g few is some) =
            let before : global_at p.before g ≡ a = sym (under.like.heap.globals g few) ∙ is in
            subst (TraceKeeps p (machine_after p es).asked) before (FromGlobal g few (subst (λ n. IsTrue (is_reference n)) (sym before) (refers a (λ e. omega arith))))
        from-nursery a (was_old there aged) =
            let before : IsHeld p.before a = given.held-before p.before u under.like.heap a there in
            FromOld a (and_from p.nursery (held p a && ages.is_old p.before a) nursery
            (and_from (held p a) (ages.is_old p.before a) before.start (sym (old-given under.like a before) ∙ (and_parts r.young (ages.is_old old a) aged).1)))
        from-nursery a (is_field x i path less is reference) =
            let from : TraceKeeps p (machine_after p es).asked x = from-nursery x path in
            let there : IsHeld p.before x = kept-held x from in
            let same : ref_at p.before x i ≡ a = sym (given.ref-same p.before u under.like.heap x i there) ∙ is in
            subst (TraceKeeps p (machine_after p es).asked) same
            (ByReference x i from (subst (λ n. i < n) (given.refs-same p.before u under.like.heap x there) less) (subst (λ n. IsTrue (is_reference n)) (sym same) reference))

      -- by the kind of the collection
      by-kind : (kind : Collect) → p.nursery ≡ is_nursery kind → (kind ≡ Nursery → IsTrue r.young) → IsPrecise r kind old roots F
      by-kind Full full any = λ a.
          let exactly = kept-reachable p es trace finished roots asked full no-others a in
          (λ some. reachable-given under.like roots reached-held a (exactly.0 some), λ from. exactly.1 (reachable-before under.like roots reached-held a from))
      by-kind Nursery nursery young = λ a.
          let exactly = kept-exactly p es trace finished a in
          (λ some. to-nursery nursery (young refl) a (exactly.0 some), λ from. exactly.1 (from-nursery nursery (young refl) a from))

      pub precise : IsPrecise r c old roots F
      precise = by-kind c under.nursery under.young

  -- each object is old and not logged
  base-some : 0 < base_after_trace p
  base-some = elim (cases_Bool p.nursery) as (λ _. 0 < base_after_trace p) [
    | inl nursery ↦ subst (λ n. 0 < n) (sym (cond-true p.nursery p.before.base (collection p) nursery)) (trace.ready.base nursery)
    | inr full ↦ subst (λ n. 0 < n) (sym (cond-false p.nursery p.before.base (collection p) full)) (omega arith)
  ]

  pub aged : (a : ℕ) → IsHeld new a → IsTrue r.young → IsTrue (is_old_under r new a)
  aged a there young =
      let survives = (fates.held-lives all a there).survives in
      let least = and_parts (nat_le (base_after_trace p) (number_at (heap_after p es) a)) (nat_eq (target_at (heap_after p es) a) a) survives in
      and_from r.young (ages.is_old new a) young (and_from (nat_lt 0 (base_after_trace p)) (nat_le (base_after_trace p) (number_at new a)) (lt-ltb 0 (base_after_trace p) base-some)
      (ap (λ w. nat_le (base_after_trace p) (number_in w)) (fates.word-same all a 2 there) ∙ least.0))

  pub none-logged : (a : ℕ) → IsTrue (is_logged_under r new a) → ⊥
  none-logged a set =
      let parts = and_parts (is_start new a && ages.is_old new a) (not (is_unlogged new a)) (and_parts r.young (ages.is_logged new a) set).1 in
      let there : IsHeld new a = marks.held new a (and_parts (is_start new a) (ages.is_old new a) parts.0).0 in
      true≢false (sym parts.1 ∙ not_from_true (is_unlogged new a) (fates.unlogged all a there))

  pub unlogged : (a : ℕ) → IsHeld new a → IsTrue (is_unlogged new a)
  unlogged = fates.unlogged all

  -- what lives after a full collection has its number
  pub has-number : p.nursery ≡ false → (a : ℕ) → IsHeld new a → number_at new a ≡ collection p
  has-number full a there =
      let lives = fates.held-lives all a there in
      let least = and_parts (nat_le (base_after_trace p) (number_at (heap_after p es) a)) (nat_eq (target_at (heap_after p es) a) a) lives.survives in
      let from : base_after_trace p ≤ number_at (heap_after p es) a = leb-true (base_after_trace p) (number_at (heap_after p es) a) least.0 in
      let most : number_at (heap_after p es) a ≤ collection p = (row p es trace finished).number a lives in
      let base : base_after_trace p ≡ collection p = cond-false p.nursery p.before.base (collection p) full in
      let same : number_at (heap_after p es) a ≡ collection p = omega arith in
      ap number_in (fates.word-same all a 2 there) ∙ same

  -- in a nursery collection a claimed object has its number, and an old one stays with that which it had
  module _ (young : c ≡ Nursery) (a : ℕ) (some : 0 < F a) where
    goes : target_of p es a ≡ Some (F a)
    goes = has-target p es trace finished a some

    before : IsHeld p.before a
    before = marks.held p.before a (held-of p es trace a (F a) goes)

    now : IsHeld new (F a)
    now = fates.lives-held all (F a) (lives p es trace finished a (F a) goes)

    -- it is old as the trace begins if it was in the heap
    age : stays_old p a ≡ is_old_under r old a
    age = ap₂ (λ x y. x && (y && ages.is_old p.before a)) (under.nursery ∙ ap is_nursery young) before.start
        ∙ sym (old-given under.like a before) ∙ sym (ap (λ x. x && ages.is_old old a) (under.young young))

    pub claimed-here : is_old_under r old a ≡ false → number_at new (F a) ≡ collection p
    claimed-here aged = ap number_in (fates.word-same all (F a) 2 now) ∙ claimed-number p es trace finished a (F a) goes (age ∙ aged)

    pub old-stay : IsTrue (is_old_under r old a) → (F a ≡ a) × (number_at new a ≡ number_at old a)
    old-stay aged =
        let kept = old-stays p es trace finished a (age ∙ aged) in
        let here : IsHeld new a = subst (IsHeld new) kept.0 now in
        (kept.0, ap number_in (fates.word-same all a 2 here) ∙ kept.1 ∙ ap number_in (sym (given.at p.before u under.like.heap a 2 before)))
