-- A trace of which nothing is left to do is whole: roots have their targets, lines are marked, and what was claimed is counted.
use Rattle.std.proofs.Common.{◌≡◌, refl, sym, ◌∙◌, ap, subst, ℕ, ◌+◌, ◌-◌, ◌*◌, ◌^◌, ◌<◌, ◌≤◌, ◌⊎◌, inl, inr, arith, Bool, not, nat_eq, true, false, IsTrue, Some, List, [], ◌∷◌, All, map, length, slice_index}
use Rattle.std.specs.Prelude.{◌&&◌, nat_lt, sum_by, count_by}
use Rattle.std.proofs.lemmas.Bool.{and_from, and_left, cases_eq, cases_lt, eq-eqb, lt-ltb, ne_eqb}
use Rattle.std.proofs.lemmas.List.{ext_get_or, get_or-map, get_or_past, length-map}
use Rattle.std.proofs.lemmas.List.Elements.{All-head, All-tail, All-weaker}
use Rattle.std.proofs.lemmas.List.Sums.{sum_by-cons}
use Rattle.trace_core.proofs.CountedRights.{count-cons, times-cons}
use Rattle.heap_layout.specs.Zones.{LineWords, bit_of, row_words, IsAddress}
use Rattle.object_model.specs.Lawful.{IsLawfulButLines}
use Rattle.object_model.specs.Lines.{TouchesLine}
use Rattle.object_model.specs.Objects.{HeapState, IsHeld, size_at}
use Rattle.object_model.specs.Times.{one_if, times}
use Rattle.object_model.specs.declared.shape.TheConstants.{MAX_MEDIUM_WORDS}
use Rattle.object_model.proofs.Blocks as given
use Rattle.object_model.proofs.Frames as frames
use Rattle.object_model.proofs.Marks as marks
use Rattle.trace_core.specs.Machine.{Event, Machine, Stage, Unclaimed, Copying, Scanning, target, address_or_nil}
use Rattle.trace_core.specs.Outcomes.{image, HaveAsked, NoOthersAsked}
use Rattle.trace_core.specs.Rooms.{IsFilled}
use Rattle.trace_core.specs.Runs.{setup_of, without_lines}
use Rattle.trace_core.specs.Setups.{Setup, blocks, size, refs, stays_old, keeps_its_words}
use Rattle.trace_core.specs.Traces.{IsFinished, machine_after, stage_of, target_of}
use Rattle.trace_core.specs.Views.{hits, is_scanning, is_stage_copied}
use Rattle.trace_core.specs.declared.run.TraceRun.{TraceRun}
use Rattle.trace_core.proofs.Begun.{by-begun, keeps-objects}
use Rattle.trace_core.proofs.Clauses.{held-of}
use Rattle.trace_core.proofs.Finished.{image-some, has-target}
use Rattle.trace_core.proofs.SameObjects as objects
use Rattle.trace_core.proofs.SetUnlogs.{same-objects}
use Rattle.trace_core.proofs.WithoutLines as lines
use Rattle.trace_core.proofs.Idle.{one-if-true}
use Rattle.trace_words.specs.Steps.{HasWholeTrace, IsDone, LeavesTrace}
use Rattle.trace_words.specs.declared.share.Share.{Share}
use Rattle.trace_table.specs.Seats.{setup_at}
use Rattle.trace_table.specs.declared.tokens.Grey.{Grey}
use Rattle.racing_collector.specs.declared.racing.Racing.{Racing}
use Rattle.racing_collector.specs.declared.served.Served.{Served}
use Rattle.racing_collector.specs.declared.tally.Tally.{Tally}
use Rattle.racing_collector.specs.Accounts.{Accounts, HasItsLines, IsGiven, IsServed, IsTargetOf, capped, has_moved, places}
use Rattle.racing_collector.specs.Together.{CountsClaimed, FillsBlocks, LinesOfClaimed, is_claimed, total}
use Rattle.racing_collector.proofs.AddressSums.{total-same, total-ones, total-tokens, total-length, sum-equal}

one-most : (b : Bool) → one_if b ≤ 1
one-most true = omega arith
one-most false = omega arith

-- sizes do not change as a trace begins
module _ (s : HeapState) (run : TraceRun) (lawful : IsLawfulButLines s) (listed : (x : ℕ) → 0 < times x run.logged.items → IsAddress s.blocks x) where
  lawful-lines : IsLawfulButLines (without_lines s)
  lawful-lines = lines.without_lines-lawful s lawful

  pub blocks-same : (w : ℕ) → blocks (setup_of s run w) ≡ s.blocks
  blocks-same w = by-begun s run (λ h. h.blocks ≡ s.blocks) refl refl (λ young. refl)

  pub size-same : (w a : ℕ) → IsHeld (setup_of s run w).before a → size (setup_of s run w) a ≡ size_at s a
  size-same w = by-begun s run (λ h. (a : ℕ) → IsHeld h a → size_at h a ≡ size_at s a)
      (λ a there. let before = frames.held-before (without_lines s) _ (keeps-objects (without_lines s) lawful-lines) a there in
      frames.size-after (without_lines s) _ (keeps-objects (without_lines s) lawful-lines) a before
      ∙ given.size-same s ((without_lines s).words) (lines.same s lawful) a (given.held-before s ((without_lines s).words) (lines.same s lawful) a before))
      (λ a there. frames.size-after s _ (keeps-objects s lawful) a (frames.held-before s _ (keeps-objects s lawful) a there))
      (λ young. let same = same-objects s lawful.order.row.extent run.logged.items listed in
      λ a there. objects.size-same s _ same a (objects.held-before s _ same a there))

module _ (p : Setup) (words : List ℕ) (v : Share) (leaves : LeavesTrace p words v) (whole : HasWholeTrace p leaves.events v) (done : IsDone p v) where
  abbrev es : List Event
  es = leaves.events

  abbrev m : Machine
  m = machine_after p es

  abbrev F : ℕ → ℕ
  F = image (stage_of p es)

  pub finished : IsFinished p m
  finished = whole.finished done

  known-is : (x t : ℕ) → 0 < hits x t v.known → t ≡ F x
  known-is x t has = sym (ap address_or_nil (whole.holds.known x t has))

  nil : F 0 ≡ 0
  nil = elim (cases_lt 0 (F 0)) as (λ _. F 0 ≡ 0) [
    | inl some ↦ absurd (let there : IsHeld p.before 0 = marks.held p.before 0 (held-of p es leaves.trace 0 (F 0) (has-target p es leaves.trace finished 0 some)) in
        let from = there.address.from in omega arith)
    | inr none ↦ omega arith
  ]

  target-is : (a b : ℕ) → IsTargetOf v a b → b ≡ F a
  target-is a b (inl none) = none.1 ∙ sym (ap F none.0 ∙ nil)
  target-is a b (inr some) = known-is a b some.1

  -- what has a target was copied if it is not old
  copied-stage : (a : ℕ) (stage : Stage) → stage ≡ stage_of p es a → is_stage_copied stage ≡ nat_lt 0 (address_or_nil (target stage))
  copied-stage a Unclaimed is = refl
  copied-stage a (Copying t k) is = absurd (let wrong : Copying t k ≡ Scanning t _ = is ∙ finished.objects a t (sym (ap target is)) in cc)
  copied-stage a (Scanning t k) is =
      let some : 0 < F a = image-some p es leaves.trace finished a t (sym (ap target is)) in
      let at : F a ≡ t = ap address_or_nil (sym (ap target is)) in
      sym (lt-ltb 0 t (omega (arith, some, at)))

  copied-image : (a : ℕ) → times a v.copied ≡ one_if (is_claimed p es a)
  copied-image a = whole.holds.copied a ∙ ap (λ t. one_if (not (stays_old p a) && t)) (copied-stage a (stage_of p es a) refl)

  pub fills : v.sparse ≡ [] → FillsBlocks p m
  fills none = record {
    last = v.last;
    few = whole.few;
    full = λ b taken. elim (whole.taken b taken) as (λ _. (0 < times b v.last) ⊎ IsFilled p m b (MAX_MEDIUM_WORDS + 1)) [
      | inl last ↦ inl last
      | inr (inl sparse) ↦ absurd (let zero : times b v.sparse ≡ 0 = ap (times b) none in omega arith)
      | inr (inr full) ↦ inr full
    ];
  }

  -- a claimed object is one that a share scanned to its last field
  scanned : (x t : ℕ) → target_of p es x ≡ Some t → stays_old p x ≡ false → 0 < hits x (refs p x) v.grey
  scanned x t is young =
      let stage : stage_of p es x ≡ Scanning t (refs p x) = finished.objects x t is in
      let last : is_scanning (refs p x) (stage_of p es x) ≡ true = ap (is_scanning (refs p x)) stage ∙ eq-eqb (refs p x) (refs p x) refl in
      let kept : keeps_its_words p x ≡ false = and_left (stays_old p x) (not (p.logged x)) young in
      let both : (not (keeps_its_words p x) && is_scanning (refs p x) (stage_of p es x)) ≡ true = and_from (not (keeps_its_words p x)) (is_scanning (refs p x) (stage_of p es x)) (ap not kept) last in
      let one = one-if-true _ both in let grey = whole.holds.grey x (refs p x) in omega (arith, one, grey)

  module _ (r : Racing) (setup : setup_at r.table ≡ p) (served : List Served) (greys : List Grey) (acc : Accounts r v served greys) where
    pub lines-marked : IsTrue r.table.run.lines → LinesOfClaimed p es
    lines-marked on x t n is young few touches =
        let has : HasItsLines p v x = subst (λ q. HasItsLines q v x) setup (acc.lines on x (refs p x) (scanned x t is young)) in
        let same : t ≡ has.target = (let known = whole.holds.known x has.target has.known in let one : Some t ≡ Some has.target = sym is ∙ known in cc) in
        subst (λ l. IsTrue (bit_of (blocks p) LineWords l n)) leaves.words_are (leaves.lined n few (has.marked n (subst (λ u. TouchesLine (blocks p) u (size p x) n) same touches)))

    abbrev roots : List ℕ
    roots = r.roots.items

    served-at : (l : List Served) → All (IsServed r v) l → (i : ℕ) → 0 < times i (places l) → (s : Served) × IsServed r v s × (s.place ≡ i)
    served-at [] all i some = absurd (omega (arith, some))
    served-at (s ∷ l) all i some = elim (cases_eq i s.place) as (λ _. (s : Served) × IsServed r v s × (s.place ≡ i)) [
      | inl e ↦ (s, All-head (IsServed r v) s l all, sym e)
      | inr ne ↦ served-at l (All-tail (IsServed r v) s l all) i (let a = times-cons s.place (places l) i in let none : one_if (nat_eq i s.place) ≡ 0 = ap one_if (ne_eqb i s.place ne) in omega arith)
    ]

    pub asked : ((i : ℕ) → i < length roots → 0 < times i (places served)) → HaveAsked roots m.asked
    asked each i some = elim (cases_lt i (length roots)) as (λ _. 0 < m.asked (slice_index roots i)) [
      | inl inside ↦ (let at = served-at served acc.roots i (each i inside) in
          let has : 0 < times (slice_index roots i) v.asked = subst (λ j. 0 < times (slice_index roots j) v.asked) at.2 (at.1.asked (subst (λ j. 0 < slice_index roots j) (sym at.2) some)) in
          subst (λ n. 0 < n) (whole.holds.asked (slice_index roots i)) has)
      | inr outside ↦ absurd (let none : slice_index roots i ≡ 0 = get_or_past roots i 0 (omega arith) in omega arith)
    ]

    pub no-others : NoOthersAsked roots m.asked
    no-others x some = acc.by_roots x (subst (λ n. 0 < n) (sym (whole.holds.asked x)) some)

    pub targets-are : All (λ s. s.target ≡ F (slice_index roots s.place)) served
    targets-are = All-weaker (IsServed r v) (λ s. s.target ≡ F (slice_index roots s.place)) (λ s is. target-is (slice_index roots s.place) s.target is.target) served acc.roots

    pub roots-are : (after : List ℕ) → length after ≡ length roots → ((i : ℕ) → i < length roots → 0 < times i (places served))
        → ((i : ℕ) → 0 < times i (places served) → slice_index after i ≡ F (slice_index roots i)) → after ≡ map F roots
    roots-are after count each targets = ext_get_or 0 after (map F roots) (count ∙ sym (length-map roots F))
        (λ i below. let there : i < length roots = subst (λ n. i < n) count below in targets i (each i there) ∙ sym (get_or-map F roots i 0 0 there))

    -- counts
    module _ (s : HeapState) (same : blocks p ≡ s.blocks) (sizes : (a : ℕ) → IsHeld p.before a → size p a ≡ size_at s a) (tally : Tally)
        (kept : tally.kept ≡ capped (2 ^ 32 - 1) (length greys)) (moved : tally.moved ≡ capped (2 ^ 32 - 1) (count_by has_moved greys)) (counted : tally.words ≡ capped (2 ^ 64 - 1) (sum_by (λ (g : Grey). g.size) greys)) where
      is-of : (g : Grey) → IsGiven r.table v g → IsHeld p.before g.object × (g.size ≡ size p g.object) × (g.target ≡ F g.object)
      is-of g is = (subst (λ (q : Setup). IsHeld q.before g.object) setup is.grey.held, is.grey.size ∙ ap (λ (q : Setup). size q g.object) setup, known-is g.object g.target is.known)

      below : All (λ g. g.object < row_words s.blocks) greys
      below = All-weaker (IsGiven r.table v) (λ g. g.object < row_words s.blocks) (λ g is. subst (λ b. g.object < row_words b) same (is-of g is).0.address.below) greys acc.tokens

      claimed : (a : ℕ) → times a (map (λ (g : Grey). g.object) greys) ≡ one_if (is_claimed p es a)
      claimed a = sym (acc.copied a) ∙ copied-image a

      by-weight : (weight : ℕ → ℕ) → total s.blocks (λ a. one_if (is_claimed p es a) * weight a) ≡ sum_by (λ (g : Grey). weight g.object) greys
      by-weight weight = total-same s.blocks _ _ (λ a _. ap (λ n. n * weight a) (sym (claimed a))) ∙ total-tokens s.blocks weight greys below

      abbrev moves : ℕ → ℕ
      moves a = one_if (not (nat_eq (F a) a))

      moved-sum : (l : List Grey) → All (IsGiven r.table v) l → count_by has_moved l ≡ sum_by (λ (g : Grey). moves g.object) l
      moved-sum [] all = refl
      moved-sum (g ∷ l) all =
          let is = is-of g (All-head (IsGiven r.table v) g l all) in
          let a = count-cons has_moved g l in let b = sum_by-cons (λ (h : Grey). moves h.object) g l in
          let here : one_if (has_moved g) ≡ moves g.object = ap (λ t. one_if (not (nat_eq t g.object))) is.2 in
          let rest = moved-sum l (All-tail (IsGiven r.table v) g l all) in omega arith

      -- No count reaches the most of its type.
      abbrev MOST : ℕ
      MOST = 4396050

      row-most : row_words s.blocks ≤ MOST
      row-most = let few : blocks p ≤ 1024 = leaves.trace.ready.lawful.order.row.most in omega (arith, few, same)

      few-greys : length greys ≤ MOST
      few-greys = let a = total-length s.blocks greys below in let c : total s.blocks (λ a. times a (map (λ (g : Grey). g.object) greys)) ≤ row_words s.blocks
          = total-ones s.blocks _ (λ a. subst (λ n. n ≤ 1) (sym (claimed a)) (one-most (is_claimed p es a))) in let d = row-most in omega (arith, a, c, d)

      few-words : sum_by (λ (g : Grey). g.size) greys ≤ length greys * MOST
      few-words = sum-few greys acc.tokens
        where
          sum-few : (l : List Grey) → All (IsGiven r.table v) l → sum_by (λ (g : Grey). g.size) l ≤ length l * MOST
          sum-few [] all = omega arith
          sum-few (g ∷ l) all = let one = All-head (IsGiven r.table v) g l all in let a = sum_by-cons (λ (h : Grey). h.size) g l in let rest = sum-few l (All-tail (IsGiven r.table v) g l all) in
              let within = one.grey.within in let size-most : g.size ≤ MOST = (let e : row_words (blocks (setup_at r.table)) ≡ row_words s.blocks = ap row_words (ap (λ (q : Setup). blocks q) setup ∙ same) in let d = row-most in omega (arith, within, e, d)) in
              omega (arith, a, rest, size-most)

      few-moved : count_by has_moved greys ≤ length greys
      few-moved = count-few greys
        where
          count-few : (l : List Grey) → count_by has_moved l ≤ length l
          count-few [] = omega arith
          count-few (g ∷ l) = let a = count-cons has_moved g l in let b = one-most (has_moved g) in let rest = count-few l in omega (arith, a, b, rest)

      exact-kept : tally.kept ≡ length greys
      exact-kept = let a = few-greys in omega (arith, a, kept)

      exact-moved : tally.moved ≡ count_by has_moved greys
      exact-moved = let a = few-greys in let b = few-moved in omega (arith, a, b, moved)

      exact-words : tally.words ≡ sum_by (λ (g : Grey). g.size) greys
      exact-words = let a = few-greys in let b = few-words in omega (arith, a, b, counted)

      pub counts : CountsClaimed s p es tally
      counts = record {
        kept = exact-kept ∙ sym (total-length s.blocks greys below) ∙ total-same s.blocks _ _ (λ a _. claimed a);
        moved = exact-moved ∙ moved-sum greys acc.tokens ∙ sym (by-weight moves);
        words = exact-words ∙ sum-equal (λ (g : Grey). g.size) (λ (g : Grey). size_at s g.object) greys
            (All-weaker (IsGiven r.table v) (λ g. g.size ≡ size_at s g.object) (λ g is. (is-of g is).1 ∙ sizes g.object (is-of g is).0) greys acc.tokens) ∙ sym (by-weight (size_at s));
      }
