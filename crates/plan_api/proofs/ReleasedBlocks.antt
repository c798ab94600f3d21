-- The release of a block, made of sweeps.
use Rattle.std.proofs.Common.{◌≡◌, ◌≢◌, refl, sym, ap, ◌∙◌, subst, inl, inr, ℕ, ◌+◌, ◌*◌, ◌-◌, ◌/◌, ◌%◌, ◌<◌, ◌≤◌, ◌⊎◌, ◌↔◌, false, ◌&&◌, ◌||◌, IsTrue, List, slice_index, nat_eq, nat_le, nat_lt, if◌then◌else◌, arith}
use Rattle.std.specs.Int.{bit_at}
use Rattle.std.proofs.Math.Logic.{∥∥₁_map}
use Rattle.std.proofs.lemmas.Grind.{not_there}
use Rattle.std.proofs.lemmas.Bool.{true≢false, cases_Bool, or_left, eqb-true, and_parts}
use Rattle.plan_api.proofs.EvacuationLaws.{or-right, and-false, kind-kept, not-kept, other-kind}
use Rattle.block_sweeps.proofs.RunSpans.{there, last-inside, only-object, no-start as no-run-start, no-unlog, pin-held}
use Rattle.heap_layout.specs.Zones.{Zone, StartBits, PinBits, UnlogBits, LineWords, BlockWords, first, heap_of, row_words, block_start, IsAddress, block_at, address_bit}
use Rattle.heap_layout.specs.declared.layout.Layout.{Layout}
use Rattle.heap_layout.specs.declared.block.Kind.{Kind}
use Rattle.heap_layout.specs.declared.block.Kind.TheVariants as kinds
use Rattle.heap_layout.specs.Blocks.{kind_code, is_block_code, is_valid_for, is_valid_for_some, kind_of_code}
use Rattle.object_model.proofs.OneKind.{kind-code}
use Rattle.object_model.specs.declared.collect.Collect.{Collect}
use Rattle.object_model.specs.Objects.{HeapState, state_over, block_word, has_kind, HasKind, line_marked, is_start, is_pinned, is_unlogged, IsHeld, size_at}
use Rattle.object_model.specs.Lines.{TouchesLine}
use Rattle.object_model.specs.Releasing.{IsReleasable, InSpan}
use Rattle.object_model.specs.Ages.{Lives}
use Rattle.sessions.specs.Plans.{Rules}
use Rattle.block_sweeps.specs.Sweeping.{InBlock, IsOfSpan, IsLineWord, IsUnlogWord, IsMetadata, ChangesOnly, IsFreed, HasNoLiving, Sweeps, SweepsRun, MarksTouched, Unlogs, IsTouchedHere}
use Rattle.block_sweeps.proofs.ChangedWords.{changes-more, changes-both}
use Rattle.plan_api.specs.Releasing.{is_kept_after, word_after, IsReleased, ReleasesIf, Releases}

-- bits of one word of a zone
pub bit-same : (b : ℕ) (z : Zone) (u v : List ℕ) (a : ℕ) → slice_index v (first b z + (a - heap_of b) / 64) ≡ slice_index u (first b z + (a - heap_of b) / 64)
    → address_bit b z v a ≡ address_bit b z u a
bit-same b z u v a same = ap (λ n. nat_le (heap_of b) a && nat_lt a (row_words b) && nat_eq (bit_at n ((a - heap_of b) % 64)) 1) same

-- the word of a Free block
free-code : (v : ℕ) → IsTrue (is_block_code v) → v % 256 ≡ 0 → v ≡ 0
free-code v code zero =
    let free : IsTrue (is_valid_for kinds.Free (v / 256 % 256) (v / 65536)) = subst (λ n. IsTrue (is_valid_for_some (kind_of_code n) (v / 256 % 256) (v / 65536))) zero code in
    let class : v / 256 % 256 ≡ 0 = eqb-true _ _ (and_parts (nat_eq (v / 256 % 256) 0) _ free).0 in
    let owner : v / 65536 ≡ 0 = eqb-true _ _ (and_parts (nat_eq (v / 256 % 256) 0) _ free).1 in
    omega arith

-- the word of the first block of a large run has no owner
head-code : (v : ℕ) → IsTrue (is_block_code v) → v % 256 ≡ 6 → v % 65536 ≡ v
head-code v code six =
    let head : IsTrue (is_valid_for kinds.LargeHead (v / 256 % 256) (v / 65536)) = subst (λ n. IsTrue (is_valid_for_some (kind_of_code n) (v / 256 % 256) (v / 65536))) six code in
    let owner : v / 65536 ≡ 0 = eqb-true _ _ (and_parts (nat_le 1 (v / 256 % 256) && nat_le (v / 256 % 256) 15) _ head).1 in
    omega arith

module _ (l : Layout) where
  abbrev b : ℕ
  b = l.blocks

  abbrev st : List ℕ → HeapState
  st w = state_over w l 0 0

  -- changes of line words or unlog words leave start and pin bits, block words, and heap words
  module _ (k : ℕ) (there : k < b) (u v : List ℕ) (changes : ChangesOnly (λ i. IsLineWord b k i ⊎ IsUnlogWord b k i) (st u) (st v)) where
    outside : (i : ℕ) → (IsLineWord b k i → ⊥) → (IsUnlogWord b k i → ⊥) → slice_index v i ≡ slice_index u i
    outside i line unlog = changes.others i (λ either. elim either as (λ _. ⊥) [ inl a ↦ line a | inr a ↦ unlog a ])

    pub start-stays : (a : ℕ) → IsAddress b a → is_start (st v) a ≡ is_start (st u) a
    start-stays a at = (let from = at.from in let below = at.below in
        bit-same b StartBits u v a (outside _ (λ line. let x = line.below in omega arith) (λ unlog. let x = unlog.after in omega arith)))

    pub pin-stays : (a : ℕ) → IsAddress b a → is_pinned (st v) a ≡ is_pinned (st u) a
    pin-stays a at = (let from = at.from in let below = at.below in
        bit-same b PinBits u v a (outside _ (λ line. let x = line.below in omega arith) (λ unlog. let x = unlog.after in omega arith)))

    pub word-stays : (j : ℕ) → j < b → block_word (st v) j ≡ block_word (st u) j
    word-stays j below = outside (first b BlockWords + j) (λ line. let x = line.after in omega arith) (λ unlog. let x = unlog.after in omega arith)

    pub heap-stays : (i : ℕ) → heap_of b ≤ i → slice_index v i ≡ slice_index u i
    heap-stays i from = outside i (λ line. let x = line.below in omega arith) (λ unlog. let x = unlog.below in omega arith)

  -- the release of a block of small and medium objects
  module _ (r : Rules) (c : Collect) (base k : ℕ) (old mid marked new : List ℕ) (there : k < b) (not-head : HasKind (st old) k kinds.LargeHead → ⊥)
      (sweep : Sweeps base (word_after r c (st old) k) (st old) (st mid) k)
      (immix : HasKind (st old) k kinds.Immix → MarksTouched (st mid) (st marked) k) (plain : (HasKind (st old) k kinds.Immix → ⊥) → marked ≡ mid)
      (unlog : Unlogs (st marked) (st new) k) where
    abbrev Beside : ℕ → Type 0
    Beside i = IsLineWord b k i ⊎ IsUnlogWord b k i

    no-change : ChangesOnly Beside (st mid) (st mid)
    no-change = record { blocks = refl; extent = refl; others = λ i outside. refl; fit = λ fits. fits }

    lines-change : ChangesOnly Beside (st mid) (st marked)
    lines-change = elim (cases_Bool (has_kind (st old) k kinds.Immix)) as (λ _. ChangesOnly Beside (st mid) (st marked)) [
      | inl is ↦ changes-more (IsLineWord b k) Beside (st mid) (st marked) (λ i line. inl line) (immix is).rest
      | inr not ↦ subst (λ w. ChangesOnly Beside (st mid) (st w)) (sym (plain (λ is. true≢false (sym is ∙ not)))) no-change
    ]

    unlog-change : ChangesOnly Beside (st marked) (st new)
    unlog-change = changes-more (IsUnlogWord b k) Beside (st marked) (st new) (λ i word. inr word) unlog.rest

    after-sweep : ChangesOnly Beside (st mid) (st new)
    after-sweep = changes-both Beside (st mid) (st marked) (st new) lines-change unlog-change

    in-block : (a : ℕ) → InSpan (st old) k a → InBlock (st old) k a
    in-block a span = record { address = span.address; block = elim span.block as (λ _. block_at b a ≡ k) [ inl is ↦ is | inr run ↦ absurd (not-head run.0) ] }

    one-block : (j : ℕ) → IsOfSpan (st old) k j → j ≡ k
    one-block j span = elim span as (λ _. j ≡ k) [ inl is ↦ is | inr run ↦ absurd (not-head run.0) ]

    start : (a : ℕ) → IsAddress b a → is_start (st new) a ≡ is_start (st mid) a
    start = start-stays k there mid new after-sweep

    held-same : (a : ℕ) → IsHeld (st new) a ↔ IsHeld (st mid) a
    held-same a = ((λ h. record { address = h.address; start = sym (start a h.address) ∙ h.start }), (λ h. record { address = h.address; start = start a h.address ∙ h.start }))

    -- a line bit of the block is in a line word
    line-stays : (u v : List ℕ) (line : ℕ) → line < 256 → ChangesOnly (IsUnlogWord b k) (st u) (st v) → line_marked (st v) k line ≡ line_marked (st u) k line
    line-stays u v line below changes = ap (λ n. nat_eq (bit_at n ((256 * k + line) % 64)) 1) (changes.others (first b LineWords + (256 * k + line) / 64) (λ word. let x = word.after in omega arith))

    size-same : (a : ℕ) → IsAddress b a → size_at (st new) a ≡ size_at (st mid) a
    size-same a at = ap (λ n. 3 + n % 65536 + n / 65536) (heap-stays k there mid new after-sweep (a + 1) (let x = at.from in omega arith))

    touched-same : (line : ℕ) → IsTouchedHere (st mid) k line → IsTouchedHere (st new) k line
    touched-same line is = (let touched = is.touched in record {
      touched = record {
        object = touched.object;
        held = (held-same touched.object).1 touched.held;
        touches = subst (λ n. TouchesLine b touched.object n (256 * k + line)) (sym (size-same touched.object touched.held.address)) touched.touches;
      };
      here = is.here;
    })

    touched-back : (line : ℕ) → IsTouchedHere (st new) k line → IsTouchedHere (st mid) k line
    touched-back line is = (let touched = is.touched in record {
      touched = record {
        object = touched.object;
        held = (held-same touched.object).0 touched.held;
        touches = subst (λ n. TouchesLine b touched.object n (256 * k + line)) (size-same touched.object touched.held.address) touched.touches;
      };
      here = is.here;
    })

    none-touched : HasNoLiving base (st old) (InBlock (st old) k) → (line : ℕ) → IsTouchedHere (st mid) k line → ⊥
    none-touched none line is = (let here : InBlock (st old) k is.touched.object = record { address = is.touched.held.address; block = is.here } in
        none is.touched.object here ((sweep.objects.held is.touched.object here).0 is.touched.held))

    marks : HasKind (st old) k kinds.Immix → (line : ℕ) → line < 256 → IsTrue (line_marked (st new) k line) ↔ ∥ IsTouchedHere (st new) k line ∥₁
    marks is line below =
        let same : line_marked (st new) k line ≡ line_marked (st marked) k line = line-stays marked new line below unlog.rest in (
          (λ set. ∥∥₁_map (((immix is).lines line below).0 (sym same ∙ set)) (touched-same line)),
          (λ touched. same ∙ ((immix is).lines line below).1 (∥∥₁_map touched (touched-back line))),
        )

    plain-line : (HasKind (st old) k kinds.Immix → ⊥) → (line : ℕ) → line < 256 → line_marked (st new) k line ≡ line_marked (st mid) k line
    plain-line not line below = line-stays marked new line below unlog.rest ∙ ap (λ w. line_marked (st w) k line) (plain not)

    clear-line : HasNoLiving base (st old) (InBlock (st old) k) → (line : ℕ) → line < 256 → line_marked (st new) k line ≡ false
    clear-line none line below = elim (cases_Bool (has_kind (st old) k kinds.Immix)) as (λ _. line_marked (st new) k line ≡ false) [
      | inl is ↦ elim (cases_Bool (line_marked (st new) k line)) as (λ _. line_marked (st new) k line ≡ false) [
        | inl set ↦ absurd (not_there ((marks is line below).0 set) (λ t. none-touched none line (touched-back line t)))
        | inr clear ↦ clear
      ]
      | inr not ↦ plain-line (λ is. true≢false (sym is ∙ not)) line below ∙ (sweep.empty none).lines line below
    ]

    released : IsReleased r c base (st old) (st new) k
    released = record {
      held = λ a span. (
        (λ h. (sweep.objects.held a (in-block a span)).0 ((held-same a).0 h)),
        (λ lives. (held-same a).1 ((sweep.objects.held a (in-block a span)).1 lives)),
      );
      pins = λ a span. pin-stays k there mid new after-sweep a span.address ∙ sweep.objects.pins a (in-block a span) ∙ ap (λ t. is_pinned (st old) a && t) (sym (start a span.address));
      unlogs = λ a span. unlog.unlogs a (record { address = span.address; block = (in-block a span).block }) ∙ sym (start-stays k there marked new unlog-change a span.address);
      empty = λ none j span. subst (IsFreed (st new)) (sym (one-block j span)) (record {
        word = word-stays k there mid new after-sweep k there ∙ (sweep.empty (λ a here. none a (record { address = here.address; block = inl here.block }))).word;
        lines = clear-line (λ a here. none a (record { address = here.address; block = inl here.block }));
      });
      word = λ a span lives. word-stays k there mid new after-sweep k there ∙ sweep.word a (in-block a span) lives;
      tails = λ a j span lives of other. absurd (other (one-block j of));
      touched = λ a line span lives is below. marks is line below;
      lines = λ a j line span lives not of below. subst (λ i. line_marked (st new) i line ≡ line_marked (st old) i line) (sym (one-block j of))
          (plain-line not line below ∙ sweep.lines a line (in-block a span) lives below);
    }

    abbrev OfSpan : ℕ → Type 0
    OfSpan i = (j : ℕ) × IsOfSpan (st old) k j × IsMetadata b j i

    rest : ChangesOnly OfSpan (st old) (st new)
    rest = changes-both OfSpan (st old) (st mid) (st new)
        (changes-more (IsMetadata b k) OfSpan (st old) (st mid) (λ i word. (k, inl refl, word)) sweep.rest)
        (changes-more Beside OfSpan (st mid) (st new) (λ i word. (k, inl refl, elim word as (λ _. IsMetadata b k i) [ inl line ↦ inl (inr line) | inr bit ↦ inr (inr (inr bit)) ])) after-sweep)

    pub small : (HasKind (st old) k kinds.LargeTail → ⊥) → Releases r c base (st old) (st new) k
    small not-tail = subst (λ t. ReleasesIf t r c base (st old) (st new) k) (sym (elim (cases_Bool (has_kind (st old) k kinds.LargeTail)) as (λ _. has_kind (st old) k kinds.LargeTail ≡ false) [ inl is ↦ absurd (not-tail is) | inr is ↦ is ]))
        (record { released = released; rest = rest })

  -- no object lives, so none is held after, and what a release says of living ones is void
  module _ (r : Rules) (c : Collect) (base k : ℕ) (old new : List ℕ) (not-tail : HasKind (st old) k kinds.LargeTail → ⊥)
      (none : HasNoLiving base (st old) (InSpan (st old) k)) (held : (a : ℕ) → InSpan (st old) k a → IsHeld (st new) a ↔ Lives base (st old) a)
      (pins : (a : ℕ) → InSpan (st old) k a → is_pinned (st new) a ≡ (is_pinned (st old) a && is_start (st new) a))
      (unlogs : (a : ℕ) → InSpan (st old) k a → is_unlogged (st new) a ≡ (is_unlogged (st old) a && is_start (st new) a))
      (freed : (j : ℕ) → IsOfSpan (st old) k j → IsFreed (st new) j) where
    no-start : (a : ℕ) → InSpan (st old) k a → is_start (st new) a ≡ false
    no-start a span = elim (cases_Bool (is_start (st new) a)) as (λ _. is_start (st new) a ≡ false) [
      | inl set ↦ absurd (none a span ((held a span).0 (record { address = span.address; start = set })))
      | inr clear ↦ clear
    ]

    void-released : IsReleased r c base (st old) (st new) k
    void-released = record {
      held = held;
      pins = pins;
      unlogs = λ a span. unlogs a span ∙ ap (λ t. is_unlogged (st old) a && t) (no-start a span) ∙ and-false (is_unlogged (st old) a) false refl ∙ sym (no-start a span);
      empty = λ dead j span. freed j span;
      word = λ a span lives. absurd (none a span lives);
      tails = λ a j span lives of other. absurd (none a span lives);
      touched = λ a line span lives is below. absurd (none a span lives);
      lines = λ a j line span lives not of below. absurd (none a span lives);
    }

    pub void : ChangesOnly (λ i. (j : ℕ) × IsOfSpan (st old) k j × IsMetadata b j i) (st old) (st new) → Releases r c base (st old) (st new) k
    void rest = subst (λ t. ReleasesIf t r c base (st old) (st new) k) (sym (elim (cases_Bool (has_kind (st old) k kinds.LargeTail)) as (λ _. has_kind (st old) k kinds.LargeTail ≡ false) [ inl is ↦ absurd (not-tail is) | inr is ↦ is ]))
        (record { released = void-released; rest = rest })

  -- a swept block in which nothing lives
  pub empty : (r : Rules) (c : Collect) (base after k : ℕ) (old new : List ℕ) → (HasKind (st old) k kinds.LargeHead → ⊥) → (HasKind (st old) k kinds.LargeTail → ⊥)
      → HasNoLiving base (st old) (InBlock (st old) k) → Sweeps base after (st old) (st new) k → Releases r c base (st old) (st new) k
  empty r c base after k old new not-head not-tail none sweep =
      let here : (a : ℕ) → InSpan (st old) k a → InBlock (st old) k a = λ a span. record { address = span.address; block = elim span.block as (λ _. block_at b a ≡ k) [ inl is ↦ is | inr run ↦ absurd (not-head run.0) ] } in
      void r c base k old new not-tail (λ a span lives. none a (here a span) lives) (λ a span. sweep.objects.held a (here a span)) (λ a span. sweep.objects.pins a (here a span)) (λ a span. sweep.objects.unlogs a (here a span))
      (λ j span. elim span as (λ _. IsFreed (st new) j) [ inl is ↦ subst (IsFreed (st new)) (sym is) (sweep.empty none) | inr run ↦ absurd (not-head run.0) ])
      (changes-more (IsMetadata b k) (λ i. (j : ℕ) × IsOfSpan (st old) k j × IsMetadata b j i) (st old) (st new) (λ i word. (k, inl refl, word)) sweep.rest)

  -- a Free block
  pub free : (r : Rules) (c : Collect) (base k : ℕ) (old : List ℕ) → IsReleasable (st old) k → HasKind (st old) k kinds.Free → Releases r c base (st old) (st old) k
  free r c base k old ready is =
      let not : (kind : Kind) → nat_eq (kind_code kinds.Free) (kind_code kind) ≡ false → HasKind (st old) k kind → ⊥ = λ kind differ is'. kind-kept (st old) k kinds.Free kind is is' differ in
      let here : (a : ℕ) → InSpan (st old) k a → block_at b a ≡ k = λ a span. elim span.block as (λ _. block_at b a ≡ k) [ inl at ↦ at | inr run ↦ absurd (not kinds.LargeHead refl run.0) ] in
      let clear : (a : ℕ) → InSpan (st old) k a → IsTrue (is_start (st old) a || is_pinned (st old) a || is_unlogged (st old) a) → ⊥ = λ a span set. ready.bits is a (here a span) set in
      let start : (a : ℕ) → InSpan (st old) k a → IsTrue (is_start (st old) a) → ⊥ = λ a span set. clear a span (or_left _ _ (or_left _ _ set)) in
      let pin : (a : ℕ) → InSpan (st old) k a → is_pinned (st old) a ≡ false = λ a span. elim (cases_Bool (is_pinned (st old) a)) as (λ _. is_pinned (st old) a ≡ false) [ inl set ↦ absurd (clear a span (or_left _ _ (or-right _ _ set))) | inr none ↦ none ] in
      let unlog : (a : ℕ) → InSpan (st old) k a → is_unlogged (st old) a ≡ false = λ a span. elim (cases_Bool (is_unlogged (st old) a)) as (λ _. is_unlogged (st old) a ≡ false) [ inl set ↦ absurd (clear a span (or-right _ _ set)) | inr none ↦ none ] in
      void r c base k old old (not kinds.LargeTail refl) (λ a span lives. start a span lives.held.start)
      (λ a span. ((λ h. absurd (start a span h.start)), (λ lives. lives.held)))
      (λ a span. pin a span ∙ sym (ap (λ t. t && is_start (st old) a) (pin a span)))
      (λ a span. unlog a span ∙ sym (ap (λ t. t && is_start (st old) a) (unlog a span)))
      (λ j span. elim span as (λ _. IsFreed (st old) j) [
        | inl at ↦ subst (IsFreed (st old)) (sym at) (record {
          word = free-code (block_word (st old) k) ready.code (kind-code (st old) k kinds.Free is);
          lines = λ line below. elim (cases_Bool (line_marked (st old) k line)) as (λ _. line_marked (st old) k line ≡ false) [ inl set ↦ absurd (ready.lines is line below set) | inr none ↦ none ];
        })
        | inr run ↦ absurd (not kinds.LargeHead refl run.0)
      ])
      (record { blocks = refl; extent = refl; others = λ i outside. refl; fit = λ fits. fits })

  pub tail : (r : Rules) (c : Collect) (base k : ℕ) (old : List ℕ) → HasKind (st old) k kinds.LargeTail → Releases r c base (st old) (st old) k
  tail r c base k old is = subst (λ t. ReleasesIf t r c base (st old) (st old) k) (sym is) (refl, refl)

  -- a large run whose object does not live
  pub freed-run : (r : Rules) (c : Collect) (base k : ℕ) (old new : List ℕ) → (HasKind (st old) k kinds.LargeTail → ⊥) → HasNoLiving base (st old) (InSpan (st old) k)
      → SweepsRun base (st old) (st new) k → Releases r c base (st old) (st new) k
  freed-run r c base k old new not-tail none sweep = void r c base k old new not-tail none sweep.objects.held sweep.objects.pins sweep.objects.unlogs (sweep.empty none) sweep.rest

  -- a large run whose object lives
  module _ (r : Rules) (c : Collect) (base k a : ℕ) (old mid new : List ℕ) (ready : IsReleasable (st old) k) (head : HasKind (st old) k kinds.LargeHead)
      (span : InSpan (st old) k a) (lives : Lives base (st old) a) (sweep : SweepsRun base (st old) (st mid) k) (unlog : Unlogs (st mid) (st new) k) where
    same-words : mid ≡ old
    same-words = sweep.living a span lives

    from-old : Unlogs (st old) (st new) k
    from-old = subst (λ w. Unlogs (st w) (st new) k) same-words unlog

    unlog-only : ChangesOnly (λ i. IsLineWord b k i ⊎ IsUnlogWord b k i) (st old) (st new)
    unlog-only = changes-more (IsUnlogWord b k) (λ i. IsLineWord b k i ⊎ IsUnlogWord b k i) (st old) (st new) (λ i word. inr word) from-old.rest

    inside : k < b
    inside = there (st old) k ready head

    run-start : (x : ℕ) → IsAddress b x → is_start (st new) x ≡ is_start (st old) x
    run-start = start-stays k inside old new unlog-only

    object-at : a ≡ block_start b k
    object-at = only-object (st old) k ready head a span lives.held

    lives-here : (x : ℕ) → InSpan (st old) k x → IsHeld (st old) x → Lives base (st old) x
    lives-here x span' held = subst (Lives base (st old)) (object-at ∙ sym (only-object (st old) k ready head x span' held)) lives

    -- the unlog bits of the run's later blocks are clear, as their start bits are
    later-unlog : (x : ℕ) → InSpan (st old) k x → k < block_at b x → is_unlogged (st new) x ≡ is_start (st new) x
    later-unlog x span' after =
        let other : x ≢ block_start b k = λ is. (let at : block_at b (block_start b k) ≡ k = omega arith in let here : block_at b x ≡ k = ap (block_at b) is ∙ at in omega arith) in
        let from = span'.address.from in
        let unlogs : is_unlogged (st new) x ≡ is_unlogged (st old) x = bit-same b UnlogBits old new x (from-old.rest.others _ (λ word. let last = word.below in omega arith)) in
        unlogs ∙ no-unlog (st old) k ready head x span' other ∙ sym (run-start x span'.address ∙ no-run-start (st old) k ready head x span' other)

    run-unlogs : (x : ℕ) → InSpan (st old) k x → is_unlogged (st new) x ≡ is_start (st new) x
    run-unlogs x span' = elim span'.block as (λ _. is_unlogged (st new) x ≡ is_start (st new) x) [
      | inl at ↦ from-old.unlogs x (record { address = span'.address; block = at }) ∙ sym (run-start x span'.address)
      | inr later ↦ later-unlog x span' later.1
    ]

    run-word : (j : ℕ) → j < b → block_word (st new) j ≡ block_word (st old) j
    run-word = word-stays k inside old new unlog-only

    of-span : (j : ℕ) → IsOfSpan (st old) k j → j < b
    of-span j of = (let last = last-inside (st old) k ready head in elim of as (λ _. j < b) [ inl at ↦ omega (arith, inside) | inr later ↦ (let below = later.2 in omega arith) ])

    run-line : (j line : ℕ) → j < b → line < 256 → line_marked (st new) j line ≡ line_marked (st old) j line
    run-line j line below few = ap (λ n. nat_eq (bit_at n ((256 * j + line) % 64)) 1) (from-old.rest.others (first b LineWords + (256 * j + line) / 64) (λ word. let x = word.after in omega arith))

    head-word : block_word (st old) k ≡ word_after r c (st old) k
    head-word =
        let none : is_kept_after r c (st old) k ≡ false = not-kept r c (st old) k (λ kept from. other-kind (st old) k kinds.LargeHead refl refl refl refl head kept) in
        sym (ap (λ t. if t then kind_code kinds.Kept else block_word (st old) k % 65536) none ∙ head-code (block_word (st old) k) ready.code (kind-code (st old) k kinds.LargeHead head))

    run-released : IsReleased r c base (st old) (st new) k
    run-released = record {
      held = λ x span'. (
        (λ h. lives-here x span' (record { address = h.address; start = sym (run-start x h.address) ∙ h.start })),
        (λ l. record { address = l.held.address; start = run-start x l.held.address ∙ l.held.start }),
      );
      pins = λ x span'. pin-stays k inside old new unlog-only x span'.address ∙ pin-held (st old) k ready head x span' ∙ ap (λ t. is_pinned (st old) x && t) (sym (run-start x span'.address));
      unlogs = run-unlogs;
      empty = λ none j of. absurd (none a span lives);
      word = λ x span' l. run-word k inside ∙ head-word;
      tails = λ x j span' l of other. run-word j (of-span j of);
      touched = λ x line span' l is few. absurd (kind-kept (st old) k kinds.LargeHead kinds.Immix head is refl);
      lines = λ x j line span' l not of few. run-line j line (of-span j of) few;
    }

    pub living-run : Releases r c base (st old) (st new) k
    living-run = subst (λ t. ReleasesIf t r c base (st old) (st new) k) (sym (elim (cases_Bool (has_kind (st old) k kinds.LargeTail)) as (λ _. has_kind (st old) k kinds.LargeTail ≡ false) [
      | inl is ↦ absurd (kind-kept (st old) k kinds.LargeHead kinds.LargeTail head is refl)
      | inr is ↦ is
    ]))
        (record { released = run-released; rest = changes-more (IsUnlogWord b k) (λ i. (j : ℕ) × IsOfSpan (st old) k j × IsMetadata b j i) (st old) (st new) (λ i word. (k, inl refl, inr (inr (inr word)))) from-old.rest })
