-- A finished trace and the release of its blocks make a collection.
use Rattle.std.proofs.Common.{◌≡◌, refl, sym, ◌∙◌, ap, ap₂, subst, ℕ, ◌+◌, ◌*◌, ◌-◌, ◌/◌, ◌<◌, ◌≤◌, inl, inr, lit<, arith, Bool, true, false, List, map, length, true≢false, IsTrue}
use Rattle.std.specs.Prelude.{◌&&◌, not, nat_eq, nat_lt, count_by}
use Rattle.std.specs.List.{range_with_len}
use Rattle.std.proofs.lemmas.Bool.{cases_Bool, and_left, and_from, and_parts, ltb-true, eqb-true, eq-eqb, false_from_ne_true}
use Rattle.heap_layout.specs.Zones.{row_words, IsAddress}
use Rattle.object_model.specs.Lawful.{LineBitsAreExact}
use Rattle.object_model.proofs.Marks as marks
use Rattle.object_model.specs.Heaps.{heap_state}
use Rattle.object_model.specs.Counting.{kind_count}
use Rattle.object_model.specs.Objects.{HeapState, state_of, block_word, IsHeld, size_at, block_count, has_kind, HasKind}
use Rattle.object_model.specs.declared.collect.Collect.{Collect}
use Rattle.object_model.specs.declared.collect.Collect.TheVariants.{Nursery, Full}
use Rattle.object_model.specs.Ages as ages
use Rattle.sessions.specs.Plans.{Rules, Plan, rules_of, Copies}
use Rattle.sessions.specs.Fitting.{used_of}
use Rattle.trace_core.specs.Setups.{Setup, blocks, held, size, stays_old}
use Rattle.trace_core.specs.Machine.{Event, Machine, address_or_nil}
use Rattle.trace_core.specs.Traces.{machine_after, heap_after, stage_of}
use Rattle.trace_core.specs.Outcomes.{image}
use Rattle.object_model.specs.Times.{one_if, times}
use Rattle.trace_core.specs.Runs.{MayRun, setup_of, is_nursery, without_lines}
use Rattle.trace_core.specs.declared.run.TraceRun.{TraceRun}
use Rattle.trace_core.proofs.Begun.{begun-lines, by-begun, by-kind, keeps-objects, listed-held}
use Rattle.trace_core.proofs.SetUnlogs as sets
use Rattle.trace_core.proofs.SameObjects as objects
use Rattle.forward_word.specs.CollectorWords.{is_old_word}
use Rattle.trace_core.proofs.WithoutLines as lines
use Rattle.trace_core.specs.Rooms.{IsFilled}
use Rattle.trace_core.proofs.Clauses.{held-of, old-target}
use Rattle.trace_core.proofs.Finished.{has-target}
use Rattle.block_release.specs.Knowing.{IsRunUnder, IsTracedUnder}
use Rattle.block_release.specs.Released.{ReleasesBelow, with_numbers, LinesOfTargetsAreMarked, LinesOfClaimedAreMarked}
use Rattle.collector.specs.Collected.{FillsInTurn, EvacuatesAll, LeavesFewBlocks}
use Rattle.racing_collector.specs.Together.{is_claimed}
use Rattle.collector.specs.Finished.{IsFinishedTrace}
use Rattle.racing_collector.specs.Together.{total}
use Rattle.collector.specs.Tallies.{is_counted, IsNote}
use Rattle.racing_collector.specs.declared.together.TracedTogether.{TracedTogether}
use Rattle.collector.specs.declared.worker.TracingStart.{TracingStart}
use Rattle.trace_core.proofs.Rows.{row}
use Rattle.object_model.specs.declared.heap.Heap.{Heap}
use Rattle.heap_layout.specs.declared.block.Kind.TheVariants as kinds
use Rattle.sessions.specs.Collecting.{Collects, BlockAfter}
use Rattle.collector.specs.declared.outcome.Note.{Note}
use Rattle.collector.proofs.WholeCollections.{CollectsBy, makes, numbered, frees}
use Rattle.collector.proofs.TallySums.{total-same, total-both}
use Rattle.collector.proofs.NumberSums.{sum-most}
use Rattle.collector.proofs.CopiedWords.{is_moved, full-words}
use Rattle.collector.proofs.FewBlocks.{is_left, used-most}
use Rattle.collector.proofs.NextTally.{size-same}

not-false : (b : Bool) → not b ≡ true → b ≡ false
not-false true is = absurd (true≢false (sym is))
not-false false is = refl

-- a listed object has an address
listed : (s : HeapState) (run : TraceRun) → MayRun s run → (x : ℕ) → 0 < times x run.logged.items → IsAddress s.blocks x
listed s run may x some = elim (cases_Bool (is_nursery run.collect)) as (λ _. IsAddress s.blocks x) [
  | inl young ↦ (listed-held s run.logged.items (may.nursery young) x some).address
  | inr full ↦ absurd (let none : times x run.logged.items ≡ 0 = ap (times x) (may.none full) in omega (arith, some, none))
]

module _ (start : TracingStart) (w : ℕ) (t : TracedTogether) (done : IsFinishedTrace (heap_state start.heap) start.run w start.roots.items t) where
  abbrev s : HeapState
  s = heap_state start.heap

  abbrev p : Setup
  p = setup_of s start.run w

  abbrev es : List Event
  es = done.traces.events

  abbrev m : Machine
  m = machine_after p es

  abbrev F : ℕ → ℕ
  F = image (stage_of p es)

  -- the trace began with the block words of the heap
  began-words : (k : ℕ) → k < s.blocks → block_word p.before k ≡ block_word s k
  began-words k there =
      let lawful = start.heap.lawful.but_lines in
      by-begun s start.run (λ h. block_word h k ≡ block_word s k)
      ((keeps-objects (without_lines s) (lines.without_lines-lawful s lawful)).block_words k there ∙ lines.block-same s lawful k there)
      ((keeps-objects s lawful).block_words k there)
      (λ young. sets.word-same s lawful start.run.logged.items (listed-held s start.run.logged.items (done.may.nursery young)) k there)

  -- an object that was held as the trace began is old if it was in the heap
  old-same : IsTrue (is_nursery start.run.collect) → (a : ℕ) → IsHeld p.before a → ages.is_old p.before a ≡ ages.is_old s a
  old-same young = by-kind s start.run (λ h. (a : ℕ) → IsHeld h a → ages.is_old h a ≡ ages.is_old s a)
      (λ none. absurd (true≢false (sym young ∙ none)))
      (λ _. let same = sets.alike s start.heap.lawful.but_lines start.run.logged.items (listed-held s start.run.logged.items (done.may.nursery young)) in
      λ a there. ap (is_old_word s.base) (objects.at s _ same a 2 (objects.held-before s _ same a there)))

  pub traced-under : (r : Rules) → IsRunUnder r start.run.collect s start.run → IsTracedUnder r t.traced.run p
  traced-under r under = record {
    heap = s;
    under = subst (λ (run : TraceRun). IsRunUnder r run.collect s run) (sym done.same) under;
    blocks = (numbered s start.run w done.may p refl).blocks;
    words = began-words;
  }

  -- in a nursery collection what has a target is old if it was
  was-old : IsTrue (is_nursery start.run.collect) → (a : ℕ) → nat_lt 0 (F a) ≡ true → stays_old p a ≡ ages.is_old s a
  was-old young a some =
      let set : held p a ≡ true = held-of p es done.traces.trace a (F a) (has-target p es done.traces.trace done.traces.finished a (ltb-true 0 (F a) some)) in
      ap₂ (λ x y. x && (y && ages.is_old p.before a)) young set ∙ old-same young a (marks.held p.before a set)

  swap : (o t old : Bool) → (t ≡ true → o ≡ old) → (not o && t) ≡ (t && not old)
  swap true true old same = ap not (same refl)
  swap false true old same = ap not (same refl)
  swap true false old same = refl
  swap false false old same = refl

  counted : (c : Collect) → start.run.collect ≡ c → (a : ℕ) → is_claimed p es a ≡ is_counted c s F a
  counted Full is a = ap (λ o. not o && nat_lt 0 (F a)) (and_left p.nursery (held p a && ages.is_old p.before a) (ap is_nursery is))
  counted Nursery is a = swap (stays_old p a) (nat_lt 0 (F a)) (ages.is_old s a) (was-old (ap is_nursery is) a)

  abbrev is_noted : ℕ → Bool
  is_noted a = is_counted start.run.collect s F a

  pub noted : (a : ℕ) → is_claimed p es a ≡ is_noted a
  noted = counted start.run.collect refl

  -- the counts are those of the map
  kept-is : t.tally.kept ≡ total s.blocks (λ a. one_if (is_noted a))
  kept-is = done.traces.counts.kept ∙ total-same s.blocks _ _ (λ a below. ap one_if (noted a))

  pub words-is : t.tally.words ≡ total s.blocks (λ a. one_if (is_noted a) * size_at s a)
  words-is = done.traces.counts.words ∙ total-same s.blocks _ _ (λ a below. ap (λ b. one_if b * size_at s a) (noted a))

  both-one : (t u : Bool) → one_if t * one_if u ≡ one_if (t && u)
  both-one true u = omega arith
  both-one false u = omega arith

  moved-is : t.tally.moved ≡ total s.blocks (λ a. one_if (is_noted a && not (nat_eq (F a) a)))
  moved-is = done.traces.counts.moved ∙ total-same s.blocks _ _ (λ a below. ap (λ b. one_if b * one_if (not (nat_eq (F a) a))) (noted a) ∙ both-one (is_noted a) (not (nat_eq (F a) a)))

  split : (t u : Bool) → one_if (t && u) + one_if (t && not u) ≡ one_if t
  split true true = refl
  split true false = refl
  split false u = refl

  in-place-is : t.tally.kept - t.tally.moved ≡ total s.blocks (λ a. one_if (is_noted a && nat_eq (F a) a))
  in-place-is =
      let f : ℕ → ℕ = λ a. one_if (is_noted a && nat_eq (F a) a) in
      let g : ℕ → ℕ = λ a. one_if (is_noted a && not (nat_eq (F a) a)) in
      let sum : total s.blocks (λ a. f a + g a) ≡ total s.blocks (λ a. one_if (is_noted a)) = total-same s.blocks _ _ (λ a below. split (is_noted a) (nat_eq (F a) a)) in
      let parts : total s.blocks (λ a. f a + g a) ≡ total s.blocks f + total s.blocks g = total-both s.blocks f g in
      omega (arith, kept-is, moved-is, sum, parts)

  blocks-are : blocks p ≡ s.blocks
  blocks-are = (numbered s start.run w done.may p refl).blocks

  -- in a full collection, if the run marks lines, those of each target are marked
  pub marks-lines : t.traced.run.collect ≡ Full → IsTrue t.traced.run.lines → LinesOfTargetsAreMarked p es
  marks-lines full set =
      let whole : start.run.collect ≡ Full = ap (λ (r : TraceRun). r.collect) (sym done.same) ∙ full in
      let on : IsTrue start.run.lines = subst (λ (r : TraceRun). IsTrue r.lines) done.same set in record {
        clear = λ k line there few. begun-lines s start.run start.heap.lawful.but_lines on (ap is_nursery whole) k line (subst (λ b. k < b) blocks-are there) few;
        all = λ x t n is. done.traces.lines on x t n is (and_left p.nursery (held p x && ages.is_old p.before x) (ap is_nursery whole));
      }

  -- in a nursery collection, if the run marks lines, line bits were exact as it began, and those of each claimed object are marked
  pub marks-claimed : t.traced.run.collect ≡ Nursery → IsTrue t.traced.run.lines → LinesOfClaimedAreMarked p es
  marks-claimed nursery set =
      let young : start.run.collect ≡ Nursery = ap (λ (r : TraceRun). r.collect) (sym done.same) ∙ nursery in
      let on : IsTrue start.run.lines = subst (λ (r : TraceRun). IsTrue r.lines) done.same set in record {
        exact = λ k there. by-kind s start.run (λ h. LineBitsAreExact h k) (λ full. absurd (true≢false (sym (ap is_nursery young) ∙ full)))
            (λ is. sets.lines-exact s start.heap.lawful.but_lines start.run.logged.items (listed-held s start.run.logged.items (done.may.nursery is)) k
            (subst (λ b. k < b) blocks-are there) (start.heap.lawful.lines k));
        all = done.traces.lines on;
      }

-- what the blocks' release makes of a finished trace
module _ (q : Plan) (r : Rules) (of : r ≡ rules_of q) (start : TracingStart) (w : ℕ) (t : TracedTogether) (done : IsFinishedTrace (heap_state start.heap) start.run w start.roots.items t)
    (shown : IsRunUnder r start.run.collect (heap_state start.heap) start.run)
    (heap : Heap) (new : HeapState) (below : ReleasesBelow r t.traced.run.collect t.traced.run.base (state_of t.traced.row) new t.traced.row.layout.blocks)
    (after : heap_state heap ≡ with_numbers new t.traced.run.number t.traced.run.base) where
  abbrev h : HeapState
  h = heap_state start.heap

  abbrev setup : Setup
  setup = p start w t done

  abbrev to : ℕ → ℕ
  to = F start w t done

  under : IsRunUnder (rules_of q) start.run.collect h start.run
  under = subst (λ r. IsRunUnder r start.run.collect h start.run) of shown

  same-blocks : t.traced.row.layout.blocks ≡ h.blocks
  same-blocks = ap (λ (x : HeapState). x.blocks) done.traces.row ∙ (row setup done.traces.events done.traces.trace done.traces.finished).layout ∙ blocks-are start w t done

  pub released : ReleasesBelow (rules_of q) start.run.collect start.run.base (heap_after setup done.traces.events) new h.blocks
  released = subst (λ n. ReleasesBelow (rules_of q) start.run.collect start.run.base (heap_after setup done.traces.events) new n) same-blocks
      (subst (λ x. ReleasesBelow (rules_of q) start.run.collect start.run.base x new t.traced.row.layout.blocks) done.traces.row
      (subst (λ (run : TraceRun). ReleasesBelow (rules_of q) run.collect run.base (state_of t.traced.row) new t.traced.row.layout.blocks) done.same
      (subst (λ r. ReleasesBelow r t.traced.run.collect t.traced.run.base (state_of t.traced.row) new t.traced.row.layout.blocks) of below)))

  collected : CollectsBy to (rules_of q) w start.run.collect h start.roots.items (with_numbers new start.run.number start.run.base) (map to start.roots.items)
  collected = makes q start.run.collect h start.run w start.heap.lawful done.may under setup refl done.traces.events
      start.roots.items new done.traces.trace done.traces.finished done.traces.asked done.traces.no_others done.traces.fills released

  pub made : CollectsBy to r w start.run.collect h start.roots.items (heap_state heap) t.roots.items
  made = subst (λ l. CollectsBy to r w start.run.collect h start.roots.items (heap_state heap) l) (sym done.traces.targets)
      (subst (λ x. CollectsBy to r w start.run.collect h start.roots.items x (map to start.roots.items)) (sym (after ∙ ap (λ (run : TraceRun). with_numbers new run.number run.base) done.same))
      (subst (λ r. CollectsBy to r w start.run.collect h start.roots.items (with_numbers new start.run.number start.run.base) (map to start.roots.items)) (sym of) collected))

  -- an object that moved is counted, with its words
  moved-weight : (x : ℕ) → one_if (is_moved setup done.traces.events done.traces.trace x) * size setup x ≤ one_if (is_counted start.run.collect h to x) * size_at h x
  moved-weight x = elim (cases_Bool (is_moved setup done.traces.events done.traces.trace x)) as (λ _. one_if (is_moved setup done.traces.events done.traces.trace x) * size setup x ≤ one_if (is_counted start.run.collect h to x) * size_at h x) [
    | inl moved ↦ (let parts = and_parts (nat_lt 0 (to x)) (not (nat_eq (to x) x)) moved in
        let target = has-target setup done.traces.events done.traces.trace done.traces.finished x (ltb-true 0 (to x) parts.0) in
        let there : IsHeld setup.before x = marks.held setup.before x (held-of setup done.traces.events done.traces.trace x (to x) target) in
        let young : stays_old setup x ≡ false = false_from_ne_true (stays_old setup x) (λ aged.
        true≢false (sym (eq-eqb (to x) x (ap address_or_nil (old-target setup done.traces.events done.traces.trace x aged))) ∙ not-false (nat_eq (to x) x) parts.1)) in
        let claimed : is_claimed setup done.traces.events x ≡ true = and_from (not (stays_old setup x)) (nat_lt 0 (to x)) (ap not young) parts.0 in
        let left : one_if (is_moved setup done.traces.events done.traces.trace x) * size setup x ≡ 1 * size setup x = ap (λ b. one_if b * size setup x) moved in
        let right : one_if (is_counted start.run.collect h to x) * size_at h x ≡ 1 * size_at h x = ap (λ b. one_if b * size_at h x) (sym (noted start w t done x) ∙ claimed) in
        let same : size setup x ≡ size_at h x = size-same h start.run start.heap.lawful.but_lines (listed h start.run done.may) x there in
        omega arith)
    | inr none ↦ (let zero : one_if (is_moved setup done.traces.events done.traces.trace x) * size setup x ≡ 0 * size setup x = ap (λ b. one_if b * size setup x) none in omega arith)
  ]

  -- the blocks in use are few, if each was Free, large or evacuated
  module _ (copies : r.reserve ≡ Copies) (each : EvacuatesAll r start.run.collect h) where
    abbrev now : HeapState
    now = heap_state heap

    abbrev taken : ℕ → ℕ
    taken = (machine_after setup done.traces.events).taken

    abbrev last : List ℕ
    last = done.traces.fills.last

    -- a block that a worker left has more than 2,048 words of targets
    filled : (k : ℕ) → IsTrue (is_left taken last k) → (n : ℕ) × (2048 < n) × IsFilled setup (machine_after setup done.traces.events) k n
    filled k is =
        let both = and_parts (nat_lt 0 (taken k)) (nat_eq (times k last) 0) is in
        elim (done.traces.fills.full k (ltb-true 0 (taken k) both.0)) as (λ _. (n : ℕ) × (2048 < n) × IsFilled setup (machine_after setup done.traces.events) k n) [
          | inl among ↦ absurd (let none : times k last ≡ 0 = eqb-true (times k last) 0 both.1 in omega (arith, among, none))
          | inr full ↦ (2049, lit< tt, full)
        ]

    few : used_of now ≤ t.tally.words / 2048 + w + kind_count now kinds.Kept
    few =
        let same : now.blocks ≡ h.blocks = made.0.layout in
        let count : ℕ = count_by (is_left taken last) (range_with_len 0 h.blocks) in
        let used : used_of now ≤ count_by (is_left taken last) (range_with_len 0 now.blocks) + (length last + kind_count now kinds.Kept)
        = used-most q (ap (λ (x : Rules). x.reserve) (sym of) ∙ copies) start.run.collect h now same (subst (λ (x : Rules). (k : ℕ) → k < h.blocks → BlockAfter x start.run.collect h now k) of made.0.block)
        (subst (λ (x : Rules). EvacuatesAll x start.run.collect h) of each) taken
        (λ k free none. free-now k (frees q start.run.collect h start.run w start.heap.lawful done.may under setup refl done.traces.events new done.traces.trace done.traces.finished released k free none)) last in
        let as-many : count_by (is_left taken last) (range_with_len 0 now.blocks) ≡ count = ap (λ b. count_by (is_left taken last) (range_with_len 0 b)) same in
        let half : 2049 * count ≤ total h.blocks (λ x. one_if (is_moved setup done.traces.events done.traces.trace x) * size setup x)
        = subst (λ b. 2049 * count_by (is_left taken last) (range_with_len 0 b) ≤ total b (λ x. one_if (is_moved setup done.traces.events done.traces.trace x) * size setup x)) (blocks-are start w t done)
        (full-words setup done.traces.events done.traces.trace (is_left taken last) filled) in
        let most : total h.blocks (λ x. one_if (is_moved setup done.traces.events done.traces.trace x) * size setup x) ≤ total h.blocks (λ x. one_if (is_counted start.run.collect h to x) * size_at h x)
        = sum-most (λ x. one_if (is_moved setup done.traces.events done.traces.trace x) * size setup x) (λ x. one_if (is_counted start.run.collect h to x) * size_at h x) 0 (row_words h.blocks) (λ x _ _. moved-weight x) in
        let words : t.tally.words ≡ total h.blocks (λ x. one_if (is_counted start.run.collect h to x) * size_at h x) = words-is start w t done in
        let workers : length last ≤ w = done.traces.fills.few in
        omega (arith, used, as-many, half, most, words, workers)
      where
        free-now : (k : ℕ) → HasKind new k kinds.Free → HasKind now k kinds.Free
        free-now k free = subst (λ (x : HeapState). HasKind x k kinds.Free) (sym after) free

  pub finishes : (note : Note) → note.collect ≡ t.traced.run.collect → note.kept ≡ t.tally.kept → note.moved ≡ t.tally.moved → note.in_place ≡ t.tally.kept - t.tally.moved
      → note.kept_words ≡ t.tally.words → note.free_blocks ≡ block_count (heap_state heap) (λ k. has_kind (heap_state heap) k kinds.Free)
      → (made : Collects r w start.run.collect h start.roots.items (heap_state heap) t.roots.items) × IsNote start.run.collect h made.target (heap_state heap) note
      × (w ≡ 1 → FillsInTurn h made.target) × LeavesFewBlocks r w start.run.collect h (heap_state heap) note
  finishes note collect kept moved in-place words free = (
    made.0,
    subst (λ f. IsNote start.run.collect h f (heap_state heap) note) (sym made.1) (record {
      collect = collect ∙ ap (λ (run : TraceRun). run.collect) done.same;
      kept = kept ∙ kept-is start w t done;
      moved = moved ∙ moved-is start w t done;
      in_place = in-place ∙ in-place-is start w t done;
      words = words ∙ words-is start w t done;
      free = free;
    }),
    λ one. subst (FillsInTurn h) (sym made.1) (done.turns one),
    λ copies each. subst (λ n. used_of (heap_state heap) ≤ n / 2048 + w + kind_count (heap_state heap) kinds.Kept) (sym words) (few copies each),
  )
