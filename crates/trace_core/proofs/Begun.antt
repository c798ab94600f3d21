-- The heap as a trace begins: lawful but for lines, with the objects of the heap that was given.
use Rattle.std.proofs.Common.{◌≡◌, ℕ, ◌+◌, ◌*◌, ◌-◌, ◌/◌, ◌%◌, ◌^◌, ◌<◌, ◌≤◌, inl, inr, Bool, true, false, true≢false, not, IsTrue, nat_eq, nat_le, nat_lt, ◌&&◌, List, [], length, slice_index, sym, ap, ◌∙◌, subst, arith, refl, lit<}
use Rattle.std.specs.Prelude.{if◌then◌else◌}
use Rattle.std.specs.Int.{bit_at}
use Rattle.std.proofs.Math.Nat.{zero-div, zero-mod}
use Rattle.std.proofs.lemmas.Bool.{cases_Bool, cases_lt, cond-true, cond-false, and_from, and_left, and_parts, and_right, false_from_ne_true, not-true, not_from_false, or_left, or_right}
use Rattle.heap_layout.specs.Zones.{Zone, Globals, BlockWords, LineWords, StartBits, PinBits, UnlogBits, first, heap_of, row_words, IsAddress, address_bit, bit_of}
use Rattle.forward_word.specs.CollectorWords.{is_old_word}
use Rattle.object_model.specs.Ages as ages
use Rattle.object_model.specs.Ages.{RemembersYoung, ListsLogged}
use Rattle.object_model.specs.Times.{one_if, times}
use Rattle.object_model.specs.Objects.{HeapState, with_words, word_at, global_at, line_marked, is_pinned, is_start, is_unlogged, IsHeld, is_reference, ref_at, refs_at}
use Rattle.object_model.specs.Lawful.{IsLawfulButLines, IsRefField, IsRoot}
use Rattle.object_model.specs.Changes.{ObjectsStay}
use Rattle.object_model.proofs.Frames as frames
use Rattle.object_model.proofs.Marks.{held, mark-same}
use Rattle.heap_layout.proofs.MarkLemmas.{is-address_from_mark}
use Rattle.heap_layout.specs.Blocks.{is_block_code}
use Rattle.heap_layout.specs.declared.block.Kind.TheVariants as kinds
use Rattle.object_model.proofs.OneKind.{kind-within}
use Rattle.object_model.proofs.Blocks as blocks
use Rattle.trace_core.specs.declared.run.TraceRun.{TraceRun}
use Rattle.trace_core.specs.Setups.{refs, stays_old, keeps_its_words, was_logged}
use Rattle.trace_core.specs.Runs.{zeroed, is_nursery, without_lines, without_unlogs, set_unlogs, with_unlogs, begun, setup_of}
use Rattle.trace_core.proofs.Idle.{one-if-from, one-if-true}
use Rattle.trace_core.proofs.SameObjects.{SameObjects, held-after, at, refs-same, ref-same}
use Rattle.trace_core.proofs.SetUnlogs.{sets, alike, with_unlogs-lawful}
use Rattle.trace_core.proofs.WithoutLines as lines

-- with all unlog bits clear
module _ (s : HeapState) (lawful : IsLawfulButLines s) where
  abbrev w : List ℕ
  w = zeroed s.words (first s.blocks UnlogBits) (64 * s.blocks)

  abbrev cleared : HeapState
  cleared = with_words s w

  inside : first s.blocks UnlogBits + 64 * s.blocks ≤ length s.words
  inside = let long : length s.words ≡ row_words s.blocks = lawful.order.row.extent in omega arith

  pub below-unlogs : (i : ℕ) → i < first s.blocks UnlogBits → word_at (without_unlogs s) i ≡ word_at s i
  below-unlogs i below = lines.zeroed-before s.words (first s.blocks UnlogBits) (64 * s.blocks) inside i below

  pub above-unlogs : (i : ℕ) → heap_of s.blocks ≤ i → word_at (without_unlogs s) i ≡ word_at s i
  above-unlogs i from = lines.zeroed-beyond s.words (first s.blocks UnlogBits) (64 * s.blocks) inside i (omega arith)

  bit-below : (z : Zone) (k : ℕ) → first s.blocks z + k / 64 < first s.blocks UnlogBits → bit_of s.blocks z w k ≡ bit_of s.blocks z s.words k
  bit-below z k below = ap (λ word. nat_eq (bit_at word (k % 64)) 1) (below-unlogs (first s.blocks z + k / 64) below)

  mark-below : (z : Zone) (x : ℕ) → first s.blocks z + 64 * s.blocks ≤ first s.blocks UnlogBits → address_bit s.blocks z w x ≡ address_bit s.blocks z s.words x
  mark-below z x below = mark-same s.blocks z s.words w x (λ there. bit-below z (x - heap_of s.blocks)
      (let from : heap_of s.blocks ≤ x = there.from in let end : x < row_words s.blocks = there.below in omega arith))

  -- no unlog bit is set
  pub no-unlogs : (x : ℕ) → IsTrue (is_unlogged (without_unlogs s) x) → ⊥
  no-unlogs x set =
      let there : IsAddress s.blocks x = is-address_from_mark s.blocks UnlogBits w x set in
      let from : heap_of s.blocks ≤ x = there.from in
      let end : x < row_words s.blocks = there.below in
      let k : ℕ = x - heap_of s.blocks in
      let zero : slice_index w (first s.blocks UnlogBits + k / 64) ≡ 0 = lines.zeroed-inside s.words (first s.blocks UnlogBits) (64 * s.blocks) inside
      (first s.blocks UnlogBits + k / 64) (omega arith) (omega arith) in
      let none : bit_of s.blocks UnlogBits w k ≡ false = ap (λ v. nat_eq (bit_at v (k % 64)) 1) zero
      ∙ ap (λ v. nat_eq v 1) (ap (λ v. v % 2) (zero-div (2 ^ (k % 64))) ∙ zero-mod 2) in
      true≢false (sym set ∙ and_right (nat_le (heap_of s.blocks) x && nat_lt x (row_words s.blocks)) (bit_of s.blocks UnlogBits w k) none)

  pub keeps-objects : ObjectsStay s (without_unlogs s)
  keeps-objects = record {
    blocks = refl;
    number = refl;
    base = refl;
    extent = lines.zeroed-length s.words (first s.blocks UnlogBits) (64 * s.blocks) inside;
    starts = λ x. mark-below StartBits x (omega arith);
    unlogs = λ x set. absurd (no-unlogs x set);
    lines = λ k line there few. bit-below LineWords (256 * k + line) (omega arith);
    block_words = λ k there. below-unlogs (first s.blocks BlockWords + k) (omega arith);
    headers = λ x i holds few. above-unlogs (x + i) (let from : heap_of s.blocks ≤ x = holds.address.from in omega arith);
  }

  pub pins-same : (x : ℕ) → is_pinned (without_unlogs s) x ≡ is_pinned s x
  pins-same x = mark-below PinBits x (omega arith)

  pub globals-same : (g : ℕ) → g < 16 → global_at (without_unlogs s) g ≡ global_at s g
  globals-same g few = below-unlogs (first s.blocks Globals + g) (omega arith)

  fits : (i : ℕ) → word_at cleared i < 2 ^ 64
  fits i = elim (cases_lt i (first s.blocks UnlogBits)) as (λ _. word_at cleared i < 2 ^ 64) [
    | inl below ↦ subst (λ (v : ℕ). v < 2 ^ 64) (sym (below-unlogs i below)) (lawful.order.row.words i)
    | inr from ↦ elim (cases_lt i (first s.blocks UnlogBits + 64 * s.blocks)) as (λ _. word_at cleared i < 2 ^ 64) [
      | inl within ↦ subst (λ (v : ℕ). v < 2 ^ 64) (sym (lines.zeroed-inside s.words (first s.blocks UnlogBits) (64 * s.blocks) inside i from within)) (lit< tt)
      | inr above ↦ subst (λ (v : ℕ). v < 2 ^ 64) (sym (above-unlogs i (omega arith))) (lawful.order.row.words i)
    ]
  ]

  pinned-held : (x : ℕ) → IsTrue (is_pinned cleared x) → IsHeld s x
  pinned-held x pin = lawful.order.objects.marks x (or_left (is_pinned s x) (is_unlogged s x) (sym (pins-same x) ∙ pin))

  pub without_unlogs-lawful : IsLawfulButLines (without_unlogs s)
  without_unlogs-lawful = record {
    order = frames.orderly-after s w keeps-objects lawful.order fits pinned-held
        (λ x i there less. subst (IsRefField s) (sym (above-unlogs (x + 3 + i) (let from : heap_of s.blocks ≤ x = there.address.from in omega arith))) (lawful.order.objects.references x i there less))
        (λ g few. subst (IsRoot s) (sym (globals-same g few)) (lawful.order.objects.globals g few));
    blocks = λ k there. let old = lawful.blocks k there in record {
      code = subst (λ v. IsTrue (is_block_code v)) (sym (keeps-objects.block_words k there)) old.code;
      owner = ap (λ v. v / 65536) (keeps-objects.block_words k there) ∙ old.owner;
    };
    free = λ k now. let free = sym (frames.has_kind-same s w keeps-objects.block_words k kinds.Free) ∙ now in
        frames.clear-after s w keeps-objects pinned-held k (kind-within s k kinds.Free free) (lawful.free k free);
  }

-- what is so of a heap without unlog bits, and of one with those of the logged objects set, is so as a trace begins
pub by-kind : (s : HeapState) (run : TraceRun) (P : HeapState → Type 0)
    → (is_nursery run.collect ≡ false → P (without_unlogs (if run.lines then without_lines s else s)))
    → (IsTrue (is_nursery run.collect) → P (with_unlogs s run.logged.items)) → P (begun s run)
by-kind s run P full nursery = elim (cases_Bool (is_nursery run.collect)) as (λ _. P (begun s run)) [
  | inl young ↦ subst P (sym (cond-true (is_nursery run.collect) (with_unlogs s run.logged.items) (without_unlogs (if run.lines then without_lines s else s)) young)) (nursery young)
  | inr none ↦ subst P (sym (cond-false (is_nursery run.collect) (with_unlogs s run.logged.items) (without_unlogs (if run.lines then without_lines s else s)) none)) (full none)
]

-- with line bits and without
pub by-begun : (s : HeapState) (run : TraceRun) (P : HeapState → Type 0) → P (without_unlogs (without_lines s)) → P (without_unlogs s)
    → (IsTrue (is_nursery run.collect) → P (with_unlogs s run.logged.items)) → P (begun s run)
by-begun s run P cleared unlogs nursery = by-kind s run P
    (λ full. elim (cases_Bool run.lines) as (λ _. P (without_unlogs (if run.lines then without_lines s else s))) [
      | inl has ↦ subst (λ h. P (without_unlogs h)) (sym (cond-true run.lines (without_lines s) s has)) cleared
      | inr none ↦ subst (λ h. P (without_unlogs h)) (sym (cond-false run.lines (without_lines s) s none)) unlogs
    ])
    nursery

-- the list of logged objects, if it is a nursery collection
abbrev pub HasList : HeapState → TraceRun → Type 0
HasList s run = IsTrue (is_nursery run.collect) → ListsLogged s run.logged.items

logged-parts : (s : HeapState) (l : List ℕ) → ListsLogged s l → (x : ℕ) → 0 < times x l → IsHeld s x × IsTrue (ages.is_old s x)
logged-parts s l lists x some =
    let is : IsTrue (ages.is_logged s x) = one-if-from (ages.is_logged s x) (subst (λ n. 0 < n) (lists.all x) some) in
    let both = and_parts (is_start s x) (ages.is_old s x) (and_parts (is_start s x && ages.is_old s x) (not (is_unlogged s x)) is).0 in
    (held s x both.0, both.1)

pub listed-held : (s : HeapState) (l : List ℕ) → ListsLogged s l → (x : ℕ) → 0 < times x l → IsHeld s x
listed-held s l lists x some = (logged-parts s l lists x some).0

pub begun-lawful : (s : HeapState) (run : TraceRun) → IsLawfulButLines s → HasList s run → IsLawfulButLines (begun s run)
begun-lawful s run lawful lists = by-begun s run IsLawfulButLines
    (without_unlogs-lawful (without_lines s) (lines.without_lines-lawful s lawful)) (without_unlogs-lawful s lawful)
    (λ young. with_unlogs-lawful s lawful run.logged.items (listed-held s run.logged.items (lists young)))

-- in a full collection no unlog bit is set
cleared-unlogs : (s : HeapState) (run : TraceRun) → IsLawfulButLines s → (x : ℕ) → IsTrue (is_unlogged (without_unlogs (if run.lines then without_lines s else s)) x) → ⊥
cleared-unlogs s run lawful = elim (cases_Bool run.lines) as (λ _. (x : ℕ) → IsTrue (is_unlogged (without_unlogs (if run.lines then without_lines s else s)) x) → ⊥) [
  | inl has ↦ subst (λ h. (x : ℕ) → IsTrue (is_unlogged (without_unlogs h) x) → ⊥) (sym (cond-true run.lines (without_lines s) s has))
      (no-unlogs (without_lines s) (lines.without_lines-lawful s lawful))
  | inr none ↦ subst (λ h. (x : ℕ) → IsTrue (is_unlogged (without_unlogs h) x) → ⊥) (sym (cond-false run.lines (without_lines s) s none)) (no-unlogs s lawful)
]

same-test : (x y : Bool) → (IsTrue x → IsTrue y) → (IsTrue y → IsTrue x) → x ≡ y
same-test true y to back = sym (to refl)
same-test false y to back = sym (false_from_ne_true y (λ is. true≢false (sym (back is))))

-- in a nursery collection each old object has its bit, and no other one
module _ (s : HeapState) (lawful : IsLawfulButLines s) (l : List ℕ) (lists : ListsLogged s l) (remembers : RemembersYoung s) where
  abbrev h : HeapState
  h = with_unlogs s l

  abbrev set-words : List ℕ
  set-words = set_unlogs s.blocks l s.words

  same : SameObjects s (set_unlogs s.blocks l s.words)
  same = alike s lawful l (listed-held s l lists)

  is-old : (x : ℕ) → IsHeld s x → ages.is_old h x ≡ ages.is_old s x
  is-old x there = ap (is_old_word s.base) (at s set-words same x 2 there)

  old-here : (x : ℕ) → IsHeld s x → IsTrue (ages.is_old s x) → IsTrue (is_start h x && ages.is_old h x)
  old-here x there old = and_from (is_start h x) (ages.is_old h x) (same.starts x ∙ there.start) (is-old x there ∙ old)

  old-there : (x : ℕ) → IsTrue (is_start h x && ages.is_old h x) → IsHeld s x × IsTrue (ages.is_old s x)
  old-there x is =
      let both = and_parts (is_start h x) (ages.is_old h x) is in
      let there : IsHeld s x = held s x (sym (same.starts x) ∙ both.0) in
      (there, sym (is-old x there) ∙ both.1)

  pub marks-old : (x : ℕ) → is_unlogged (with_unlogs s l) x ≡ (is_start (with_unlogs s l) x && ages.is_old (with_unlogs s l) x)
  marks-old x = same-test (is_unlogged h x) (is_start h x && ages.is_old h x)
      (λ set. elim ((sets s lawful l (listed-held s l lists)).from x set) as (λ _. IsTrue (is_start h x && ages.is_old h x)) [
        | inl was ↦ (let there : IsHeld s x = lawful.order.objects.marks x (or_right (is_pinned s x) (is_unlogged s x) was) in old-here x there (remembers.marked x there was))
        | inr some ↦ (let d = logged-parts s l lists x some in old-here x d.0 d.1)
      ])
      (λ is. let d = old-there x is in elim (cases_Bool (is_unlogged s x)) as (λ _. IsTrue (is_unlogged h x)) [
        | inl was ↦ (sets s lawful l (listed-held s l lists)).kept x was
        | inr clear ↦ (sets s lawful l (listed-held s l lists)).done x
            (let one : times x l ≡ 1 = lists.all x ∙ one-if-true (ages.is_logged s x)
            (and_from (is_start s x && ages.is_old s x) (not (is_unlogged s x)) (and_from (is_start s x) (ages.is_old s x) d.0.start d.1) (not_from_false (is_unlogged s x) clear)) in omega arith)
      ])

  -- what an old object that was not logged refers to is old
  pub remembers-old : (x i : ℕ) → IsTrue (is_start (with_unlogs s l) x && ages.is_old (with_unlogs s l) x) → nat_lt 0 (times x l) ≡ false → i < refs_at (with_unlogs s l) x
      → IsTrue (is_reference (ref_at (with_unlogs s l) x i)) → IsTrue (is_start (with_unlogs s l) (ref_at (with_unlogs s l) x i) && ages.is_old (with_unlogs s l) (ref_at (with_unlogs s l) x i))
  remembers-old x i is none less some =
      let d = old-there x is in
      let unlogged : IsTrue (is_unlogged s x) = (elim (cases_Bool (is_unlogged s x)) as (λ _. IsTrue (is_unlogged s x)) [
        | inl was ↦ was
        | inr clear ↦ absurd (
            let one : times x l ≡ 1 = lists.all x ∙ one-if-true (ages.is_logged s x)
            (and_from (is_start s x && ages.is_old s x) (not (is_unlogged s x)) (and_from (is_start s x) (ages.is_old s x) d.0.start d.1) (not_from_false (is_unlogged s x) clear)) in
            true≢false (sym (ap (nat_lt 0) one) ∙ none))
      ]) in
      let field : ref_at h x i ≡ ref_at s x i = ref-same s set-words same x i d.0 in
      let to = remembers.fields x i d.0 d.1 unlogged (subst (λ (n : ℕ). i < n) (refs-same s set-words same x d.0) less) (subst (λ (v : ℕ). IsTrue (is_reference v)) field some) in
      subst (λ v. IsTrue (is_start h v && ages.is_old h v)) (sym field) (old-here (ref_at s x i) to.0 to.1)

  -- the list has each old object once that was logged
  pub listed-once : (x : ℕ) → times x l ≡ one_if ((is_start (with_unlogs s l) x && ages.is_old (with_unlogs s l) x) && nat_lt 0 (times x l))
  listed-once x = elim (cases_Bool (ages.is_logged s x)) as (λ _. times x l ≡ one_if ((is_start h x && ages.is_old h x) && nat_lt 0 (times x l))) [
    | inl is ↦
        let one : times x l ≡ 1 = lists.all x ∙ one-if-true (ages.is_logged s x) is in
        let d = logged-parts s l lists x (subst (λ n. 0 < n) (sym one) (omega arith)) in
        one ∙ sym (one-if-true ((is_start h x && ages.is_old h x) && nat_lt 0 (times x l)) (and_from (is_start h x && ages.is_old h x) (nat_lt 0 (times x l)) (old-here x d.0 d.1) (ap (nat_lt 0) one)))
    | inr other ↦
        let none : times x l ≡ 0 = lists.all x ∙ ap one_if other in
        none ∙ sym (ap one_if (and_right (is_start h x && ages.is_old h x) (nat_lt 0 (times x l)) (ap (nat_lt 0) none)))
  ]

-- the unlog bits are set of those objects that have their target
pub begun-unlogs : (s : HeapState) (run : TraceRun) (w : ℕ) → IsLawfulButLines s → HasList s run → (IsTrue (is_nursery run.collect) → RemembersYoung s)
    → (x : ℕ) → is_unlogged (setup_of s run w).before x ≡ stays_old (setup_of s run w) x
begun-unlogs s run w lawful lists remembers x =
    by-kind s run (λ h. is_unlogged h x ≡ (is_nursery run.collect && (is_start h x && ages.is_old h x)))
    (λ full. false_from_ne_true _ (cleared-unlogs s run lawful x) ∙ sym (and_left (is_nursery run.collect) _ full))
    (λ young. marks-old s lawful run.logged.items (lists young) (remembers young) x
    ∙ sym (ap (λ b. b && (is_start (with_unlogs s run.logged.items) x && ages.is_old (with_unlogs s run.logged.items) x)) young))

pub begun-remembers : (s : HeapState) (run : TraceRun) (w : ℕ) → IsLawfulButLines s → HasList s run → (IsTrue (is_nursery run.collect) → RemembersYoung s)
    → (x i : ℕ) → IsTrue (keeps_its_words (setup_of s run w) x) → i < refs (setup_of s run w) x
    → IsTrue (is_reference (ref_at (setup_of s run w).before x i)) → IsTrue (stays_old (setup_of s run w) (ref_at (setup_of s run w).before x i))
begun-remembers s run w lawful lists remembers x i =
    by-kind s run (λ h. IsTrue ((is_nursery run.collect && (is_start h x && ages.is_old h x)) && not (nat_lt 0 (times x run.logged.items))) → i < refs_at h x
    → IsTrue (is_reference (ref_at h x i)) → IsTrue (is_nursery run.collect && (is_start h (ref_at h x i) && ages.is_old h (ref_at h x i))))
    (λ full keeps. absurd (true≢false (sym (and_parts (is_nursery run.collect) _ (and_parts _ (not (nat_lt 0 (times x run.logged.items))) keeps).0).0 ∙ full)))
    (λ young keeps less some.
    let both = and_parts _ (not (nat_lt 0 (times x run.logged.items))) keeps in
    and_from (is_nursery run.collect) _ young (remembers-old s lawful run.logged.items (lists young) (remembers young) x i
    (and_parts (is_nursery run.collect) _ both.0).1 (not-true (nat_lt 0 (times x run.logged.items)) both.1) less some))

pub begun-logged : (s : HeapState) (run : TraceRun) (w : ℕ) → IsLawfulButLines s → HasList s run → (IsTrue (is_nursery run.collect) → RemembersYoung s)
    → (is_nursery run.collect ≡ false → run.logged.items ≡ []) → (x : ℕ) → times x run.logged.items ≡ one_if (was_logged (setup_of s run w) x)
begun-logged s run w lawful lists remembers none x =
    by-kind s run (λ h. times x run.logged.items ≡ one_if ((is_nursery run.collect && (is_start h x && ages.is_old h x)) && nat_lt 0 (times x run.logged.items)))
    (λ full. ap (times x) (none full) ∙ sym (ap one_if (and_right _ (nat_lt 0 (times x run.logged.items)) (ap (λ l. nat_lt 0 (times x l)) (none full)))))
    (λ young. listed-once s lawful run.logged.items (lists young) (remembers young) x
    ∙ sym (ap (λ b. one_if ((b && (is_start (with_unlogs s run.logged.items) x && ages.is_old (with_unlogs s run.logged.items) x)) && nat_lt 0 (times x run.logged.items))) young))

-- the objects that were logged are those of the list
pub begun-was : (s : HeapState) (run : TraceRun) (w : ℕ) → IsLawfulButLines s → HasList s run → (IsTrue (is_nursery run.collect) → RemembersYoung s)
    → (x : ℕ) → was_logged (setup_of s run w) x ≡ (is_nursery run.collect && ages.is_logged s x)
begun-was s run w lawful lists remembers x =
    by-kind s run (λ h. ((is_nursery run.collect && (is_start h x && ages.is_old h x)) && nat_lt 0 (times x run.logged.items)) ≡ (is_nursery run.collect && ages.is_logged s x))
    (λ full. and_left _ (nat_lt 0 (times x run.logged.items)) (and_left (is_nursery run.collect) _ full) ∙ sym (and_left (is_nursery run.collect) (ages.is_logged s x) full))
    (λ young. ap (λ b. (b && (is_start (with_unlogs s run.logged.items) x && ages.is_old (with_unlogs s run.logged.items) x)) && nat_lt 0 (times x run.logged.items)) young
    ∙ same-test _ (ages.is_logged s x)
    (λ is. let one : times x run.logged.items ≡ 1 = listed-once s lawful run.logged.items (lists young) (remembers young) x ∙ ap one_if is in
    one-if-from (ages.is_logged s x) (subst (λ n. 0 < n) ((lists young).all x) (omega arith)))
    (λ is. let one : times x run.logged.items ≡ 1 = (lists young).all x ∙ ap one_if is in
    one-if-from _ (subst (λ n. 0 < n) (listed-once s lawful run.logged.items (lists young) (remembers young) x) (omega arith)))
    ∙ sym (ap (λ b. b && ages.is_logged s x) young))

-- in a full collection under a plan with lines no line bit is set
pub begun-lines : (s : HeapState) (run : TraceRun) → IsLawfulButLines s → IsTrue run.lines → is_nursery run.collect ≡ false
    → (k line : ℕ) → k < s.blocks → line < 256 → line_marked (begun s run) k line ≡ false
begun-lines s run lawful has full k line there small =
    subst (λ h. line_marked h k line ≡ false) (sym (cond-false (is_nursery run.collect) (with_unlogs s run.logged.items) (without_unlogs (if run.lines then without_lines s else s)) full
    ∙ ap without_unlogs (cond-true run.lines (without_lines s) s has)))
    ((keeps-objects (without_lines s) (lines.without_lines-lawful s lawful)).lines k line there small ∙ lines.clear s lawful k line there small)

-- what was held is held
pub held-begun : (s : HeapState) (run : TraceRun) → IsLawfulButLines s → HasList s run → (x : ℕ) → IsHeld s x → IsHeld (begun s run) x
held-begun s run lawful lists x there = by-begun s run (λ h. IsHeld h x)
    (frames.held-after (without_lines s) _ (keeps-objects (without_lines s) (lines.without_lines-lawful s lawful)) x
    (blocks.held-after s _ (lines.same s lawful) x there))
    (frames.held-after s _ (keeps-objects s lawful) x there)
    (λ young. held-after s _ (alike s lawful run.logged.items (listed-held s run.logged.items (lists young))) x there)
