-- Stores keep a heap lawful.
use Rattle.std.proofs.Common.{◌≡◌, refl, sym, ◌∙◌, ap, subst, ℕ, ◌+◌, ◌*◌, ◌-◌, ◌/◌, ◌%◌, ◌^◌, ◌<◌, ◌≤◌, inl, inr, arith, Bool, IsTrue, List, slice_set, nat_eq}
use Rattle.std.specs.Int.{bit_at}
use Rattle.std.proofs.lemmas.Bool.{cases_eq, or_left, true≢false}
use Rattle.heap_layout.specs.Zones.{Zone, first, Globals, BlockWords, LineWords, StartBits, PinBits, UnlogBits, heap_of, row_words, bit_of, address_bit}
use Rattle.object_model.specs.Objects.{HeapState, with_words, word_at, IsHeld, refs_at, nums_at, size_at, ref_at, is_pinned, is_unlogged, global_at}
use Rattle.object_model.specs.Lawful.{IsLawful, IsRefField, IsRoot}
use Rattle.object_model.specs.Changes.{SetsPin, ClearsUnlog, ObjectsStay}
use Rattle.object_model.proofs.Marks.{mark-same}
use Rattle.object_model.proofs.Stores as stores
use Rattle.object_model.proofs.GlobalStores as globals
use Rattle.object_model.proofs.GlobalStores.{root-fits}
use Rattle.object_model.proofs.PinChanges as pins
use Rattle.object_model.proofs.Frames.{orderly-after, lawful-kept, same-layout}

-- a word after an object's header; if it is a reference field, the new word is one that the field may hold
module _ (s : HeapState) (lawful : IsLawful s) (a o v : ℕ) (held : IsHeld s a) (past : 3 ≤ o) (within : o < size_at s a) (fits : v < 2 ^ 64) (good : o < 3 + refs_at s a → IsRefField s v) where
  field-good : (x i : ℕ) → IsHeld s x → i < refs_at s x → IsRefField s (ref_at (with_words s (slice_set s.words (a + o) v)) x i)
  field-good x i there less = elim (cases_eq (x + 3 + i) (a + o)) as (λ _. IsRefField s (ref_at (with_words s (slice_set s.words (a + o) v)) x i)) [
    | inl e ↦ subst (IsRefField s) (sym (stores.word-same s lawful.but_lines.order a o v held past within (x + 3 + i) e)) (good (own e))
    | inr other ↦ subst (IsRefField s) (sym (stores.word-other s lawful.but_lines.order a o v held past within (x + 3 + i) other)) (lawful.but_lines.order.objects.references x i there less)
  ]
    where
      own : x + 3 + i ≡ a + o → o < 3 + refs_at s a
      own e = elim (cases_eq x a) as (λ _. o < 3 + refs_at s a) [
        | inl same ↦ (let few : i < refs_at s a = subst (λ (y : ℕ). i < refs_at s y) same less in omega arith)
        | inr differ ↦ absurd (stores.apart-from s lawful.but_lines.order a o v held past within x (3 + i) there (omega arith) differ (omega arith))
      ]

  pub stored-lawful : IsLawful (with_words s (slice_set s.words (a + o) v))
  stored-lawful =
      let keeps : ObjectsStay s (with_words s (slice_set s.words (a + o) v)) = stores.keeps s lawful.but_lines.order a o v held past within in
      lawful-kept s (with_words s (slice_set s.words (a + o) v)) keeps lawful (orderly-after s (slice_set s.words (a + o) v) keeps lawful.but_lines.order
      (stores.words-fit s lawful.but_lines.order a o v held past within fits)
      (λ x pin. lawful.but_lines.order.objects.marks x (or_left (is_pinned s x) (is_unlogged s x) (sym (stores.pins-same s lawful.but_lines.order a o v held past within x) ∙ pin)))
      field-good
      (λ g small. subst (IsRoot s) (sym (stores.globals-same s lawful.but_lines.order a o v held past within g small)) (lawful.but_lines.order.objects.globals g small)))

pub number : (s : HeapState) (a j n : ℕ) → IsLawful s → IsHeld s a → j < nums_at s a → n < 2 ^ 64 → IsLawful (with_words s (slice_set s.words (a + 3 + refs_at s a + j) n))
number s a j n lawful held less fits =
    let e : a + (3 + refs_at s a + j) ≡ a + 3 + refs_at s a + j = omega arith in
    subst (λ (i : ℕ). IsLawful (with_words s (slice_set s.words i n))) e
    (stored-lawful s lawful a (3 + refs_at s a + j) n held (omega arith) (omega arith) fits (λ inside. absurd (omega arith)))

pub reference : (s : HeapState) (a i v : ℕ) → IsLawful s → IsHeld s a → i < refs_at s a → v < 2 ^ 64 → IsRefField s v → IsLawful (with_words s (slice_set s.words (a + 3 + i) v))
reference s a i v lawful held less fits good =
    let e : a + (3 + i) ≡ a + 3 + i = omega arith in
    subst (λ (k : ℕ). IsLawful (with_words s (slice_set s.words k v))) e
    (stored-lawful s lawful a (3 + i) v held (omega arith) (omega arith) fits (λ inside. good))

pub global : (s : HeapState) (g v : ℕ) → IsLawful s → g < 16 → IsRoot s v → IsLawful (with_words s (slice_set s.words (first s.blocks Globals + g) v))
global s g v lawful small good =
    let w : List ℕ = slice_set s.words (first s.blocks Globals + g) v in
    let keeps : ObjectsStay s (with_words s (slice_set s.words (first s.blocks Globals + g) v)) = globals.keeps s g v small in
    lawful-kept s (with_words s (slice_set s.words (first s.blocks Globals + g) v)) keeps lawful (orderly-after s (slice_set s.words (first s.blocks Globals + g) v) keeps lawful.but_lines.order
    (globals.words-fit s g v small lawful.but_lines.order (root-fits s lawful.but_lines.order v good))
    (λ x pin. lawful.but_lines.order.objects.marks x (or_left (is_pinned s x) (is_unlogged s x) (sym (globals.pins-same s g v small x) ∙ pin)))
    (λ x i there less. subst (IsRefField s) (sym (globals.word-past s g v small (x + 3 + i) (let from : heap_of s.blocks ≤ x = there.address.from in omega arith))) (lawful.but_lines.order.objects.references x i there less))
    (λ k few. elim (cases_eq k g) as (λ _. IsRoot s (global_at (with_words s (slice_set s.words (first s.blocks Globals + g) v)) k)) [
      | inl same ↦ subst (IsRoot s) (sym (globals.global-own s g v small lawful.but_lines.order k same)) good
      | inr other ↦ subst (IsRoot s) (sym (globals.global-other s g v small k other)) (lawful.but_lines.order.objects.globals k few)
    ]))

pin-words : (s : HeapState) (w : List ℕ) (a : ℕ) (b : Bool) → IsLawful s → IsHeld s a → SetsPin s (with_words s w) a b → IsLawful (with_words s w)
pin-words s w a b lawful held sets =
    let keeps : ObjectsStay s (with_words s w) = pins.keeps s w a b sets in
    lawful-kept s (with_words s w) keeps lawful (orderly-after s w keeps lawful.but_lines.order sets.words (pins.pins-held s w a b sets lawful.but_lines.order held)
    (λ x i there less. subst (IsRefField s) (sym (sets.rest (x + 3 + i) (inr (let from : heap_of s.blocks ≤ x = there.address.from in omega arith)))) (lawful.but_lines.order.objects.references x i there less))
    (λ g few. subst (IsRoot s) (sym (pins.globals-same s w a b sets g few)) (lawful.but_lines.order.objects.globals g few)))

pub pin : (s t : HeapState) (a : ℕ) (b : Bool) → IsLawful s → IsHeld s a → SetsPin s t a b → IsLawful t
pin s t a b lawful held sets =
    let same : t ≡ with_words s t.words = same-layout s t sets.blocks sets.number sets.base in
    subst IsLawful (sym same) (pin-words s t.words a b lawful held (subst (λ (x : HeapState). SetsPin s x a b) same sets))

-- an unlog bit is cleared
module _ (s : HeapState) (w : List ℕ) (a : ℕ) (clears : ClearsUnlog s (with_words s w) a) where
  abbrev logged : HeapState
  logged = with_words s w

  before-unlogs : (z : Zone) (k : ℕ) → first s.blocks z + k / 64 < first s.blocks UnlogBits → bit_of s.blocks z w k ≡ bit_of s.blocks z s.words k
  before-unlogs z k below = ap (λ word. nat_eq (bit_at word (k % 64)) 1) (clears.rest (first s.blocks z + k / 64) (inl below))

  pub mark-kept : (z : Zone) (x : ℕ) → first s.blocks z + 64 * s.blocks ≤ first s.blocks UnlogBits → address_bit s.blocks z w x ≡ address_bit s.blocks z s.words x
  mark-kept z x below = mark-same s.blocks z s.words w x (λ there. before-unlogs z (x - heap_of s.blocks)
      (let from : heap_of s.blocks ≤ x = there.from in let end : x < row_words s.blocks = there.below in omega arith))

  heap-word : (x i : ℕ) → IsHeld s x → word_at logged (x + i) ≡ word_at s (x + i)
  heap-word x i holds = clears.rest (x + i) (inr (let from : heap_of s.blocks ≤ x = holds.address.from in omega arith))

  unlog-before : (x : ℕ) → IsTrue (is_unlogged logged x) → IsTrue (is_unlogged s x)
  unlog-before x set = elim (cases_eq x a) as (λ _. IsTrue (is_unlogged s x)) [
    | inl e ↦ absurd (true≢false (sym set ∙ ap (is_unlogged logged) e ∙ clears.clear))
    | inr other ↦ sym (clears.others x other) ∙ set
  ]

  pub keeps : ObjectsStay s logged
  keeps = record {
    blocks = refl;
    number = refl;
    base = refl;
    extent = clears.extent;
    starts = λ x. mark-kept StartBits x (omega arith);
    unlogs = unlog-before;
    lines = λ k line there few. before-unlogs LineWords (256 * k + line) (omega arith);
    block_words = λ k there. clears.rest (first s.blocks BlockWords + k) (inl (omega arith));
    headers = λ x i holds few. heap-word x i holds;
  }

  logged-lawful : IsLawful s → IsLawful logged
  logged-lawful lawful = lawful-kept s logged keeps lawful (orderly-after s w keeps lawful.but_lines.order clears.words
      (λ x pin. lawful.but_lines.order.objects.marks x (or_left (is_pinned s x) (is_unlogged s x) (sym (mark-kept PinBits x (omega arith)) ∙ pin)))
      (λ x i there less. subst (IsRefField s) (sym (clears.rest (x + 3 + i) (inr (let from : heap_of s.blocks ≤ x = there.address.from in omega arith)))) (lawful.but_lines.order.objects.references x i there less))
      (λ g few. subst (IsRoot s) (sym (clears.rest (first s.blocks Globals + g) (inl (omega arith)))) (lawful.but_lines.order.objects.globals g few)))

pub log : (s t : HeapState) (a : ℕ) → IsLawful s → ClearsUnlog s t a → IsLawful t
log s t a lawful clears =
    let same : t ≡ with_words s t.words = same-layout s t clears.blocks clears.number clears.base in
    subst IsLawful (sym same) (logged-lawful s t.words a (subst (λ (x : HeapState). ClearsUnlog s x a) same clears) lawful)
