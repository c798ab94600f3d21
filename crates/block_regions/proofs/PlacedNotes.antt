-- What is known of blocks is right after an object was placed in one of them.
use Rattle.std.proofs.Common.{◌≡◌, ◌≢◌, sym, ◌∙◌, ap, subst, ℕ, ◌+◌, ◌-◌, ◌/◌, ◌%◌, ◌<◌, ◌≤◌, ◌⊎◌, inl, inr, arith, Bool, true, false, ◌&&◌, ◌||◌, nat_eq, nat_lt, List, refl}
use Rattle.std.specs.Prelude.{Some, slice_get, count_by, vec_capacity}
use Rattle.std.specs.List.{range_with_len}
use Rattle.std.proofs.Math.Path.{fun_ext}
use Rattle.std.proofs.lemmas.Bool.{cases_eq, cases_lt, le-ltb, false_from_ne_true}
use Rattle.heap_layout.specs.Zones.{block_at, offset_at, block_start}
use Rattle.heap_layout.specs.Blocks.{kind_code}
use Rattle.heap_layout.specs.declared.block.Kind.{Kind}
use Rattle.heap_layout.specs.declared.block.Kind.TheVariants as kinds
use Rattle.heap_layout.proofs.BlockLemmas.{code_parts, kind_code_most}
use Rattle.object_model.specs.Objects.{HeapState, with_words, block_word, has_kind, HasKind, IsHeld, size_at, size_of}
use Rattle.object_model.proofs.Frames.{same-layout}
use Rattle.object_model.proofs.OneKind.{kind-code, kind-from, kind-within, one-kind}
use Rattle.sessions.specs.Plans.{Rules}
use Rattle.sessions.specs.Fitting.{HasHole, class_for, free_of, large_of, counts_of}
use Rattle.sessions.specs.Grants.{BlockCounts, counts_with}
use Rattle.plan_api.proofs.Takings as takings
use Rattle.plan_api.specs.Counting.{session_counts}
use Rattle.block_regions.specs.declared.block_notes.BlockNotes.{BlockNotes}
use Rattle.block_regions.specs.declared.block_notes.BlockNote.{BlockNote}
use Rattle.block_regions.specs.declared.block_notes.BlockNote.TheVariants.{Unowned, Owned}
use Rattle.block_regions.specs.Elements.{ChangesAt}
use Rattle.block_regions.specs.Notes.{FillsHoles, IsBlockNote, AreNotes, PlacesInBlock}
use Rattle.block_regions.proofs.KeptNotes.{none-changed}
use Rattle.block_regions.proofs.NoteLemmas.{note-unknown}
use Rattle.block_regions.proofs.Elements.{changes-cases}
use Rattle.block_regions.proofs.GrownLines.{hole-grown, hole-filled}
use Rattle.block_regions.proofs.Regions.{fills-cases}
use Rattle.block_regions.proofs.Lists.{get-below}
use Rattle.block_regions.proofs.BlockFrames.{SameBlock, AddsInBlock}
use Rattle.block_regions.proofs.RegionFrames.{turn-round, hole-tail, place-of}
use Rattle.block_regions.proofs.FilledKinds.{class-few}

-- a kind that mutators fill, which is neither Free nor large
pub filled-code : (fill : Kind) → FillsHoles fill → (0 < kind_code fill) × (kind_code fill ≤ 5)
filled-code fill fills = elim (fills-cases fill fills) as (λ _. (0 < kind_code fill) × (kind_code fill ≤ 5)) [
  | inl (inl (inl bump)) ↦ subst (λ f. (0 < kind_code f) × (kind_code f ≤ 5)) (sym bump) (omega arith, omega arith)
  | inl (inl (inr young)) ↦ subst (λ f. (0 < kind_code f) × (kind_code f ≤ 5)) (sym young) (omega arith, omega arith)
  | inl (inr cells) ↦ subst (λ f. (0 < kind_code f) × (kind_code f ≤ 5)) (sym cells) (omega arith, omega arith)
  | inr lines ↦ subst (λ f. (0 < kind_code f) × (kind_code f ≤ 5)) (sym lines) (omega arith, omega arith)
]

module _ (rules : Rules) (fills : FillsHoles rules.fill) (s : HeapState) (w : List ℕ) (a refs nums block : ℕ) (was_free : Bool)
    (placed : PlacesInBlock rules s (with_words s w) a refs nums block was_free) where
  abbrev t : HeapState
  t = with_words s w

  size-same : (x : ℕ) → IsHeld s x → size_at t x ≡ size_at s x
  size-same x holds = ap (λ v. size_of (v % 65536) (v / 65536)) (placed.object.words x 1 holds (omega arith))

  held-after : (x : ℕ) → IsHeld s x → IsHeld t x
  held-after x holds = elim (cases_eq x a) as (λ _. IsHeld t x) [
    | inl own ↦ absurd (placed.object.fresh (subst (IsHeld s) own holds))
    | inr other ↦ (placed.object.others x other).0 holds
  ]

  -- any other block with the same word
  same-block : (k : ℕ) → k ≢ block → k < s.blocks → block_word t k ≡ block_word s k → SameBlock s t k
  same-block k other there word = record {
    there = there;
    blocks = refl;
    word = ap (λ v. v % 65536) word;
    held = λ x holds inside. (held-after x holds, size-same x holds);
    back = λ x holds inside. elim (cases_eq x a) as (λ _. IsHeld s x) [
      | inl own ↦ absurd (other (sym inside ∙ ap (block_at s.blocks) own ∙ placed.here))
      | inr away ↦ (placed.object.others x away).1 holds
    ];
  }

  -- its own, if that has the same word
  adds-in-block : (k : ℕ) → k ≡ block → k < s.blocks → block_word t k ≡ block_word s k → AddsInBlock s t k (offset_at s.blocks a) (size_at t a)
  adds-in-block k own there word =
      let place : a ≡ block_start s.blocks k + offset_at s.blocks a = place-of s.blocks a k placed.object.held.address (placed.here ∙ sym own) in
      record {
        there = there;
        blocks = refl;
        word = ap (λ v. v % 65536) word;
        below = omega arith;
        some = omega arith;
        born = subst (IsHeld t) place placed.object.held;
        words = ap (λ x. size_at t x) (sym place);
        held = λ x holds inside. (held-after x holds, size-same x holds);
        back = λ x holds inside. elim (cases_eq x a) as (λ _. (x ≡ block_start s.blocks k + offset_at s.blocks a) ⊎ IsHeld s x) [
          | inl same ↦ inl (same ∙ place)
          | inr away ↦ inr ((placed.object.others x away).1 holds)
        ];
      }

  -- a block with the same word
  module _ (k : ℕ) (there : k < s.blocks) (word : block_word t k ≡ block_word s k) where
    note-other : k ≢ block → (least : ℕ) → IsBlockNote rules.fill s k (Unowned least) → IsBlockNote rules.fill t k (Unowned least)
    note-other other least is = record {
      owner = ap (λ v. v / 65536) word ∙ is.owner;
      none = λ at size most hole.
          let was = hole-grown rules.fill fills s t k at size (turn-round s t k (same-block k other there word)) (λ line few. placed.lines k line there few) hole in
          is.none was.0 size most was.1;
    }

    -- in its hole it takes room away
    note-own : k ≡ block → HasHole rules.fill s block (offset_at s.blocks a) (size_of refs nums) → (least : ℕ) → IsBlockNote rules.fill s k (Unowned least) → IsBlockNote rules.fill t k (Unowned least)
    note-own own spot least is = record {
      owner = ap (λ v. v / 65536) word ∙ is.owner;
      none = λ at size most hole.
          let was = hole-filled rules.fill fills s t k (offset_at s.blocks a) (size_at t a) (adds-in-block k own there word)
          (λ immix. kind-from s k kinds.Immix there (ap (λ v. v % 256) (sym word) ∙ kind-code t k kinds.Immix immix)) (λ line few. placed.lines k line there few)
          (hole-tail rules.fill s k (offset_at s.blocks a) (size_of refs nums) (subst (λ (q : ℕ). HasHole rules.fill s q (offset_at s.blocks a) (size_of refs nums)) (sym own) spot)) at size hole in
          is.none was.0 size most was.1;
    }

  -- the word of a block that was Free
  free-word : HasKind s block kinds.Free → (block_word t block % 256 ≡ kind_code rules.fill) × (block_word t block / 65536 ≡ 0)
  free-word free =
      let class : ℕ = class_for rules.fill (size_of refs nums) in
      let parts = code_parts (kind_code rules.fill) class 0 (block_word t block) (kind_code_most rules.fill) (class-few rules.fill (size_of refs nums)) (sym (placed.uses.free free)) in
      (parts.0, parts.2)

  -- the words of the other blocks, and of its own if it was not Free
  other-word : (k : ℕ) → k < s.blocks → k ≢ block → block_word t k ≡ block_word s k
  other-word = placed.uses.others

  kind-other : (k : ℕ) (kind : Kind) → (k < s.blocks → block_word t k ≡ block_word s k) → has_kind t k kind ≡ has_kind s k kind
  kind-other k kind word = elim (cases_lt k s.blocks) as (λ _. has_kind t k kind ≡ has_kind s k kind) [
    | inl there ↦ ap (λ v. nat_lt k s.blocks && nat_eq (v % 256) (kind_code kind)) (word there)
    | inr past ↦ (let none : nat_lt k s.blocks ≡ false = le-ltb k s.blocks past in
        ap (λ b. b && nat_eq (block_word t k % 256) (kind_code kind)) none ∙ ap (λ b. b && nat_eq (block_word s k % 256) (kind_code kind)) (sym none))
  ]

  abbrev large : HeapState → ℕ → Bool
  large u k = has_kind u k kinds.LargeHead || has_kind u k kinds.LargeTail

  large-other : (k : ℕ) → (k < s.blocks → block_word t k ≡ block_word s k) → large t k ≡ large s k
  large-other k word = ap (λ b. b || has_kind t k kinds.LargeTail) (kind-other k kinds.LargeHead word) ∙ ap (λ b. has_kind s k kinds.LargeHead || b) (kind-other k kinds.LargeTail word)

  -- in a block that was not Free
  module _ (used : HasKind s block kinds.Free → ⊥) where
    word-same : (k : ℕ) → k < s.blocks → block_word t k ≡ block_word s k
    word-same k there = elim (cases_eq k block) as (λ _. block_word t k ≡ block_word s k) [
      | inl own ↦ subst (λ q. block_word t q ≡ block_word s q) (sym own) (placed.uses.hole used)
      | inr other ↦ other-word k there other
    ]

    counts-same : counts_of t ≡ counts_of s
    counts-same =
        ap (λ f. counts_with s.blocks (count_by f (range_with_len 0 s.blocks)) (large_of t)) (fun_ext (λ k. kind-other k kinds.Free (word-same k)))
        ∙ ap (λ f. counts_with s.blocks (free_of s) (count_by f (range_with_len 0 s.blocks))) (fun_ext (λ k. large-other k (word-same k)))

    spot : HasHole rules.fill s block (offset_at s.blocks a) (size_of refs nums)
    spot = elim placed.spot as (λ _. HasHole rules.fill s block (offset_at s.blocks a) (size_of refs nums)) [ inl free ↦ absurd (used free) | inr hole ↦ hole ]

    pub placed-hole : (n : BlockNotes) → AreNotes rules.fill s n → AreNotes rules.fill t n
    placed-hole n are = record {
      counts = are.counts ∙ sym counts-same;
      notes = record { len = are.notes.len; each = each };
      unowned = are.unowned;
      owned = are.owned;
      room = are.room;
    }
      where
        of-note : (k : ℕ) (note : BlockNote) → slice_get n.notes.items k ≡ Some note → k < s.blocks → IsBlockNote rules.fill s k note → IsBlockNote rules.fill t k note
        of-note k (Owned owner region) is there right = absurd (are.unowned k owner region is)
        of-note k (Unowned least) is there right = elim (cases_eq k block) as (λ _. IsBlockNote rules.fill t k (Unowned least)) [
          | inl own ↦ note-own k there (word-same k there) own spot least right
          | inr other ↦ note-other k there (word-same k there) other least right
        ]

        each : (k : ℕ) (note : BlockNote) → slice_get n.notes.items k ≡ Some note → IsBlockNote rules.fill t k note
        each k note is = of-note k note is (subst (λ b. k < b) are.notes.len (get-below n.notes.items k note is)) (are.notes.each k note is)

  -- in a block that was Free
  module _ (free : HasKind s block kinds.Free) where
    there : block < s.blocks
    there = kind-within s block kinds.Free free

    code : block_word t block % 256 ≡ kind_code rules.fill
    code = (free-word free).0

    -- it has no kind now but the one that mutators fill
    no-kind : (kind : Kind) → kind_code kind ≢ kind_code rules.fill → has_kind t block kind ≡ false
    no-kind kind differs = false_from_ne_true (has_kind t block kind) (λ is. differs (sym (kind-code t block kind is) ∙ code))

    was-kind : (kind : Kind) → kind_code kind ≢ 0 → has_kind s block kind ≡ false
    was-kind kind some = false_from_ne_true (has_kind s block kind) (λ is. some (one-kind s block kind kinds.Free is free))

    one-less : free_of t + 1 ≡ free_of s
    one-less =
        let some : 0 < kind_code rules.fill = (filled-code rules.fill fills).0 in
        sym (takings.one-less (λ k. has_kind s k kinds.Free) (λ k. has_kind t k kinds.Free) block s.blocks there free (no-kind kinds.Free (λ same. omega arith))
        (λ k below other. kind-other k kinds.Free (λ within. other-word k within other)))

    large-same : large_of t ≡ large_of s
    large-same = ap (λ f. count_by f (range_with_len 0 s.blocks)) (fun_ext (λ k. elim (cases_eq k block) as (λ _. large t k ≡ large s k) [
      | inr other ↦ large-other k (λ below. other-word k below other)
      | inl own ↦ subst (λ q. large t q ≡ large s q) (sym own) (
          let few : kind_code rules.fill ≤ 5 = (filled-code rules.fill fills).1 in
          ap (λ b. b || has_kind t block kinds.LargeTail) (no-kind kinds.LargeHead (λ same. omega arith) ∙ sym (was-kind kinds.LargeHead (λ same. omega arith)))
          ∙ ap (λ b. has_kind s block kinds.LargeHead || b) (no-kind kinds.LargeTail (λ same. omega arith) ∙ sym (was-kind kinds.LargeTail (λ same. omega arith))))
    ]))

    pub placed-free : (n later : BlockNotes) → AreNotes rules.fill s n → session_counts later.counts ≡ counts_with n.counts.blocks (n.counts.free - 1) n.counts.large
        → ChangesAt n.notes.items later.notes.items block (Unowned 4097) → later.owned ≡ n.owned → AreNotes rules.fill t later
    placed-free n later are counts changes owned = record {
      counts = counts ∙ counted;
      notes = record { len = changes.len ∙ are.notes.len; each = each };
      unowned = none-changed n.notes.items later.notes.items block 4097 are.unowned changes;
      owned = ap (λ v. v.items) owned ∙ are.owned;
      room = subst (λ v. s.blocks ≤ vec_capacity v) (sym owned) are.room;
    }
      where
        counted : counts_with n.counts.blocks (n.counts.free - 1) n.counts.large ≡ counts_of t
        counted =
            let was : n.counts.free ≡ free_of s = ap (λ (c : BlockCounts). c.free) are.counts in
            let less : free_of t + 1 ≡ free_of s = one-less in
            let left : n.counts.free - 1 ≡ free_of t = omega arith in
            ap (λ b. counts_with b (n.counts.free - 1) n.counts.large) (ap (λ (c : BlockCounts). c.blocks) are.counts)
            ∙ ap (λ f. counts_with s.blocks f n.counts.large) left
            ∙ ap (counts_with s.blocks (free_of t)) (ap (λ (c : BlockCounts). c.large) are.counts ∙ sym large-same)

        of-note : (k : ℕ) (note : BlockNote) → slice_get n.notes.items k ≡ Some note → k < s.blocks → k ≢ block → IsBlockNote rules.fill s k note → IsBlockNote rules.fill t k note
        of-note k (Owned owner region) is below other right = absurd (are.unowned k owner region is)
        of-note k (Unowned least) is below other right = note-other k below (other-word k below other) other least right

        each : (k : ℕ) (note : BlockNote) → slice_get later.notes.items k ≡ Some note → IsBlockNote rules.fill t k note
        each k note is = elim (changes-cases n.notes.items later.notes.items block (Unowned 4097) changes k note is) as (λ _. IsBlockNote rules.fill t k note) [
          | inl own ↦ subst (λ q. IsBlockNote rules.fill t q note) (sym own.0) (subst (IsBlockNote rules.fill t block) (sym own.1) (note-unknown rules.fill t block (free-word free).1))
          | inr other ↦ of-note k note other.1 (subst (λ b. k < b) are.notes.len (get-below n.notes.items k note other.1)) other.0 (are.notes.each k note other.1)
        ]

-- from any heap to any other
pub after-hole : (rules : Rules) → FillsHoles rules.fill → (old new : HeapState) (a refs nums block : ℕ) (was_free : Bool) → was_free ≡ false → (n : BlockNotes) → AreNotes rules.fill old n
    → PlacesInBlock rules old new a refs nums block was_free → AreNotes rules.fill new n
after-hole rules fills old new a refs nums block was_free used n are placed =
    let same : new ≡ with_words old new.words = same-layout old new placed.layout.0 placed.layout.1 placed.layout.2 in
    let free : has_kind old block kinds.Free ≡ false = sym placed.free ∙ used in
    subst (λ t. AreNotes rules.fill t n) (sym same) (placed-hole rules fills old new.words a refs nums block was_free
    (subst (λ t. PlacesInBlock rules old t a refs nums block was_free) same placed) (λ is. let wrong : true ≡ false = sym is ∙ free in cc) n are)

pub after-free : (rules : Rules) → FillsHoles rules.fill → (old new : HeapState) (a refs nums block : ℕ) (was_free : Bool) → was_free ≡ true → (n later : BlockNotes) → AreNotes rules.fill old n
    → PlacesInBlock rules old new a refs nums block was_free → session_counts later.counts ≡ counts_with n.counts.blocks (n.counts.free - 1) n.counts.large
    → ChangesAt n.notes.items later.notes.items block (Unowned 4097) → later.owned ≡ n.owned → AreNotes rules.fill new later
after-free rules fills old new a refs nums block was_free used n later are placed counts changes owned =
    let same : new ≡ with_words old new.words = same-layout old new placed.layout.0 placed.layout.1 placed.layout.2 in
    let free : HasKind old block kinds.Free = sym placed.free ∙ used in
    subst (λ t. AreNotes rules.fill t later) (sym same) (placed-free rules fills old new.words a refs nums block was_free
    (subst (λ t. PlacesInBlock rules old t a refs nums block was_free) same placed) free n later are counts changes owned)
