-- What holds of the heap with stop word and budget word 0 at the beginning of an epoch holds of the heap itself.
use Rattle.std.proofs.Common.{◌≡◌, sym, ◌∙◌, ap, subst, ℕ, ◌+◌, ◌*◌, ◌-◌, ◌/◌, ◌%◌, ◌^◌, ◌≤◌, ◌⊎◌, inl, inr, arith, Bool, ◌&&◌, not, IsTrue, nat_lt, nat_le, List, slice_set, nat_eq}
use Rattle.std.proofs.Math.Path.{fun_ext}
use Rattle.std.specs.Int.{bit_at}
use Rattle.std.specs.Prelude.{Some}
use Rattle.std.specs.List.{count_by, range_with_len}
use Rattle.std.proofs.lemmas.List.{get_or-set_other}
use Rattle.heap_layout.specs.Zones.{Zone, BlockWords, LineWords, UnlogBits, heap_of, first, address_bit, block_at, offset_at, block_start}
use Rattle.heap_layout.specs.declared.block.Kind.{Kind}
use Rattle.heap_layout.specs.declared.block.Kind.TheVariants as kinds
use Rattle.ideal_heap.specs.Ideal.{IdealHeap}
use Rattle.ideal_heap.specs.Runs.{Entry}
use Rattle.object_model.specs.Objects.{HeapState, word_at, block_word, class_at, line_marked, is_start, is_unlogged, IsHeld, name_at, size_at, cell_words, HasKind}
use Rattle.object_model.specs.Lawful.{IsLawful}
use Rattle.object_model.specs.Graphs.{MutatorState}
use Rattle.object_model.specs.Ages.{is_old}
use Rattle.object_model.specs.Changes.{ObjectsStay}
use Rattle.object_model.proofs.Frames as frames
use Rattle.object_model.proofs.Marks.{mark-same}
use Rattle.sessions.specs.Plans.{Rules}
use Rattle.sessions.specs.Collecting.{is_logged_under}
use Rattle.sessions.specs.Fitting.{HasHole, LiesInHole, LiesInTail, LiesInLineHole, IsTail, IsLineHole, IsFreeCell, class_of, allowance_of, free_of}
use Rattle.sessions.specs.Sessions.{Stopped, IsBirth, LeavesNoGap, StoresInto}
use Rattle.heap_users.specs.Beginnings.{without_stop}
use Rattle.heap_users.proofs.Cleared as cleared

module _ (s : HeapState) (lawful : IsLawful s) where
  abbrev t : HeapState
  t = without_stop s

  keeps : ObjectsStay s t
  keeps = cleared.keeps s lawful

  other : (q : ℕ) → 2 ≤ q → word_at t q ≡ word_at s q
  other q beyond = get_or-set_other (slice_set s.words 0 0) 1 q 0 0 (λ e. omega arith) ∙ get_or-set_other s.words 0 q 0 0 (λ e. omega arith)

  marks : (z : Zone) (x : ℕ) → 18 ≤ first s.blocks z → address_bit s.blocks z t.words x ≡ address_bit s.blocks z s.words x
  marks z x beyond = mark-same s.blocks z s.words t.words x (λ there.
      ap (λ word. nat_eq (bit_at word ((x - heap_of s.blocks) % 64)) 1) (other (first s.blocks z + (x - heap_of s.blocks) / 64) (omega arith)))

  held-before : (a : ℕ) → IsHeld t a → IsHeld s a
  held-before = frames.held-before s t.words keeps

  held-after : (a : ℕ) → IsHeld s a → IsHeld t a
  held-after = frames.held-after s t.words keeps

  size-same : (a : ℕ) → IsHeld s a → size_at t a ≡ size_at s a
  size-same = frames.size-after s t.words keeps

  kind-before : (k : ℕ) (kind : Kind) → HasKind t k kind → HasKind s k kind
  kind-before = frames.HasKind-back s t.words keeps.block_words

  kind-after : (k : ℕ) (kind : Kind) → HasKind s k kind → HasKind t k kind
  kind-after = frames.HasKind-from s t.words keeps.block_words

  class-same : (k : ℕ) → class_at t k ≡ class_at s k
  class-same k = ap (λ v. v / 256 % 256) (other (first s.blocks BlockWords + k) (omega arith))

  line-same : (k line : ℕ) → line_marked t k line ≡ line_marked s k line
  line-same k line = ap (λ word. nat_eq (bit_at word ((256 * k + line) % 64)) 1) (other (first s.blocks LineWords + (256 * k + line) / 64) (omega arith))

  old-same : (x : ℕ) → is_old t x ≡ is_old s x
  old-same x = ap (λ word. age word) (other (x + 2) (omega arith))
    where
      age : ℕ → Bool
      age word = nat_lt 0 s.base && nat_le s.base (word / 2 ^ 24)

  logged-same : (r : Rules) (a : ℕ) → is_logged_under r t a ≡ is_logged_under r s a
  logged-same r a =
      ap (λ b. r.young && (b && is_old t a && not (is_unlogged t a))) (keeps.starts a)
      ∙ ap (λ b. r.young && (is_start s a && b && not (is_unlogged t a))) (old-same a)
      ∙ ap (λ b. r.young && (is_start s a && is_old s a && not b)) (marks UnlogBits a (omega arith))

  free-same : free_of t ≡ free_of s
  free-same = ap (λ f. count_by f (range_with_len 0 s.blocks)) (fun_ext (λ k. frames.has_kind-same s t.words keeps.block_words k kinds.Free))

  tail-before : (k at : ℕ) → IsTail t k at → IsTail s k at
  tail-before k at tail = record {
    after = λ a holds here. subst (λ (n : ℕ). offset_at s.blocks a + n ≤ at) (size-same a holds) (tail.after a (held-after a holds) here);
    least = elim tail.least as (λ _. (at ≡ 0) ⊎ ((a : ℕ) × IsHeld s a × (block_at s.blocks a ≡ k) × (offset_at s.blocks a + size_at s a ≡ at))) [
      | inl none ↦ inl none
      | inr last ↦ (let holds : IsHeld s last.0 = held-before last.0 last.1 in
          inr (last.0, holds, last.2, subst (λ (n : ℕ). offset_at s.blocks last.0 + n ≡ at) (size-same last.0 holds) last.3))
    ];
  }

  in-tail-before : (k from size : ℕ) → LiesInTail t k from size → LiesInTail s k from size
  in-tail-before k from size lies = record { at = lies.at; tail = tail-before k lies.at lies.tail; after = lies.after; inside = lies.inside }

  cell-before : (k at : ℕ) → IsFreeCell t k at → IsFreeCell s k at
  cell-before k at cell = record {
    index = cell.index;
    start = subst (λ (c : ℕ). at ≡ cell.index * cell_words c) (class-same k) cell.start;
    inside = subst (λ (c : ℕ). at + cell_words c ≤ 4096) (class-same k) cell.inside;
    free = λ is. cell.free (keeps.starts (block_start s.blocks k + at) ∙ is);
  }

  line-hole-before : (k from len : ℕ) → IsLineHole t k from len → IsLineHole s k from len
  line-hole-before k from len hole = record {
    some = hole.some;
    inside = hole.inside;
    clear = λ line least less is. hole.clear line least less (line-same k line ∙ is);
    before = λ some. sym (line-same k (from - 1)) ∙ hole.before some;
    after = λ less. sym (line-same k (from + len)) ∙ hole.after less;
  }

  in-line-hole-before : (k from size : ℕ) → LiesInLineHole t k from size → LiesInLineHole s k from size
  in-line-hole-before k from size lies = record {
    line = lies.line;
    len = lies.len;
    hole = line-hole-before k lies.line lies.len lies.hole;
    after = lies.after;
    inside = lies.inside;
  }

  hole-before : (fill : Kind) (k from size : ℕ) → LiesInHole fill t k from size → LiesInHole fill s k from size
  hole-before kinds.Bump k from size lies = (kind-before k kinds.Bump lies.0, in-tail-before k from size lies.1)
  hole-before kinds.Young k from size lies = (kind-before k kinds.Young lies.0, in-tail-before k from size lies.1)
  hole-before kinds.Cells k from size lies =
      (kind-before k kinds.Cells lies.0, cell-before k from lies.1, subst (λ (c : ℕ). class_of size ≡ Some c) (class-same k) lies.2)
  hole-before kinds.Immix k from size lies = (kind-before k kinds.Immix lies.0, in-line-hole-before k from size lies.1)
  hole-before kinds.Free k from size lies = lies
  hole-before kinds.Mature k from size lies = lies
  hole-before kinds.LargeHead k from size lies = lies
  hole-before kinds.LargeTail k from size lies = lies
  hole-before kinds.Kept k from size lies = lies

  hole-start-before : (fill : Kind) (k at size : ℕ) → HasHole fill t k at size → HasHole fill s k at size
  hole-start-before kinds.Bump k at size has = (kind-before k kinds.Bump has.0, tail-before k at has.1, has.2)
  hole-start-before kinds.Young k at size has = (kind-before k kinds.Young has.0, tail-before k at has.1, has.2)
  hole-start-before kinds.Cells k at size has =
      (kind-before k kinds.Cells has.0, cell-before k at has.1, subst (λ (c : ℕ). class_of size ≡ Some c) (class-same k) has.2)
  hole-start-before kinds.Immix k at size has = (
    kind-before k kinds.Immix has.0,
    record {
      line = has.1.line;
      len = has.1.len;
      start = has.1.start;
      hole = line-hole-before k has.1.line has.1.len has.1.hole;
      room = has.1.room;
    },
  )
  hole-start-before kinds.Free k at size has = has
  hole-start-before kinds.Mature k at size has = has
  hole-start-before kinds.LargeHead k at size has = has
  hole-start-before kinds.LargeTail k at size has = has
  hole-start-before kinds.Kept k at size has = has

  birth-before : (rules : Rules) (part : List Entry) (new : HeapState) (a : ℕ) → IsBirth rules t part new a → IsBirth rules s part new a
  birth-before rules part new a birth = record {
    entry = birth.entry;
    place = elim birth.place as (λ _. HasKind s (block_at new.blocks a) kinds.Free
        ⊎ LiesInHole rules.fill s (block_at new.blocks a) (offset_at new.blocks a) (size_at new a)) [
          | inl free ↦ inl (kind-before (block_at new.blocks a) kinds.Free free)
          | inr hole ↦ inr (hole-before rules.fill (block_at new.blocks a) (offset_at new.blocks a) (size_at new a) hole)
        ];
    packed = elim birth.packed as (λ _. LeavesNoGap rules.fill s new a) [
      | inl cells ↦ inl cells
      | inr other ↦ elim other as (λ _. LeavesNoGap rules.fill s new a) [
        | inl hole ↦ inr (inl (hole-start-before rules.fill (block_at new.blocks a) (offset_at new.blocks a) (size_at new a) hole))
        | inr rest ↦ elim rest as (λ _. LeavesNoGap rules.fill s new a) [
          | inl free ↦ inr (inr (inl (kind-before (block_at new.blocks a) kinds.Free free.0, free.1)))
          | inr behind ↦ inr (inr (inr behind))
        ]
      ]
    ];
    cell = birth.cell;
    unclaimed = birth.unclaimed;
    unmarked = birth.unmarked;
  }

  pub stopped-before : (rules : Rules) (numbers : List ℕ) (new : HeapState) (i : IdealHeap) (part : List Entry) (ms : List MutatorState)
      → Stopped rules numbers t i part new ms → Stopped rules numbers s i part new ms
  stopped-before rules numbers new i part ms is = record {
    listed = is.listed;
    lawful = is.lawful;
    remembers = is.remembers;
    represents = is.represents;
    blocks = is.blocks;
    number = is.number;
    base = is.base;
    stays = λ a holds. let there = is.stays a (held-after a holds) in
        (there.0, λ j few. there.1 j few ∙ keeps.headers a j holds few);
    births = λ a holds. elim (is.births a holds) as (λ _. IsHeld s a ⊎ IsBirth rules s part new a) [
      | inl before ↦ inl (held-before a before)
      | inr birth ↦ inr (birth-before rules part new a birth)
    ];
    all_held = is.all_held;
    logs = λ a logged. elim (is.logs a logged) as (λ _. IsTrue (is_logged_under rules s a) ⊎ StoresInto i part (name_at new a)) [
      | inl before ↦ inl (sym (logged-same rules a) ∙ before)
      | inr stores ↦ inr stores
    ];
    taken = subst (λ (n : ℕ). n ≤ free_of new + allowance_of rules.reserve s) free-same
        (subst (λ (n : ℕ). free_of t ≤ free_of new + n) (cleared.allowance-cleared s lawful rules.reserve) is.taken);
    in_block = λ k there. elim (is.in_block k there) as (λ _. (HasKind s k kinds.Free × HasKind new k rules.fill) ⊎ (block_word new k ≡ block_word s k)) [
      | inl fills ↦ inl (kind-before k kinds.Free fills.0, fills.1)
      | inr same ↦ inr (same ∙ keeps.block_words k there)
    ];
    used = λ k free. is.used k (kind-after k kinds.Free free);
  }
