-- A word of an object after its header is set: the objects stay.
use Rattle.std.proofs.Common.{◌≡◌, ◌≢◌, refl, sym, ◌∙◌, ap, subst, ℕ, ◌+◌, ◌*◌, ◌-◌, ◌/◌, ◌%◌, ◌^◌, ◌<◌, ◌≤◌, inl, inr, arith, List, nat_eq, slice_set}
use Rattle.std.specs.Int.{bit_at}
use Rattle.std.proofs.lemmas.Bool.{cases_eq}
use Rattle.std.proofs.lemmas.List.{get_or-set_same, get_or-set_other, length-set}
use Rattle.heap_layout.specs.Zones.{Zone, StartBits, PinBits, UnlogBits, LineWords, BlockWords, Globals, row_words, heap_of, first, bit_of, address_bit}
use Rattle.object_model.specs.Objects.{HeapState, with_words, word_at, global_at, is_pinned, IsHeld, IsInExtent, size_at}
use Rattle.object_model.specs.Lawful.{IsWellFormed}
use Rattle.object_model.specs.Changes.{ObjectsStay}
use Rattle.object_model.proofs.Marks.{mark-same}
use Rattle.object_model.proofs.ObjectReads.{in_words}

-- a bit is unchanged if its word is not the one that was set
bit-other : (b : ℕ) (z : Zone) (w : List ℕ) (at v n : ℕ) → first b z + n / 64 ≢ at → bit_of b z (slice_set w at v) n ≡ bit_of b z w n
bit-other b z w at v n other = ap (λ word. nat_eq (bit_at word (n % 64)) 1) (get_or-set_other w at (first b z + n / 64) v 0 other)

-- the word with this offset in a held object, after its header
module _ (s : HeapState) (order : IsWellFormed s) (a offset v : ℕ) (held : IsHeld s a) (past : 3 ≤ offset) (within : offset < size_at s a) where
  abbrev pub stored : HeapState
  stored = with_words s (slice_set s.words (a + offset) v)

  in_heap : heap_of s.blocks ≤ a + offset
  in_heap = let from : heap_of s.blocks ≤ a = held.address.from in omega arith

  inside : IsInExtent s a (a + offset)
  inside = record { from = omega arith; below = omega arith }

  pub word-other : (i : ℕ) → i ≢ a + offset → word_at stored i ≡ word_at s i
  word-other i other = get_or-set_other s.words (a + offset) i v 0 other

  pub word-same : (i : ℕ) → i ≡ a + offset → word_at stored i ≡ v
  word-same i e = ap (word_at stored) e ∙ get_or-set_same s.words (a + offset) v 0 (in_words s order a offset held within)

  -- other objects have other words
  pub apart-from : (x i : ℕ) → IsHeld s x → i < size_at s x → x ≢ a → x + i ≢ a + offset
  apart-from x i there small other same =
      other (order.objects.apart x a (x + i) there held (record { from = omega arith; below = omega arith })
      (subst (IsInExtent s a) (sym same) inside))

  header-other : (x i : ℕ) → IsHeld s x → i < 3 → x + i ≢ a + offset
  header-other x i there small same = elim (cases_eq x a) as (λ _. ⊥) [
    | inl e ↦ omega arith
    | inr other ↦ apart-from x i there (omega arith) other same
  ]

  marks : (z : Zone) (x : ℕ) → first s.blocks z + 64 * s.blocks ≤ heap_of s.blocks → address_bit s.blocks z stored.words x ≡ address_bit s.blocks z s.words x
  marks z x below = mark-same s.blocks z s.words stored.words x (λ there. bit-other s.blocks z s.words (a + offset) v (x - heap_of s.blocks)
      (λ same. let from : heap_of s.blocks ≤ x = there.from in let end : x < row_words s.blocks = there.below in
      let heap : heap_of s.blocks ≤ a + offset = in_heap in
      let e : first s.blocks z + (x - heap_of s.blocks) / 64 ≡ a + offset = same in
      omega arith))

  pub keeps : ObjectsStay s stored
  keeps = record {
    blocks = refl;
    number = refl;
    base = refl;
    extent = length-set s.words (a + offset) v;
    starts = λ x. marks StartBits x (omega arith);
    unlogs = λ x set. sym (marks UnlogBits x (omega arith)) ∙ set;
    lines = λ k line there small. bit-other s.blocks LineWords s.words (a + offset) v (256 * k + line) (λ same. let heap : heap_of s.blocks ≤ a + offset = in_heap in omega arith);
    block_words = λ k there. word-other (first s.blocks BlockWords + k) (λ same. let heap : heap_of s.blocks ≤ a + offset = in_heap in omega arith);
    headers = λ x i there small. word-other (x + i) (header-other x i there small);
  }

  pub pins-same : (x : ℕ) → is_pinned stored x ≡ is_pinned s x
  pins-same x = marks PinBits x (omega arith)

  pub globals-same : (g : ℕ) → g < 16 → global_at stored g ≡ global_at s g
  globals-same g small = word-other (first s.blocks Globals + g) (λ same. let heap : heap_of s.blocks ≤ a + offset = in_heap in omega arith)

  pub words-fit : v < 2 ^ 64 → (i : ℕ) → word_at stored i < 2 ^ 64
  words-fit fits i = elim (cases_eq i (a + offset)) as (λ _. word_at stored i < 2 ^ 64) [
    | inl same ↦ subst (λ (x : ℕ). x < 2 ^ 64) (sym (word-same i same)) fits
    | inr other ↦ subst (λ (x : ℕ). x < 2 ^ 64) (sym (word-other i other)) (order.row.words i)
  ]
