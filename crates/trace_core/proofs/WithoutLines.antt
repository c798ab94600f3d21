-- A heap with all line bits clear is lawful but for lines, as it was.
use Rattle.std.proofs.Common.{◌≡◌, ℕ, ◌+◌, ◌*◌, ◌-◌, ◌/◌, ◌%◌, ◌^◌, ◌<◌, ◌≤◌, inl, inr, false, nat_eq, List, ◌++◌, take, drop, length, replicate, slice_index, sym, ap, ◌∙◌, subst, arith, lit<}
use Rattle.std.specs.Int.{bit_at}
use Rattle.std.proofs.Math.Nat.{zero-div, zero-mod}
use Rattle.std.proofs.lemmas.Bool.{cases_Bool, cases_lt}
use Rattle.std.proofs.lemmas.List.{length-append, length-take-le, length-drop, length-replicate, get_or_append_left, get_or-append_right, get_or-take, get_or-drop, get_or-replicate}
use Rattle.heap_layout.specs.Zones.{Zone, Globals, BlockWords, LineWords, StartBits, PinBits, UnlogBits, first, heap_of, row_words, address_bit}
use Rattle.heap_layout.specs.declared.block.Kind.{Kind}
use Rattle.heap_layout.specs.declared.block.Kind.TheVariants as kinds
use Rattle.heap_layout.specs.Blocks.{is_block_code}
use Rattle.object_model.specs.Objects.{HeapState, with_words, word_at, block_word, HasKind, has_kind, line_marked}
use Rattle.object_model.specs.Lawful.{IsLawfulButLines, IsClear}
use Rattle.object_model.proofs.Blocks as blocks
use Rattle.object_model.proofs.Blocks.{SameHeap}
use Rattle.object_model.proofs.Frames as frames
use Rattle.object_model.proofs.Marks.{mark-same}
use Rattle.object_model.proofs.ObjectParts.{objects-of, places-of, together}
use Rattle.object_model.proofs.OneKind.{kind-within, one-kind}
use Rattle.trace_core.specs.Runs.{zeroed, without_lines}

abbrev zeros : ℕ → List ℕ
zeros n = replicate n 0

module _ (xs : List ℕ) (a n : ℕ) (fits : a + n ≤ length xs) where
  front : length (take a xs) ≡ a
  front = length-take-le a xs (omega arith)

  pub zeroed-length : length (zeroed xs a n) ≡ length xs
  zeroed-length =
      let whole : length (zeroed xs a n) ≡ length (take a xs) + length (zeros n ++ drop (a + n) xs) = length-append (take a xs) (zeros n ++ drop (a + n) xs) in
      let rest : length (zeros n ++ drop (a + n) xs) ≡ length (zeros n) + length (drop (a + n) xs) = length-append (zeros n) (drop (a + n) xs) in
      let left : length (take a xs) ≡ a = front in
      let mid : length (zeros n) ≡ n = length-replicate n 0 in
      let end : length (drop (a + n) xs) ≡ length xs - (a + n) = length-drop (a + n) xs in
      omega arith

  pub zeroed-before : (i : ℕ) → i < a → slice_index (zeroed xs a n) i ≡ slice_index xs i
  zeroed-before i before =
      let left : length (take a xs) ≡ a = front in
      get_or_append_left (take a xs) (zeros n ++ drop (a + n) xs) 0 i (omega arith) ∙ get_or-take a xs i 0 before

  pub zeroed-inside : (i : ℕ) → a ≤ i → i < a + n → slice_index (zeroed xs a n) i ≡ 0
  zeroed-inside i from below =
      let mid : length (zeros n) ≡ n = length-replicate n 0 in
      get_or-append_right (take a xs) (zeros n ++ drop (a + n) xs) a i 0 front from
      ∙ get_or_append_left (zeros n) (drop (a + n) xs) 0 (i - a) (omega arith)
      ∙ get_or-replicate n (i - a) 0 0 (omega arith)

  pub zeroed-beyond : (i : ℕ) → a + n ≤ i → slice_index (zeroed xs a n) i ≡ slice_index xs i
  zeroed-beyond i beyond =
      get_or-append_right (take a xs) (zeros n ++ drop (a + n) xs) a i 0 front (omega arith)
      ∙ get_or-append_right (zeros n) (drop (a + n) xs) n (i - a) 0 (length-replicate n 0) (omega arith)
      ∙ get_or-drop (a + n) xs (i - a - n) 0
      ∙ ap (slice_index xs) (let at : a + n + (i - a - n) ≡ i = omega arith in at)

module _ (s : HeapState) (lawful : IsLawfulButLines s) where
  abbrev w : List ℕ
  w = zeroed s.words (first s.blocks LineWords) (4 * s.blocks)

  abbrev cleared : HeapState
  cleared = with_words s w

  inside : first s.blocks LineWords + 4 * s.blocks ≤ length s.words
  inside = let long : length s.words ≡ row_words s.blocks = lawful.order.row.extent in omega arith

  pub before : (i : ℕ) → i < first s.blocks LineWords → word_at cleared i ≡ word_at s i
  before i below = zeroed-before s.words (first s.blocks LineWords) (4 * s.blocks) inside i below

  pub beyond : (i : ℕ) → first s.blocks StartBits ≤ i → word_at cleared i ≡ word_at s i
  beyond i from = zeroed-beyond s.words (first s.blocks LineWords) (4 * s.blocks) inside i (omega arith)

  pub block-same : (k : ℕ) → k < s.blocks → block_word cleared k ≡ block_word s k
  block-same k there = before (first s.blocks BlockWords + k) (omega arith)

  pub kind-same : (k : ℕ) (kind : Kind) → has_kind (without_lines s) k kind ≡ has_kind s k kind
  kind-same k kind = frames.has_kind-same s w block-same k kind

  mark : (z : Zone) (x : ℕ) → first s.blocks StartBits ≤ first s.blocks z → address_bit s.blocks z w x ≡ address_bit s.blocks z s.words x
  mark z x above = mark-same s.blocks z s.words w x (λ there. ap (λ word. nat_eq (bit_at word ((x - heap_of s.blocks) % 64)) 1)
      (beyond (first s.blocks z + (x - heap_of s.blocks) / 64) (omega arith)))

  pub same : SameHeap s w
  same = record {
    words = λ i above. beyond i (omega arith);
    globals = λ g small. before (first s.blocks Globals + g) (omega arith);
    starts = λ x. mark StartBits x (omega arith);
    pins = λ x. mark PinBits x (omega arith);
    unlogs = λ x. mark UnlogBits x (omega arith);
  }

  fits : (i : ℕ) → word_at cleared i < 2 ^ 64
  fits i = elim (cases_lt i (first s.blocks LineWords)) as (λ _. word_at cleared i < 2 ^ 64) [
    | inl below ↦ subst (λ (v : ℕ). v < 2 ^ 64) (sym (before i below)) (lawful.order.row.words i)
    | inr from ↦ elim (cases_lt i (first s.blocks LineWords + 4 * s.blocks)) as (λ _. word_at cleared i < 2 ^ 64) [
      | inl within ↦ subst (λ (v : ℕ). v < 2 ^ 64) (sym (zeroed-inside s.words (first s.blocks LineWords) (4 * s.blocks) inside i from within)) (lit< tt)
      | inr above ↦ subst (λ (v : ℕ). v < 2 ^ 64) (sym (beyond i (omega arith))) (lawful.order.row.words i)
    ]
  ]

  -- no line bit is set
  pub clear : (k line : ℕ) → k < s.blocks → line < 256 → line_marked cleared k line ≡ false
  clear k line there small =
      let zero : word_at cleared (first s.blocks LineWords + (256 * k + line) / 64) ≡ 0 = zeroed-inside s.words (first s.blocks LineWords) (4 * s.blocks) inside
      (first s.blocks LineWords + (256 * k + line) / 64) (omega arith) (omega arith) in
      ap (λ v. nat_eq (bit_at v ((256 * k + line) % 64)) 1) zero
      ∙ ap (λ v. nat_eq v 1) (ap (λ v. v % 2) (zero-div (2 ^ ((256 * k + line) % 64))) ∙ zero-mod 2)

  free-lines : (k line : ℕ) → k < s.blocks → IsClear s k → line < 256 → line_marked cleared k line ≡ line_marked s k line
  free-lines k line there old small = clear k line there small ∙ sym (elim (cases_Bool (line_marked s k line)) as (λ _. line_marked s k line ≡ false) [
    | inl set ↦ absurd (old.lines line small set)
    | inr none ↦ none
  ])

  -- a Free block stays Free
  plain : (k : ℕ) (kind : Kind) → HasKind s k kinds.Free → HasKind cleared k kind → HasKind s k kind
  plain k kind free now = sym (kind-same k kind) ∙ now

  pub without_lines-lawful : IsLawfulButLines (without_lines s)
  without_lines-lawful = record {
    order = record {
      row = record {
        least = lawful.order.row.least;
        most = lawful.order.row.most;
        extent = zeroed-length s.words (first s.blocks LineWords) (4 * s.blocks) inside ∙ lawful.order.row.extent;
        words = fits;
        base = lawful.order.row.base;
      };
      objects = together cleared (blocks.objects-after s w same (objects-of s lawful.order.objects))
          (blocks.places-after s w same (λ k there used. block-same k there) others (places-of s lawful.order.objects));
    };
    blocks = λ k there. let old = lawful.blocks k there in record {
      code = ap is_block_code (block-same k there) ∙ old.code;
      owner = ap (λ v. v / 65536) (block-same k there) ∙ old.owner;
    };
    free = λ k now. let free = sym (kind-same k kinds.Free) ∙ now in
        blocks.clear-after s w same k (λ line small. free-lines k line (kind-within s k kinds.Free free) (lawful.free k free) small) (lawful.free k free);
  }
    where
      others : (k : ℕ) → HasKind s k kinds.Free → (HasKind cleared k kinds.LargeHead → ⊥) × (HasKind cleared k kinds.LargeTail → ⊥)
      others k free = (
        λ now. let e = one-kind s k kinds.LargeHead kinds.Free (plain k kinds.LargeHead free now) free in omega arith,
        λ now. let e = one-kind s k kinds.LargeTail kinds.Free (plain k kinds.LargeTail free now) free in omega arith,
      )
