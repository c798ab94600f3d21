-- The logged objects of a word of start bits, and of a block in which no object begins.
use Rattle.std.proofs.Common.{◌≡◌, refl, sym, ◌∙◌, ap, subst, ℕ, zero, suc, ◌+◌, ◌*◌, ◌-◌, ◌^◌, ◌<◌, ◌≤◌, ◌⊎◌, inl, inr, arith, w64, min, Bool, true, false, ◌&&◌, ◌||◌, true≢false, nat_eq, nat_le, eq-eqb, bit_and, List, [], ◌∷◌, ◌++◌, slice_index, slice_index_or, replicate}
use Rattle.std.specs.Prelude.{Some, slice_get, not}
use Rattle.std.specs.Int.{bit_at, bit_not}
use Rattle.std.proofs.lemmas.Bool.{cases_Bool, cases_eq, cases_lt, le-leb, leb-true, and_left, and_parts, and_from, or_left}
use Rattle.std.proofs.lemmas.Option.{get_or_from_slice_get}
use Rattle.std.proofs.lemmas.List.{length-replicate}
use Rattle.std.proofs.lemmas.Nat.Bits.{bit_at_and, bit_at_not, bit_at-lt, bit_at-zero}
use Rattle.heap_layout.specs.Zones.{StartBits, UnlogBits, heap_of, row_words, first, block_at, block_start, IsAddress}
use Rattle.forward_word.specs.CollectorWords.{is_old_word}
use Rattle.heap_layout.specs.declared.block.Kind.TheVariants as kinds
use Rattle.heap_layout.proofs.MarkLemmas.{is-address_from_mark}
use Rattle.side_meta.specs.BitWords.{has_bit, without_bit}
use Rattle.side_meta.proofs.BitWords.{without-same, without-other, without-fits}
use Rattle.object_model.specs.Objects.{HeapState, HasKind, IsHeld, word_at, is_start, is_pinned, is_unlogged, size_at}
use Rattle.object_model.specs.Ages.{is_old, is_logged}
use Rattle.object_model.specs.Lawful.{IsLawful}
use Rattle.object_model.proofs.Marks.{held}
use Rattle.object_model.proofs.OneKind.{one-kind, has_small-code}
use Rattle.object_model.proofs.WordReads.{bit-there}
use Rattle.write_barrier.specs.Listed.{CoverLogged, logged_below, address_of, lacks_unlog_bit}
use Rattle.write_barrier.proofs.LoggedLists.{with-logged, without-logged, none-between}

has-and-not : (a b j : ℕ) → b < 2 ^ 64 → j < 64 → has_bit (bit_and a (bit_not w64 b)) j ≡ (has_bit a j && not (has_bit b j))
has-and-not a b j fits small =
    let one = bit_at-lt a j in
    let other = bit_at-lt b j in
    ap (λ v. nat_eq v 1) (bit_at_and a (bit_not w64 b) j ∙ ap (min (bit_at a j)) (bit_at_not w64 b j fits small)) ∙ both (bit_at a j) (bit_at b j) one other
  where
    both : (x y : ℕ) → x < 2 → y < 2 → nat_eq (min x (1 - y)) 1 ≡ (nat_eq x 1 && not (nat_eq y 1))
    both x y small low = grind arith

and-true : (b : Bool) → (b && true) ≡ b
and-true b = grind arith

module _ (s : HeapState) (i : ℕ) (there : i < 64 * s.blocks) where
  pub address : (j : ℕ) → j < 64 → IsAddress s.blocks (address_of s i j)
  address j small = record { from = omega arith; below = omega (arith, there, small) }

  pub without-bit : (starts unlogs : ℕ) → starts ≡ word_at s (first s.blocks StartBits + i) → unlogs ≡ word_at s (first s.blocks UnlogBits + i) → unlogs < 2 ^ 64
      → (j : ℕ) → j < 64 → has_bit (bit_and starts (bit_not w64 unlogs)) j ≡ lacks_unlog_bit s i j
  without-bit starts unlogs first-is second-is fits j small =
      has-and-not starts unlogs j fits small
      ∙ ap (λ v. has_bit v j && not (has_bit unlogs j)) first-is ∙ ap (λ v. has_bit (word_at s (first s.blocks StartBits + i)) j && not (has_bit v j)) second-is
      ∙ ap (λ b. b && not (has_bit (word_at s (first s.blocks UnlogBits + i)) j)) (sym (bit-there s.blocks StartBits s.words i j there small))
      ∙ ap (λ b. is_start s (address_of s i j) && not b) (sym (bit-there s.blocks UnlogBits s.words i j there small))

  none-logged : (j : ℕ) → lacks_unlog_bit s i j ≡ false → is_logged s (address_of s i j) ≡ false
  none-logged j none = elim (cases_Bool (is_logged s (address_of s i j))) as (λ _. is_logged s (address_of s i j) ≡ false) [
    | inl is ↦ absurd (
        let a : ℕ = address_of s i j in
        let both = and_parts (is_start s a && is_old s a) (not (is_unlogged s a)) is in
        let start = (and_parts (is_start s a) (is_old s a) both.0).0 in
        true≢false (sym (and_from (is_start s a) (not (is_unlogged s a)) start both.1) ∙ none))
    | inr not ↦ not
  ]

  logged-by-age : (j : ℕ) → lacks_unlog_bit s i j ≡ true → is_logged s (address_of s i j) ≡ is_old s (address_of s i j)
  logged-by-age j is =
      let a : ℕ = address_of s i j in
      let both = and_parts (is_start s a) (not (is_unlogged s a)) is in
      ap (λ b. (b && is_old s a) && not (is_unlogged s a)) both.0 ∙ ap (λ b. is_old s a && b) both.1 ∙ and-true (is_old s a)

  pub lacking-held : (j : ℕ) → lacks_unlog_bit s i j ≡ true → IsHeld s (address_of s i j)
  lacking-held j is = held s (address_of s i j) (and_parts (is_start s (address_of s i j)) _ is).0

-- The list has the logged objects below one of the word's addresses, and those without unlog bits from there on are left.
pub record WordLeft (s : HeapState) (i rest : ℕ) (logged : List ℕ) : Type 0 where
  pub at : ℕ
  pub most : at ≤ 64
  pub fits : rest < 2 ^ 64
  pub left : (j : ℕ) → j < 64 → has_bit rest j ≡ (nat_le at j && lacks_unlog_bit s i j)
  pub list : logged ≡ logged_below s (address_of s i at)

pub word-begins : (s : HeapState) (i rest : ℕ) (logged : List ℕ) → rest < 2 ^ 64 → ((j : ℕ) → j < 64 → has_bit rest j ≡ lacks_unlog_bit s i j)
    → logged ≡ logged_below s (heap_of s.blocks + 64 * i) → WordLeft s i rest logged
word-begins s i rest logged fits bits list = record {
  at = 0;
  most = omega arith;
  fits = fits;
  left = λ j small. bits j small ∙ sym (ap (λ b. b && lacks_unlog_bit s i j) (le-leb 0 j (omega arith)));
  list = list ∙ ap (logged_below s) (let e : heap_of s.blocks + 64 * i ≡ heap_of s.blocks + 64 * i + 0 = omega arith in e);
}

module _ (s : HeapState) (i rest : ℕ) (logged : List ℕ) (there : i < 64 * s.blocks) (word : WordLeft s i rest logged) where
  -- no object below the lowest bit that is left lacks its unlog bit
  skipped : (b : ℕ) → b ≤ 64 → word.at ≤ b → ((j : ℕ) → j < b → bit_at rest j ≡ 0) → logged ≡ logged_below s (address_of s i b)
  skipped b most from lowest =
      let n : ℕ = b - word.at in
      let end : address_of s i word.at + n ≡ address_of s i b = omega (arith, from) in
      word.list ∙ sym (none-between s (address_of s i word.at) n (λ j less.
      let at : address_of s i word.at + j ≡ address_of s i (word.at + j) = omega arith in
      let small : word.at + j < b = omega (arith, from, less) in
      let clear : has_bit rest (word.at + j) ≡ false = ap (λ v. nat_eq v 1) (lowest (word.at + j) small) in
      let past : nat_le word.at (word.at + j) ≡ true = le-leb word.at (word.at + j) (omega arith) in
      let none : lacks_unlog_bit s i (word.at + j) ≡ false =
      sym (ap (λ t. t && lacks_unlog_bit s i (word.at + j)) past) ∙ sym (word.left (word.at + j) (omega (arith, small, most))) ∙ clear in
      ap (is_logged s) at ∙ none-logged s i there (word.at + j) none)) ∙ ap (logged_below s) end

  pub word-ends : rest ≡ 0 → logged ≡ logged_below s (heap_of s.blocks + 64 * i + 64)
  word-ends none = skipped 64 (omega arith) word.most (λ j less. ap (λ v. bit_at v j) none ∙ bit_at-zero j)

  module _ (b : ℕ) (low : b < 64) (set : bit_at rest b ≡ 1) (lowest : (j : ℕ) → j < b → bit_at rest j ≡ 0) where
    both : (nat_le word.at b ≡ true) × (lacks_unlog_bit s i b ≡ true)
    both = and_parts (nat_le word.at b) (lacks_unlog_bit s i b) (sym (word.left b low) ∙ eq-eqb (bit_at rest b) 1 set)

    from : word.at ≤ b
    from = leb-true word.at b both.0

    pub next-held : IsHeld s (address_of s i b)
    next-held = lacking-held s i there b both.1

    up-to : logged ≡ logged_below s (address_of s i b)
    up-to = skipped b (omega (arith, low)) from lowest

    not-yet : (j : ℕ) → j ≤ b → (nat_le (b + 1) j && lacks_unlog_bit s i j) ≡ false
    not-yet j less = and_left (nat_le (b + 1) j) (lacks_unlog_bit s i j) (let past : nat_le (b + 1) j ≡ false = grind arith in past)

    left-next : (j : ℕ) → j < 64 → has_bit (without_bit rest b) j ≡ (nat_le (b + 1) j && lacks_unlog_bit s i j)
    left-next j small = elim (cases_eq j b) as (λ _. has_bit (without_bit rest b) j ≡ (nat_le (b + 1) j && lacks_unlog_bit s i j)) [
      | inl same ↦ ap (has_bit (without_bit rest b)) same ∙ ap (λ v. nat_eq v 1) (without-same rest b low) ∙ sym (not-yet j (omega (arith, same)))
      | inr other ↦ ap (λ v. nat_eq v 1) (without-other rest b j low small other)
          ∙ (elim (cases_lt j b) as (λ _. has_bit rest j ≡ (nat_le (b + 1) j && lacks_unlog_bit s i j)) [
            | inl less ↦ ap (λ v. nat_eq v 1) (lowest j less) ∙ sym (not-yet j (omega (arith, less)))
            | inr past ↦
                (let after : b + 1 ≤ j = omega (arith, past, other) in
                word.left j small ∙ ap (λ t. t && lacks_unlog_bit s i j) (le-leb word.at j (omega (arith, from, after)) ∙ sym (le-leb (b + 1) j after)))
          ])
    ]

    end : address_of s i b + 1 ≡ address_of s i (b + 1)
    end = omega arith

    pub next-old : is_old s (address_of s i b) ≡ true → WordLeft s i (without_bit rest b) (logged ++ address_of s i b ∷ [])
    next-old old = record {
      at = b + 1;
      most = omega (arith, low);
      fits = without-fits rest b word.fits;
      left = left-next;
      list = ap (λ l. l ++ address_of s i b ∷ []) up-to ∙ sym (with-logged s (address_of s i b) (logged-by-age s i there b both.1 ∙ old)) ∙ ap (logged_below s) end;
    }

    pub next-young : is_old s (address_of s i b) ≡ false → WordLeft s i (without_bit rest b) logged
    next-young young = record {
      at = b + 1;
      most = omega (arith, low);
      fits = without-fits rest b word.fits;
      left = left-next;
      list = up-to ∙ sym (without-logged s (address_of s i b) (logged-by-age s i there b both.1 ∙ young)) ∙ ap (logged_below s) end;
    }

-- whether the object is old, read by its address and the heap's words and base
pub old-read : (s : HeapState) (words : List ℕ) (base at a : ℕ) → words ≡ s.words → base ≡ s.base → at ≡ a
    → is_old_word base (slice_index words (at + 2)) ≡ is_old s a
old-read s words base at a same-words same-base here =
    ap (λ w. is_old_word base (slice_index w (at + 2))) same-words ∙ ap (λ n. is_old_word n (word_at s (at + 2))) same-base
    ∙ ap (λ k. is_old_word s.base (word_at s (k + 2))) here

-- the start bits of word w of block k whose objects lack their unlog bits, as they are read
pub bits-read : (s : HeapState) (words : List ℕ) (starts unlogs k w : ℕ) → words ≡ s.words → starts ≡ first s.blocks StartBits → unlogs ≡ first s.blocks UnlogBits
    → k < s.blocks → w < 64 → (start unlog : ℕ) → start ≡ slice_index words (starts + 64 * k + w) → unlog ≡ slice_index words (unlogs + 64 * k + w) → unlog < 2 ^ 64
    → (j : ℕ) → j < 64 → has_bit (bit_and start (bit_not w64 unlog)) j ≡ lacks_unlog_bit s (64 * k + w) j
bits-read s words starts unlogs k w same from other there inside start unlog first-read second-read fits =
    let i : ℕ = 64 * k + w in
    let first-is : start ≡ word_at s (first s.blocks StartBits + i) =
    first-read ∙ ap (slice_index words) (let e : starts + 64 * k + w ≡ first s.blocks StartBits + i = omega (arith, from) in e) ∙ ap (λ l. slice_index l (first s.blocks StartBits + i)) same in
    let second-is : unlog ≡ word_at s (first s.blocks UnlogBits + i) =
    second-read ∙ ap (slice_index words) (let e : unlogs + 64 * k + w ≡ first s.blocks UnlogBits + i = omega (arith, other) in e) ∙ ap (λ l. slice_index l (first s.blocks UnlogBits + i)) same in
    without-bit s i (omega (arith, there, inside)) start unlog first-is second-is fits

-- a word in which no object lacks its unlog bit
pub none-in-word : (s : HeapState) (i bits : ℕ) (logged : List ℕ) → i < 64 * s.blocks → ((j : ℕ) → j < 64 → has_bit bits j ≡ lacks_unlog_bit s i j) → bits ≡ 0
    → logged ≡ logged_below s (heap_of s.blocks + 64 * i) → logged ≡ logged_below s (heap_of s.blocks + 64 * i + 64)
none-in-word s i bits logged there lack none list = word-ends s i bits logged there (word-begins s i bits logged (omega (arith, none)) lack list) none

-- a block without logged objects
none-in-block : (s : HeapState) (k : ℕ) → ((a : ℕ) → block_at s.blocks a ≡ k → is_logged s a ≡ false)
    → logged_below s (block_start s.blocks (k + 1)) ≡ logged_below s (block_start s.blocks k)
none-in-block s k none =
    let next : block_start s.blocks (k + 1) ≡ block_start s.blocks k + 4096 = omega arith in
    ap (logged_below s) next ∙ none-between s (block_start s.blocks k) 4096 (λ j less. none (block_start s.blocks k + j) (omega (arith, less)))

-- a block in which no object begins
module _ (s : HeapState) (lawful : IsLawful s) (k : ℕ) (there : k < s.blocks) where
  begins-in : (a : ℕ) → IsHeld s a → block_at s.blocks a ≡ k → HasKind s k kinds.LargeTail → ⊥
  begins-in a holds at tail =
      let lies = lawful.but_lines.order.objects.lies a holds in
      let here : HasKind s (block_at s.blocks a) kinds.LargeTail = subst (λ n. HasKind s n kinds.LargeTail) (sym at) tail in
      elim (cases_lt 2048 (size_at s a)) as (λ _. ⊥) [
        | inl large ↦ true≢false (sym (ap (λ n. nat_eq n 7) (one-kind s (block_at s.blocks a) kinds.LargeHead kinds.LargeTail (lies.large large).run.head here)))
        | inr small ↦ true≢false (sym (lies.small small).kind ∙ has_small-code s (block_at s.blocks a) kinds.LargeTail here)
      ]

  no-start : (HasKind s k kinds.Free ⊎ HasKind s k kinds.LargeTail) → (a : ℕ) → block_at s.blocks a ≡ k → is_start s a ≡ false
  no-start is a at = elim (cases_Bool (is_start s a)) as (λ _. is_start s a ≡ false) [
    | inr none ↦ none
    | inl start ↦ absurd (elim is as (λ _. ⊥) [
      | inl free ↦ (lawful.but_lines.free k free).marks a at (or_left (is_start s a || is_pinned s a) (is_unlogged s a) (or_left (is_start s a) (is_pinned s a) start))
      | inr tail ↦ begins-in a (held s a start) at tail
    ])
  ]

  pub none-here : (HasKind s k kinds.Free ⊎ HasKind s k kinds.LargeTail) → logged_below s (block_start s.blocks (k + 1)) ≡ logged_below s (block_start s.blocks k)
  none-here is = none-in-block s k (λ a at. and_left (is_start s a && is_old s a) _ (and_left (is_start s a) _ (no-start is a at)))

-- a block whose flag is clear
pub none-unflagged : (s : HeapState) (flags : List Bool) → CoverLogged s flags → (k : ℕ) → slice_index_or flags k false ≡ false
    → logged_below s (block_start s.blocks (k + 1)) ≡ logged_below s (block_start s.blocks k)
none-unflagged s flags cover k clear = none-in-block s k (λ a at. elim (cases_Bool (is_logged s a)) as (λ _. is_logged s a ≡ false) [
  | inr none ↦ none
  | inl logged ↦ absurd (true≢false (sym (get_or_from_slice_get flags (block_at s.blocks a) true false (cover.each a logged)) ∙ ap (λ n. slice_index_or flags n false) at ∙ clear))
])

get-copy : (n k : ℕ) → k < n → slice_get (replicate n true) k ≡ Some true
get-copy zero k below = absurd (omega arith)
get-copy (suc n) zero below = refl
get-copy (suc n) (suc k) below = get-copy n k (let less : suc k < suc n = below in omega arith)

-- all flags are set
pub all-cover : (s : HeapState) → CoverLogged s (replicate s.blocks true)
all-cover s = record {
  len = length-replicate s.blocks true;
  each = λ a logged.
      let there = is-address_from_mark s.blocks StartBits s.words a
      (and_parts (is_start s a) (is_old s a) (and_parts (is_start s a && is_old s a) (not (is_unlogged s a)) logged).0).0 in
      let from : heap_of s.blocks ≤ a = there.from in
      let below : a < row_words s.blocks = there.below in
      get-copy s.blocks (block_at s.blocks a) (omega arith);
}
