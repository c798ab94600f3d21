-- The words of start bits of a block were swept, one after another.
use Rattle.std.proofs.Common.{◌≡◌, ℕ, ◌+◌, ◌*◌, ◌-◌, ◌/◌, ◌%◌, ◌^◌, ◌<◌, ◌≤◌, ◌⊎◌, inl, inr, refl, sym, ap, ◌∙◌, subst, arith, Bool, true, ◌&&◌, ◌||◌, IsTrue, nat_eq, nat_le, List, length, slice_index}
use Rattle.side_meta.specs.BitWords.{has_bit}
use Rattle.std.specs.Prelude.{count_by, count_ones}
use Rattle.std.specs.List.{range_with_len}
use Rattle.std.proofs.lemmas.Bool.{cases_lt, and_parts, and_from, or_right}
use Rattle.forward_word.specs.CollectorWords.{number_in, target_in}
use Rattle.std.proofs.lemmas.List.Sums.{count_by-le-length}
use Rattle.std.proofs.lemmas.List.FromFn.{length-range_with_len}
use Rattle.heap_layout.specs.Zones.{Zone, StartBits, PinBits, UnlogBits, first, heap_of, row_words, block_at, block_start, address_bit}
use Rattle.object_model.specs.Objects.{HeapState, with_words, word_at, is_start, is_pinned, is_unlogged, IsHeld, size_at}
use Rattle.object_model.specs.Ages.{is_survivor}
use Rattle.object_model.specs.Releasing.{IsReleasable, InSpan}
use Rattle.object_model.proofs.ObjectReads.{lies_in_row}
use Rattle.object_model.proofs.WordReads.{bit-there}
use Rattle.block_sweeps.specs.Sweeping.{InBlock, IsAmong, ChangesOnly, KeepsLiving}
use Rattle.block_sweeps.specs.WordSweeps.{start_word, pin_word, unlog_word, address_of, IsMarkAmong, MaySweep, SweepsWords}
use Rattle.block_sweeps.proofs.BitCounts.{count-same, count-parts, ones-count}

-- the words of a block that may be released may be swept
module _ (s : HeapState) (k i : ℕ) (long : length s.words ≡ row_words s.blocks) (there : k < s.blocks) (may : IsReleasable s k)
    (from : 64 * k ≤ i) (below : i < 64 * k + 64) where
  in-span : (j : ℕ) → j < 64 → InSpan s k (address_of s i j)
  in-span j small = record { address = record { from = omega arith; below = omega arith }; block = inl (omega arith) }

  held-there : (j : ℕ) → j < 64 → IsTrue (has_bit (start_word s i) j) → IsHeld s (address_of s i j)
  held-there j small set = record {
    address = (in-span j small).address;
    start = bit-there s.blocks StartBits s.words i j (omega arith) small ∙ set;
  }

  start-there : (j : ℕ) → j < 64 → IsTrue (is_pinned s (address_of s i j) || is_unlogged s (address_of s i j)) → IsTrue (has_bit (start_word s i) j)
  start-there j small marked = sym (bit-there s.blocks StartBits s.words i j (omega arith) small) ∙ (may.marks (address_of s i j) (in-span j small) marked).start

  pub may-sweep : MaySweep s i
  may-sweep = record {
    extent = long;
    inside = omega arith;
    objects = λ j small set.
        let object = may.objects (address_of s i j) (in-span j small) (held-there j small set) in
        let ends = lies_in_row s (address_of s i j) (size_at s (address_of s i j)) object.1 in omega arith;
    pins = λ j small set. start-there j small (let pinned : is_pinned s (address_of s i j) ≡ true = bit-there s.blocks PinBits s.words i j (omega arith) small ∙ set in ap (λ x. x || is_unlogged s (address_of s i j)) pinned);
    unlogs = λ j small set. start-there j small (let unlogged : is_unlogged s (address_of s i j) ≡ true = bit-there s.blocks UnlogBits s.words i j (omega arith) small ∙ set in or_right (is_pinned s (address_of s i j)) _ unlogged);
  }

-- words that are not among those that changed
module _ (s : HeapState) (ws : List ℕ) (from n : ℕ) (only : ChangesOnly (IsMarkAmong s.blocks from n) s (with_words s ws)) (short : from + n ≤ 64 * s.blocks) where
  abbrev m : HeapState
  m = with_words s ws

  pub start-same : (i : ℕ) → i < 64 * s.blocks → (IsAmong from n i → ⊥) → start_word m i ≡ start_word s i
  start-same i inside outside = only.others (first s.blocks StartBits + i) (λ h. elim h as (λ _. ⊥) [
    | inl here ↦ outside (let after = here.after in let below = here.below in record { after = omega arith; below = omega arith })
    | inr other ↦ elim other as (λ _. ⊥) [ inl pin ↦ (let after = pin.after in omega arith) | inr unlog ↦ (let after = unlog.after in omega arith) ]
  ])

  pub pin-same : (i : ℕ) → i < 64 * s.blocks → (IsAmong from n i → ⊥) → pin_word m i ≡ pin_word s i
  pin-same i inside outside = only.others (first s.blocks PinBits + i) (λ h. elim h as (λ _. ⊥) [
    | inl start ↦ (let below = start.below in omega arith)
    | inr other ↦ elim other as (λ _. ⊥) [
      | inl here ↦ outside (let after = here.after in let below = here.below in record { after = omega arith; below = omega arith })
      | inr unlog ↦ (let after = unlog.after in omega arith)
    ]
  ])

  pub unlog-same : (i : ℕ) → i < 64 * s.blocks → (IsAmong from n i → ⊥) → unlog_word m i ≡ unlog_word s i
  unlog-same i inside outside = only.others (first s.blocks UnlogBits + i) (λ h. elim h as (λ _. ⊥) [
    | inl start ↦ (let below = start.below in omega arith)
    | inr other ↦ elim other as (λ _. ⊥) [
      | inl pin ↦ (let below = pin.below in omega arith)
      | inr here ↦ outside (let after = here.after in let below = here.below in record { after = omega arith; below = omega arith })
    ]
  ])

  pub heap-same : (a : ℕ) → heap_of s.blocks ≤ a → word_at m a ≡ word_at s a
  heap-same a above = only.others a (λ h. elim h as (λ _. ⊥) [
    | inl start ↦ (let below = start.below in omega arith)
    | inr other ↦ elim other as (λ _. ⊥) [ inl pin ↦ (let below = pin.below in omega arith) | inr unlog ↦ (let below = unlog.below in omega arith) ]
  ])

-- the words from index `from` to `index` were swept, then that at `index`
module _ (base from index : ℕ) (s : HeapState) (ws : List ℕ) (rising : from ≤ index) (inside : index < 64 * s.blocks)
    (swept : SweepsWords base from (index - from) s (with_words s ws)) where
  abbrev now : HeapState
  now = with_words s ws

  apart : IsAmong from (index - from) index → ⊥
  apart among = let below = among.below in omega arith

  pub may-next : MaySweep s index → MaySweep now index
  may-next may =
      let start : start_word now index ≡ start_word s index = start-same s ws from (index - from) swept.rest (omega arith) index inside apart in
      let pin : pin_word now index ≡ pin_word s index = pin-same s ws from (index - from) swept.rest (omega arith) index inside apart in
      let unlog : unlog_word now index ≡ unlog_word s index = unlog-same s ws from (index - from) swept.rest (omega arith) index inside apart in
      record {
        extent = swept.rest.extent ∙ may.extent;
        inside = inside;
        objects = λ j small set. may.objects j small (ap (λ v. has_bit v j) (sym start) ∙ set);
        pins = λ j small set. ap (λ v. has_bit v j) start ∙ may.pins j small (ap (λ v. has_bit v j) (sym pin) ∙ set);
        unlogs = λ j small set. ap (λ v. has_bit v j) start ∙ may.unlogs j small (ap (λ v. has_bit v j) (sym unlog) ∙ set);
      }

-- among more words
among-more : (b from count from' count' i : ℕ) → from' ≤ from → from + count ≤ from' + count' → IsMarkAmong b from count i → IsMarkAmong b from' count' i
among-more b from count from' count' i sooner later h = elim h as (λ _. IsMarkAmong b from' count' i) [
  | inl start ↦ inl (let after = start.after in let below = start.below in record { after = omega arith; below = omega arith })
  | inr other ↦ elim other as (λ _. IsMarkAmong b from' count' i) [
    | inl pin ↦ inr (inl (let after = pin.after in let below = pin.below in record { after = omega arith; below = omega arith }))
    | inr unlog ↦ inr (inr (let after = unlog.after in let below = unlog.below in record { after = omega arith; below = omega arith }))
  ]
]

-- of these words one more was swept
module _ (base from index : ℕ) (s : HeapState) (ws ws' : List ℕ) (rising : from ≤ index) (inside : index < 64 * s.blocks)
    (swept : SweepsWords base from (index - from) s (with_words s ws)) (more : SweepsWords base index 1 (with_words s ws) (with_words s ws')) where
  abbrev mid : HeapState
  mid = with_words s ws

  abbrev end : HeapState
  end = with_words s ws'

  place : (i : ℕ) → IsAmong from (index + 1 - from) i → IsAmong from (index - from) i ⊎ IsAmong index 1 i
  place i among = (let after = among.after in let below = among.below in elim (cases_lt i index) as (λ _. IsAmong from (index - from) i ⊎ IsAmong index 1 i) [
    | inl before ↦ inl (record { after = after; below = omega arith })
    | inr last ↦ inr (record { after = last; below = omega arith })
  ])

  -- the words that were swept before are unchanged, and so was the last before it was swept
  start-before : (i : ℕ) → IsAmong from (index - from) i → start_word end i ≡ start_word mid i
  start-before i among = (let below = among.below in start-same mid ws' index 1 more.rest (omega arith) i (omega arith) (λ h. let after = h.after in omega arith))

  pin-before : (i : ℕ) → IsAmong from (index - from) i → pin_word end i ≡ pin_word mid i
  pin-before i among = (let below = among.below in pin-same mid ws' index 1 more.rest (omega arith) i (omega arith) (λ h. let after = h.after in omega arith))

  unlog-before : (i : ℕ) → IsAmong from (index - from) i → unlog_word end i ≡ unlog_word mid i
  unlog-before i among = (let below = among.below in unlog-same mid ws' index 1 more.rest (omega arith) i (omega arith) (λ h. let after = h.after in omega arith))

  last-inside : (i : ℕ) → IsAmong index 1 i → i < 64 * s.blocks
  last-inside i last = (let below = last.below in omega arith)

  last-apart : (i : ℕ) → IsAmong index 1 i → IsAmong from (index - from) i → ⊥
  last-apart i last among = (let after = last.after in let below = among.below in omega arith)

  survives-same : (a : ℕ) → heap_of s.blocks ≤ a → is_survivor mid base a ≡ is_survivor s base a
  survives-same a above = ap (λ w. nat_le base (number_in w) && nat_eq (target_in w) a) (heap-same s ws from (index - from) swept.rest (omega arith) (a + 2) (omega arith))

  starts-next : (i j : ℕ) → IsAmong from (index + 1 - from) i → j < 64 → has_bit (start_word end i) j ≡ (has_bit (start_word s i) j && is_survivor s base (address_of s i j))
  starts-next i j among small = elim (place i among) as (λ _. has_bit (start_word end i) j ≡ (has_bit (start_word s i) j && is_survivor s base (address_of s i j))) [
    | inl before ↦ ap (λ v. has_bit v j) (start-before i before) ∙ swept.starts i j before small
    | inr last ↦ more.starts i j last small
        ∙ ap (λ v. has_bit v j && is_survivor mid base (address_of s i j)) (start-same s ws from (index - from) swept.rest (omega arith) i (last-inside i last) (last-apart i last))
        ∙ ap (λ b. has_bit (start_word s i) j && b) (survives-same (address_of s i j) (omega arith))
  ]

  pins-next : (i j : ℕ) → IsAmong from (index + 1 - from) i → j < 64 → has_bit (pin_word end i) j ≡ (has_bit (pin_word s i) j && has_bit (start_word end i) j)
  pins-next i j among small = elim (place i among) as (λ _. has_bit (pin_word end i) j ≡ (has_bit (pin_word s i) j && has_bit (start_word end i) j)) [
    | inl before ↦ ap (λ v. has_bit v j) (pin-before i before) ∙ swept.pins i j before small
        ∙ ap (λ v. has_bit (pin_word s i) j && has_bit v j) (sym (start-before i before))
    | inr last ↦ more.pins i j last small
        ∙ ap (λ v. has_bit v j && has_bit (start_word end i) j) (pin-same s ws from (index - from) swept.rest (omega arith) i (last-inside i last) (last-apart i last))
  ]

  unlogs-next : (i j : ℕ) → IsAmong from (index + 1 - from) i → j < 64 → has_bit (unlog_word end i) j ≡ (has_bit (unlog_word s i) j && has_bit (start_word end i) j)
  unlogs-next i j among small = elim (place i among) as (λ _. has_bit (unlog_word end i) j ≡ (has_bit (unlog_word s i) j && has_bit (start_word end i) j)) [
    | inl before ↦ ap (λ v. has_bit v j) (unlog-before i before) ∙ swept.unlogs i j before small
        ∙ ap (λ v. has_bit (unlog_word s i) j && has_bit v j) (sym (start-before i before))
    | inr last ↦ more.unlogs i j last small
        ∙ ap (λ v. has_bit v j && has_bit (start_word end i) j) (unlog-same s ws from (index - from) swept.rest (omega arith) i (last-inside i last) (last-apart i last))
  ]

  pub swept-next : SweepsWords base from (index + 1 - from) s end
  swept-next = record {
    starts = starts-next;
    pins = pins-next;
    unlogs = unlogs-next;
    rest = record {
      blocks = refl;
      extent = more.rest.extent ∙ swept.rest.extent;
      others = λ i outside.
          more.rest.others i (λ h. outside (among-more s.blocks index 1 from (index + 1 - from) i rising (omega arith) h))
          ∙ swept.rest.others i (λ h. outside (among-more s.blocks from (index - from) from (index + 1 - from) i (omega arith) (omega arith) h));
      fit = λ fit. more.rest.fit (swept.rest.fit fit);
    };
  }

-- how many objects begin at the addresses of the first n words of start bits of block k
abbrev pub begun : HeapState → ℕ → ℕ → ℕ
begun s k n = count_by (λ w. is_start s (block_start s.blocks k + w)) (range_with_len 0 (64 * n))

pub few-begun : (s : HeapState) (k n : ℕ) → begun s k n ≤ 64 * n
few-begun s k n =
    let most = count_by-le-length (λ w. is_start s (block_start s.blocks k + w)) (range_with_len 0 (64 * n)) in
    let long : length (range_with_len 0 (64 * n)) ≡ 64 * n = length-range_with_len 0 (64 * n) in
    omega arith

-- one more word is counted, which alone changed
module _ (s : HeapState) (k index : ℕ) (ws : List ℕ) (from : 64 * k ≤ index) (inside : index < 64 * s.blocks)
    (only : ChangesOnly (IsMarkAmong s.blocks index 1) s (with_words s ws)) (fits : start_word (with_words s ws) index < 2 ^ 64) where
  abbrev then : HeapState
  then = with_words s ws

  abbrev n : ℕ
  n = index - 64 * k

  -- the bits before it are unchanged
  bits-before : (w : ℕ) → w < 64 * n → is_start then (block_start s.blocks k + (0 + w)) ≡ is_start s (block_start s.blocks k + (0 + w))
  bits-before w below =
      let i : ℕ = 64 * k + w / 64 in
      let j : ℕ = w % 64 in
      let at : block_start s.blocks k + (0 + w) ≡ heap_of s.blocks + 64 * i + j = omega arith in
      let here : i < 64 * s.blocks = omega arith in
      let small : j < 64 = omega arith in
      ap (is_start then) at ∙ bit-there s.blocks StartBits ws i j here small
      ∙ ap (λ v. has_bit v j) (start-same s ws index 1 only (omega arith) i here (λ h. let after = h.after in omega arith))
      ∙ sym (bit-there s.blocks StartBits s.words i j here small) ∙ ap (is_start s) (sym at)

  bits-here : (j : ℕ) → j < 64 → is_start then (block_start s.blocks k + (0 + 64 * n + j)) ≡ has_bit (start_word then index) (0 + j)
  bits-here j small =
      let at : block_start s.blocks k + (0 + 64 * n + j) ≡ heap_of s.blocks + 64 * index + j = omega arith in
      let bit : j ≡ 0 + j = omega arith in
      ap (is_start then) at ∙ bit-there s.blocks StartBits ws index j inside small ∙ ap (has_bit (start_word then index)) bit

  pub count-next : begun then k (index + 1 - 64 * k) ≡ begun s k (index - 64 * k) + count_ones (start_word then index)
  count-next =
      let p : ℕ → Bool = λ w. is_start then (block_start s.blocks k + w) in
      let q : ℕ → Bool = λ w. is_start s (block_start s.blocks k + w) in
      let size : 64 * (index + 1 - 64 * k) ≡ 64 * n + 64 = omega arith in
      ap (λ m. count_by p (range_with_len 0 m)) size ∙ count-parts p 0 (64 * n) 64
      ∙ ap (λ c. c + count_by p (range_with_len (0 + 64 * n) 64)) (count-same p q 0 0 (64 * n) bits-before)
      ∙ ap (λ c. begun s k n + c) (count-same p (has_bit (start_word then index)) (0 + 64 * n) 0 64 bits-here ∙ sym (ones-count 64 (start_word then index) fits))

-- a swept block
module _ (base k : ℕ) (s : HeapState) (ws : List ℕ) (there : k < s.blocks) (swept : SweepsWords base (64 * k) 64 s (with_words s ws)) where
  abbrev after : HeapState
  after = with_words s ws

  abbrev Started : ℕ → Type 0
  Started a = is_start after a ≡ (is_start s a && is_survivor s base a)

  abbrev Pinned : ℕ → Type 0
  Pinned a = is_pinned after a ≡ (is_pinned s a && is_start after a)

  abbrev Unlogged : ℕ → Type 0
  Unlogged a = is_unlogged after a ≡ (is_unlogged s a && is_start after a)

  -- the word and bit of an address
  module _ (a : ℕ) (here : InBlock s k a) where
    abbrev i : ℕ
    i = (a - heap_of s.blocks) / 64

    abbrev j : ℕ
    j = (a - heap_of s.blocks) % 64

    at : address_of s i j ≡ a
    at = let from : heap_of s.blocks ≤ a = here.address.from in omega arith

    inside : i < 64 * s.blocks
    inside = let block : block_at s.blocks a ≡ k = here.block in omega arith

    among : IsAmong (64 * k) 64 i
    among = let block : block_at s.blocks a ≡ k = here.block in record { after = omega arith; below = omega arith }

    small : j < 64
    small = omega arith

    bit : (z : Zone) (w : List ℕ) → address_bit s.blocks z w (address_of s i j) ≡ has_bit (slice_index w (first s.blocks z + i)) j
    bit z w = bit-there s.blocks z w i j inside small

    started : Started a
    started = subst Started at (bit StartBits ws ∙ swept.starts i j among small ∙ ap (λ x. x && is_survivor s base (address_of s i j)) (sym (bit StartBits s.words)))

    pinned : Pinned a
    pinned = subst Pinned at (bit PinBits ws ∙ swept.pins i j among small
        ∙ ap (λ x. x && has_bit (start_word after i) j) (sym (bit PinBits s.words)) ∙ ap (λ x. is_pinned s (address_of s i j) && x) (sym (bit StartBits ws)))

    unlogged : Unlogged a
    unlogged = subst Unlogged at (bit UnlogBits ws ∙ swept.unlogs i j among small
        ∙ ap (λ x. x && has_bit (start_word after i) j) (sym (bit UnlogBits s.words)) ∙ ap (λ x. is_unlogged s (address_of s i j) && x) (sym (bit StartBits ws)))

  pub keeps-living : KeepsLiving base (InBlock s k) s after
  keeps-living = record {
    held = λ a here. (
      (λ h. let parts = and_parts (is_start s a) (is_survivor s base a) (sym (started a here) ∙ h.start) in
          record { held = record { address = h.address; start = parts.0 }; survives = parts.1 }),
      (λ l. record { address = l.held.address; start = started a here ∙ and_from (is_start s a) (is_survivor s base a) l.held.start l.survives }),
    );
    pins = pinned;
    unlogs = unlogged;
  }
