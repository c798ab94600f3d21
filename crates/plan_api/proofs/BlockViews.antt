-- The words read from a block are its view.
use Rattle.std.proofs.Common.{◌≡◌, sym, ◌∙◌, ap, ℕ, ◌+◌, ◌*◌, ◌-◌, ◌/◌, ◌%◌, ◌<◌, ◌≤◌, inl, inr, arith, true, nat_eq, List, length, slice_index}
use Rattle.std.specs.Int.{bit_at}
use Rattle.heap_layout.specs.Zones.{first, BlockWords, LineWords, StartBits, IsAddress, heap_of, block_at, offset_at, block_start, bit_of}
use Rattle.heap_layout.specs.declared.layout.Layout.{Layout}
use Rattle.heap_layout.specs.Blocks.{code_of, IsValidWord}
use Rattle.heap_layout.proofs.MarkLemmas.{address_bit-at_address}
use Rattle.object_model.specs.Objects.{HeapState, state_over, is_start, IsHeld, size_at}
use Rattle.object_model.specs.Lawful.{HasObject, Lies, IsReadableBlock, IsWellFormed, IsLawful}
use Rattle.object_model.proofs.ObjectReads.{place_of_address, lies_in_row}
use Rattle.plan_api.specs.declared.block_view.BlockView.{BlockView}
use Rattle.line_marks.proofs.HoleRuns.{lines-read}
use Rattle.line_marks.specs.Bits.{bit_in, HasNoBit, IsLastBit}
use Rattle.plan_api.specs.Views.{IsLastObject, HasNoObject, IsObjectsEnd, IsViewOf}
use Rattle.block_sweeps.specs.Sweeping.{AreApart}

-- the address of word w of block k
pub word-address : (b k w : ℕ) → k < b → w < 4096 → IsAddress b (block_start b k + w)
word-address b k w there below = record { from = omega arith; below = omega arith }

pub word-block : (b k w : ℕ) → w < 4096 → block_at b (block_start b k + w) ≡ k
word-block b k w below = omega arith

pub word-offset : (b k w : ℕ) → w < 4096 → offset_at b (block_start b k + w) ≡ w
word-offset b k w below = omega arith

pub starts-read : (s : HeapState) (starts : List ℕ) (k w : ℕ) → k < s.blocks → ((n : ℕ) → n < 64 → slice_index starts n ≡ slice_index s.words (first s.blocks StartBits + 64 * k + n)) → w < 4096
    → bit_in starts w ≡ is_start s (block_start s.blocks k + w)
starts-read s starts k w there read below =
    let n : ℕ = w / 64 in
    let from : ℕ = first s.blocks StartBits in
    let word : slice_index starts n ≡ slice_index s.words (from + 64 * k + n) = read n (omega arith) in
    let place : from + 64 * k + n ≡ from + (4096 * k + w) / 64 = omega arith in
    let bit : w % 64 ≡ (4096 * k + w) % 64 = omega arith in
    let index : block_start s.blocks k + w - heap_of s.blocks ≡ 4096 * k + w = omega arith in
    ap (λ v. nat_eq (bit_at v (w % 64)) 1) (word ∙ ap (slice_index s.words) place) ∙ ap (λ i. nat_eq (bit_at (slice_index s.words (from + (4096 * k + w) / 64)) i) 1) bit
    ∙ sym (ap (bit_of s.blocks StartBits s.words) index) ∙ sym (address_bit-at_address s.blocks StartBits s.words (block_start s.blocks k + w) (word-address s.blocks k w there below))

-- an object of the block is at the address of its offset
pub at-offset : (s : HeapState) (k x : ℕ) → IsHeld s x → block_at s.blocks x ≡ k → x ≡ block_start s.blocks k + offset_at s.blocks x
at-offset s k x holds here = (let place = place_of_address s.blocks x holds.address in omega arith)

pub offset-below : (s : HeapState) (x : ℕ) → IsHeld s x → offset_at s.blocks x < 4096
offset-below s x holds = (place_of_address s.blocks x holds.address).1

-- the start bits read from a block show where its objects begin
module _ (s : HeapState) (k : ℕ) (starts : List ℕ) (there : k < s.blocks) (many : length starts ≡ 64) (read : (w : ℕ) → w < 4096 → bit_in starts w ≡ is_start s (block_start s.blocks k + w)) where
  pub bit-of-held : (x : ℕ) → IsHeld s x → block_at s.blocks x ≡ k → bit_in starts (offset_at s.blocks x) ≡ true
  bit-of-held x holds here = read (offset_at s.blocks x) (offset-below s x holds) ∙ ap (is_start s) (sym (at-offset s k x holds here)) ∙ holds.start

  pub held-of-bit : (w : ℕ) → w < 4096 → bit_in starts w ≡ true → IsHeld s (block_start s.blocks k + w)
  held-of-bit w below set = record { address = word-address s.blocks k w there below; start = sym (read w below) ∙ set }

  pub none-held : HasNoBit starts true 0 → HasNoObject s k
  none-held none x holds here = (let below = offset-below s x holds in none (offset_at s.blocks x) (omega arith) (omega arith) (bit-of-held x holds here))

  pub last-held : (n end : ℕ) → IsLastBit starts n → n + size_at s (block_start s.blocks k + n) ≡ end → IsLastObject s k end (block_start s.blocks k + n)
  last-held n end last ends =
      let below : n < 4096 = (let inside = last.inside in omega arith) in
      record {
        held = held-of-bit n below last.set;
        here = word-block s.blocks k n below;
        last = λ x holds here. (let small = offset-below s x holds in
            let most : offset_at s.blocks x ≤ n = last.others (offset_at s.blocks x) (omega arith) (bit-of-held x holds here) in
            let place = at-offset s k x holds here in omega arith);
        ends = ap (λ o. o + size_at s (block_start s.blocks k + n)) (word-offset s.blocks k n below) ∙ ends;
      }

-- whether an object is held does not depend on the collection numbers
pub held-anyway : (words : List ℕ) (l : Layout) (number base number' base' x : ℕ) → IsHeld (state_over words l number base) x → IsHeld (state_over words l number' base') x
held-anyway words l number base number' base' x holds = record { address = holds.address; start = holds.start }

pub end-anyway : (words : List ℕ) (l : Layout) (number base k end : ℕ) → IsObjectsEnd (state_over words l 0 0) k end → IsObjectsEnd (state_over words l number base) k end
end-anyway words l number base k end ends =
    elim ends as (λ _. IsObjectsEnd (state_over words l number base) k end) [
      | inl none ↦ inl (((λ x holds here. none.0 x (held-anyway words l number base 0 0 x holds) here)), none.1)
      | inr some ↦ inr (
        some.0,
        record {
          held = held-anyway words l 0 0 number base some.0 some.1.held;
          here = some.1.here;
          last = λ x holds here. some.1.last x (held-anyway words l number base 0 0 x holds) here;
          ends = some.1.ends;
        },
      )
    ]

-- the last object of a block that can be read
module _ (s : HeapState) (k : ℕ) (block : IsReadableBlock s k) (starts : List ℕ) (many : length starts ≡ 64)
    (read : (n : ℕ) → n < 64 → slice_index starts n ≡ slice_index s.words (first s.blocks StartBits + 64 * k + n)) (n : ℕ) (last : IsLastBit starts n) where
  abbrev pub object : ℕ
  object = block_start s.blocks k + n

  bits : (w : ℕ) → w < 4096 → bit_in starts w ≡ is_start s (block_start s.blocks k + w)
  bits w below = starts-read s starts k w block.block read below

  pub offset-small : n < 4096
  offset-small = (let inside = last.inside in omega arith)

  pub object-held : IsHeld s object
  object-held = held-of-bit s k starts block.block many bits n offset-small last.set

  pub object-lies : HasObject s object × Lies s object (size_at s object)
  object-lies = block.objects object object-held (word-block s.blocks k n offset-small)

  pub object-inside : object + size_at s object ≤ length s.words
  object-inside = (let within = lies_in_row s object (size_at s object) object-lies.1 in let extent = block.extent in omega arith)

-- the result of the read is the view
pub view-of : (words : List ℕ) (l : Layout) (k : ℕ) (v : BlockView) → IsReadableBlock (state_over words l 0 0) k
    → code_of v.word ≡ slice_index words (first l.blocks BlockWords + k) → IsValidWord v.word
    → ((n : ℕ) → n < 4 → slice_index v.lines n ≡ slice_index words (first l.blocks LineWords + 4 * k + n))
    → ((n : ℕ) → n < 64 → slice_index v.starts n ≡ slice_index words (first l.blocks StartBits + 64 * k + n))
    → IsObjectsEnd (state_over words l 0 0) k v.end
    → (number base : ℕ) → IsViewOf (state_over words l number base) k v
view-of words l k v block code valid lines starts end number base = record {
  block = block.block;
  code = code;
  valid = valid;
  lines = λ line below. lines-read (state_over words l number base) v.lines k line lines below;
  starts = λ w below. starts-read (state_over words l number base) v.starts k w block.block starts below;
  end = end-anyway words l number base k v.end end;
}

-- whether a block can be read does not depend on the collection numbers
pub block-anyway : (words : List ℕ) (l : Layout) (number base number' base' k : ℕ) → IsReadableBlock (state_over words l number base) k → IsReadableBlock (state_over words l number' base') k
block-anyway words l number base number' base' k block = record {
  extent = block.extent;
  block = block.block;
  code = block.code;
  objects = λ a holds here.
      let object = block.objects a (held-anyway words l number' base' number base a holds) here in
      let lies = object.1 in (
        record { name = object.0.name; refs = object.0.refs; nums = object.0.nums },
        record {
          small = λ small. let there = lies.small small in record {
            address = there.address;
            within = there.within;
            kind = there.kind;
            cell = λ cells. let cell = there.cell cells in record { start = cell.start; room = cell.room; within = cell.within };
          };
          large = λ large. let there = lies.large large in record {
            address = there.address;
            start = there.start;
            run = record { head = there.run.head; class = there.run.class; inside = there.run.inside; tails = there.run.tails };
          };
        },
      );
}

-- the state that a row's words and layout show
pub state-same : (s : HeapState) (words : List ℕ) (l : Layout) → words ≡ s.words → l.blocks ≡ s.blocks → s ≡ state_over words l s.number s.base
state-same s words l same_words same_blocks = ap (λ (w : List ℕ). record s { words = w }) (sym same_words) ∙ ap (λ (b : ℕ). record s { words = words; blocks = b }) (sym same_blocks)

-- each block of a lawful heap can be read, and its objects do not overlap
pub lawful-block : (s : HeapState) (k : ℕ) → IsLawful s → k < s.blocks → IsReadableBlock s k
lawful-block s k law there = record {
  extent = law.but_lines.order.row.extent;
  block = there;
  code = (law.but_lines.blocks k there).code;
  objects = λ a holds here. ((law.but_lines.order.objects.headers a holds).object, law.but_lines.order.objects.lies a holds);
}

pub orderly-apart : (s : HeapState) (k : ℕ) → IsWellFormed s → AreApart s k
orderly-apart s k order = λ a x i holds held here there inside within. order.objects.apart a x i holds held inside within
