-- A block was swept: its objects first, then its block word and line bits.
use Rattle.std.proofs.Common.{◌≡◌, ◌≢◌, ℕ, ◌+◌, ◌*◌, ◌-◌, ◌/◌, ◌%◌, ◌<◌, ◌≤◌, inl, inr, refl, sym, ap, ◌∙◌, arith, false, ◌&&◌, nat_eq, List}
use Rattle.std.specs.Int.{bit_at}
use Rattle.std.proofs.lemmas.Bool.{cases_Bool}
use Rattle.heap_layout.specs.Zones.{Zone, BlockWords, LineWords, StartBits, PinBits, UnlogBits, first, heap_of, block_at, offset_at, block_start, IsAddress, address_bit}
use Rattle.object_model.specs.Objects.{HeapState, with_words, word_at, line_marked, is_start, is_pinned, is_unlogged, IsHeld}
use Rattle.object_model.proofs.Marks.{mark-same}
use Rattle.object_model.proofs.ObjectReads.{place_of_address}
use Rattle.block_sweeps.specs.Sweeping.{InBlock, IsFreed, HasNoLiving, ChangesOnly, IsObjectBitWord, IsBlockOrLineWord, IsMetadata, KeepsLiving, Sweeps, object_count}
use Rattle.block_sweeps.specs.Stores.{Stores}
use Rattle.block_sweeps.proofs.ChangedWords.{changes-more, changes-both}
use Rattle.block_sweeps.proofs.BitCounts.{count-same, none-passes, none-counted}

at-offset : (b k a : ℕ) → IsAddress b a → block_at b a ≡ k → block_start b k + (0 + offset_at b a) ≡ a
at-offset b k a at here = (let place = place_of_address b a at in omega arith)

line-apart : (b k line : ℕ) → k < b → first b LineWords + (256 * k + line) / 64 ≢ first b BlockWords + k
line-apart b k line there e = omega arith

-- the objects of block k were swept, from s to mid, and then its block word and line words changed
module _ (base k : ℕ) (s : HeapState) (ws ws' : List ℕ) (there : k < s.blocks)
    (objects : KeepsLiving base (InBlock s k) s (with_words s ws)) (only : ChangesOnly (IsObjectBitWord s.blocks k) s (with_words s ws))
    (changes : ChangesOnly (IsBlockOrLineWord s.blocks k) (with_words s ws) (with_words s ws')) where
  abbrev mid : HeapState
  mid = with_words s ws

  abbrev end : HeapState
  end = with_words s ws'

  late-same : (i : ℕ) → first s.blocks StartBits ≤ i → word_at end i ≡ word_at mid i
  late-same i late = changes.others i (λ h. elim h as (λ _. ⊥) [ inl word ↦ omega arith | inr line ↦ (let below = line.below in omega arith) ])

  bit-same : (z : Zone) (a : ℕ) → first s.blocks StartBits ≤ first s.blocks z → address_bit s.blocks z ws' a ≡ address_bit s.blocks z ws a
  bit-same z a late = mark-same s.blocks z ws ws' a (λ _. ap (λ v. nat_eq (bit_at v ((a - heap_of s.blocks) % 64)) 1) (late-same (first s.blocks z + (a - heap_of s.blocks) / 64) (omega arith)))

  start-same : (a : ℕ) → is_start end a ≡ is_start mid a
  start-same a = bit-same StartBits a (omega arith)

  pub objects-end : KeepsLiving base (InBlock s k) s end
  objects-end = record {
    held = λ a here. let old = objects.held a here in (
      (λ h. old.0 (record { address = h.address; start = sym (start-same a) ∙ h.start })),
      (λ l. let h = old.1 l in record { address = h.address; start = start-same a ∙ h.start }),
    );
    pins = λ a here. bit-same PinBits a (omega arith) ∙ objects.pins a here ∙ ap (λ x. is_pinned s a && x) (sym (start-same a));
    unlogs = λ a here. bit-same UnlogBits a (omega arith) ∙ objects.unlogs a here ∙ ap (λ x. is_unlogged s a && x) (sym (start-same a));
  }

  pub rest-end : ChangesOnly (IsMetadata s.blocks k) s end
  rest-end = changes-both (IsMetadata s.blocks k) s mid end
      (changes-more (IsObjectBitWord s.blocks k) (IsMetadata s.blocks k) s mid (λ i h. inr h) only)
      (changes-more (IsBlockOrLineWord s.blocks k) (IsMetadata s.blocks k) mid end (λ i h. inl h) changes)

  pub count-end : object_count end k ≡ object_count mid k
  count-end = count-same (λ w. is_start end (block_start s.blocks k + w)) (λ w. is_start mid (block_start s.blocks k + w)) 0 0 4096 (λ i _. start-same (block_start s.blocks k + (0 + i)))

  -- line bits do not change with the objects
  line-same : (line : ℕ) → line < 256 → line_marked mid k line ≡ line_marked s k line
  line-same line low = ap (λ v. nat_eq (bit_at v ((256 * k + line) % 64)) 1) (only.others (first s.blocks LineWords + (256 * k + line) / 64) (λ h. elim h as (λ _. ⊥) [
    | inl start ↦ (let after = start.after in omega arith)
    | inr other ↦ elim other as (λ _. ⊥) [ inl pin ↦ (let after = pin.after in omega arith) | inr unlog ↦ (let after = unlog.after in omega arith) ]
  ]))

  -- nothing lives exactly if nothing is counted
  pub none-lives : object_count mid k ≡ 0 → HasNoLiving base s (InBlock s k)
  none-lives none a here lives =
      let held : IsHeld mid a = (objects.held a here).1 lives in
      let place = place_of_address s.blocks a here.address in
      none-passes (λ w. is_start mid (block_start s.blocks k + w)) 0 4096 (offset_at s.blocks a) none place.1 (ap (is_start mid) (at-offset s.blocks k a here.address here.block) ∙ held.start)

  pub none-counts : HasNoLiving base s (InBlock s k) → object_count mid k ≡ 0
  none-counts none = none-counted (λ w. is_start mid (block_start s.blocks k + w)) 0 4096 (λ i below.
      let a : ℕ = block_start s.blocks k + (0 + i) in
      let here : InBlock s k a = record { address = record { from = omega arith; below = omega arith }; block = omega arith } in
      elim (cases_Bool (is_start mid a)) as (λ _. is_start mid a ≡ false) [
        | inl start ↦ absurd (none a here ((objects.held a here).0 (record { address = here.address; start = start })))
        | inr clear ↦ clear
      ])

  pub swept-free : (after : ℕ) → object_count mid k ≡ 0 → IsFreed end k → Sweeps base after s end k
  swept-free after none freed = record {
    objects = objects-end;
    empty = λ _. freed;
    word = λ a here lives. absurd (none-lives none a here lives);
    lines = λ a line here lives low. absurd (none-lives none a here lives);
    rest = rest-end;
  }

  pub swept-kept : (after : ℕ) → (object_count mid k ≡ 0 → ⊥) → Stores ws ws' (first s.blocks BlockWords + k) after → Sweeps base after s end k
  swept-kept after some word = record {
    objects = objects-end;
    empty = λ none. absurd (some (none-counts none));
    word = λ a here lives. word.own;
    lines = λ a line here lives low.
        ap (λ v. nat_eq (bit_at v ((256 * k + line) % 64)) 1) (word.others (first s.blocks LineWords + (256 * k + line) / 64) (line-apart s.blocks k line there)) ∙ line-same line low;
    rest = rest-end;
  }

-- the block word alone
pub word-only : (s : HeapState) (k after : ℕ) (ws ws' : List ℕ) → Stores ws ws' (first s.blocks BlockWords + k) after → ChangesOnly (IsBlockOrLineWord s.blocks k) (with_words s ws) (with_words s ws')
word-only s k after ws ws' word = record {
  blocks = refl;
  extent = word.extent;
  others = λ i outside. word.others i (λ e. outside (inl e));
  fit = word.fit;
}
