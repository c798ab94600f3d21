-- The release of a block whose unlog bits show what lives in it.
use Rattle.std.proofs.Common.{◌≡◌, refl, sym, ◌∙◌, ap, ℕ, ◌+◌, ◌*◌, ◌-◌, ◌<◌, ◌≤◌, inl, inr, arith, Bool, true, false, ◌&&◌, IsTrue, nat_eq, nat_le, bit_and, List, length, slice_index}
use Rattle.std.specs.Int.Bits.{and_self}
use Rattle.std.proofs.lemmas.Bool.{cases_Bool, and_parts, and_from, and_right}
use Rattle.forward_word.specs.CollectorWords.{number_in, target_in}
use Rattle.heap_layout.specs.Zones.{StartBits, PinBits, UnlogBits, BlockWords, first, row_words, IsAddress}
use Rattle.heap_layout.specs.Blocks.{code_of, IsValidWord}
use Rattle.heap_layout.specs.declared.block.Kind.TheVariants as kinds
use Rattle.heap_layout.specs.declared.block.BlockWord.{BlockWord}
use Rattle.heap_layout.specs.declared.layout.Layout.{Layout}
use Rattle.object_model.specs.declared.collect.Collect.{Collect}
use Rattle.object_model.specs.Objects.{HeapState, state_over, with_words, block_word, HasKind, is_start, is_unlogged, IsHeld}
use Rattle.object_model.specs.Ages.{is_survivor}
use Rattle.object_model.specs.Releasing.{IsReleasable}
use Rattle.block_sweeps.specs.Stores.{Stores}
use Rattle.block_sweeps.specs.Sweeping.{InBlock, IsAmong, KeepsLiving, HasNoLiving, Sweeps, Frees}
use Rattle.side_meta.specs.BitWords.{has_bit}
use Rattle.block_sweeps.specs.WordSweeps.{start_word, unlog_word, address_of, MaySweep, SweepsWords}
use Rattle.block_sweeps.proofs.SweptBlocks.{may-sweep, may-next, swept-next, start-same, unlog-same, heap-same, keeps-living}
use Rattle.block_sweeps.proofs.SweptWords.{all-live, some-die}
use Rattle.block_sweeps.proofs.BlockSweeps.{swept-free, swept-kept, none-counts, none-lives, word-only}
use Rattle.sessions.specs.Plans.{Rules}
use Rattle.plan_api.specs.Releasing.{Releases, word_after}
use Rattle.plan_api.proofs.ReleasedBlocks as blocks
use Rattle.block_release.specs.Released.{DiffersInSome, UnlogBitsMarkSurvivors, UnlogWordMarksSurvivors, SweepsSome}
use Rattle.object_model.proofs.WordReads.{bit-there, kind-shown}
use Rattle.block_release.proofs.BlockReads.{words-equal}

both-ways : (x y : Bool) → (IsTrue x → IsTrue y) → (IsTrue y → IsTrue x) → x ≡ y
both-ways true true to from = refl
both-ways true false to from = sym (to refl)
both-ways false true to from = from refl
both-ways false false to from = refl

-- the words of a block whose unlog bits show what lives in it
module _ (base k i : ℕ) (s : HeapState) (long : length s.words ≡ row_words s.blocks) (there : k < s.blocks) (may : IsReleasable s k) (shows : UnlogBitsMarkSurvivors base s k)
    (from : 64 * k ≤ i) (below : i < 64 * k + 64) where
  word-shows : UnlogWordMarksSurvivors base s i
  word-shows j small =
      let a : ℕ = address_of s i j in
      let at : IsAddress s.blocks a = record { from = omega arith; below = omega arith } in
      let here : InBlock s k a = record { address = at; block = omega arith } in
      let start : is_start s a ≡ has_bit (start_word s i) j = bit-there s.blocks StartBits s.words i j (omega arith) small in
      let unlog : is_unlogged s a ≡ has_bit (unlog_word s i) j = bit-there s.blocks UnlogBits s.words i j (omega arith) small in
      let held : IsTrue (has_bit (start_word s i) j) → IsHeld s a = λ set. record { address = at; start = start ∙ set } in
      both-ways (has_bit (unlog_word s i) j) (has_bit (start_word s i) j && is_survivor s base a)
      (λ set. let begins = (may-sweep s k i long there may from below).unlogs j small set in
      and_from (has_bit (start_word s i) j) (is_survivor s base a) begins ((shows a here (held begins)).1 (unlog ∙ set)).survives)
      (λ both. let parts = and_parts (has_bit (start_word s i) j) (is_survivor s base a) both in
      sym unlog ∙ (shows a here (held parts.0)).0 (record { held = held parts.0; survives = parts.1 }))

-- the words before were swept
module _ (base from index : ℕ) (s : HeapState) (ws : List ℕ) (rising : from ≤ index) (inside : index < 64 * s.blocks)
    (swept : SweepsWords base from (index - from) s (with_words s ws)) where
  apart : IsAmong from (index - from) index → ⊥
  apart among = let below = among.below in omega arith

  word-later : UnlogWordMarksSurvivors base s index → UnlogWordMarksSurvivors base (with_words s ws) index
  word-later shows j small =
      let a : ℕ = address_of s index j in
      ap (λ v. has_bit v j) (unlog-same s ws from (index - from) swept.rest (omega arith) index inside apart)
      ∙ shows j small
      ∙ ap (λ v. has_bit v j && is_survivor s base a) (sym (start-same s ws from (index - from) swept.rest (omega arith) index inside apart))
      ∙ ap (λ w. has_bit (start_word (with_words s ws) index) j && (nat_le base (number_in w) && nat_eq (target_in w) a))
      (sym (heap-same s ws from (index - from) swept.rest (omega arith) (a + 2) (omega arith)))

-- one word of start bits became that of unlog bits
module _ (base i : ℕ) (s : HeapState) (may : MaySweep s i) (shows : UnlogWordMarksSurvivors base s i) where
  pub word-stays : unlog_word s i ≡ start_word s i → SweepsWords base i 1 s s
  word-stays same = all-live base i s may (λ j small. ap (λ v. has_bit v j) (sym same) ∙ shows j small)

  module _ (ws ws' : List ℕ) (start : Stores s.words ws (first s.blocks StartBits + i) (unlog_word s i))
      (pin : Stores ws ws' (first s.blocks PinBits + i) (bit_and (slice_index ws (first s.blocks PinBits + i)) (unlog_word s i))) where
    unlog-is : slice_index ws' (first s.blocks UnlogBits + i) ≡ unlog_word s i
    unlog-is =
        let some = may.inside in
        pin.others (first s.blocks UnlogBits + i) (λ e. omega arith) ∙ start.others (first s.blocks UnlogBits + i) (λ e. omega arith)

    unlog-stays : Stores ws' ws' (first s.blocks UnlogBits + i) (bit_and (slice_index ws' (first s.blocks UnlogBits + i)) (unlog_word s i))
    unlog-stays = record {
      extent = refl;
      own = unlog-is ∙ sym (and_self (unlog_word s i)) ∙ sym (ap (λ v. bit_and v (unlog_word s i)) unlog-is);
      others = λ n other. refl;
      fit = λ fits. fits;
    }

    pub word-falls : SweepsWords base i 1 s (with_words s ws')
    word-falls = some-die base i (unlog_word s i) s may ws ws' ws' shows start pin unlog-stays

-- one word more of block k
module _ (base k index : ℕ) (s : HeapState) (ws ws' : List ℕ) (long : length s.words ≡ row_words s.blocks) (there : k < s.blocks) (may : IsReleasable s k)
    (shows : UnlogBitsMarkSurvivors base s k) (from : 64 * k ≤ index) (below : index < 64 * k + 64) (swept : SweepsWords base (64 * k) (index - 64 * k) s (with_words s ws)) where
  pub may-mark : MaySweep (with_words s ws) index
  may-mark = may-next base (64 * k) index s ws from (omega arith) swept (may-sweep s k index long there may from below)

  pub marked-next : (UnlogWordMarksSurvivors base (with_words s ws) index → SweepsWords base index 1 (with_words s ws) (with_words s ws')) → SweepsWords base (64 * k) (index + 1 - 64 * k) s (with_words s ws')
  marked-next more = swept-next base (64 * k) index s ws ws' from (omega arith) swept
      (more (word-later base (64 * k) index s ws from (omega arith) swept (word-shows base k index s long there may shows from below)))

-- no word changes in a block whose bits do not differ
module _ (base k : ℕ) (s : HeapState) (long : length s.words ≡ row_words s.blocks) (there : k < s.blocks) (may : IsReleasable s k) (shows : UnlogBitsMarkSurvivors base s k) (same : DiffersInSome s k → ⊥) where
  each-stays : (i : ℕ) → IsAmong (64 * k) 64 i → SweepsWords base i 1 s s
  each-stays i among =
      let at : 64 * k + (i - 64 * k) ≡ i = omega (arith, among.after) in
      word-stays base i s (may-sweep s k i long there may among.after among.below) (word-shows base k i s long there may shows among.after among.below)
      (ap (unlog_word s) (sym at) ∙ sym (words-equal s k same (i - 64 * k) (omega (arith, among.after, among.below))) ∙ ap (start_word s) at)

  pub block-stays : SweepsWords base (64 * k) 64 s s
  block-stays = record {
    starts = λ i j among. (each-stays i among).starts i j (record { after = omega arith; below = omega arith });
    pins = λ i j among. (each-stays i among).pins i j (record { after = omega arith; below = omega arith });
    unlogs = λ i j among. (each-stays i among).unlogs i j (record { after = omega arith; below = omega arith });
    rest = record { blocks = refl; extent = refl; others = λ i outside. refl; fit = λ fits. fits };
  }

-- nothing was swept yet
pub marked-first : (base from : ℕ) (s : HeapState) → SweepsWords base from 0 s s
marked-first base from s = record {
  starts = λ i j among. absurd (let after = among.after in let below = among.below in omega arith);
  pins = λ i j among. absurd (let after = among.after in let below = among.below in omega arith);
  unlogs = λ i j among. absurd (let after = among.after in let below = among.below in omega arith);
  rest = record { blocks = refl; extent = refl; others = λ i outside. refl; fit = λ fits. fits };
}

-- Of the start bits of block k those with an unlog bit were left.
module _ (r : Rules) (c : Collect) (l : Layout) (base k : ℕ) (old mid new : List ℕ) (w : BlockWord) where
  abbrev s : HeapState
  s = state_over old l 0 0

  abbrev m : HeapState
  m = state_over mid l 0 0

  module _ (there : k < l.blocks) (valid : IsValidWord w) (code : code_of w ≡ block_word s k) (not-head : w.kind ≡ kinds.LargeHead → ⊥) (not-tail : w.kind ≡ kinds.LargeTail → ⊥)
      (shows : UnlogBitsMarkSurvivors base s k) (swept : SweepsWords base (64 * k) 64 s m) where
    objects : KeepsLiving base (InBlock s k) s m
    objects = keeps-living base k s mid there swept

    no-head : HasKind s k kinds.LargeHead → ⊥
    no-head is = not-head (kind-shown s k kinds.LargeHead w valid code is)

    no-tail : HasKind s k kinds.LargeTail → ⊥
    no-tail is = not-tail (kind-shown s k kinds.LargeTail w valid code is)

    pub freed : ((a : ℕ) → InBlock m k a → IsHeld m a → ⊥) → Frees m (state_over new l 0 0) k → Releases r c base s (state_over new l 0 0) k
    freed none frees =
        let dead : HasNoLiving base s (InBlock s k) = λ a here living. none a (record { address = here.address; block = here.block }) ((objects.held a here).1 living) in
        blocks.empty l r c base 0 k old new no-head no-tail dead
        (swept-free base k s mid new there objects swept.rest frees.rest 0 (none-counts base k s mid new there objects swept.rest frees.rest dead) frees.freed)

    module _ (a : ℕ) (here : InBlock m k a) (held : IsHeld m a) (word : Stores mid new (first l.blocks BlockWords + k) (word_after r c s k)) where
      there-before : InBlock s k a
      there-before = record { address = here.address; block = here.block }

      sweep : Sweeps base (word_after r c s k) s (state_over new l 0 0) k
      sweep =
          let only = word-only s k (word_after r c s k) mid new word in
          swept-kept base k s mid new there objects swept.rest only (word_after r c s k)
          (λ none. none-lives base k s mid new there objects swept.rest only none a there-before ((objects.held a there-before).0 held)) word

      unlogged : (x : ℕ) → InBlock (state_over new l 0 0) k x → is_unlogged (state_over new l 0 0) x ≡ is_start (state_over new l 0 0) x
      unlogged x at =
          let before : InBlock s k x = record { address = at.address; block = at.block } in
          sweep.objects.unlogs x before ∙ elim (cases_Bool (is_start (state_over new l 0 0) x)) as (λ _. (is_unlogged s x && is_start (state_over new l 0 0) x) ≡ is_start (state_over new l 0 0) x) [
            | inl set ↦
                let living = (sweep.objects.held x before).0 (record { address = at.address; start = set }) in
                and_from (is_unlogged s x) (is_start (state_over new l 0 0) x) ((shows x before living.held).0 living) set ∙ sym set
            | inr clear ↦ and_right (is_unlogged s x) (is_start (state_over new l 0 0) x) clear ∙ sym clear
          ]

      pub some : SweepsSome r c base s (state_over new l 0 0) k
      some = record { sweeps = sweep; object = a; here = there-before; lives = (objects.held a there-before).0 held; unlogs = unlogged }
