-- One word of start bits was swept, with its pin and unlog bits.
use Rattle.std.proofs.Common.{◌≡◌, ℕ, ◌+◌, ◌*◌, ◌<◌, inl, inr, refl, sym, ap, ◌∙◌, subst, min, bit_and, arith, Bool, true, ◌&&◌, IsTrue, nat_eq, List, slice_index}
use Rattle.side_meta.specs.BitWords.{has_bit}
use Rattle.std.specs.Int.{bit_at}
use Rattle.std.proofs.lemmas.Bool.{cases_Bool}
use Rattle.std.proofs.lemmas.Nat.Bits.{bit_at-lt, bit_at_and}
use Rattle.heap_layout.specs.Zones.{first, heap_of, StartBits, PinBits, UnlogBits}
use Rattle.object_model.specs.Objects.{HeapState, with_words}
use Rattle.object_model.specs.Ages.{is_survivor}
use Rattle.block_sweeps.specs.Stores.{Stores}
use Rattle.block_sweeps.specs.Sweeping.{IsAmong, ChangesOnly}
use Rattle.block_sweeps.specs.WordSweeps.{survives, start_word, pin_word, unlog_word, address_of, IsMarkAmong, MaySweep, SweepsWords}

-- a bit of two words
pub has-and : (a b j : ℕ) → has_bit (bit_and a b) j ≡ (has_bit a j && has_bit b j)
has-and a b j = (let one = bit_at-lt a j in let other = bit_at-lt b j in ap (λ v. nat_eq v 1) (bit_at_and a b j) ∙ both (bit_at a j) (bit_at b j) one other)
  where
    both : (x y : ℕ) → x < 2 → y < 2 → nat_eq (min x y) 1 ≡ (nat_eq x 1 && nat_eq y 1)
    both x y small low = grind arith

-- a bit that is set only where another is
pub within : (a b : Bool) → (IsTrue a → IsTrue b) → a ≡ (a && b)
within a b only = elim (cases_Bool a) as (λ _. a ≡ (a && b)) [
  | inl set ↦ (let other : b ≡ true = only set in grind arith)
  | inr none ↦ grind arith
]

-- the bits of a word whose objects live, read from the row
pub read-bits : (s : HeapState) (base i starts heap living : ℕ) → starts ≡ start_word s i → heap ≡ heap_of s.blocks
    → ((j : ℕ) → j < 64 → has_bit living j ≡ (has_bit starts j && survives s.words base (heap + 64 * i + j)))
    → (j : ℕ) → j < 64 → has_bit living j ≡ (has_bit (start_word s i) j && is_survivor s base (address_of s i j))
read-bits s base i starts heap living read at bits j small =
    bits j small ∙ ap (λ v. has_bit v j && survives s.words base (heap + 64 * i + j)) read
    ∙ ap (λ h. has_bit (start_word s i) j && survives s.words base (h + 64 * i + j)) at

-- what is known of word i alone
module _ (base i : ℕ) (s s' : HeapState) where
  abbrev Starts : ℕ → Type 0
  Starts n = (j : ℕ) → j < 64 → has_bit (start_word s' n) j ≡ (has_bit (start_word s n) j && is_survivor s base (address_of s n j))

  abbrev Pins : ℕ → Type 0
  Pins n = (j : ℕ) → j < 64 → has_bit (pin_word s' n) j ≡ (has_bit (pin_word s n) j && has_bit (start_word s' n) j)

  abbrev Unlogs : ℕ → Type 0
  Unlogs n = (j : ℕ) → j < 64 → has_bit (unlog_word s' n) j ≡ (has_bit (unlog_word s n) j && has_bit (start_word s' n) j)

  at-one : (P : ℕ → Type 0) → P i → (n : ℕ) → IsAmong i 1 n → P n
  at-one P here n among = subst P (let from = among.after in let below = among.below in let e : i ≡ n = omega arith in e) here

  pub one-word : Starts i → Pins i → Unlogs i → ChangesOnly (IsMarkAmong s.blocks i 1) s s' → SweepsWords base i 1 s s'
  one-word starts pins unlogs rest = record {
    starts = λ n j among. at-one Starts starts n among j;
    pins = λ n j among. at-one Pins pins n among j;
    unlogs = λ n j among. at-one Unlogs unlogs n among j;
    rest = rest;
  }

-- no word changed
module _ (base i : ℕ) (s : HeapState) (may : MaySweep s i)
    (all : (j : ℕ) → j < 64 → has_bit (start_word s i) j ≡ (has_bit (start_word s i) j && is_survivor s base (address_of s i j))) where
  pub all-live : SweepsWords base i 1 s s
  all-live = one-word base i s s all
      (λ j small. within (has_bit (pin_word s i) j) (has_bit (start_word s i) j) (may.pins j small))
      (λ j small. within (has_bit (unlog_word s i) j) (has_bit (start_word s i) j) (may.unlogs j small))
      (record { blocks = refl; extent = refl; others = λ _ _. refl; fit = λ fit. fit })

-- three words changed
module _ (base i living : ℕ) (s : HeapState) (may : MaySweep s i) (ws ws' ws'' : List ℕ)
    (bits : (j : ℕ) → j < 64 → has_bit living j ≡ (has_bit (start_word s i) j && is_survivor s base (address_of s i j)))
    (start : Stores s.words ws (first s.blocks StartBits + i) living)
    (pin : Stores ws ws' (first s.blocks PinBits + i) (bit_and (slice_index ws (first s.blocks PinBits + i)) living))
    (unlog : Stores ws' ws'' (first s.blocks UnlogBits + i) (bit_and (slice_index ws' (first s.blocks UnlogBits + i)) living)) where
  abbrev t : HeapState
  t = with_words s ws''

  pub start-after : start_word t i ≡ living
  start-after =
      let some = may.inside in
      unlog.others (first s.blocks StartBits + i) (λ e. omega arith)
      ∙ pin.others (first s.blocks StartBits + i) (λ e. omega arith) ∙ start.own

  pin-after : pin_word t i ≡ bit_and (pin_word s i) living
  pin-after =
      let some = may.inside in
      unlog.others (first s.blocks PinBits + i) (λ e. omega arith) ∙ pin.own
      ∙ ap (λ v. bit_and v living) (start.others (first s.blocks PinBits + i) (λ e. omega arith))

  unlog-after : unlog_word t i ≡ bit_and (unlog_word s i) living
  unlog-after =
      let some = may.inside in
      unlog.own
      ∙ ap (λ v. bit_and v living) (pin.others (first s.blocks UnlogBits + i) (λ e. omega arith)
      ∙ start.others (first s.blocks UnlogBits + i) (λ e. omega arith))

  masked : (before after j : ℕ) → after ≡ bit_and before living → has_bit after j ≡ (has_bit before j && has_bit (start_word t i) j)
  masked before after j is = ap (λ v. has_bit v j) is ∙ has-and before living j ∙ ap (λ v. has_bit before j && has_bit v j) (sym start-after)

  pub some-die : SweepsWords base i 1 s t
  some-die = one-word base i s t
      (λ j small. ap (λ v. has_bit v j) start-after ∙ bits j small)
      (λ j small. masked (pin_word s i) (pin_word t i) j pin-after)
      (λ j small. masked (unlog_word s i) (unlog_word t i) j unlog-after)
      (record {
        blocks = refl;
        extent = unlog.extent ∙ pin.extent ∙ start.extent;
        others = λ n outside.
            unlog.others n (λ e. outside (inr (inr (record { after = omega arith; below = omega arith }))))
            ∙ pin.others n (λ e. outside (inr (inl (record { after = omega arith; below = omega arith }))))
            ∙ start.others n (λ e. outside (inl (record { after = omega arith; below = omega arith })));
        fit = λ fit. unlog.fit (pin.fit (start.fit fit));
      })
