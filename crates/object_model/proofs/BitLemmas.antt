-- A bit of a zone, read and changed as side metadata.
use Rattle.std.proofs.Common.{◌≡◌, ◌≢◌, sym, ◌∙◌, ap, subst, ℕ, ◌+◌, ◌*◌, ◌-◌, ◌/◌, ◌%◌, ◌^◌, ◌<◌, ◌≤◌, ◌⊎◌, inl, inr, arith, Bool, List, length, slice_index, nat_eq}
use Rattle.std.specs.Int.{bit_at}
use Rattle.std.proofs.lemmas.Bool.{cases_eq, cases_lt}
use Rattle.side_meta.specs.declared.spec.Spec.{Spec}
use Rattle.side_meta.specs.Fields.{place_word, place_shift, is_set, ChangesField}

-- bit n of the zone at word zone is set
abbrev pub has_bit : List ℕ → ℕ → ℕ → Bool
has_bit w zone n = nat_eq (bit_at (slice_index w (zone + n / 64)) (n % 64)) 1

-- no other bit changed
pub record ChangesBit (old new : List ℕ) (zone n : ℕ) : Type 0 where
  pub len : length new ≡ length old
  pub bits : (k : ℕ) → k < 64 → (k ≡ n % 64 → ⊥) → bit_at (slice_index new (zone + n / 64)) k ≡ bit_at (slice_index old (zone + n / 64)) k
  pub words : (i : ℕ) → (i ≡ zone + n / 64 → ⊥) → slice_index new i ≡ slice_index old i

-- every bit of the zone but n is unchanged
pub other_bit : (old new : List ℕ) (zone n m : ℕ) → ChangesBit old new zone n → m ≢ n
    → bit_at (slice_index new (zone + m / 64)) (m % 64) ≡ bit_at (slice_index old (zone + m / 64)) (m % 64)
other_bit old new zone n m bit other =
    elim (cases_eq (m / 64) (n / 64)) as (λ _. bit_at (slice_index new (zone + m / 64)) (m % 64) ≡ bit_at (slice_index old (zone + m / 64)) (m % 64)) [
      | inl same ↦
          let small : m % 64 < 64 = omega arith in
          let apart : m % 64 ≡ n % 64 → ⊥ = λ h. other (omega arith) in
          rw same (bit.bits (m % 64) small apart)
      | inr differ ↦
          let apart : zone + m / 64 ≡ zone + n / 64 → ⊥ = λ h. differ (omega arith) in
          ap (λ w. bit_at w (m % 64)) (bit.words (zone + m / 64) apart)
    ]

-- metadata with one bit for each address from heap on, from the word zone on
pub record HasBits (s : Spec) (zone heap : ℕ) : Type 0 where
  pub zone_is : s.zone ≡ zone
  pub heap_is : s.heap ≡ heap
  pub region : s.log_region ≡ 0
  pub bits : s.log_bits ≡ 0

pub word_is : (s : Spec) (zone heap a : ℕ) → HasBits s zone heap → place_word s a ≡ zone + (a - heap) / 64
word_is s zone heap a has =
    ap (λ z. z + (a - s.heap) / 2 ^ s.log_region * 2 ^ s.log_bits / 64) has.zone_is
    ∙ ap (λ h. zone + (a - h) / 2 ^ s.log_region * 2 ^ s.log_bits / 64) has.heap_is
    ∙ ap (λ r. zone + (a - heap) / 2 ^ r * 2 ^ s.log_bits / 64) has.region
    ∙ ap (λ b. zone + (a - heap) / 1 * 2 ^ b / 64) has.bits
    ∙ (omega arith)

pub shift_is : (s : Spec) (zone heap a : ℕ) → HasBits s zone heap → place_shift s a ≡ (a - heap) % 64
shift_is s zone heap a has =
    ap (λ h. (a - h) / 2 ^ s.log_region * 2 ^ s.log_bits % 64) has.heap_is
    ∙ ap (λ r. (a - heap) / 2 ^ r * 2 ^ s.log_bits % 64) has.region
    ∙ ap (λ b. (a - heap) / 1 * 2 ^ b % 64) has.bits
    ∙ (omega arith)

pub bit_is : (s : Spec) (zone heap a : ℕ) → HasBits s zone heap → (w : List ℕ) → is_set w s a ≡ has_bit w zone (a - heap)
bit_is s zone heap a has w =
    ap (λ i. nat_eq (bit_at (slice_index w i) (place_shift s a)) 1) (word_is s zone heap a has)
    ∙ ap (λ k. nat_eq (bit_at (slice_index w (zone + (a - heap) / 64)) k) 1) (shift_is s zone heap a has)

-- a field of one bit is this bit
pub changes_bit : (s : Spec) (zone heap a : ℕ) → HasBits s zone heap → (old new : List ℕ) → ChangesField old new s a → ChangesBit old new zone (a - heap)
changes_bit s zone heap a has old new alone =
    let word : place_word s a ≡ zone + (a - heap) / 64 = word_is s zone heap a has in
    let shift : place_shift s a ≡ (a - heap) % 64 = shift_is s zone heap a has in
    let one : 2 ^ s.log_bits ≡ 1 = ap (λ b. 2 ^ b) has.bits in
    record {
      len = alone.len;
      bits = λ k small other.
          let outside : (k < place_shift s a) ⊎ (place_shift s a + 2 ^ s.log_bits ≤ k) =
          elim (cases_lt k (place_shift s a)) as (λ _. (k < place_shift s a) ⊎ (place_shift s a + 2 ^ s.log_bits ≤ k)) [
            | inl below ↦ inl below
            | inr above ↦
                let apart : k ≡ place_shift s a → ⊥ = λ h. other (h ∙ shift) in
                let past : place_shift s a + 1 ≤ k = omega arith in
                inr (subst (λ b. place_shift s a + b ≤ k) (sym one) past)
          ] in
          subst (λ i. bit_at (slice_index new i) k ≡ bit_at (slice_index old i) k) word (alone.bits k small outside);
      words = λ i other. alone.words i (λ h. other (h ∙ word));
    }
