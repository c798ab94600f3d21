-- A row in which one field was set.
use Rattle.std.proofs.Common.{◌≡◌, ◌≢◌, ◌∙◌, sym, ap, subst, ℕ, ◌+◌, ◌*◌, ◌-◌, ◌/◌, ◌%◌, ◌^◌, ◌<◌, ◌≤◌, ◌⊎◌, inl, inr, List, length, slice_index, slice_set, arith}
use Rattle.std.proofs.lemmas.Bool.{cases_eq}
use Rattle.std.proofs.lemmas.List.{get_or-set_same, get_or-set_other}
use Rattle.std.proofs.Math.ListN.{length-set}
use Rattle.std.specs.Int.{bit_at}
use Rattle.side_meta.specs.declared.spec.Spec.{Spec}
use Rattle.side_meta.specs.Fields.{field_bits, field_index, place_word, place_shift, field_value, ChangesField}
use Rattle.side_meta.proofs.Sides.{in_word, apart}
use Rattle.side_meta.proofs.PutBits.{put_bits, put_outside, put_back, same_run}

-- the row with v in the field of a
abbrev pub put_field : List ℕ → Spec → ℕ → ℕ → List ℕ
put_field w s a v = slice_set w (place_word s a)
    (put_bits (slice_index w (place_word s a)) v (2 ^ field_bits s - 1) (place_shift s a))

pub room : (s : Spec) (a : ℕ) → field_bits s + place_shift s a ≤ 64
room s a = omega (arith, in_word s.log_bits s.bits (field_index s a))

pub at_place : (w : List ℕ) (s : Spec) (a v : ℕ) → place_word s a < length w
    → slice_index (put_field w s a v) (place_word s a) ≡ put_bits (slice_index w (place_word s a)) v (2 ^ field_bits s - 1) (place_shift s a)
at_place w s a v there = get_or-set_same w (place_word s a) _ 0 there

pub read_back : (w : List ℕ) (s : Spec) (a v : ℕ) → place_word s a < length w → v < 2 ^ field_bits s
    → field_value (put_field w s a v) s a ≡ v
read_back w s a v there small =
    ap (λ x. x / 2 ^ place_shift s a % 2 ^ field_bits s) (at_place w s a v there)
    ∙ put_back (slice_index w (place_word s a)) v (field_bits s) (place_shift s a) small (room s a)

pub other_words : (w : List ℕ) (s : Spec) (a v i : ℕ) → i ≢ place_word s a
    → slice_index (put_field w s a v) i ≡ slice_index w i
other_words w s a v i other = get_or-set_other w (place_word s a) i _ 0 other

pub other_bits : (w : List ℕ) (s : Spec) (a v : ℕ) → place_word s a < length w → v < 2 ^ field_bits s
    → (k : ℕ) → k < 64 → (k < place_shift s a) ⊎ (place_shift s a + field_bits s ≤ k)
    → bit_at (slice_index (put_field w s a v) (place_word s a)) k ≡ bit_at (slice_index w (place_word s a)) k
other_bits w s a v there small k within outside =
    ap (λ x. bit_at x k) (at_place w s a v there)
    ∙ put_outside (slice_index w (place_word s a)) v (field_bits s) (place_shift s a) k small (room s a) within outside

-- a bit of the field of x is no bit of the field of a
outside_of : (s : Spec) (a x i : ℕ) → field_index s x ≢ field_index s a → place_word s x ≡ place_word s a → i < field_bits s
    → (place_shift s x + i < place_shift s a) ⊎ (place_shift s a + field_bits s ≤ place_shift s x + i)
outside_of s a x i other same below =
    let one_word : field_index s x * field_bits s / 64 ≡ field_index s a * field_bits s / 64 = omega arith in
    elim (apart s.log_bits s.bits (field_index s x) (field_index s a) other one_word)
    as (λ _. (place_shift s x + i < place_shift s a) ⊎ (place_shift s a + field_bits s ≤ place_shift s x + i)) [
      | inl h ↦ inl (omega arith)
      | inr h ↦ inr (omega arith)
    ]

pub other_fields : (w : List ℕ) (s : Spec) (a v : ℕ) → place_word s a < length w → v < 2 ^ field_bits s
    → (x : ℕ) → field_index s x ≢ field_index s a → field_value (put_field w s a v) s x ≡ field_value w s x
other_fields w s a v there small x other =
    elim (cases_eq (place_word s x) (place_word s a)) as (λ _. field_value (put_field w s a v) s x ≡ field_value w s x) [
      | inl same ↦
          same_run (slice_index (put_field w s a v) (place_word s x)) (slice_index w (place_word s x)) (place_shift s x) (field_bits s)
          (λ i below.
          let within : place_shift s x + i < 64 = omega (arith, room s x) in
          let bit = other_bits w s a v there small (place_shift s x + i) within (outside_of s a x i other same below) in
          subst (λ j. bit_at (slice_index (put_field w s a v) j) (place_shift s x + i) ≡ bit_at (slice_index w j) (place_shift s x + i)) (sym same) bit)
      | inr differ ↦ ap (λ n. n / 2 ^ place_shift s x % 2 ^ field_bits s) (other_words w s a v (place_word s x) differ)
    ]

pub changes : (w : List ℕ) (s : Spec) (a v : ℕ) → place_word s a < length w → v < 2 ^ field_bits s
    → ChangesField w (put_field w s a v) s a
changes w s a v there small = record {
  len = length-set w (place_word s a) _;
  words = other_words w s a v;
  bits = other_bits w s a v there small;
  fields = other_fields w s a v there small;
}

-- the row that the code computes from the parts that it read
pub put_is : (w : List ℕ) (s : Spec) (a v word shift y ones : ℕ)
    → word ≡ place_word s a → shift ≡ place_shift s a → y ≡ slice_index w word → ones ≡ 2 ^ field_bits s - 1
    → slice_set w word (put_bits y v ones shift) ≡ put_field w s a v
put_is w s a v word shift y ones at_word at_shift was is =
    ap (λ z. slice_set w word (put_bits y v z shift)) is
    ∙ ap (λ z. slice_set w word (put_bits z v (2 ^ field_bits s - 1) shift)) was
    ∙ ap (λ z. slice_set w z (put_bits (slice_index w z) v (2 ^ field_bits s - 1) shift)) at_word
    ∙ ap (λ z. slice_set w (place_word s a) (put_bits (slice_index w (place_word s a)) v (2 ^ field_bits s - 1) z)) at_shift
