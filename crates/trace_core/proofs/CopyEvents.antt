-- The events that copy an object, one after the other.
use Rattle.std.proofs.Common.{◌≡◌, ◌≢◌, ℕ, zero, suc, ◌+◌, ◌<◌, ◌≤◌, inl, inr, false, ◌&&◌, not, nat_eq, nat_lt, length, slice_index, slice_set, replicate, refl, sym, ap, ◌∙◌, subst, arith, length-set, get_or-set_other}
use Rattle.std.specs.Prelude.{if◌then◌else◌}
use Rattle.std.proofs.lemmas.Bool.{cases_eq, cond-true, cond-false, lt-ltb, le-ltb, eq-eqb, ne_eqb, and_from, not_from_false}
use Rattle.std.proofs.lemmas.Grind.{get_or-set_at}
use Rattle.heap_layout.specs.Zones.{StartBits, UnlogBits}
use Rattle.side_meta.specs.BitWords.{with_bit}
use Rattle.object_model.specs.BitWords.{bit_word, bit_place}
use Rattle.trace_core.specs.Setups.{Setup, blocks, size}
use Rattle.trace_core.specs.Machine.{Stage, Copying, Scanning, Machine, Copy, next, put, copied_word, offset_of_step, step_of_offset, copy_place, copy_value, copy_stage}
use Rattle.trace_core.specs.Traces.{after, AreNext}
use Rattle.trace_core.proofs.Puts.{put_here, put_else}
use Rattle.trace_core.proofs.Steps.{step-inside, offset-of-step, offset-step}

-- From m to m' the object at x came to this stage, and the words of the row changed. All else is as it was.
pub record Reaches (m m' : Machine) (x : ℕ) (st : Stage) : Type 0 where
  pub stage : m'.stage x ≡ st
  pub others : (y : ℕ) → y ≢ x → m'.stage y ≡ m.stage y
  pub owner : m'.owner ≡ m.owner
  pub taken : m'.taken ≡ m.taken
  pub set : m'.set ≡ m.set
  pub asked : m'.asked ≡ m.asked

module _ (p : Setup) (x t : ℕ) (least : 3 ≤ size p x) where
  -- the words of the object whose steps are from k to n - 1 are copied
  pub record Copies (m m' : Machine) (k n : ℕ) : Type 0 where
    pub reaches : Reaches m m' x (Copying t n)
    pub long : length m'.words ≡ length m.words
    pub copied : (o : ℕ) → o < size p x → k ≤ step_of_offset (size p x) o → step_of_offset (size p x) o < n → slice_index m'.words (t + o) ≡ copied_word p x t o
    pub rest : (i : ℕ) → ((o : ℕ) → o < size p x → k ≤ step_of_offset (size p x) o → step_of_offset (size p x) o < n → i ≢ t + o) → slice_index m'.words i ≡ slice_index m.words i

  module _ (m : Machine) (k : ℕ) (stage : m.stage x ≡ Copying t k) where
    at-stage : next p m (Copy x) ≡ record m {
      words = slice_set m.words (copy_place p x (Copying t k)) (copy_value p x (Copying t k) (slice_index m.words (copy_place p x (Copying t k))));
      stage = put m.stage x (copy_stage p x (Copying t k));
    }
    at-stage = ap (λ st. record m { words = slice_set m.words (copy_place p x st) (copy_value p x st (slice_index m.words (copy_place p x st))); stage = put m.stage x (copy_stage p x st) }) stage

    -- one word is copied
    pub word-copied : k < size p x → next p m (Copy x) ≡ record m {
      words = slice_set m.words (t + offset_of_step (size p x) k) (copied_word p x t (offset_of_step (size p x) k));
      stage = put m.stage x (Copying t (k + 1));
    }
    word-copied l = at-stage
        ∙ ap (λ i. record m { words = slice_set m.words i (copy_value p x (Copying t k) (slice_index m.words i)); stage = put m.stage x (copy_stage p x (Copying t k)) })
        (cond-true (nat_lt k (size p x)) (t + offset_of_step (size p x) k) _ (lt-ltb k (size p x) l))
        ∙ ap (λ n. record m { words = slice_set m.words (t + offset_of_step (size p x) k) n; stage = put m.stage x (copy_stage p x (Copying t k)) })
        (cond-true (nat_lt k (size p x)) (copied_word p x t (offset_of_step (size p x) k)) _ (lt-ltb k (size p x) l))
        ∙ ap (λ st. record m { words = slice_set m.words (t + offset_of_step (size p x) k) (copied_word p x t (offset_of_step (size p x) k)); stage = put m.stage x st })
        (cond-true (nat_lt k (size p x)) (Copying t (k + 1)) _ (lt-ltb k (size p x) l))

    -- the words are copied, and a bit is set
    bit-place : size p x ≤ k → (i : ℕ) → (if nat_eq k (size p x) then bit_word (blocks p) UnlogBits t else bit_word (blocks p) StartBits t) ≡ i → (st : Stage)
        → (if nat_eq k (size p x) && not (nat_eq t x) then Copying t (k + 1) else Scanning t 0) ≡ st
        → next p m (Copy x) ≡ record m { words = slice_set m.words i (with_bit (slice_index m.words i) (bit_place (blocks p) t)); stage = put m.stage x st }
    bit-place most i place st to = at-stage
        ∙ ap (λ j. record m { words = slice_set m.words j (copy_value p x (Copying t k) (slice_index m.words j)); stage = put m.stage x (copy_stage p x (Copying t k)) })
        (cond-false (nat_lt k (size p x)) (t + offset_of_step (size p x) k) _ (le-ltb k (size p x) most) ∙ place)
        ∙ ap (λ n. record m { words = slice_set m.words i n; stage = put m.stage x (copy_stage p x (Copying t k)) })
        (cond-false (nat_lt k (size p x)) (copied_word p x t (offset_of_step (size p x) k)) _ (le-ltb k (size p x) most))
        ∙ ap (λ z. record m { words = slice_set m.words i (with_bit (slice_index m.words i) (bit_place (blocks p) t)); stage = put m.stage x z })
        (cond-false (nat_lt k (size p x)) (Copying t (k + 1)) _ (le-ltb k (size p x) most) ∙ to)

    pub unlogged-moved : k ≡ size p x → t ≢ x → next p m (Copy x) ≡ record m {
      words = slice_set m.words (bit_word (blocks p) UnlogBits t) (with_bit (slice_index m.words (bit_word (blocks p) UnlogBits t)) (bit_place (blocks p) t));
      stage = put m.stage x (Copying t (k + 1));
    }
    unlogged-moved at differ = bit-place (omega arith) (bit_word (blocks p) UnlogBits t) (cond-true (nat_eq k (size p x)) _ _ (eq-eqb k (size p x) at)) (Copying t (k + 1))
        (cond-true (nat_eq k (size p x) && not (nat_eq t x)) _ _ (and_from (nat_eq k (size p x)) (not (nat_eq t x)) (eq-eqb k (size p x) at) (not_from_false (nat_eq t x) (ne_eqb t x differ))))

    pub unlogged-in-place : k ≡ size p x → t ≡ x → next p m (Copy x) ≡ record m {
      words = slice_set m.words (bit_word (blocks p) UnlogBits t) (with_bit (slice_index m.words (bit_word (blocks p) UnlogBits t)) (bit_place (blocks p) t));
      stage = put m.stage x (Scanning t 0);
    }
    unlogged-in-place at same = bit-place (omega arith) (bit_word (blocks p) UnlogBits t) (cond-true (nat_eq k (size p x)) _ _ (eq-eqb k (size p x) at)) (Scanning t 0)
        (cond-false (nat_eq k (size p x) && not (nat_eq t x)) _ _ (ap (λ b. nat_eq k (size p x) && not b) (eq-eqb t x same) ∙ ap (λ b. b && false) (eq-eqb k (size p x) at)))

    pub started : k ≡ size p x + 1 → next p m (Copy x) ≡ record m {
      words = slice_set m.words (bit_word (blocks p) StartBits t) (with_bit (slice_index m.words (bit_word (blocks p) StartBits t)) (bit_place (blocks p) t));
      stage = put m.stage x (Scanning t 0);
    }
    started at = let differ : nat_eq k (size p x) ≡ false = ne_eqb k (size p x) (λ e. omega arith) in
        bit-place (omega arith) (bit_word (blocks p) StartBits t) (cond-false (nat_eq k (size p x)) _ _ differ) (Scanning t 0)
        (cond-false (nat_eq k (size p x) && not (nat_eq t x)) _ _ (ap (λ b. b && not (nat_eq t x)) differ))

    pub copies-one : k < size p x → t + size p x ≤ length m.words → Copies m (next p m (Copy x)) k (k + 1)
    copies-one l fits = subst (λ (n : Machine). Copies m n k (k + 1)) (sym (word-copied l)) (record {
      reaches = record {
        stage = put_here m.stage x (Copying t (k + 1));
        others = λ y ne. put_else m.stage x (Copying t (k + 1)) y ne;
        owner = refl;
        taken = refl;
        set = refl;
        asked = refl;
      };
      long = length-set m.words (t + offset_of_step (size p x) k) _;
      copied = λ o inside from below. (let at : o ≡ offset_of_step (size p x) k = offset-of-step (size p x) least o k inside (omega arith) in
          subst (λ z. slice_index (slice_set m.words (t + offset_of_step (size p x) k) (copied_word p x t (offset_of_step (size p x) k))) (t + z) ≡ copied_word p x t z) (sym at)
          (let low : offset_of_step (size p x) k < size p x = step-inside (size p x) least k l in
          get_or-set_at m.words (t + offset_of_step (size p x) k) (t + offset_of_step (size p x) k) (copied_word p x t (offset_of_step (size p x) k)) 0 refl (omega arith)));
      rest = λ i apart. get_or-set_other m.words (t + offset_of_step (size p x) k) i (copied_word p x t (offset_of_step (size p x) k)) 0
          (let step : step_of_offset (size p x) (offset_of_step (size p x) k) ≡ k = offset-step (size p x) least k l in
          apart (offset_of_step (size p x) k) (step-inside (size p x) least k l) (omega arith) (omega arith));
    })

  pub reaches-on : (m m' m'' : Machine) (st st' : Stage) → Reaches m m' x st → Reaches m' m'' x st' → Reaches m m'' x st'
  reaches-on m m' m'' st st' a b = record {
    stage = b.stage;
    others = λ y ne. b.others y ne ∙ a.others y ne;
    owner = b.owner ∙ a.owner;
    taken = b.taken ∙ a.taken;
    set = b.set ∙ a.set;
    asked = b.asked ∙ a.asked;
  }

  copies-on : (m m' m'' : Machine) (k n : ℕ) → k < n → Copies m m' k (k + 1) → Copies m' m'' (k + 1) n → Copies m m'' k n
  copies-on m m' m'' k n l a b = record {
    reaches = reaches-on m m' m'' (Copying t (k + 1)) (Copying t n) a.reaches b.reaches;
    long = b.long ∙ a.long;
    copied = λ o inside from below. elim (cases_eq (step_of_offset (size p x) o) k) as (λ _. slice_index m''.words (t + o) ≡ copied_word p x t o) [
      | inl e ↦ b.rest (t + o) (λ z inner start end same. (let eq : o ≡ z = omega arith in let steps : step_of_offset (size p x) o ≡ step_of_offset (size p x) z = ap (step_of_offset (size p x)) eq in omega arith))
          ∙ a.copied o inside from (omega arith)
      | inr ne ↦ (let later : step_of_offset (size p x) o ≢ k = ne in b.copied o inside (omega arith) below)
    ];
    rest = λ i apart. b.rest i (λ o inside from below. apart o inside (omega arith) below) ∙ a.rest i (λ o inside from below. apart o inside from (omega arith));
  }

  -- n steps from step k on
  pub copies : (n : ℕ) (m : Machine) (k : ℕ) → m.stage x ≡ Copying t k → k + n ≤ size p x → t + size p x ≤ length m.words
      → AreNext p m (replicate n (Copy x)) × Copies m (after p m (replicate n (Copy x))) k (k + n)
  copies zero m k stage most fits = (
    tt,
    record {
      reaches = record { stage = stage ∙ ap (Copying t) (let e : k ≡ k + 0 = omega arith in e); others = λ y ne. refl; owner = refl; taken = refl; set = refl; asked = refl };
      long = refl;
      copied = λ o inside from below. absurd (omega arith);
      rest = λ i apart. refl;
    },
  )
  copies (suc n) m k stage most fits =
      let one : Copies m (next p m (Copy x)) k (k + 1) = copies-one m k stage (omega arith) fits in
      let more = copies n (next p m (Copy x)) (k + 1) one.reaches.stage (omega arith) (subst (λ l. t + size p x ≤ l) (sym one.long) fits) in
      let sum : k + 1 + n ≡ k + suc n = omega arith in (
        ((t, k, stage), more.0),
        copies-on m (next p m (Copy x)) (after p (next p m (Copy x)) (replicate n (Copy x))) k (k + suc n) (omega arith) one
            (subst (Copies (next p m (Copy x)) (after p (next p m (Copy x)) (replicate n (Copy x))) (k + 1)) sum more.1),
      )
