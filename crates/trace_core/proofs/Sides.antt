-- The invariant for side metadata and globals, and what keeps each part of it.
use Rattle.std.proofs.Common.{◌≡◌, ◌≢◌, ℕ, ◌+◌, ◌-◌, ◌*◌, ◌/◌, ◌%◌, ◌<◌, ◌≤◌, ◌⊎◌, inl, inr, Bool, false, if◌then◌else◌, IsTrue, nat_eq, List, length, slice_index, slice_set, sym, ap, ◌∙◌, subst, arith, get_or-set_other, Some}
use Rattle.std.specs.Int.{bit_at}
use Rattle.std.proofs.lemmas.Bool.{cases_eq, cases_Bool, cond-true, cond-false}
use Rattle.heap_layout.specs.Zones.{Zone, StopWord, BudgetWord, Globals, BlockWords, LineWords, StartBits, PinBits, UnlogBits, HeapWords, first, extent, row_words, heap_of, InZone, IsAddress, bit_of, address_bit}
use Rattle.heap_layout.specs.declared.block.Kind.TheVariants as kinds
use Rattle.heap_layout.proofs.ZoneLemmas.{apart}
use Rattle.object_model.specs.Objects.{global_at, block_word}
use Rattle.side_meta.specs.BitWords.{with_bit}
use Rattle.object_model.specs.BitWords.{bit_word, bit_place}
use Rattle.object_model.proofs.Marks.{mark-same}
use Rattle.side_meta.proofs.BitWords.{with-same, with-other}
use Rattle.object_model.proofs.BitWords.{own-mark, other-mark}
use Rattle.trace_core.specs.Setups.{Setup, blocks, size, stays_old}
use Rattle.trace_core.specs.Machine.{Stage, Unclaimed, Copying, Scanning, target, put, forward, IsSettled, taken_word}
use Rattle.object_model.specs.Lines.{TouchesLine}
use Rattle.trace_core.proofs.Puts.{put_here, put_else}
use Rattle.trace_core.proofs.Objects.{Grows, settled_grows, forward_grows}

abbrev order-of : Zone → ℕ
order-of StopWord = 0
order-of BudgetWord = 1
order-of Globals = 2
order-of BlockWords = 3
order-of LineWords = 4
order-of StartBits = 5
order-of PinBits = 6
order-of UnlogBits = 7
order-of HeapWords = 8

-- the words of a zone are the same in both rows
abbrev pub SameZone : Setup → Zone → List ℕ → List ℕ → Type 0
SameZone p z words words' = (i : ℕ) → InZone (blocks p) z i → slice_index words' i ≡ slice_index words i

-- a store in one zone changes no word of another
pub other-zone : (p : Setup) (words : List ℕ) (i v : ℕ) (y z : Zone) → InZone (blocks p) y i → order-of y ≢ order-of z → SameZone p z words (slice_set words i v)
other-zone p words i v y z here differ j there = get_or-set_other words i j v 0 (λ e. differ (ap order-of (apart (blocks p) i y z here (subst (InZone (blocks p) z) e there))))

-- the bits that stages say are set: a start bit at each target that has all its words, and an unlog bit at each target
-- that has it, but for old objects
abbrev pub StartsAt : Setup → ℕ → Stage → ℕ → Type 0
StartsAt p x Unclaimed a = ⊥
StartsAt p x (Copying t k) a = ⊥
StartsAt p x (Scanning t k) a = t ≡ a

abbrev pub UnlogsAt : Setup → ℕ → Stage → ℕ → Type 0
UnlogsAt p x Unclaimed a = ⊥
UnlogsAt p x (Copying t k) a = (t ≡ a) × (size p x < k)
UnlogsAt p x (Scanning t k) a = (t ≡ a) × (stays_old p x ≡ false)

abbrev pub Somewhere : (ℕ → Stage → ℕ → Type 0) → (ℕ → Stage) → ℕ → Type 0
Somewhere at stage a = (x : ℕ) × at x (stage x) a

-- a bit is set if it was set before, or by the trace
pub record BitsAre (p : Setup) (z : Zone) (words : List ℕ) (by : ℕ → Type 0) : Type 0 where
  pub from : (a : ℕ) → IsTrue (address_bit (blocks p) z words a) → IsTrue (address_bit (blocks p) z p.before.words a) ⊎ by a
  pub kept : (a : ℕ) → IsTrue (address_bit (blocks p) z p.before.words a) → IsTrue (address_bit (blocks p) z words a)
  pub done : (a : ℕ) → by a → IsTrue (address_bit (blocks p) z words a)

pub record LinesAre (p : Setup) (words : List ℕ) (stage : ℕ → Stage) : Type 0 where
  pub from : (n : ℕ) → n < 256 * blocks p → IsTrue (bit_of (blocks p) LineWords words n)
      → IsTrue (bit_of (blocks p) LineWords p.before.words n) ⊎ ((x t : ℕ) × (target (stage x) ≡ Some t) × TouchesLine (blocks p) t (size p x) n)
  pub kept : (n : ℕ) → n < 256 * blocks p → IsTrue (bit_of (blocks p) LineWords p.before.words n) → IsTrue (bit_of (blocks p) LineWords words n)

pub record BlocksAre (p : Setup) (words : List ℕ) (taken : ℕ → ℕ) : Type 0 where
  pub word : (b : ℕ) → b < blocks p → slice_index words (first (blocks p) BlockWords + b) ≡ (if nat_eq (taken b) 0 then block_word p.before b else taken_word p (taken b))
  pub worker : (b : ℕ) → taken b ≤ p.workers
  pub copies : (b : ℕ) → 0 < taken b → p.copy ≢ kinds.Free

pub record GlobalsAre (p : Setup) (words : List ℕ) (stage : ℕ → Stage) (set : ℕ → Bool) : Type 0 where
  pub value : (g : ℕ) → g < 16 → slice_index words (first (blocks p) Globals + g) ≡ (if set g then forward stage (global_at p.before g) else global_at p.before g)
  pub settled : (g : ℕ) → g < 16 → IsTrue (set g) → IsSettled stage (global_at p.before g)

-- words that no event changes
pub record RestIs (p : Setup) (words : List ℕ) : Type 0 where
  pub stop : SameZone p StopWord p.before.words words
  pub budget : SameZone p BudgetWord p.before.words words
  pub pins : SameZone p PinBits p.before.words words

pub record KeepsSides (p : Setup) (words : List ℕ) (stage : ℕ → Stage) (taken : ℕ → ℕ) (set : ℕ → Bool) : Type 0 where
  pub starts : BitsAre p StartBits words (Somewhere (StartsAt p) stage)
  pub unlogs : BitsAre p UnlogBits words (Somewhere (UnlogsAt p) stage)
  pub lines : LinesAre p words stage
  pub blocks : BlocksAre p words taken
  pub globals : GlobalsAre p words stage set
  pub rest : RestIs p words

module _ (p : Setup) (words words' : List ℕ) where
  same-mark : (z : Zone) → extent (blocks p) z ≡ 64 * blocks p → SameZone p z words words' → (a : ℕ) → address_bit (blocks p) z words' a ≡ address_bit (blocks p) z words a
  same-mark z wide same a = mark-same (blocks p) z words words' a (λ there.
      let from : heap_of (blocks p) ≤ a = there.from in let below : a < row_words (blocks p) = there.below in
      ap (λ w. nat_eq (bit_at w ((a - heap_of (blocks p)) % 64)) 1) (same (first (blocks p) z + (a - heap_of (blocks p)) / 64) (record { from = omega arith; below = omega arith })))

  pub bits-stay : (z : Zone) (by by' : ℕ → Type 0) → extent (blocks p) z ≡ 64 * blocks p → SameZone p z words words'
      → ((a : ℕ) → by a → by' a) → ((a : ℕ) → by' a → by a) → BitsAre p z words by → BitsAre p z words' by'
  bits-stay z by by' wide same to back old = record {
    from = λ a set. elim (old.from a (sym (same-mark z wide same a) ∙ set)) as (λ _. IsTrue (address_bit (blocks p) z p.before.words a) ⊎ by' a) [ inl was ↦ inl was | inr now ↦ inr (to a now) ];
    kept = λ a was. same-mark z wide same a ∙ old.kept a was;
    done = λ a now. same-mark z wide same a ∙ old.done a (back a now);
  }

  pub lines-stay : (stage stage' : ℕ → Stage) → SameZone p LineWords words words' → Grows stage stage' → LinesAre p words stage → LinesAre p words' stage'
  lines-stay stage stage' same grows old =
      let at : (n : ℕ) → n < 256 * blocks p → bit_of (blocks p) LineWords words' n ≡ bit_of (blocks p) LineWords words n =
      λ n l. ap (λ w. nat_eq (bit_at w (n % 64)) 1) (same (first (blocks p) LineWords + n / 64) (record { from = omega arith; below = omega arith })) in
      record {
        from = λ n l set. elim (old.from n l (sym (at n l) ∙ set)) as (λ _. IsTrue (bit_of (blocks p) LineWords p.before.words n) ⊎ ((x t : ℕ) × (target (stage' x) ≡ Some t) × TouchesLine (blocks p) t (size p x) n)) [
          | inl was ↦ inl was
          | inr now ↦ inr (now.0, now.1, grows now.0 now.1 now.2, now.3)
        ];
        kept = λ n l was. at n l ∙ old.kept n l was;
      }

  pub blocks-stay : (taken : ℕ → ℕ) → SameZone p BlockWords words words' → BlocksAre p words taken → BlocksAre p words' taken
  blocks-stay taken same old = record {
    word = λ b l. same (first (blocks p) BlockWords + b) (record { from = omega arith; below = omega arith }) ∙ old.word b l;
    worker = old.worker;
    copies = old.copies;
  }

  pub globals-stay : (stage stage' : ℕ → Stage) (set : ℕ → Bool) → SameZone p Globals words words' → Grows stage stage' → GlobalsAre p words stage set → GlobalsAre p words' stage' set
  globals-stay stage stage' set same grows old = record {
    value = λ g l. same (first (blocks p) Globals + g) (record { from = omega arith; below = omega arith }) ∙ old.value g l
        ∙ (elim (cases_Bool (set g)) as (λ _. (if set g then forward stage (global_at p.before g) else global_at p.before g) ≡ (if set g then forward stage' (global_at p.before g) else global_at p.before g)) [
          | inl is ↦ cond-true (set g) (forward stage (global_at p.before g)) (global_at p.before g) is ∙ sym (forward_grows stage stage' grows (global_at p.before g) (old.settled g l is))
              ∙ sym (cond-true (set g) (forward stage' (global_at p.before g)) (global_at p.before g) is)
          | inr is ↦ cond-false (set g) (forward stage (global_at p.before g)) (global_at p.before g) is ∙ sym (cond-false (set g) (forward stage' (global_at p.before g)) (global_at p.before g) is)
        ]);
    settled = λ g l is. settled_grows stage stage' grows (global_at p.before g) (old.settled g l is);
  }

  pub rest-stays : SameZone p StopWord words words' → SameZone p BudgetWord words words' → SameZone p PinBits words words' → RestIs p words → RestIs p words'
  rest-stays stop budget pins old = record {
    stop = λ i there. stop i there ∙ old.stop i there;
    budget = λ i there. budget i there ∙ old.budget i there;
    pins = λ i there. pins i there ∙ old.pins i there;
  }

-- the bit of t is set
pub bit-sets : (p : Setup) (words : List ℕ) (z : Zone) (by by' : ℕ → Type 0) (t : ℕ) → length words ≡ row_words (blocks p) → IsAddress (blocks p) t
    → first (blocks p) z + 64 * blocks p ≤ heap_of (blocks p)
    → ((a : ℕ) → by a → by' a) → by' t → ((a : ℕ) → a ≢ t → by' a → by a)
    → BitsAre p z words by → BitsAre p z (slice_set words (bit_word (blocks p) z t) (with_bit (slice_index words (bit_word (blocks p) z t)) (bit_place (blocks p) t))) by'
bit-sets p words z by by' t long there inside to here back old =
    let n : ℕ = slice_index words (bit_word (blocks p) z t) in
    let k : ℕ = bit_place (blocks p) t in
    let v : ℕ = with_bit n k in
    let other : (i : ℕ) → i < 64 → i ≢ bit_place (blocks p) t → bit_at v i ≡ bit_at n i = λ i small ne. with-other n k i ne in
    let set : IsTrue (address_bit (blocks p) z (slice_set words (bit_word (blocks p) z t) v) t) = own-mark (blocks p) words long z t v there inside other ∙ ap (λ x. nat_eq x 1) (with-same n k) in
    let same : (a : ℕ) → a ≢ t → address_bit (blocks p) z (slice_set words (bit_word (blocks p) z t) v) a ≡ address_bit (blocks p) z words a = other-mark (blocks p) words long z t v there inside other in
    record {
      from = λ a is. elim (cases_eq a t) as (λ _. IsTrue (address_bit (blocks p) z p.before.words a) ⊎ by' a) [
        | inl e ↦ inr (subst by' (sym e) here)
        | inr ne ↦ elim (old.from a (sym (same a ne) ∙ is)) as (λ _. IsTrue (address_bit (blocks p) z p.before.words a) ⊎ by' a) [ inl was ↦ inl was | inr now ↦ inr (to a now) ]
      ];
      kept = λ a was. elim (cases_eq a t) as (λ _. IsTrue (address_bit (blocks p) z (slice_set words (bit_word (blocks p) z t) v) a)) [
        | inl e ↦ subst (λ x. IsTrue (address_bit (blocks p) z (slice_set words (bit_word (blocks p) z t) v) x)) (sym e) set
        | inr ne ↦ same a ne ∙ old.kept a was
      ];
      done = λ a now. elim (cases_eq a t) as (λ _. IsTrue (address_bit (blocks p) z (slice_set words (bit_word (blocks p) z t) v) a)) [
        | inl e ↦ subst (λ x. IsTrue (address_bit (blocks p) z (slice_set words (bit_word (blocks p) z t) v) x)) (sym e) set
        | inr ne ↦ same a ne ∙ old.done a (back a ne now)
      ];
    }

-- the bits by stages, where one object goes to another stage
module _ (at : ℕ → Stage → ℕ → Type 0) (stage : ℕ → Stage) (x : ℕ) (new : Stage) where
  pub somewhere-to : ((a : ℕ) → at x (stage x) a → at x new a) → (a : ℕ) → Somewhere at stage a → Somewhere at (put stage x new) a
  somewhere-to mine a now = elim (cases_eq now.0 x) as (λ _. Somewhere at (put stage x new) a) [
    | inl e ↦ (x, subst (λ st. at x st a) (sym (put_here stage x new)) (mine a (subst (λ y. at y (stage y) a) e now.1)))
    | inr ne ↦ (now.0, subst (λ st. at now.0 st a) (sym (put_else stage x new now.0 ne)) now.1)
  ]

  pub somewhere-back : (a : ℕ) → (at x new a → at x (stage x) a) → Somewhere at (put stage x new) a → Somewhere at stage a
  somewhere-back a mine now = elim (cases_eq now.0 x) as (λ _. Somewhere at stage a) [
    | inl e ↦ (x, mine (subst (λ st. at x st a) (put_here stage x new) (subst (λ y. at y (put stage x new y) a) e now.1)))
    | inr ne ↦ (now.0, subst (λ st. at now.0 st a) (put_else stage x new now.0 ne) now.1)
  ]
