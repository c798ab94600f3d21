-- An Immix block after its sweep.
use Rattle.std.proofs.Common.{◌≡◌, ◌≢◌, refl, sym, ap, ◌∙◌, subst, inl, inr, ℕ, zero, suc, ◌+◌, ◌/◌, ◌%◌, ◌<◌, ◌≤◌, ◌⊎◌, Bool, true, false, IsTrue, List, length, slice_index, arith}
use Rattle.std.proofs.lemmas.Bool.{cases_Bool, cases_eq, eq-eqb, true≢false}
use Rattle.heap_layout.specs.Zones.{heap_of, row_words, block_start, block_at, offset_at, IsAddress}
use Rattle.heap_layout.specs.Blocks.{is_block_code, kind_code}
use Rattle.heap_layout.specs.declared.block.Kind.TheVariants as kinds
use Rattle.heap_layout.specs.declared.layout.Layout.{Layout}
use Rattle.ideal_heap.specs.Names.{IsName, name_of}
use Rattle.object_model.specs.Objects.{HeapState, state_over, block_word, HasKind, IsHeld, is_start, size_at}
use Rattle.object_model.specs.Lawful.{HasObject, Lies, IsReadableBlock, has_small}
use Rattle.object_model.specs.Releasing.{IsReleasable, InSpan}
use Rattle.object_model.specs.Ages.{Lives}
use Rattle.object_model.proofs.OneKind.{kind-from, one-kind, has_small-code}
use Rattle.block_sweeps.specs.Sweeping.{InBlock, HasNoLiving, Sweeps, object_count}
use Rattle.block_sweeps.proofs.BitCounts.{none-passes, none-counted}

-- a number below n passes a test, or none does
some-passes : (p : ℕ → Bool) (n : ℕ) → ((i : ℕ) → i < n → p i ≡ false) ⊎ ((i : ℕ) × (i < n) × (p i ≡ true))
some-passes p zero = inl (λ i below. absurd (omega arith))
some-passes p (suc n) = elim (cases_Bool (p n)) as (λ _. ((i : ℕ) → i < suc n → p i ≡ false) ⊎ ((i : ℕ) × (i < suc n) × (p i ≡ true))) [
  | inl set ↦ inr (n, omega arith, set)
  | inr clear ↦ elim (some-passes p n) as (λ _. ((i : ℕ) → i < suc n → p i ≡ false) ⊎ ((i : ℕ) × (i < suc n) × (p i ≡ true))) [
    | inl none ↦ inl (λ i below. elim (cases_eq i n) as (λ _. p i ≡ false) [ inl last ↦ ap p last ∙ clear | inr other ↦ none i (omega arith) ])
    | inr some ↦ inr (some.0, (let below = some.1 in omega arith), some.2)
  ]
]

from-zero : (i : ℕ) → 0 + i ≡ i
from-zero i = omega arith

-- an address by its block and offset
address-parts : (b k a : ℕ) → heap_of b ≤ a → block_at b a ≡ k → block_start b k + (0 + offset_at b a) ≡ a
address-parts b k a from at = omega arith

offset-below : (b a : ℕ) → offset_at b a < 4096
offset-below b a = omega arith

address-in : (b k w : ℕ) → k < b → w < 4096 → IsAddress b (block_start b k + w)
address-in b k w there below = record { from = omega arith; below = omega arith }

block-in : (b k w : ℕ) → k < b → w < 4096 → block_at b (block_start b k + w) ≡ k
block-in b k w there below = omega arith

module _ (l : Layout) (k : ℕ) (old mid : List ℕ) (base after : ℕ) (there : k < l.blocks) (sweep : Sweeps base after (state_over old l 0 0) (state_over mid l 0 0) k) where
  abbrev b : ℕ
  b = l.blocks

  abbrev s : HeapState
  s = state_over old l 0 0

  abbrev t : HeapState
  t = state_over mid l 0 0

  -- no object is left, so none lives
  pub none-living : object_count t k ≡ 0 → HasNoLiving base s (InBlock s k)
  none-living none a here lives =
      let held : IsHeld t a = (sweep.objects.held a here).1 lives in
      none-passes (λ i. is_start t (block_start b k + i)) 0 4096 (offset_at b a) none (offset-below b a) (ap (is_start t) (address-parts b k a here.address.from here.block) ∙ held.start)

  -- one that is left lives
  pub some-living : object_count t k ≢ 0 → (a : ℕ) × InBlock s k a × Lives base s a
  some-living some = elim (some-passes (λ i. is_start t (block_start b k + i)) 4096) as (λ _. (a : ℕ) × InBlock s k a × Lives base s a) [
    | inl none ↦ absurd (some (none-counted (λ i. is_start t (block_start b k + i)) 0 4096 (λ i below. ap (λ j. is_start t (block_start b k + j)) (from-zero i) ∙ none i below)))
    | inr found ↦
        (let w : ℕ = found.0 in
        let here : InBlock s k (block_start b k + w) = record { address = address-in b k w there found.1; block = block-in b k w there found.1 } in
        (block_start b k + w, here, (sweep.objects.held (block_start b k + w) here).0 (record { address = here.address; start = found.2 })))
  ]

  heap-word : (i : ℕ) → heap_of b ≤ i → slice_index mid i ≡ slice_index old i
  heap-word i from = sweep.rest.others i (λ word. elim word as (λ _. ⊥) [
    | inl either ↦ elim either as (λ _. ⊥) [ inl at ↦ omega arith | inr line ↦ (let x = line.below in omega arith) ]
    | inr mark ↦ elim mark as (λ _. ⊥) [
      | inl start ↦ (let x = start.below in omega arith)
      | inr more ↦ elim more as (λ _. ⊥) [ inl pin ↦ (let x = pin.below in omega arith) | inr unlog ↦ (let x = unlog.below in omega arith) ]
    ]
  ])

  -- an Immix block in which something is left can be read
  module _ (ready : IsReleasable s k) (extent : length old ≡ row_words b) (immix : HasKind s k kinds.Immix) (code : after ≡ 4) (a : ℕ) (here : InBlock s k a) (lives : Lives base s a) where
    word-now : block_word t k ≡ 4
    word-now = sweep.word a here lives ∙ code

    pub immix-now : HasKind t k kinds.Immix
    immix-now = kind-from t k kinds.Immix there (ap (λ n. n % 256) word-now)

    span : (x : ℕ) → IsHeld t x → block_at b x ≡ k → InSpan s k x
    span x held at = record { address = held.address; block = inl at }

    lived : (x : ℕ) → IsHeld t x → block_at b x ≡ k → Lives base s x
    lived x held at = (sweep.objects.held x (record { address = held.address; block = at })).0 held

    shape-same : (x : ℕ) → IsAddress b x → slice_index mid (x + 1) ≡ slice_index old (x + 1)
    shape-same x at = heap-word (x + 1) (let from = at.from in omega arith)

    size-same : (x : ℕ) → IsAddress b x → size_at t x ≡ size_at s x
    size-same x at = ap (λ n. 3 + n % 65536 + n / 65536) (shape-same x at)

    object-now : (x : ℕ) → IsHeld t x → block_at b x ≡ k → HasObject t x
    object-now x held at =
        let was = (ready.objects x (span x held at) (lived x held at).held).0 in record {
          name = subst (λ n. IsName (name_of n)) (sym (heap-word x held.address.from)) was.name;
          refs = subst (λ n. n % 65536 ≤ 1024) (sym (shape-same x held.address)) was.refs;
          nums = subst (λ n. n / 65536 ≤ 60000) (sym (shape-same x held.address)) was.nums;
        }

    no-cells : HasKind t k kinds.Cells → ⊥
    no-cells is = true≢false (sym (eq-eqb (kind_code kinds.Immix) (kind_code kinds.Cells) (one-kind t k kinds.Immix kinds.Cells immix-now is)) ∙ refl)

    no-run : HasKind s k kinds.LargeHead → ⊥
    no-run is = true≢false (sym (eq-eqb (kind_code kinds.Immix) (kind_code kinds.LargeHead) (one-kind s k kinds.Immix kinds.LargeHead immix is)) ∙ refl)

    lies-as : (x n : ℕ) → block_at b x ≡ k → Lies s x n → Lies t x n
    lies-as x n at was = record {
      small = λ few. record {
        address = (was.small few).address;
        within = (was.small few).within;
        kind = subst (λ j. IsTrue (has_small t j)) (sym at) (has_small-code t k kinds.Immix immix-now);
        cell = λ cells. absurd (no-cells (subst (λ j. HasKind t j kinds.Cells) at cells));
      };
      large = λ big. absurd (no-run (subst (λ j. HasKind s j kinds.LargeHead) at (was.large big).run.head));
    }

    lies-now : (x : ℕ) → IsHeld t x → block_at b x ≡ k → Lies t x (size_at t x)
    lies-now x held at = subst (Lies t x) (sym (size-same x held.address)) (lies-as x (size_at s x) at (ready.objects x (span x held at) (lived x held at).held).1)

    pub readable : IsReadableBlock t k
    readable = record {
      extent = sweep.rest.extent ∙ extent;
      block = there;
      code = subst (λ n. IsTrue (is_block_code n)) (sym word-now) refl;
      objects = λ x held at. (object-now x held at, lies-now x held at);
    }
