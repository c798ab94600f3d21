-- A block of small and medium objects after its sweep.
use Rattle.std.proofs.Common.{◌≡◌, ◌≢◌, refl, sym, ap, ◌∙◌, subst, inl, inr, ℕ, zero, suc, ◌+◌, ◌/◌, ◌%◌, ◌<◌, ◌≤◌, Bool, true, IsTrue, List, length, slice_index, nat_eq, arith}
use Rattle.std.proofs.lemmas.Bool.{cases_Bool, cases_eq, and_parts, eqb-true}
use Rattle.heap_layout.specs.Zones.{heap_of, row_words, block_start, block_at, offset_at, IsAddress}
use Rattle.heap_layout.specs.Blocks.{kind_code, code_of, IsValidWord, is_block_code, is_valid_for, is_valid_for_some, kind_of_code}
use Rattle.heap_layout.specs.declared.block.Kind.TheVariants as kinds
use Rattle.heap_layout.specs.declared.block.BlockWord.{BlockWord}
use Rattle.heap_layout.specs.declared.layout.Layout.{Layout}
use Rattle.heap_layout.proofs.BlockLemmas.{parts_of_code, kind_code_most}
use Rattle.object_model.specs.Objects.{HeapState, state_over, block_word, HasKind, IsHeld, is_start, size_at}
use Rattle.object_model.specs.Lawful.{HasObject, Lies, IsReadableBlock, has_small}
use Rattle.object_model.specs.Releasing.{IsReleasable, InSpan}
use Rattle.object_model.specs.Ages.{Lives}
use Rattle.object_model.proofs.OneKind.{kind-code, kind-from, has_small-code}
use Rattle.sessions.proofs.PlacedSmallObjects.{one_if}
use Rattle.block_sweeps.specs.Sweeping.{InBlock, HasNoLiving, Sweeps, object_count}
use Rattle.ideal_heap.specs.Names.{IsName, name_of}
use Rattle.plan_api.proofs.EvacuationLaws.{kind-kept}
use Rattle.plan_api.proofs.Tallies.{count_below, count-next}
use Rattle.plan_api.proofs.BlockViews.{word-address, word-block, at-offset, offset-below}

-- the code of a word without its owner
pub unowned-code : (w : BlockWord) (v : ℕ) → IsValidWord w → code_of w ≡ v → code_of (record { kind = w.kind; class = w.class; owner = 0 }) ≡ v % 65536
unowned-code w v valid code =
    let class : v / 256 % 256 ≡ w.class = (parts_of_code w v valid code).1 in
    let kind : kind_code w.kind ≤ 8 = kind_code_most w.kind in
    omega arith

-- what a count says
counted-step : (p : ℕ → Bool) (n w : ℕ) → w < n + 1 → p w ≡ true → (w < n → 1 ≤ count_below p n) → 1 ≤ count_below p (n + 1)
counted-step p n w below set before = (let more : count_below p (n + 1) ≡ count_below p n + one_if (p n) = count-next p n in
    elim (cases_eq w n) as (λ _. 1 ≤ count_below p (n + 1)) [
      | inl last ↦ (let one : one_if (p n) ≡ 1 = ap one_if (ap p (sym last) ∙ set) in omega arith)
      | inr other ↦ (let some : 1 ≤ count_below p n = before (omega arith) in omega arith)
    ])

pub some-counted : (p : ℕ → Bool) (n w : ℕ) → w < n → p w ≡ true → 1 ≤ count_below p n
some-counted p zero w below set = absurd (omega (arith, below))
some-counted p (suc n) w below set = (let e : suc n ≡ n + 1 = omega arith in
    subst (λ m. 1 ≤ count_below p m) (sym e) (counted-step p n w (omega arith) set (λ less. some-counted p n w less set)))

pub counted-found : (p : ℕ → Bool) (n : ℕ) → count_below p n ≢ 0 → (w : ℕ) × (w < n) × (p w ≡ true)
counted-found p zero some = absurd (some refl)
counted-found p (suc n) some =
    let more : count_below p (suc n) ≡ count_below p n + one_if (p n) = ap (count_below p) (let e : suc n ≡ n + 1 = omega arith in e) ∙ count-next p n in
    elim (cases_Bool (p n)) as (λ _. (w : ℕ) × (w < suc n) × (p w ≡ true)) [
      | inl set ↦ (n, omega arith, set)
      | inr clear ↦ (let same : count_below p (suc n) ≡ count_below p n = more ∙ (let zero_more : one_if (p n) ≡ 0 = ap one_if clear in omega arith) in
          let before = counted-found p n (λ none. some (same ∙ none)) in (before.0, omega (arith, before.1), before.2))
    ]

none-and-one : (n : ℕ) → n ≡ 0 → 1 ≤ n → ⊥
none-and-one n none one = omega arith

module _ (l : Layout) (k : ℕ) (old mid : List ℕ) (base after : ℕ) (there : k < l.blocks) (sweep : Sweeps base after (state_over old l 0 0) (state_over mid l 0 0) k) where
  abbrev b : ℕ
  b = l.blocks

  abbrev s : HeapState
  s = state_over old l 0 0

  abbrev t : HeapState
  t = state_over mid l 0 0

  -- no object is left, so none lives
  pub none-living : object_count t k ≡ 0 → HasNoLiving base s (InBlock s k)
  none-living none a here lives =
      let held : IsHeld t a = (sweep.objects.held a here).1 lives in
      let w : ℕ = offset_at b a in
      let below : w < 4096 = offset-below t a held in
      let at : a ≡ block_start b k + w = at-offset t k a held here.block in
      let some : 1 ≤ object_count t k = some-counted (λ i. is_start t (block_start b k + i)) 4096 w below (ap (is_start t) (sym at) ∙ held.start) in
      none-and-one (object_count t k) none some

  -- one that is left lives
  pub some-living : object_count t k ≢ 0 → (a : ℕ) × InBlock s k a × Lives base s a
  some-living some =
      let found = counted-found (λ i. is_start t (block_start b k + i)) 4096 some in
      let a : ℕ = block_start b k + found.0 in
      let here : InBlock s k a = record { address = word-address b k found.0 there found.1; block = word-block b k found.0 found.1 } in
      (a, here, (sweep.objects.held a here).0 (record { address = here.address; start = found.2 }))

  heap-word : (i : ℕ) → heap_of b ≤ i → slice_index mid i ≡ slice_index old i
  heap-word i from = sweep.rest.others i (λ word. elim word as (λ _. ⊥) [
    | inl either ↦ elim either as (λ _. ⊥) [ inl at ↦ omega arith | inr line ↦ (let x = line.below in omega arith) ]
    | inr mark ↦ elim mark as (λ _. ⊥) [
      | inl start ↦ (let x = start.below in omega arith)
      | inr more ↦ elim more as (λ _. ⊥) [ inl pin ↦ (let x = pin.below in omega arith) | inr unlog ↦ (let x = unlog.below in omega arith) ]
    ]
  ])

  -- an Immix block in which something is left can be read
  module _ (ready : IsReleasable s k) (extent : length old ≡ row_words b) (immix : HasKind s k kinds.Immix) (kept : after ≡ block_word s k % 65536) (a : ℕ) (here : InBlock s k a) (lives : Lives base s a) where
    immix-word : after ≡ 4
    immix-word =
        let four : block_word s k % 256 ≡ 4 = kind-code s k kinds.Immix immix in
        let valid : IsTrue (is_valid_for kinds.Immix (block_word s k / 256 % 256) (block_word s k / 65536)) = subst (λ n. IsTrue (is_valid_for_some (kind_of_code n) (block_word s k / 256 % 256) (block_word s k / 65536))) four ready.code in
        let class : block_word s k / 256 % 256 ≡ 0 = eqb-true _ _ (and_parts (nat_eq (block_word s k / 256 % 256) 0) _ valid).0 in
        omega arith

    word-now : block_word t k ≡ 4
    word-now = sweep.word a here lives ∙ immix-word

    pub immix-now : HasKind t k kinds.Immix
    immix-now = kind-from t k kinds.Immix there (ap (λ n. n % 256) word-now)

    span : (x : ℕ) → IsHeld t x → block_at b x ≡ k → InSpan s k x
    span x held at = record { address = held.address; block = inl at }

    lived : (x : ℕ) → IsHeld t x → block_at b x ≡ k → Lives base s x
    lived x held at = (sweep.objects.held x (record { address = held.address; block = at })).0 held

    shape-same : (x : ℕ) → IsAddress b x → slice_index mid (x + 1) ≡ slice_index old (x + 1)
    shape-same x at = heap-word (x + 1) (let from = at.from in omega arith)

    size-same : (x : ℕ) → IsAddress b x → size_at t x ≡ size_at s x
    size-same x at = ap (λ n. 3 + n % 65536 + n / 65536) (shape-same x at)

    object-now : (x : ℕ) → IsHeld t x → block_at b x ≡ k → HasObject t x
    object-now x held at =
        let was = (ready.objects x (span x held at) (lived x held at).held).0 in record {
          name = subst (λ n. IsName (name_of n)) (sym (heap-word x held.address.from)) was.name;
          refs = subst (λ n. n % 65536 ≤ 1024) (sym (shape-same x held.address)) was.refs;
          nums = subst (λ n. n / 65536 ≤ 60000) (sym (shape-same x held.address)) was.nums;
        }

    lies-as : (x n : ℕ) → block_at b x ≡ k → Lies s x n → Lies t x n
    lies-as x n at was = record {
      small = λ few. record {
        address = (was.small few).address;
        within = (was.small few).within;
        kind = subst (λ j. IsTrue (has_small t j)) (sym at) (has_small-code t k kinds.Immix immix-now);
        cell = λ cells. absurd (kind-kept t k kinds.Immix kinds.Cells immix-now (subst (λ j. HasKind t j kinds.Cells) at cells) refl);
      };
      large = λ big. absurd (kind-kept s k kinds.Immix kinds.LargeHead immix (subst (λ j. HasKind s j kinds.LargeHead) at (was.large big).run.head) refl);
    }

    lies-now : (x : ℕ) → IsHeld t x → block_at b x ≡ k → Lies t x (size_at t x)
    lies-now x held at = subst (Lies t x) (sym (size-same x held.address)) (lies-as x (size_at s x) at (ready.objects x (span x held at) (lived x held at).held).1)

    pub readable : IsReadableBlock t k
    readable = record {
      extent = sweep.rest.extent ∙ extent;
      block = there;
      code = subst (λ n. IsTrue (is_block_code n)) (sym word-now) refl;
      objects = λ x held at. (object-now x held at, lies-now x held at);
    }
