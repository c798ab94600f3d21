-- One more block is released.
use Rattle.std.proofs.Common.{◌≡◌, sym, ◌∙◌, ap, ap₂, subst, refl, ℕ, ◌+◌, ◌%◌, ◌^◌, ◌<◌, ◌⊎◌, inl, inr, arith, Bool, true, false, true≢false, ◌&&◌, nat_eq, nat_lt, length, slice_index}
use Rattle.std.proofs.lemmas.Bool.{cases_Bool, cases_eq}
use Rattle.heap_layout.specs.Zones.{block_at, block_start}
use Rattle.heap_layout.specs.declared.block.Kind.TheVariants as kinds
use Rattle.object_model.specs.declared.collect.Collect.{Collect}
use Rattle.object_model.specs.Objects.{HeapState, word_at, block_word, has_kind, HasKind}
use Rattle.object_model.specs.Ages.{Lives}
use Rattle.object_model.specs.Releasing.{IsReleasable}
use Rattle.object_model.proofs.OneKind.{kind-code, kind-within}
use Rattle.block_sweeps.specs.Sweeping.{IsOfSpan, IsFreed}
use Rattle.sessions.specs.Plans.{Rules}
use Rattle.plan_api.specs.Releasing.{IsReleased, ReleasesSpan, ReleasesIf, Releases}
use Rattle.block_release.proofs.Metadata.{SameReads, same-reads}
use Rattle.block_release.proofs.Alike.{SameRest, rest-through, rest-back, reads-through, reads-back, kind-same, span-after}
use Rattle.block_sweeps.proofs.LargeRuns.{no-head-and-tail, IsOfNone, some-or-none, span-within, spans-apart, tail-empty, lives-or-not}
use Rattle.block_release.proofs.Releases.{kept, begun}
use Rattle.block_release.proofs.Bare.{IsBare, bare, bare-same}
use Rattle.block_release.proofs.Beside.{rest-beside, beside}

-- The blocks of s below n are released in mid. A block of none of their spans reads as in s.
pub record IsReleasedBelow (r : Rules) (c : Collect) (base : ℕ) (s mid : HeapState) (n : ℕ) : Type 0 where
  pub rest : SameRest s mid
  pub extent : length mid.words ≡ length s.words
  pub fit : ((i : ℕ) → word_at s i < 2 ^ 64) → (i : ℕ) → word_at mid i < 2 ^ 64
  pub each : (k : ℕ) → k < n → k < s.blocks → (HasKind s k kinds.LargeTail → ⊥) → IsReleased r c base s mid k
  pub later : (j : ℕ) → j < s.blocks → IsOfNone s n j → SameReads s mid j

-- The release of block n: it is released, if it is no tail of s, and blocks beside its span read the same.
record IsOneMore (r : Rules) (c : Collect) (base : ℕ) (s mid new : HeapState) (n : ℕ) : Type 0 where
  pub rest : SameRest mid new
  pub extent : length new.words ≡ length mid.words
  pub fit : ((i : ℕ) → word_at mid i < 2 ^ 64) → (i : ℕ) → word_at new i < 2 ^ 64
  pub own : (HasKind s n kinds.LargeTail → ⊥) → IsReleased r c base s new n
  pub others : (j : ℕ) → j < s.blocks → ((HasKind s n kinds.LargeTail → ⊥) → IsOfSpan s n j → ⊥) → SameReads mid new j

module _ (r : Rules) (c : Collect) (base : ℕ) (s : HeapState) (ready : (k : ℕ) → k < s.blocks → IsReleasable s k) (mid : HeapState) (n : ℕ) (there : n < s.blocks) (below : IsReleasedBelow r c base s mid n) where
  together : (new : HeapState) → IsOneMore r c base s mid new n → IsReleasedBelow r c base s new (n + 1)
  together new step = record {
    rest = rest-through s mid new below.rest step.rest;
    extent = step.extent ∙ below.extent;
    fit = λ few i. step.fit (below.fit few) i;
    each = λ k less within no_tail. elim (cases_eq k n) as (λ _. IsReleased r c base s new k) [
      | inl last ↦ subst (IsReleased r c base s new) (sym last) (step.own (λ tail. no_tail (subst (λ i. HasKind s i kinds.LargeTail) (sym last) tail)))
      | inr other ↦ kept r c base s mid new k below.rest.blocks step.rest
          (λ j of. step.others j (span-within s ready k j within of) (λ whole late. spans-apart s ready k n j (omega arith) whole of late))
          (below.each k (omega arith) within no_tail)
    ];
    later = λ j within none. reads-through s mid new j below.rest.blocks (below.later j within (λ k less of. none k (omega arith) of)) (step.others j within (λ whole of. none n (omega arith) of));
  }

  -- the block is no tail of s: its span reads as in s
  module _ (no_tail : HasKind s n kinds.LargeTail → ⊥) where
    pub own-span : (j : ℕ) → IsOfSpan s n j → SameReads s mid j
    own-span j of = below.later j (span-within s ready n j there of) (λ k less early. spans-apart s ready k n j less no_tail early of)

    span-out : (j : ℕ) → IsOfSpan mid n j → IsOfSpan s n j
    span-out j of = span-after mid s (rest-back s mid below.rest) n (reads-back s mid n below.rest.blocks (own-span n (inl refl))) j of

    inside : (j : ℕ) → IsOfSpan mid n j → j < mid.blocks
    inside j of = subst (λ b. j < b) (sym below.rest.blocks) (span-within s ready n j there (span-out j of))

    releases : (new : HeapState) → ReleasesSpan r c base mid new n → IsOneMore r c base s mid new n
    releases new now = record {
      rest = rest-beside mid new n inside now.rest;
      extent = now.rest.extent;
      fit = now.rest.fit;
      own = λ whole. begun r c base s mid new n below.rest own-span now.released;
      others = λ j within other. beside mid new n inside now.rest j (subst (λ b. j < b) (sym below.rest.blocks) within) (λ of. other no_tail (span-out j of));
    }

  -- the block is a tail of mid: nothing changes
  stays : (new : HeapState) → HasKind mid n kinds.LargeTail → new.blocks ≡ mid.blocks → new.words ≡ mid.words → IsOneMore r c base s mid new n
  stays new tail blocks words = record {
    rest = record { blocks = blocks; others = λ i none. ap (λ w. slice_index w i) words };
    extent = ap length words;
    fit = λ few i. subst (λ w. slice_index w i < 2 ^ 64) (sym words) (few i);
    own = λ no_tail. absurd (no_tail (sym (kind-same s mid below.rest n (own-span no_tail n (inl refl)) kinds.LargeTail) ∙ tail));
    others = λ j within other. same-reads mid new blocks j (λ i meta. ap (λ w. slice_index w i) words);
  }

  -- The block is a tail of s, in the run of an earlier block. It is bare, and has its word or is freed.
  module _ (tail : HasKind s n kinds.LargeTail) (h : ℕ) (less : h < n) (of : IsOfSpan s h n) where
    head : HasKind s h kinds.LargeHead
    head = elim of as (λ _. HasKind s h kinds.LargeHead) [ inl own ↦ absurd (omega arith) | inr run ↦ run.0 ]

    was : IsReleased r c base s mid h
    was = below.each h less (kind-within s h kinds.LargeHead head) (no-head-and-tail s h head)

    pub tail-bare : IsBare mid n
    tail-bare = bare r c base s mid h n below.rest.blocks of (λ a at lives. tail-empty s ready n a tail at lives.held) was

    pub tail-word : (block_word mid n ≡ block_word s n) ⊎ IsFreed mid n
    tail-word = elim (lives-or-not s ready base h head) as (λ _. (block_word mid n ≡ block_word s n) ⊎ IsFreed mid n) [
      | inl lives ↦ inl (let at : block_at s.blocks (block_start s.blocks h) ≡ h = omega arith in
          was.tails (block_start s.blocks h) n (record { address = lives.held.address; block = inl at }) lives of (λ same. omega arith))
      | inr dead ↦ inr (was.empty dead n of)
    ]

    module _ (new : HeapState) (freed : IsFreed mid n) (now : ReleasesSpan r c base mid new n) where
      only : (j : ℕ) → IsOfSpan mid n j → j ≡ n
      only j span = elim span as (λ _. j ≡ n) [ inl own ↦ own | inr run ↦ absurd (let code = kind-code mid n kinds.LargeHead run.0 in let zero : block_word mid n ≡ 0 = freed.word in omega arith) ]

      within-mid : (j : ℕ) → IsOfSpan mid n j → j < mid.blocks
      within-mid j span = subst (λ i. i < mid.blocks) (sym (only j span)) (subst (λ b. n < b) (sym below.rest.blocks) there)

      no-living : (a : ℕ) → block_at mid.blocks a ≡ n → Lives base mid a → ⊥
      no-living a at lives = true≢false (sym lives.held.start ∙ tail-bare.starts a at)

      still-free : IsFreed new n
      still-free = now.released.empty (λ a span lives. no-living a (only (block_at mid.blocks a) span.block) lives) n (inl refl)

      still-same : SameReads mid new n
      still-same = bare-same mid new n now.rest.blocks freed tail-bare still-free (bare r c base mid new n n now.rest.blocks (inl refl) no-living now.released)

      releases-free : IsOneMore r c base s mid new n
      releases-free = record {
        rest = rest-beside mid new n within-mid now.rest;
        extent = now.rest.extent;
        fit = now.rest.fit;
        own = λ no_tail. absurd (no_tail tail);
        others = λ j within other. elim (cases_eq j n) as (λ _. SameReads mid new j) [
          | inl own ↦ subst (SameReads mid new) (sym own) still-same
          | inr differ ↦ beside mid new n within-mid now.rest j (subst (λ b. j < b) (sym below.rest.blocks) within) (λ span. differ (only j span))
        ];
      }

    tail-released : (new : HeapState) → has_kind mid n kinds.LargeTail ≡ false → ReleasesSpan r c base mid new n → IsOneMore r c base s mid new n
    tail-released new other now = elim tail-word as (λ _. IsOneMore r c base s mid new n) [
      | inl same ↦ absurd (true≢false (sym tail ∙ sym (ap₂ (λ b w. nat_lt n b && nat_eq (w % 256) 7) below.rest.blocks same) ∙ other))
      | inr freed ↦ releases-free new freed now
    ]

  by-kind : (new : HeapState) (is_tail : Bool) → has_kind mid n kinds.LargeTail ≡ is_tail → ReleasesIf is_tail r c base mid new n → IsOneMore r c base s mid new n
  by-kind new true tail same = stays new tail same.0 same.1
  by-kind new false other now = elim (cases_Bool (has_kind s n kinds.LargeTail)) as (λ _. IsOneMore r c base s mid new n) [
    | inl tail ↦ elim (some-or-none s n n) as (λ _. IsOneMore r c base s mid new n) [
      | inl some ↦ tail-released tail some.0 some.1 some.2 new other now
      | inr none ↦ absurd (true≢false (sym tail ∙ sym (kind-same s mid below.rest n (below.later n there none) kinds.LargeTail) ∙ other))
    ]
    | inr whole ↦ releases (λ tail. true≢false (sym tail ∙ whole)) new now
  ]

  pub one-more : (new : HeapState) → Releases r c base mid new n → IsReleasedBelow r c base s new (n + 1)
  one-more new release = together new (by-kind new (has_kind mid n kinds.LargeTail) refl release)
