-- Blocks without objects and marks.
use Rattle.std.proofs.Common.{◌≡◌, sym, ◌∙◌, ap, subst, ℕ, ◌<◌, inl, inr, false, true≢false, ◌||◌, IsTrue}
use Rattle.std.proofs.lemmas.Bool.{false_from_ne_true, and_right, or_from}
use Rattle.heap_layout.specs.Zones.{block_at, IsAddress, PinBits, UnlogBits}
use Rattle.heap_layout.specs.declared.block.Kind.TheVariants as kinds
use Rattle.heap_layout.specs.Blocks.{is_block_code}
use Rattle.heap_layout.proofs.MarkLemmas.{is-address_from_mark}
use Rattle.object_model.specs.declared.collect.Collect.{Collect}
use Rattle.object_model.specs.Objects.{HeapState, block_word, HasKind, line_marked, is_start, is_pinned, is_unlogged, IsHeld}
use Rattle.object_model.specs.Ages.{Lives}
use Rattle.object_model.specs.Releasing.{InSpan, IsReleasable}
use Rattle.object_model.proofs.Marks as marks
use Rattle.block_sweeps.specs.Sweeping.{IsOfSpan, IsFreed}
use Rattle.sessions.specs.Plans.{Rules}
use Rattle.plan_api.specs.Releasing.{IsReleased}
use Rattle.block_release.proofs.Metadata.{SameReads}

-- no start, pin or unlog bit of block k is set
pub record IsBare (s : HeapState) (k : ℕ) : Type 0 where
  pub starts : (a : ℕ) → block_at s.blocks a ≡ k → is_start s a ≡ false
  pub pins : (a : ℕ) → block_at s.blocks a ≡ k → is_pinned s a ≡ false
  pub unlogs : (a : ℕ) → block_at s.blocks a ≡ k → is_unlogged s a ≡ false

-- a block in which nothing lives is bare after the release of its span
module _ (r : Rules) (c : Collect) (base : ℕ) (s t : HeapState) (k j : ℕ) (blocks : t.blocks ≡ s.blocks) (of : IsOfSpan s k j) (dead : (a : ℕ) → block_at s.blocks a ≡ j → Lives base s a → ⊥)
    (released : IsReleased r c base s t k) where
  at-before : (a : ℕ) → block_at t.blocks a ≡ j → block_at s.blocks a ≡ j
  at-before a at = ap (λ b. block_at b a) (sym blocks) ∙ at

  span-of : (a : ℕ) → block_at t.blocks a ≡ j → IsAddress t.blocks a → InSpan s k a
  span-of a at there = record { address = subst (λ b. IsAddress b a) blocks there; block = subst (IsOfSpan s k) (sym (at-before a at)) of }

  no-start : (a : ℕ) → block_at t.blocks a ≡ j → is_start t a ≡ false
  no-start a at = false_from_ne_true (is_start t a) (λ start.
      let held : IsHeld t a = marks.held t a start in
      dead a (at-before a at) ((released.held a (span-of a at held.address)).0 held))

  pub bare : IsBare t j
  bare = record {
    starts = no-start;
    pins = λ a at. false_from_ne_true (is_pinned t a) (λ set.
        true≢false (sym set ∙ released.pins a (span-of a at (is-address_from_mark t.blocks PinBits t.words a set)) ∙ and_right (is_pinned s a) (is_start t a) (no-start a at)));
    unlogs = λ a at. false_from_ne_true (is_unlogged t a) (λ set.
        true≢false (sym set ∙ released.unlogs a (span-of a at (is-address_from_mark t.blocks UnlogBits t.words a set)) ∙ no-start a at));
  }

-- two states in which a block is free and bare read the same
pub bare-same : (s t : HeapState) (k : ℕ) → t.blocks ≡ s.blocks → IsFreed s k → IsBare s k → IsFreed t k → IsBare t k → SameReads s t k
bare-same s t k blocks freed bare freed' bare' = record {
  word = freed'.word ∙ sym freed.word;
  lines = λ line few. freed'.lines line few ∙ sym (freed.lines line few);
  starts = λ a at. bare'.starts a (ap (λ b. block_at b a) blocks ∙ at) ∙ sym (bare.starts a at);
  pins = λ a at. bare'.pins a (ap (λ b. block_at b a) blocks ∙ at) ∙ sym (bare.pins a at);
  unlogs = λ a at. bare'.unlogs a (ap (λ b. block_at b a) blocks ∙ at) ∙ sym (bare.unlogs a at);
}

-- a bare block that begins no run may be released
module _ (s : HeapState) (k : ℕ) (bare : IsBare s k) (code : IsTrue (is_block_code (block_word s k))) (small : HasKind s k kinds.LargeHead → ⊥)
    (lines : HasKind s k kinds.Free → (line : ℕ) → line < 256 → line_marked s k line ≡ false) where
  here : (a : ℕ) → InSpan s k a → block_at s.blocks a ≡ k
  here a span = elim span.block as (λ _. block_at s.blocks a ≡ k) [ inl own ↦ own | inr run ↦ absurd (small run.0) ]

  no-object : (a : ℕ) → InSpan s k a → IsHeld s a → ⊥
  no-object a span held = true≢false (sym held.start ∙ bare.starts a (here a span))

  no-mark : (a : ℕ) → block_at s.blocks a ≡ k → (is_pinned s a || is_unlogged s a) ≡ false
  no-mark a at = or_from (is_pinned s a) (is_unlogged s a) (bare.pins a at) (bare.unlogs a at)

  pub bare-releasable : IsReleasable s k
  bare-releasable = record {
    code = code;
    objects = λ a span held. absurd (no-object a span held);
    apart = λ a x i span within held. absurd (no-object a span held);
    marks = λ a span set. absurd (true≢false (sym set ∙ no-mark a (here a span)));
    bits = λ free a at set. true≢false (sym set ∙ or_from (is_start s a || is_pinned s a) (is_unlogged s a) (or_from (is_start s a) (is_pinned s a) (bare.starts a at) (bare.pins a at)) (bare.unlogs a at));
    lines = λ free line few set. true≢false (sym set ∙ lines free line few);
    head = λ head. absurd (small head);
  }
