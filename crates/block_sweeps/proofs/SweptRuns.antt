-- A large run is swept: it stays as it is, or the bits of its object are cleared, and its blocks made Free.
use Rattle.std.proofs.Common.{◌≡◌, ◌≢◌, ℕ, ◌+◌, ◌*◌, ◌-◌, ◌/◌, ◌%◌, ◌<◌, ◌≤◌, inl, inr, true, false, true≢false, nat_eq, refl, sym, ap, ◌∙◌, subst, arith, List, slice_index}
use Rattle.std.specs.Int.{bit_at}
use Rattle.std.proofs.lemmas.Bool.{cases_eq, and_right}
use Rattle.std.proofs.lemmas.Nat.Bits.{bit_at-zero}
use Rattle.heap_layout.specs.Zones.{Zone, StartBits, PinBits, UnlogBits, first, heap_of, block_start, address_bit, bit_of, IsAddress}
use Rattle.heap_layout.specs.declared.block.Kind.TheVariants as kinds
use Rattle.heap_layout.specs.declared.layout.Layout.{Layout}
use Rattle.heap_layout.proofs.MarkLemmas.{address_bit-at_address}
use Rattle.object_model.specs.Objects.{HeapState, state_over, HasKind, class_at, is_start, is_pinned, is_unlogged}
use Rattle.object_model.specs.Releasing.{IsReleasable, InSpan}
use Rattle.object_model.specs.Ages.{Lives, is_survivor}
use Rattle.block_sweeps.specs.RunSweeps.{IsHeadWord, ClearsHead, FreesAll, IsWordAmong}
use Rattle.block_sweeps.specs.Sweeping.{SweepsRun, IsFreed, IsOfSpan, IsMetadata}
use Rattle.block_sweeps.proofs.ChangedWords.{changes-more, changes-both}
use Rattle.block_sweeps.proofs.RunSpans as spans

-- the object lives
pub kept-run : (base : ℕ) (s : HeapState) (k : ℕ) → IsReleasable s k → HasKind s k kinds.LargeHead → is_survivor s base (block_start s.blocks k) ≡ true → SweepsRun base s s k
kept-run base s k can head survives = record {
  objects = record {
    held = λ a span. (λ held. subst (Lives base s) (sym (spans.only-object s k can head a span held)) (spans.object-lives s k can head base survives), λ lives. lives.held);
    pins = spans.pin-held s k can head;
    unlogs = spans.unlog-held s k can head;
  };
  empty = λ none. absurd (none (block_start s.blocks k) (spans.object-span s k can head) (spans.object-lives s k can head base survives));
  rest = record { blocks = refl; extent = refl; others = λ i outside. refl; fit = λ fits. fits };
  living = λ a span lives. refl;
}

module _ (base : ℕ) (old mid new : List ℕ) (l : Layout) (k : ℕ) (can : IsReleasable (state_over old l 0 0) k) (head : HasKind (state_over old l 0 0) k kinds.LargeHead)
    (dead : is_survivor (state_over old l 0 0) base (block_start l.blocks k) ≡ false) (clears : ClearsHead (state_over old l 0 0) (state_over mid l 0 0) k)
    (all : FreesAll (state_over mid l 0 0) (state_over new l 0 0) k (k + class_at (state_over old l 0 0) k)) where
  abbrev s : HeapState
  s = state_over old l 0 0

  abbrev s' : HeapState
  s' = state_over new l 0 0

  abbrev object : ℕ
  object = block_start l.blocks k

  -- block words and line words stand before all start bits
  mark-kept : (i : ℕ) → first l.blocks StartBits ≤ i → slice_index new i ≡ slice_index mid i
  mark-kept i from = all.rest.others i (λ among. let below : among.block < k + class_at s k = among.below in let inside : k + class_at s k ≤ l.blocks = spans.last-inside s k can head in
      elim among.word as (λ _. ⊥) [ inl word ↦ omega arith | inr line ↦ (let less = line.below in omega arith) ])

  apart : (z : Zone) → k < l.blocks → IsHeadWord l.blocks k (first l.blocks z + 64 * k) → (q : ℕ) → q < 64 * l.blocks → q ≢ 64 * k → IsHeadWord l.blocks k (first l.blocks z + q) → ⊥
  apart z there (inl own) q small other (inl at) = other (omega arith)
  apart z there (inl own) q small other (inr (inl at)) = omega arith
  apart z there (inl own) q small other (inr (inr at)) = omega arith
  apart z there (inr (inl own)) q small other (inl at) = omega arith
  apart z there (inr (inl own)) q small other (inr (inl at)) = other (omega arith)
  apart z there (inr (inl own)) q small other (inr (inr at)) = omega arith
  apart z there (inr (inr own)) q small other (inl at) = omega arith
  apart z there (inr (inr own)) q small other (inr (inl at)) = omega arith
  apart z there (inr (inr own)) q small other (inr (inr at)) = other (omega arith)

  -- a bit of the span is clear if it was clear at all other addresses
  module _ (z : Zone) (own : IsHeadWord l.blocks k (first l.blocks z + 64 * k)) (after : first l.blocks StartBits ≤ first l.blocks z) where
    bit-clear : (a : ℕ) → IsAddress l.blocks a → (a ≢ object → address_bit l.blocks z old a ≡ false) → bit_of l.blocks z new (a - heap_of l.blocks) ≡ false
    bit-clear a at before =
        let from : heap_of l.blocks ≤ a = at.from in
        let low : a < 18 + 4293 * l.blocks = at.below in
        let q : ℕ = (a - heap_of l.blocks) / 64 in
        let p : ℕ = (a - heap_of l.blocks) % 64 in
        ap (λ v. nat_eq (bit_at v p) 1) (mark-kept (first l.blocks z + q) (omega arith))
        ∙ (elim (cases_eq q (64 * k)) as (λ _. nat_eq (bit_at (slice_index mid (first l.blocks z + q)) p) 1 ≡ false) [
          | inl here ↦ ap (λ i. nat_eq (bit_at (slice_index mid (first l.blocks z + i)) p) 1) here
              ∙ ap (λ v. nat_eq (bit_at v p) 1) (clears.clear (first l.blocks z + 64 * k) own) ∙ ap (λ v. nat_eq v 1) (bit_at-zero p)
          | inr other ↦ ap (λ v. nat_eq (bit_at v p) 1) (clears.rest.others (first l.blocks z + q) (apart z (spans.there s k can head) own q (omega arith) other))
              ∙ sym (address_bit-at_address l.blocks z old a at) ∙ before (λ e. other (omega arith))
        ])

    mark-clear : (a : ℕ) → IsAddress l.blocks a → (a ≢ object → address_bit l.blocks z old a ≡ false) → address_bit l.blocks z new a ≡ false
    mark-clear a at before = address_bit-at_address l.blocks z new a at ∙ bit-clear a at before

  start-clear : (a : ℕ) → InSpan s k a → is_start s' a ≡ false
  start-clear a span = mark-clear StartBits (inl refl) (omega arith) a span.address (spans.no-start s k can head a span)

  pin-clear : (a : ℕ) → InSpan s k a → is_pinned s' a ≡ false
  pin-clear a span = mark-clear PinBits (inr (inl refl)) (omega arith) a span.address (spans.no-pin s k can head a span)

  unlog-clear : (a : ℕ) → InSpan s k a → is_unlogged s' a ≡ false
  unlog-clear a span = mark-clear UnlogBits (inr (inr refl)) (omega arith) a span.address (spans.no-unlog s k can head a span)

  abbrev Changing : ℕ → Type 0
  Changing i = (j : ℕ) × IsOfSpan s k j × IsMetadata l.blocks j i

  of-head : (i : ℕ) → IsHeadWord l.blocks k i → Changing i
  of-head i (inl at) = (k, inl refl, inr (inl (record { after = omega arith; below = omega arith })))
  of-head i (inr (inl at)) = (k, inl refl, inr (inr (inl (record { after = omega arith; below = omega arith }))))
  of-head i (inr (inr at)) = (k, inl refl, inr (inr (inr (record { after = omega arith; below = omega arith }))))

  of-span : (j : ℕ) → k ≤ j → j < k + class_at s k → IsOfSpan s k j
  of-span j after below = elim (cases_eq j k) as (λ _. IsOfSpan s k j) [
    | inl same ↦ inl same
    | inr other ↦ inr (head, (omega arith), below)
  ]

  of-block : (i : ℕ) → IsWordAmong l.blocks k (k + class_at s k) i → Changing i
  of-block i among = (among.block, of-span among.block among.after among.below, inl among.word)

  freed : (j : ℕ) → IsOfSpan s k j → IsFreed s' j
  freed j (inl same) = all.freed j (omega arith) (let some : 0 < class_at s k = spans.some-blocks s k can head in omega arith)
  freed j (inr later) = all.freed j (let after : k < j = later.1 in omega arith) later.2

  pub freed-run : SweepsRun base s s' k
  freed-run = record {
    objects = record {
      held = λ a span. (λ held. absurd (true≢false (sym held.start ∙ start-clear a span)), λ lives. absurd (spans.none-lives s k can head base dead a span lives));
      pins = λ a span. pin-clear a span ∙ sym (and_right (is_pinned s a) (is_start s' a) (start-clear a span));
      unlogs = λ a span. unlog-clear a span ∙ sym (and_right (is_unlogged s a) (is_start s' a) (start-clear a span));
    };
    empty = λ none. freed;
    rest = changes-both Changing s (state_over mid l 0 0) s' (changes-more (IsHeadWord l.blocks k) Changing s (state_over mid l 0 0) of-head clears.rest)
        (changes-more (IsWordAmong l.blocks k (k + class_at s k)) Changing (state_over mid l 0 0) s' of-block all.rest);
    living = λ a span lives. absurd (spans.none-lives s k can head base dead a span lives);
  }
