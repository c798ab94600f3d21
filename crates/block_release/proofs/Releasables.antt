-- A block may be released in a state like one in which it may be.
use Rattle.std.proofs.Common.{◌≡◌, sym, ◌∙◌, ap, ap₂, subst, subst₂, refl, ℕ, ◌+◌, ◌/◌, ◌%◌, ◌<◌, ◌≤◌, inl, inr, arith, ◌&&◌, ◌||◌, IsTrue, nat_eq, nat_lt}
use Rattle.std.proofs.lemmas.Bool.{cases_eq}
use Rattle.heap_layout.specs.Zones.{block_at, offset_at, block_start, IsAddress}
use Rattle.heap_layout.specs.declared.block.Kind.TheVariants as kinds
use Rattle.heap_layout.specs.Blocks.{kind_code, is_block_code}
use Rattle.object_model.specs.Objects.{HeapState, block_word, IsHeld, size_at, blocks_for, cell_words}
use Rattle.object_model.specs.Lawful.{Lies, LiesInBlock, LiesInRun, IsRunOfBlocks}
use Rattle.object_model.specs.Releasing.{InSpan, IsReleasable}
use Rattle.object_model.proofs.OneKind.{is_small_code}
use Rattle.block_sweeps.specs.Sweeping.{IsOfSpan}
use Rattle.block_release.proofs.Metadata.{SameReads}
use Rattle.block_release.proofs.Alike.{SameRest, rest-back, reads-back, kind-same, class-same, size-same, object-after, extent-after, held-after, in-span-after}
use Rattle.block_sweeps.proofs.LargeRuns.{no-head-and-tail, span-tail}

module _ (s t : HeapState) (ready : (k : ℕ) → k < s.blocks → IsReleasable s k) (rest : SameRest s t) (n : ℕ) (same : (j : ℕ) → IsOfSpan s n j → SameReads s t j) (was : IsReleasable s n) where
  back : SameRest t s
  back = rest-back s t rest

  at-after : (a : ℕ) → block_at t.blocks a ≡ block_at s.blocks a
  at-after a = ap (λ b. block_at b a) rest.blocks

  first-same : SameReads s t n
  first-same = same n (inl refl)

  span-before : (a : ℕ) → InSpan t n a → InSpan s n a
  span-before a span = in-span-after t s back n (reads-back s t n rest.blocks first-same) a span

  held-before : (a : ℕ) → InSpan s n a → IsHeld t a → IsHeld s a
  held-before a span held = held-after t s back (block_at s.blocks a) (reads-back s t (block_at s.blocks a) rest.blocks (same (block_at s.blocks a) span.block)) a (at-after a) held

  -- an object lies where it lay
  module _ (a size : ℕ) (span : IsOfSpan s n (block_at s.blocks a)) where
    own : SameReads s t (block_at s.blocks a)
    own = same (block_at s.blocks a) span

    word-at : block_word t (block_at t.blocks a) ≡ block_word s (block_at s.blocks a)
    word-at = ap (block_word t) (at-after a) ∙ own.word

    block-after : LiesInBlock s a size → LiesInBlock t a size
    block-after lies = record {
      address = subst (λ b. IsAddress b a) (sym rest.blocks) lies.address;
      within = subst (λ b. offset_at b a + size ≤ 4096) (sym rest.blocks) lies.within;
      kind = ap₂ (λ b w. is_small_code (nat_lt (block_at b a) b) (w % 256)) rest.blocks word-at ∙ lies.kind;
      cell = λ cells.
          let cell = lies.cell (sym (ap₂ (λ b w. nat_lt (block_at b a) b && nat_eq (w % 256) (kind_code kinds.Cells)) rest.blocks word-at) ∙ cells) in
          record {
            start = ap₂ (λ b w. offset_at b a % cell_words (w / 256 % 256)) rest.blocks word-at ∙ cell.start;
            room = subst (λ w. size ≤ cell_words (w / 256 % 256)) (sym word-at) cell.room;
            within = subst₂ (λ b w. offset_at b a + cell_words (w / 256 % 256) ≤ 4096) (sym rest.blocks) (sym word-at) cell.within;
          };
    }

    -- a run begins at n
    head-here : LiesInRun s a size → block_at s.blocks a ≡ n
    head-here lies = elim (cases_eq (block_at s.blocks a) n) as (λ _. block_at s.blocks a ≡ n) [
      | inl own ↦ own
      | inr other ↦ absurd (no-head-and-tail s (block_at s.blocks a) lies.run.head (span-tail s ready n (block_at s.blocks a) span other))
    ]

    run-after : IsRunOfBlocks s n (blocks_for size) → IsRunOfBlocks t n (blocks_for size)
    run-after run = record {
      head = kind-same s t rest n first-same kinds.LargeHead ∙ run.head;
      class = class-same s t rest n first-same ∙ run.class;
      inside = subst (λ b. n + blocks_for size ≤ b) (sym rest.blocks) run.inside;
      tails = λ j some less. kind-same s t rest (n + j) (same (n + j) (inr (run.head, omega arith, subst (λ class. n + j < n + class) (sym run.class) (omega arith)))) kinds.LargeTail ∙ run.tails j some less;
    }

    lies-after : Lies s a size → Lies t a size
    lies-after lies = record {
      small = λ small. block-after (lies.small small);
      large = λ large. let old = lies.large large in record {
        address = subst (λ b. IsAddress b a) (sym rest.blocks) old.address;
        start = ap (λ b. offset_at b a) rest.blocks ∙ old.start;
        run = subst (λ k. IsRunOfBlocks t k (blocks_for size)) (sym (at-after a ∙ head-here old)) (run-after (subst (λ k. IsRunOfBlocks s k (blocks_for size)) (head-here old) old.run));
      };
    }

  pub releasable-after : IsReleasable t n
  releasable-after = record {
    code = subst (λ w. IsTrue (is_block_code w)) (sym first-same.word) was.code;
    objects = λ a span held.
        let before : InSpan s n a = span-before a span in
        let old = was.objects a before (held-before a before held) in
        (object-after s t rest a before.address old.0, subst (Lies t a) (sym (size-same s t rest a before.address)) (lies-after a (size_at s a) before.block old.1));
    apart = λ a x i span within held here inside under.
        let one : InSpan s n a = span-before a span in
        let two : InSpan s n x = span-before x within in
        was.apart a x i one two (held-before a one held) (held-before x two here) (extent-after t s back a i span.address inside) (extent-after t s back x i within.address under);
    marks = λ a span set.
        let before : InSpan s n a = span-before a span in
        let reads : SameReads s t (block_at s.blocks a) = same (block_at s.blocks a) before.block in
        held-after s t rest (block_at s.blocks a) reads a refl (was.marks a before (sym (ap₂ (λ x y. x || y) (reads.pins a refl) (reads.unlogs a refl)) ∙ set));
    bits = λ free a at set.
        let before : block_at s.blocks a ≡ n = sym (at-after a) ∙ at in
        was.bits (sym (kind-same s t rest n first-same kinds.Free) ∙ free) a before
        (sym (ap₂ (λ x y. x || y) (ap₂ (λ x y. x || y) (first-same.starts a before) (first-same.pins a before)) (first-same.unlogs a before)) ∙ set);
    lines = λ free line few set. was.lines (sym (kind-same s t rest n first-same kinds.Free) ∙ free) line few (sym (first-same.lines line few) ∙ set);
    head = λ head.
        let old = was.head (sym (kind-same s t rest n first-same kinds.LargeHead) ∙ head) in
        let at : block_at s.blocks (block_start s.blocks n) ≡ n = omega arith in (
          subst (λ b. IsHeld t (block_start b n)) (sym rest.blocks) (held-after s t rest n first-same (block_start s.blocks n) at old.0),
          subst (λ b. 2048 < size_at t (block_start b n)) (sym rest.blocks) (subst (λ size. 2048 < size) (sym (size-same s t rest (block_start s.blocks n) old.0.address)) old.1),
        );
  }
