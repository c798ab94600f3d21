-- What is released in a state is released in states alike: after the release, or before it.
use Rattle.std.proofs.Common.{◌≡◌, sym, ◌∙◌, ap, subst, refl, ℕ, inl, ◌&&◌}
use Rattle.std.proofs.Math.Logic.{∥∥₁_map}
use Rattle.heap_layout.specs.Zones.{block_at, IsAddress}
use Rattle.heap_layout.specs.declared.block.Kind.TheVariants as kinds
use Rattle.object_model.specs.declared.collect.Collect.{Collect}
use Rattle.object_model.specs.Objects.{HeapState, is_start, is_pinned}
use Rattle.object_model.specs.Ages.{Lives}
use Rattle.object_model.specs.Releasing.{InSpan}
use Rattle.block_sweeps.specs.Sweeping.{IsOfSpan}
use Rattle.sessions.specs.Plans.{Rules}
use Rattle.plan_api.specs.Releasing.{IsReleased}
use Rattle.block_release.proofs.Metadata.{SameReads}
use Rattle.block_release.proofs.Alike.{SameRest, rest-back, reads-back, kind-same, held-after, lives-after, span-after, in-span-after, freed-after, touched-after}
use Rattle.block_release.proofs.KeptBlocks.{after-same}

-- Block k of s is released in mid, and its span reads the same in new.
module _ (r : Rules) (c : Collect) (base : ℕ) (s mid new : HeapState) (k : ℕ) (blocks : mid.blocks ≡ s.blocks) (rest : SameRest mid new) (same : (j : ℕ) → IsOfSpan s k j → SameReads mid new j)
    (was : IsReleased r c base s mid k) where
  at-mid : (a : ℕ) → block_at mid.blocks a ≡ block_at s.blocks a
  at-mid a = ap (λ b. block_at b a) blocks

  read : (a : ℕ) → InSpan s k a → SameReads mid new (block_at s.blocks a)
  read a span = same (block_at s.blocks a) span.block

  own : SameReads mid new k
  own = same k (inl refl)

  start-same : (a : ℕ) → InSpan s k a → is_start mid a ≡ is_start new a
  start-same a span = sym ((read a span).starts a (at-mid a))

  pub kept : IsReleased r c base s new k
  kept = record {
    held = λ a span. (
      (λ now. (was.held a span).0 (record { address = subst (λ b. IsAddress b a) (sym blocks) span.address; start = start-same a span ∙ now.start })),
      (λ lives. held-after mid new rest (block_at s.blocks a) (read a span) a (at-mid a) ((was.held a span).1 lives)),
    );
    pins = λ a span. (read a span).pins a (at-mid a) ∙ was.pins a span ∙ ap (λ start. is_pinned s a && start) (start-same a span);
    unlogs = λ a span. (read a span).unlogs a (at-mid a) ∙ was.unlogs a span ∙ start-same a span;
    empty = λ none j of. freed-after mid new rest j (same j of) (was.empty none j of);
    word = λ a span lives. own.word ∙ was.word a span lives;
    tails = λ a j span lives of other. (same j of).word ∙ was.tails a j span lives of other;
    touched = λ a line span lives immix few. (
      (λ marked. ∥∥₁_map ((was.touched a line span lives immix few).0 (sym (own.lines line few) ∙ marked)) (touched-after mid new rest k own line)),
      (λ touch. own.lines line few ∙ (was.touched a line span lives immix few).1 (∥∥₁_map touch (touched-after new mid (rest-back mid new rest) k (reads-back mid new k rest.blocks own) line))),
    );
    lines = λ a j line span lives other of few. (same j of).lines line few ∙ was.lines a j line span lives other of few;
  }

-- Block n of mid is released in new, and in s its span reads the same and its objects are the same.
module _ (r : Rules) (c : Collect) (base : ℕ) (s mid new : HeapState) (n : ℕ) (rest : SameRest s mid) (same : (j : ℕ) → IsOfSpan s n j → SameReads s mid j)
    (now : IsReleased r c base mid new n) where
  first-same : SameReads s mid n
  first-same = same n (inl refl)

  back : SameRest mid s
  back = rest-back s mid rest

  span-in : (a : ℕ) → InSpan s n a → InSpan mid n a
  span-in a span = in-span-after s mid rest n first-same a span

  span-out : (a : ℕ) → InSpan mid n a → InSpan s n a
  span-out a span = in-span-after mid s back n (reads-back s mid n rest.blocks first-same) a span

  lives-in : (a : ℕ) → InSpan s n a → Lives base s a → Lives base mid a
  lives-in a span lives = lives-after s mid rest (block_at s.blocks a) (same (block_at s.blocks a) span.block) base a refl lives

  lives-out : (a : ℕ) → InSpan s n a → Lives base mid a → Lives base s a
  lives-out a span lives = lives-after mid s back (block_at s.blocks a) (reads-back s mid (block_at s.blocks a) rest.blocks (same (block_at s.blocks a) span.block)) base a (ap (λ b. block_at b a) rest.blocks) lives

  pub begun : IsReleased r c base s new n
  begun = record {
    held = λ a span. (
      (λ held. lives-out a span ((now.held a (span-in a span)).0 held)),
      (λ lives. (now.held a (span-in a span)).1 (lives-in a span lives)),
    );
    pins = λ a span. now.pins a (span-in a span) ∙ ap (λ pin. pin && is_start new a) ((same (block_at s.blocks a) span.block).pins a refl);
    unlogs = λ a span. now.unlogs a (span-in a span);
    empty = λ none j of. now.empty (λ a span lives. none a (span-out a span) (lives-out a (span-out a span) lives)) j (span-after s mid rest n first-same j of);
    word = λ a span lives. now.word a (span-in a span) (lives-in a span lives) ∙ after-same r s mid n rest.blocks first-same.word c;
    tails = λ a j span lives of other. now.tails a j (span-in a span) (lives-in a span lives) (span-after s mid rest n first-same j of) other ∙ (same j of).word;
    touched = λ a line span lives immix few. now.touched a line (span-in a span) (lives-in a span lives) (kind-same s mid rest n first-same kinds.Immix ∙ immix) few;
    lines = λ a j line span lives other of few. now.lines a j line (span-in a span) (lives-in a span lives) (λ immix. other (sym (kind-same s mid rest n first-same kinds.Immix) ∙ immix)) (span-after s mid rest n first-same j of) few
        ∙ (same j of).lines line few;
  }
