-- The release of a block that was swept by its unlog bits, and in which something lives.
use Rattle.std.proofs.Common.{◌≡◌, refl, sym, ◌∙◌, ap, subst, ℕ, ◌+◌, ◌*◌, ◌/◌, ◌%◌, ◌<◌, arith, Bool, true, false, IsTrue, List, length}
use Rattle.std.proofs.Math.Logic.{∥∥₁_map}
use Rattle.std.proofs.lemmas.Bool.{and_from, and_left, cond-false}
use Rattle.heap_layout.specs.Zones.{StartBits, UnlogBits, row_words, IsAddress}
use Rattle.heap_layout.specs.declared.block.Kind.TheVariants as kinds
use Rattle.heap_layout.specs.declared.layout.Layout.{Layout}
use Rattle.object_model.specs.declared.collect.Collect.{Collect}
use Rattle.object_model.specs.Objects.{HeapState, state_over, block_word, has_kind, HasKind, line_marked, is_start, is_unlogged, size_at}
use Rattle.object_model.specs.Lawful.{IsReadableBlock}
use Rattle.object_model.specs.Lines.{TouchesLine}
use Rattle.object_model.specs.Releasing.{IsReleasable}
use Rattle.block_sweeps.specs.Sweeping.{InBlock, ChangesOnly, IsTouchedHere, MarksTouched, AreApart}
use Rattle.block_sweeps.proofs.SweptApart.{swept-apart}
use Rattle.sessions.specs.Plans.{Rules}
use Rattle.plan_api.specs.Releasing.{Releases, is_kept_kind, is_kept_after, word_after}
use Rattle.plan_api.specs.Relisting.{Relists, RelistsIf, RelistsLines}
use Rattle.plan_api.proofs.ReleasedBlocks as blocks
use Rattle.plan_api.proofs.SweptSmallBlocks as small
use Rattle.block_release.specs.Released.{LivesOnLine, LineBitsMarkSurvivors, SweepsSome}
use Rattle.block_release.proofs.Metadata.{heap-word}
use Rattle.block_release.proofs.KeptBlocks.{immix-not-kept}

module _ (r : Rules) (c : Collect) (l : Layout) (base k : ℕ) (old new : List ℕ) (there : k < l.blocks) (is : SweepsSome r c base (state_over old l 0 0) (state_over new l 0 0) k)
    (no-head : HasKind (state_over old l 0 0) k kinds.LargeHead → ⊥) (no-tail : HasKind (state_over old l 0 0) k kinds.LargeTail → ⊥) where
  abbrev s : HeapState
  s = state_over old l 0 0

  abbrev t : HeapState
  t = state_over new l 0 0

  nothing : {P : ℕ → Type 0} → ChangesOnly P t t
  nothing = record { blocks = refl; extent = refl; others = λ i outside. refl; fit = λ fits. fits }

  -- its line bits are as they were: those of the lines that what lives here touches
  module _ (lines : LineBitsMarkSurvivors base s k) where
    size-kept : (x : ℕ) → IsAddress l.blocks x → size_at t x ≡ size_at s x
    size-kept x at = ap (λ v. 3 + v % 65536 + v / 65536) (is.sweeps.rest.others (x + 1) (λ meta. let from = at.from in heap-word l.blocks k (x + 1) there (omega arith) meta))

    was-on-line : (line : ℕ) → IsTouchedHere t k line → LivesOnLine base s k line
    was-on-line line on = record {
      object = on.touched.object;
      lives = (is.sweeps.objects.held on.touched.object (record { address = on.touched.held.address; block = on.here })).0 on.touched.held;
      here = on.here;
      touches = subst (λ n. TouchesLine l.blocks on.touched.object n (256 * k + line)) (size-kept on.touched.object on.touched.held.address) on.touched.touches;
    }

    now-on-line : (line : ℕ) → LivesOnLine base s k line → IsTouchedHere t k line
    now-on-line line on = record {
      touched = record {
        object = on.object;
        held = (is.sweeps.objects.held on.object (record { address = on.lives.held.address; block = on.here })).1 on.lives;
        touches = subst (λ n. TouchesLine l.blocks on.object n (256 * k + line)) (sym (size-kept on.object on.lives.held.address)) on.touches;
      };
      here = on.here;
    }

    touched : HasKind s k kinds.Immix → MarksTouched t t k
    touched immix = record {
      lines = λ line few.
          let same : line_marked t k line ≡ line_marked s k line = is.sweeps.lines is.object line is.here is.lives few in
          let both = lines immix line few in (
            (λ set. ∥∥₁_map (both.0 (sym same ∙ set)) (now-on-line line)),
            (λ some. same ∙ both.1 (∥∥₁_map some (was-on-line line))),
          );
      rest = nothing;
    }

    pub kept : Releases r c base s t k
    kept = blocks.small l r c base k old new new new there no-head is.sweeps touched (λ not. refl) (record { unlogs = is.unlogs; rest = nothing }) no-tail

  -- an Immix block whose lines are marked anew
  module _ (ready : IsReleasable s k) (extent : length old ≡ row_words l.blocks) (immix : HasKind s k kinds.Immix) where
    word : word_after r c s k ≡ block_word s k % 65536
    word = cond-false (is_kept_after r c s k) 8 (block_word s k % 65536) (and_left (is_kept_kind s k) _ (immix-not-kept s k immix))

    immix-now : HasKind t k kinds.Immix
    immix-now = small.immix-now l k old new base (word_after r c s k) there is.sweeps ready extent immix word is.object is.here is.lives

    pub readable : IsReadableBlock t k
    readable = small.readable l k old new base (word_after r c s k) there is.sweeps ready extent immix word is.object is.here is.lives

    pub apart : AreApart t k
    apart = swept-apart l k old new base (word_after r c s k) there is.sweeps ready

    module _ (lined : IsTrue r.lines) (last : List ℕ) (relists : Relists r t (state_over last l 0 0) k) where
      abbrev u : HeapState
      u = state_over last l 0 0

      marked : RelistsLines t u k
      marked = subst (λ b. RelistsIf b t u k) (and_from r.lines (has_kind t k kinds.Immix) lined immix-now) relists

      pub relisted : Releases r c base s u k
      relisted = blocks.small l r c base k old new last last there no-head is.sweeps (λ _. marked.marked) (λ not. absurd (not immix))
          (record { unlogs = λ a here. unlogged a here; rest = record { blocks = refl; extent = refl; others = λ i outside. refl; fit = λ fits. fits } }) no-tail
        where
          start-same : (a : ℕ) → InBlock u k a → is_start u a ≡ is_start t a
          start-same a here = let from = here.address.from in let below = here.address.below in
              blocks.bit-same l.blocks StartBits new last a (marked.marked.rest.others _ (λ line. let x = line.below in omega arith))

          unlog-same : (a : ℕ) → InBlock u k a → is_unlogged u a ≡ is_unlogged t a
          unlog-same a here = let from = here.address.from in let below = here.address.below in
              blocks.bit-same l.blocks UnlogBits new last a (marked.marked.rest.others _ (λ line. let x = line.below in omega arith))

          unlogged : (a : ℕ) → InBlock u k a → is_unlogged u a ≡ is_start u a
          unlogged a here = unlog-same a here ∙ is.unlogs a (record { address = here.address; block = here.block }) ∙ sym (start-same a here)

-- a block with the line bits of what lives in it, in which something is left or nothing
pub either : (r : Rules) (c : Collect) (l : Layout) (base k : ℕ) (old new : List ℕ) → k < l.blocks → (HasKind (state_over old l 0 0) k kinds.LargeHead → ⊥) → (HasKind (state_over old l 0 0) k kinds.LargeTail → ⊥)
    → LineBitsMarkSurvivors base (state_over old l 0 0) k → (left : Bool) → (left ≡ true → SweepsSome r c base (state_over old l 0 0) (state_over new l 0 0) k)
    → (left ≡ false → Releases r c base (state_over old l 0 0) (state_over new l 0 0) k) → Releases r c base (state_over old l 0 0) (state_over new l 0 0) k
either r c l base k old new there head tail lines true some none = kept r c l base k old new there (some refl) head tail lines
either r c l base k old new there head tail lines false some none = none refl
