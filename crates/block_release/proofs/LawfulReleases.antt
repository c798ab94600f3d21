-- The heap after a finished trace whose blocks were all released.
use Rattle.std.proofs.Common.{slice_index, sym, ◌∙◌, subst, ℕ, ◌^◌, ◌<◌, ◌↔◌, arith, IsTrue, List, [], ◌≡◌, ◌≢◌, ap, ◌/◌, ◌%◌, inl, inr}
use Rattle.std.proofs.Math.Logic.{∥∥₁_map}
use Rattle.object_model.specs.declared.collect.Collect.{Collect}
use Rattle.object_model.specs.Objects.{HeapState, word_at, is_unlogged, IsHeld, HasKind, line_marked, refs_at, nums_at}
use Rattle.object_model.specs.Lawful.{IsLawful}
use Rattle.object_model.specs.Ages.{Lives}
use Rattle.object_model.proofs.ObjectParts.{together}
use Rattle.block_sweeps.specs.Sweeping.{IsTouchedHere}
use Rattle.sessions.specs.Plans.{Rules}
use Rattle.trace_core.specs.Setups.{Setup, blocks, collection, may_be_moved}
use Rattle.trace_core.specs.Machine.{Event}
use Rattle.trace_core.specs.Traces.{IsTracing, IsFinished, machine_after, heap_after, stage_of}
use Rattle.trace_core.specs.Outcomes.{base_after_trace, image}
use Rattle.trace_core.proofs.Finished.{preserved, base-below}
use Rattle.trace_core.proofs.Rows.{row}
use Rattle.trace_core.proofs.Releasable.{releasable, tail-in-run}
use Rattle.block_release.specs.Released.{AreReleased, with_numbers}
use Rattle.block_release.proofs.Fates as fates
use Rattle.block_release.proofs.Fates.{IsAllReleased}
use Rattle.block_release.proofs.ReleasedBlocks as released_blocks
use Rattle.block_release.proofs.ReleasedObjects as released_objects
use Rattle.std.proofs.lemmas.Bool.{cases_eq}
use Rattle.heap_layout.specs.Zones.{block_at}
use Rattle.heap_layout.specs.declared.block.Kind.TheVariants as kinds

-- The numbers of a heap are no part of what a release leaves.
pub touched-again : (b k line : ℕ) (w : List ℕ) (number age number' age' : ℕ) → IsTouchedHere (record { words = w; blocks = b; number = number; base = age }) k line
    → IsTouchedHere (record { words = w; blocks = b; number = number'; base = age' }) k line
touched-again b k line w number age number' age' is = (let t = is.touched in record {
  touched = record {
    object = t.object;
    held = let there = t.held in record { address = there.address; start = there.start };
    touches = t.touches;
  };
  here = is.here;
})

renumbered : {r : Rules} {c : Collect} {base : ℕ} {s : HeapState} {w : List ℕ} {number age : ℕ} (number' age' : ℕ) → IsAllReleased r c base s w number age → IsAllReleased r c base s w number' age'
renumbered {s = s} {w = w} {number = number} {age = age} number' age' all = record {
  before = all.before;
  after = record {
    blocks = all.after.blocks;
    extent = all.after.extent;
    each = λ k below there plain. let is = all.after.each k below there plain in record {
      held = λ a span. (
        (λ there. (is.held a span).0 (record { address = there.address; start = there.start })),
        (λ lives. let there = (is.held a span).1 lives in record { address = there.address; start = there.start }),
      );
      pins = is.pins;
      unlogs = is.unlogs;
      empty = λ none j of. let freed = is.empty none j of in record { word = freed.word; lines = freed.lines };
      word = is.word;
      tails = is.tails;
      touched = λ a line span lives immix few. let both = is.touched a line span lives immix few in (
        (λ set. ∥∥₁_map (both.0 set) (touched-again s.blocks k line w number age number' age')),
        (λ some. both.1 (∥∥₁_map some (touched-again s.blocks k line w number' age' number age))),
      );
      lines = is.lines;
    };
    others = all.after.others;
    fit = all.after.fit;
  };
}

module _ (p : Setup) (es : List Event) (trace : IsTracing p es) (finished : IsFinished p (machine_after p es)) (r : Rules) (c : Collect) where
  abbrev with : List ℕ → ℕ → ℕ → ℕ → HeapState
  with w b number base = record { words = w; blocks = b; number = number; base = base }

  -- all blocks are released, in a state with as many blocks as before
  all-released : (new : HeapState) → AreReleased r c (base_after_trace p) (heap_after p es) new (blocks p) → IsAllReleased r c (base_after_trace p) (heap_after p es) new.words new.number new.base
  all-released new all = record {
    before = record { blocks = releasable p es trace finished; tails = tail-in-run p es trace finished };
    after = subst (λ q. AreReleased r c (base_after_trace p) (heap_after p es) (with new.words q new.number new.base) (blocks p)) all.blocks all;
  }

  -- and with other numbers
  pub all-numbered : (new : HeapState) (number age : ℕ) → AreReleased r c (base_after_trace p) (heap_after p es) new (blocks p) → IsAllReleased r c (base_after_trace p) (heap_after p es) new.words number age
  all-numbered new number age all = renumbered number age (all-released new all)

  pub held : (new : HeapState) → AreReleased r c (base_after_trace p) (heap_after p es) new (blocks p) → (a : ℕ) → IsHeld new a ↔ Lives (base_after_trace p) (heap_after p es) a
  held new all a = let is = all-released new all in
      subst (λ q. IsHeld (with new.words q new.number new.base) a ↔ Lives (base_after_trace p) (heap_after p es) a) (sym all.blocks) (fates.held-lives is a, fates.lives-held is a)

  pub unlogged : (new : HeapState) → AreReleased r c (base_after_trace p) (heap_after p es) new (blocks p) → (a : ℕ) → IsHeld new a → IsTrue (is_unlogged new a)
  unlogged new all a =
      subst (λ q. IsHeld (with new.words q new.number new.base) a → IsTrue (is_unlogged (with new.words q new.number new.base) a)) (sym all.blocks) (fates.unlogged (all-released new all) a)

  -- the stop word and the budget word are as they were
  pub stops : (new : HeapState) → AreReleased r c (base_after_trace p) (heap_after p es) new (blocks p) → (i : ℕ) → i < 2 → word_at new i ≡ word_at p.before i
  stops new all i few = fates.low-word (all-released new all) i (omega arith) ∙ was i few
    where
      was : (i : ℕ) → i < 2 → word_at (heap_after p es) i ≡ word_at p.before i
      was i few = elim (cases_eq i 0) as (λ _. word_at (heap_after p es) i ≡ word_at p.before i) [
        | inl e ↦ subst (λ n. word_at (heap_after p es) n ≡ word_at p.before n) (sym e) (row p es trace finished).stop
        | inr ne ↦ subst (λ n. word_at (heap_after p es) n ≡ word_at p.before n) (let other : i ≢ 0 = ne in let one : 1 ≡ i = omega arith in one) (row p es trace finished).budget
      ]

  -- an object that was held, and still is, has its shape
  pub shapes : (new : HeapState) → AreReleased r c (base_after_trace p) (heap_after p es) new (blocks p) → (x : ℕ) → IsHeld p.before x → IsHeld new x
      → (refs_at new x ≡ refs_at p.before x) × (nums_at new x ≡ nums_at p.before x)
  shapes new all x before there =
      let is = all-released new all in
      let held-now : IsHeld (with new.words (blocks p) new.number new.base) x = subst (λ q. IsHeld (with new.words q new.number new.base) x) all.blocks there in
      let shape = (row p es trace finished).shapes x before in
      (ap (λ v. v % 65536) (fates.word-same is x 1 held-now) ∙ shape.0, ap (λ v. v / 65536) (fates.word-same is x 1 held-now) ∙ shape.1)

  pub lines : (new : HeapState) → AreReleased r c (base_after_trace p) (heap_after p es) new (blocks p) → (a line : ℕ) → Lives (base_after_trace p) (heap_after p es) a
      → (HasKind (heap_after p es) (block_at (blocks p) a) kinds.Immix → ⊥) → line < 256
      → line_marked new (block_at (blocks p) a) line ≡ line_marked (heap_after p es) (block_at (blocks p) a) line
  lines new all a line lives other few =
      subst (λ q. line_marked (with new.words q new.number new.base) (block_at (blocks p) a) line ≡ line_marked (heap_after p es) (block_at (blocks p) a) line) (sym all.blocks)
      (fates.lines-same (all-released new all) a line lives other few)

  -- the heap with its new numbers
  lawful-words : (w : List ℕ) → IsAllReleased r c (base_after_trace p) (heap_after p es) w (collection p) (base_after_trace p) → ((i : ℕ) → slice_index w i < 2 ^ 64)
      → IsLawful (with w (blocks p) (collection p) (base_after_trace p))
  lawful-words w all fits =
      let before = trace.ready.lawful.order in
      let left = row p es trace finished in
      let kept = preserved p es trace finished [] (λ i some. absurd (omega arith)) in
      record {
        but_lines = record {
          order = record {
            row = record { least = before.row.least; most = before.row.most; extent = all.after.extent ∙ left.extent; words = fits; base = base-below p es trace finished };
            objects = together (with w (blocks p) (collection p) (base_after_trace p))
                (released_objects.objects all (may_be_moved p) p.before [] [] (image (stage_of p es)) kept left.number left.apart before.objects.names) (released_blocks.places all);
          };
          blocks = released_blocks.unowned all;
          free = released_blocks.clear all;
        };
        lines = released_blocks.lines all;
      }

  pub lawful-with : (new : HeapState) → ((i : ℕ) → word_at new i < 2 ^ 64)
      → AreReleased r c (base_after_trace p) (heap_after p es) new (blocks p) → IsLawful (with_numbers new (collection p) (base_after_trace p))
  lawful-with new fits all = subst (λ q. IsLawful (with new.words q (collection p) (base_after_trace p))) (sym all.blocks)
      (lawful-words new.words (all-numbered new (collection p) (base_after_trace p) all) fits)

  pub lawful : (new : HeapState) → ((i : ℕ) → word_at (heap_after p es) i < 2 ^ 64)
      → AreReleased r c (base_after_trace p) (heap_after p es) new (blocks p) → IsLawful (with_numbers new (collection p) (base_after_trace p))
  lawful new fits all = lawful-with new (all.fit fits) all
