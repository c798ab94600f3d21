-- What is said of a block and its release does not depend on the heap's collection numbers.
use Rattle.std.proofs.Common.{sym, ◌∙◌, refl, ℕ, Bool, true, false, List}
use Rattle.std.proofs.Math.Logic.{∥∥₁_map}
use Rattle.heap_layout.specs.declared.layout.Layout.{Layout}
use Rattle.heap_layout.specs.declared.block.Kind.TheVariants as kinds
use Rattle.object_model.specs.declared.collect.Collect.{Collect}
use Rattle.object_model.specs.Objects.{HeapState, state_over, has_kind, IsHeld}
use Rattle.object_model.specs.Lawful.{HasObject, Lies, LiesInCell, IsRunOfBlocks}
use Rattle.object_model.specs.Releasing.{InSpan, IsReleasable}
use Rattle.object_model.specs.Ages.{Lives}
use Rattle.sessions.specs.Plans.{Rules}
use Rattle.block_sweeps.specs.Sweeping.{IsFreed, IsTouchedHere}
use Rattle.plan_api.specs.Releasing.{IsReleased, ReleasesIf, Releases}
use Rattle.block_release.proofs.KeptBlocks.{after-same}
use Rattle.block_release.proofs.LawfulReleases.{touched-again}

module _ (words : List ℕ) (l : Layout) (number base number' base' : ℕ) where
  abbrev s : HeapState
  s = state_over words l number base

  abbrev t : HeapState
  t = state_over words l number' base'

  span-again : (k a : ℕ) → InSpan s k a → InSpan t k a
  span-again k a span = record { address = span.address; block = span.block }

  held-again : (a : ℕ) → IsHeld s a → IsHeld t a
  held-again a held = record { address = held.address; start = held.start }

  lives-again : (age a : ℕ) → Lives age s a → Lives age t a
  lives-again age a lives = record { held = held-again a lives.held; survives = lives.survives }

  object-again : (a : ℕ) → HasObject s a → HasObject t a
  object-again a object = record { name = object.name; refs = object.refs; nums = object.nums }

  cell-again : (a size : ℕ) → LiesInCell s a size → LiesInCell t a size
  cell-again a size cell = record { start = cell.start; room = cell.room; within = cell.within }

  run-again : (k n : ℕ) → IsRunOfBlocks s k n → IsRunOfBlocks t k n
  run-again k n run = record { head = run.head; class = run.class; inside = run.inside; tails = run.tails }

  lies-again : (a size : ℕ) → Lies s a size → Lies t a size
  lies-again a size lies = record {
    small = λ few. let block = lies.small few in record { address = block.address; within = block.within; kind = block.kind; cell = λ is. cell-again a size (block.cell is) };
    large = λ big. let place = lies.large big in record { address = place.address; start = place.start; run = run-again _ _ place.run };
  }

  freed-again : (k : ℕ) → IsFreed s k → IsFreed t k
  freed-again k freed = record { word = freed.word; lines = freed.lines }

  touched-too : (k line : ℕ) → IsTouchedHere s k line → IsTouchedHere t k line
  touched-too k line = touched-again l.blocks k line words number base number' base'

pub releasable-again : (words : List ℕ) (l : Layout) (number base number' base' k : ℕ) → IsReleasable (state_over words l number base) k → IsReleasable (state_over words l number' base') k
releasable-again words l number base number' base' k is =
    let back = span-again words l number' base' number base k in
    let was = held-again words l number' base' number base in
    let now = held-again words l number base number' base' in record {
      code = is.code;
      objects = λ a span held. let one = is.objects a (back a span) (was a held) in (object-again words l number base number' base' a one.0, lies-again words l number base number' base' a _ one.1);
      apart = λ a x i here there held held'. is.apart a x i (back a here) (back x there) (was a held) (was x held');
      marks = λ a span set. now a (is.marks a (back a span) set);
      bits = is.bits;
      lines = is.lines;
      head = λ kind. let head = is.head kind in (now _ head.0, head.1);
    }

module _ (r : Rules) (c : Collect) (age : ℕ) (old new : List ℕ) (l : Layout) (number base number' base' k : ℕ) where
  abbrev was : HeapState
  was = state_over old l number base

  abbrev now : HeapState
  now = state_over old l number' base'

  released-again : IsReleased r c age was (state_over new l number base) k → IsReleased r c age now (state_over new l number' base') k
  released-again is =
      let back = span-again old l number' base' number base k in
      let lived = lives-again old l number' base' number base age in
      let lives = lives-again old l number base number' base' age in record {
        held = λ a span. let iff = is.held a (back a span) in (
          (λ held. lives a (iff.0 (held-again new l number' base' number base a held))),
          (λ living. held-again new l number base number' base' a (iff.1 (lived a living))),
        );
        pins = λ a span. is.pins a (back a span);
        unlogs = λ a span. is.unlogs a (back a span);
        empty = λ none j of. freed-again new l number base number' base' j (is.empty (λ a span living. none a (span-again old l number base number' base' k a span) (lives a living)) j of);
        word = λ a span living. is.word a (back a span) (lived a living) ∙ sym (after-same r was now k refl refl c);
        tails = λ a j span living. is.tails a j (back a span) (lived a living);
        touched = λ a line span living kind few. let iff = is.touched a line (back a span) (lived a living) kind few in (
          (λ set. ∥∥₁_map (iff.0 set) (touched-too new l number base number' base' k line)),
          (λ touched. iff.1 (∥∥₁_map touched (touched-too new l number' base' number base k line))),
        );
        lines = λ a j line span living. is.lines a j line (back a span) (lived a living);
      }

  by-kind : (large : Bool) → ReleasesIf large r c age was (state_over new l number base) k → ReleasesIf large r c age now (state_over new l number' base') k
  by-kind true is = is
  by-kind false is = record {
    released = released-again is.released;
    rest = record { blocks = is.rest.blocks; extent = is.rest.extent; others = is.rest.others; fit = is.rest.fit };
  }

  pub releases-again : Releases r c age was (state_over new l number base) k → Releases r c age now (state_over new l number' base') k
  releases-again = by-kind (has_kind was k kinds.LargeTail)
