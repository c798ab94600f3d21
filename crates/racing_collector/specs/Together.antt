-- What a trace by several workers leaves.
use Rattle.std.specs.Prelude.{◌≡◌, ℕ, ◌+◌, ◌*◌, ◌<◌, ◌≤◌, ◌⊎◌, Bool, ◌&&◌, false, not, nat_eq, nat_lt, IsTrue, Some}
use Rattle.std.specs.Prelude.{List, length, map, sum_by}
use Rattle.std.specs.List.{range_with_len}
use Rattle.heap_layout.specs.Zones.{LineWords, bit_of, row_words}
use Rattle.heap_layout.specs.declared.layout.TheConstants.{BLOCK_LINES}
use Rattle.object_model.specs.Lines.{TouchesLine}
use Rattle.object_model.specs.Objects.{HeapState, size_at, state_of}
use Rattle.object_model.specs.Times.{one_if, times}
use Rattle.object_model.specs.declared.shape.TheConstants.{MAX_MEDIUM_WORDS}
use Rattle.trace_core.specs.Machine.{Event, Machine}
use Rattle.trace_core.specs.Outcomes.{image, HaveAsked, NoOthersAsked}
use Rattle.trace_core.specs.Rooms.{IsFilled}
use Rattle.trace_core.specs.Runs.{IsRunOf, setup_of}
use Rattle.trace_core.specs.Setups.{Setup, blocks, size, stays_old}
use Rattle.trace_core.specs.Traces.{IsFinished, IsTracing, heap_after, machine_after, stage_of, target_of}
use Rattle.trace_core.specs.declared.run.TraceRun.{TraceRun}
use Rattle.racing_collector.specs.declared.tally.Tally.{Tally}
use Rattle.racing_collector.specs.declared.together.TracedTogether.{TracedTogether}

-- the sum over all addresses of a heap of b blocks
abbrev pub total : ℕ → (ℕ → ℕ) → ℕ
total b f = sum_by f (range_with_len 0 (row_words b))

-- the object at x got a target by a claim: it did not stay as an old one
abbrev pub is_claimed : Setup → List Event → ℕ → Bool
is_claimed p es x = not (stays_old p x) && nat_lt 0 (image (stage_of p es) x)

-- Each block that was taken to copy into has more than MAX_MEDIUM_WORDS words of targets, but for
-- at most as many as there are workers.
pub record FillsBlocks (p : Setup) (m : Machine) : Type 0 where
  pub last : List ℕ
  pub few : length last ≤ p.workers
  pub full : (b : ℕ) → 0 < m.taken b → (0 < times b last) ⊎ IsFilled p m b (MAX_MEDIUM_WORDS + 1)

-- the lines that each claimed object touches where it is now are marked
abbrev pub LinesOfClaimed : Setup → List Event → Type 0
LinesOfClaimed p es = (x t n : ℕ) → target_of p es x ≡ Some t → stays_old p x ≡ false
    → n < BLOCK_LINES * blocks p → TouchesLine (blocks p) t (size p x) n
    → IsTrue (bit_of (blocks p) LineWords (heap_after p es).words n)

-- the counts are those of the claimed objects
pub record CountsClaimed (s : HeapState) (p : Setup) (es : List Event) (tally : Tally)
    : Type 0 where
  pub kept : tally.kept ≡ total s.blocks (λ a. one_if (is_claimed p es a))
  pub moved : tally.moved ≡ total s.blocks
      (λ a. one_if (is_claimed p es a) * one_if (not (nat_eq (image (stage_of p es) a) a)))
  pub words : tally.words ≡ total s.blocks (λ a. one_if (is_claimed p es a) * size_at s a)

-- A heap was traced in this setup from these roots, and nothing is left to do.
pub record IsTracedFrom (p : Setup) (s : HeapState) (run : TraceRun) (roots : List ℕ)
    (t : TracedTogether) : Type 0 where
  pub events : List Event
  pub trace : IsTracing p events
  pub finished : IsFinished p (machine_after p events)
  pub run_is : IsRunOf p run
  pub row : state_of t.traced.row ≡ heap_after p events
  -- these roots asked, and no others, and have their targets
  pub asked : HaveAsked roots (machine_after p events).asked
  pub no_others : NoOthersAsked roots (machine_after p events).asked
  pub targets : t.roots.items ≡ map (image (stage_of p events)) roots
  pub fills : FillsBlocks p (machine_after p events)
  pub lines : IsTrue run.lines → LinesOfClaimed p events
  pub counts : CountsClaimed s p events t.tally

abbrev pub TracesAll : HeapState → TraceRun → ℕ → List ℕ → TracedTogether → Type 0
TracesAll s run workers roots t = IsTracedFrom (setup_of s run workers) s run roots t
