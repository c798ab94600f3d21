-- Parts of a report, and places of a map, as they are printed.
use Rattle.std.specs.Prelude.{ℕ, List, ◌++◌, length, count_by, codes}
use Rattle.std.specs.Fmt.{decimal}
use Rattle.heap_layout.specs.Zones.{block_at, offset_at}
use Rattle.ideal_heap.specs.Runs.{is_full}
use Rattle.trace_text.specs.Text.{ended}
use Rattle.sessions.specs.Plans.{Plan, plan_word}
use Rattle.sessions.specs.Sessions.{Moment}
use Rattle.heap_graph.specs.declared.place.Place.{Place}
use Rattle.driver.specs.Texts.{MapPlace}

-- what a report on a session of n mutators says of all but the heap
abbrev pub session_lines : Plan → ℕ → Moment → List ℕ
session_lines plan n last =
    ended (codes "plan " ++ plan_word plan)
    ++ ended (codes "blocks " ++ decimal last.heap.blocks)
    ++ ended (codes "mutators " ++ decimal n)
    ++ ended (codes "commands " ++ decimal (length last.done))
    ++ ended (codes "full " ++ decimal (count_by (λ e. is_full e.reply) last.done))
    ++ ended (codes "collections nursery " ++ decimal last.nursery ++ codes " full "
    ++ decimal last.full)

-- the place of a listed object, in a heap of b blocks
abbrev pub place_in : ℕ → Place → MapPlace
place_in b p = record {
  name = p.name;
  block = block_at b p.at;
  word = offset_at b p.at;
  size = p.size;
}
