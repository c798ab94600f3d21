-- A worked report, each of whose numbers is another one, and places.
use Rattle.std.specs.Prelude.{ℕ}
use Rattle.command_line.specs.declared.order.PlanName.TheVariants as plans
use Rattle.heap_picture.specs.declared.forms.KindCounts.{KindCounts}
use Rattle.heap_picture.specs.declared.forms.Place.{Place}
use Rattle.heap_picture.specs.declared.reader.Report.{Report}

abbrev pub worked_kinds : KindCounts
worked_kinds = record {
  free = 1;
  bump = 2;
  young = 3;
  mature = 4;
  immix = 5;
  cells = 6;
  large = 7;
  kept = 8;
}

abbrev pub worked_report : Report
worked_report = record {
  plan = plans.GenCopy;
  blocks = 36;
  mutators = 9;
  commands = 10;
  full = 11;
  nursery = 12;
  collected = 13;
  live = 14;
  live_words = 15;
  held = 16;
  held_words = 17;
  kinds = worked_kinds;
}

-- an object of mutator 2
abbrev pub worked_place : ℕ → ℕ → ℕ → Place
worked_place block word size =
    record { mutator = 2; birth = 3; block = block; word = word; size = size }
