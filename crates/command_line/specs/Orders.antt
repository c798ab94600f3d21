-- What the values of the Rust types represent.
use Rattle.std.specs.Prelude.{ℕ, List, map, String, string_bytes, option_map}
use Rattle.std.specs.declared.alloc.Global.{Global}
use Rattle.command_line.specs.declared.order.PlanName.{PlanName}
use Rattle.command_line.specs.declared.order.PlanName.TheVariants as names
use Rattle.command_line.specs.declared.order.Target.{Target}
use Rattle.command_line.specs.declared.order.Target.TheVariants as targets
use Rattle.command_line.specs.declared.order.Order.{Order}
use Rattle.command_line.specs.declared.splitter.Pair.{Pair}
use Rattle.command_line.specs.declared.splitter.Parts.{Parts}
use Rattle.sessions.specs.Plans.{Plan, NoGc, MarkSweep, SemiSpace, GenCopy, Immix, StickyImmix}
use Rattle.command_line.specs.declared.clap_values.Found.{Found}
use Rattle.command_line.specs.Words.{Job, Work, Files, Made, GivenOption, Line, Values}

-- the bytes of words
abbrev pub texts : List (String Global) → List (List ℕ)
texts words = map string_bytes words

-- the plan with this name
abbrev pub plan_in : PlanName → Plan
plan_in names.NoGc = NoGc
plan_in names.MarkSweep = MarkSweep
plan_in names.SemiSpace = SemiSpace
plan_in names.GenCopy = GenCopy
plan_in names.Immix = Immix
plan_in names.StickyImmix = StickyImmix

-- what an order runs
abbrev pub work_in : Target → Work
work_in (targets.Files words) = Files (texts words.now)
work_in (targets.Made n) = Made n

-- the job of an order
abbrev pub job_of_order : Order → Job
job_of_order o = record {
  plan = plan_in o.plan;
  blocks = o.blocks;
  workers = o.workers;
  map = o.map;
  work = work_in o.work;
}

-- the setting of a pair
abbrev pub setting_in : Pair → GivenOption
setting_in p = record { name = p.name.now; value = p.value.now }

-- the settings and files of a split command line
abbrev pub line_in : Parts → Line
line_in p = record { settings = map setting_in p.settings.items; files = texts p.files.now }

-- the values that clap found
abbrev pub values_seen : Found → Values
values_seen f = record {
  plan = option_map (λ s. s.now) f.plan;
  heap = option_map (λ s. s.now) f.heap;
  workers = option_map (λ s. s.now) f.workers;
  make = option_map (λ s. s.now) f.make;
  has_map = f.map;
}
