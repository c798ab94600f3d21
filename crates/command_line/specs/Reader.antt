-- The command of clap that reads the values of the options.
use Rattle.std.specs.Prelude.{ℕ, true, List, Some, codes}
use Rattle.clap.specs.Walk.{Rule}
use Rattle.clap.specs.Simple.{App, new_app, new_rule, on_top, with_rule}
use Rattle.clap.specs.declared.builder.action.ArgAction.TheVariants.{SetTrue, Append}

-- an option with a value
abbrev pub option_rule : List ℕ → Rule
option_rule name = record (new_rule name) { long = Some name }

-- the flag `--map`
abbrev pub map_rule : Rule
map_rule = record (new_rule (codes "map")) { long = Some (codes "map"); action = Some SetTrue }

-- the positional argument: one file or more
abbrev pub files_rule : Rule
files_rule = record (new_rule (codes "files")) {
  action = Some Append;
  range = Some (record { start_inclusive = 1; end_inclusive = 18446744073709551615 });
}

-- the command without arguments
abbrev pub bare : App
bare = on_top (λ s. record s { no_binary_name = true; disable_help_flag = true })
    (new_app (codes "mm_drive"))

-- the command with the options that have a value
abbrev pub with_option_rules : App → App
with_option_rules app = with_rule (with_rule (with_rule (with_rule app (option_rule (codes "plan")))
    (option_rule (codes "heap"))) (option_rule (codes "workers"))) (option_rule (codes "make"))

-- the command with all arguments
abbrev pub reader : App
reader = with_rule (with_rule (with_option_rules bare) map_rule) files_rule
