-- The usage of the command line: options, then files. A word is the list of its bytes.
use Rattle.std.specs.Prelude.{ℕ, Bool, true, false, ◌&&◌, ◌||◌, not, List, [], ◌∷◌, length, Option, None, Some, nat_le}
use Rattle.std.specs.Prelude.{nat_lt, nat_eq, if◌then◌else◌, codes, slice_index, is_some, option_map, option_and_then}
use Rattle.std.specs.List.{list_all, position_or_len, before_first, after_first}
use Rattle.std.specs.Str.{bytes_eq}
use Rattle.trace_text.specs.Grammar.{numeral}
use Rattle.trace_text.specs.declared.limits.TheConstants.{MAX_COMMANDS}
use Rattle.command_line.specs.declared.order.TheConstants.{MAX_FILES, MAX_WORKERS}
use Rattle.sessions.specs.Plans.{Plan, plan_word, NoGc, MarkSweep, SemiSpace, GenCopy, Immix, StickyImmix}
use Rattle.heap_layout.specs.declared.layout.TheConstants.{MAX_BLOCKS, MIN_BLOCKS}

-- what to run: traces from files, one for each mutator, or a made trace with this number of
-- commands
pub data Work : Type 0 where
  Files : List (List ℕ) → Work
  Made : ℕ → Work

-- what a command line asks for; `blocks` is the size of the heap
pub record Job : Type 0 where
  pub plan : Plan
  pub blocks : ℕ
  pub workers : ℕ
  -- whether to print the map of the heap
  pub map : Bool
  pub work : Work

-- a setting: an option that is given, and its value; the value of `--map` is empty
pub record GivenOption : Type 0 where
  pub name : List ℕ
  pub value : List ℕ

-- a command line, split into settings and files
pub record Line : Type 0 where
  pub settings : List GivenOption
  pub files : List (List ℕ)

-- the word begins with `-`
abbrev pub has_dash : List ℕ → Bool
has_dash word = nat_eq (slice_index word 0) 45

-- the name of a file: a word that is not empty and does not begin with `-`
abbrev pub is_file : List ℕ → Bool
is_file word = nat_lt 0 (length word) && not (has_dash word)

-- the options that take a value
abbrev pub takes_value : List ℕ → Bool
takes_value name = bytes_eq name (codes "--plan") || bytes_eq name (codes "--heap")
    || bytes_eq name (codes "--workers")
    || bytes_eq name (codes "--make")

-- the byte `=`
abbrev pub is_equals : ℕ → Bool
is_equals b = nat_eq b 61

-- the parts of the word before and after its first `=`
abbrev pub at_equals : List ℕ → Option GivenOption
at_equals word = if nat_lt (position_or_len is_equals word) (length word)
    then Some (record {
      name = before_first is_equals word;
      value = after_first is_equals word;
    }) else None

-- the setting, if its option takes a value
abbrev pub if_takes_value : GivenOption → Option GivenOption
if_takes_value s = if takes_value s.name then Some s else None

-- the setting of one word: `--map` or `--name=value`
abbrev pub in_one_word : List ℕ → Option GivenOption
in_one_word word = if bytes_eq word (codes "--map") then Some
    (record { name = word; value = [] }) else option_and_then if_takes_value (at_equals word)

-- the setting of two words: `--name value`
abbrev pub in_two_words : List ℕ → List ℕ → Option GivenOption
in_two_words name value = if takes_value name && not (has_dash value) then Some (record {
  name = name;
  value = value;
}) else None

-- a command line without settings
abbrev pub only_files : List (List ℕ) → Option Line
only_files words =
    if list_all is_file words then Some (record { settings = []; files = words }) else None

-- the command line with one more setting in front
abbrev pub with_setting : GivenOption → Line → Line
with_setting s l = record l { settings = s ∷ l.settings }

-- if there is a setting: it and the command line `rest` after it; otherwise the one `without` it
abbrev pub setting_or : Option GivenOption → Option Line → Option Line → Option Line
setting_or None rest without = without
setting_or (Some s) rest without = option_map (with_setting s) rest

-- the words, split into settings and then files; None if a word is neither
abbrev pub split_line : List (List ℕ) → Option Line
split_line [] = only_files []
split_line (word ∷ []) = setting_or (in_one_word word) (split_line []) (only_files (word ∷ []))
split_line (word ∷ next ∷ words) = setting_or (in_one_word word) (split_line (next ∷ words))
    (setting_or (in_two_words word next) (split_line words) (only_files (word ∷ next ∷ words)))

-- the value of the first setting with this name
abbrev pub value_of : List ℕ → List GivenOption → Option (List ℕ)
value_of name [] = None
value_of name (s ∷ ss) = if bytes_eq s.name name then Some s.value else value_of name ss

-- no option is given twice
abbrev pub are_single : List GivenOption → Bool
are_single [] = true
are_single (s ∷ ss) = not (is_some (value_of s.name ss)) && are_single ss

-- the plan with this name
abbrev pub plan_of : List ℕ → Option Plan
plan_of word =
    if bytes_eq word (plan_word NoGc) then Some NoGc
    else if bytes_eq word (plan_word MarkSweep) then Some MarkSweep
    else if bytes_eq word (plan_word SemiSpace) then Some SemiSpace
    else if bytes_eq word (plan_word GenCopy) then Some GenCopy
    else if bytes_eq word (plan_word Immix) then Some Immix
    else if bytes_eq word (plan_word StickyImmix) then Some StickyImmix
    else None

-- the number, if it lies within the bounds
abbrev pub if_within : ℕ → ℕ → ℕ → Option ℕ
if_within least most n = if nat_le least n && nat_le n most then Some n else None

-- the number of a numeral, if it lies within the bounds
abbrev pub bounded_numeral : ℕ → ℕ → List ℕ → Option ℕ
bounded_numeral least most word = option_and_then (if_within least most) (numeral word)

-- the number of workers: 1 if the option is not given
abbrev pub workers_of : Option (List ℕ) → Option ℕ
workers_of None = Some 1
workers_of (Some word) = bounded_numeral 1 MAX_WORKERS word

-- 1 to MAX_FILES files; or, with `--make`, a made trace, with neither a map nor a file
abbrev pub work_of : Option (List ℕ) → Bool → List (List ℕ) → Option Work
work_of None has_map files =
    if nat_le 1 (length files) && nat_le (length files) MAX_FILES then Some (Files files) else None
work_of (Some word) has_map files = if has_map
    || nat_lt 0 (length files) then None else option_map Made (bounded_numeral 1 MAX_COMMANDS word)

-- the value of each option, and whether `--map` is given
pub record Values : Type 0 where
  pub plan : Option (List ℕ)
  pub heap : Option (List ℕ)
  pub workers : Option (List ℕ)
  pub make : Option (List ℕ)
  pub has_map : Bool

-- the values that these settings give
abbrev pub values_in : List GivenOption → Values
values_in settings = record {
  plan = value_of (codes "--plan") settings;
  heap = value_of (codes "--heap") settings;
  workers = value_of (codes "--workers") settings;
  make = value_of (codes "--make") settings;
  has_map = is_some (value_of (codes "--map") settings);
}

-- the job, if it has all its parts
abbrev pub job_with : Bool → Option Plan → Option ℕ → Option ℕ → Option Work → Option Job
job_with has_map (Some plan) (Some blocks) (Some workers) (Some work) = Some
    (record { plan = plan; blocks = blocks; workers = workers; map = has_map; work = work })
job_with has_map _ _ _ _ = None

-- the job of these values and files; `--plan` and `--heap` are required
abbrev pub job_for : Values → List (List ℕ) → Option Job
job_for v files =
    job_with v.has_map (option_and_then plan_of v.plan)
    (option_and_then (bounded_numeral MIN_BLOCKS MAX_BLOCKS) v.heap)
    (workers_of v.workers) (work_of v.make v.has_map files)

-- the job of a command line
abbrev pub job_in : Line → Option Job
job_in line = job_for (values_in line.settings) line.files

-- the command line, if no option is given twice
abbrev pub if_single : Line → Option Line
if_single line = if are_single line.settings then Some line else None

-- the words, split into settings, of options that are given once, and files
abbrev pub line_of_words : List (List ℕ) → Option Line
line_of_words words = option_and_then if_single (split_line words)

-- the job that the words ask for; None if they do not match the usage
unfoldable pub job_of : List (List ℕ) → Option Job
job_of words = option_and_then job_in (line_of_words words)
