-- The values that clap finds in words that are options, each given once, and then files.
use Rattle.std.proofs.Common.{◌≡◌, refl, ◌∙◌, sym, ap, cond, ℕ, Bool, true, false, ◌||◌, List, [], ◌∷◌, ◌++◌, map, drop, codes, append_assoc}
use Rattle.std.specs.Prelude.{None, Some, is_some}
use Rattle.std.specs.List.{fold}
use Rattle.std.proofs.lemmas.List.Folds.{list_any-append}
use Rattle.std.specs.Str.{bytes_eq}
use Rattle.clap.specs.Matches.{found_of, first_value, one_text}
use Rattle.clap.specs.Walk.{Row, Text, first_of, has_row, more_values, one_of, reading_by, rows_of, with_default, with_values}
use Rattle.clap.specs.Simple.{filled, matches_of}
use Rattle.clap.specs.declared.parser.matches.ValueSource.TheVariants.{DefaultValue}
use Rattle.clap.specs.declared.parser.matches.ArgMatches.{ArgMatches}
use Rattle.clap.proofs.WalkLemmas.{first_value-rows, one_text-rows}
use Rattle.command_line.specs.Words.{GivenOption, Line, are_single, split_line, takes_value, value_of}
use Rattle.command_line.specs.Reader.{reader, map_rule}
use Rattle.command_line.proofs.Options.{absent, are_options, first_for, has_row_for, map_read, no_map_read, row_for, valued_cases}
use Rattle.command_line.proofs.Walks.{file_rows, read_from, reads, resting, rules}

same : (b : Bool) (rows : List Row) → cond b rows rows ≡ rows
same true rows = refl
same false rows = refl

-- the flag has a row: that of its default if it is not given
abbrev flagged : List Row → List Row
flagged rows = cond (has_row (codes "map") rows) rows (with_values (codes "map") (reading_by (filled map_rule)) DefaultValue (codes "false" ∷ []) rows)

abbrev unset : Row
unset = record { id = codes "map"; values = codes "false" ∷ []; count = None; source = Some DefaultValue; reading = reading_by (filled map_rule) }

defaulted : (rows : List Row) → fold with_default rows rules ≡ flagged rows
defaulted rows =
    ap (λ r. fold with_default r (drop 1 rules)) (same (has_row (codes "plan") rows) rows)
    ∙ ap (λ r. fold with_default r (drop 2 rules)) (same (has_row (codes "heap") rows) rows)
    ∙ ap (λ r. fold with_default r (drop 3 rules)) (same (has_row (codes "workers") rows) rows)
    ∙ ap (λ r. fold with_default r (drop 4 rules)) (same (has_row (codes "make") rows) rows)
    ∙ same (has_row (codes "files") (flagged rows)) (flagged rows)

or_false : (b : Bool) → (b || false) ≡ b
or_false true = refl
or_false false = refl

no_map_file : (files : List Text) → has_row (codes "map") (file_rows files) ≡ false
no_map_file [] = refl
no_map_file (file ∷ files) = refl

has_map : (ss : List GivenOption) (files : List Text) → are_options ss ≡ true → has_row (codes "map") (map row_for ss ++ file_rows files) ≡ is_some (value_of (codes "--map") ss)
has_map ss files all =
    list_any-append (λ r. bytes_eq r.id (codes "map")) (map row_for ss) (file_rows files) ∙ ap (λ b. has_row (codes "map") (map row_for ss) || b) (no_map_file files)
    ∙ or_false _ ∙ has_row_for (codes "--map") ss refl all

-- the rows after those of the settings
others_of : (ss : List GivenOption) (files : List Text) → are_options ss ≡ true → is_some (value_of (codes "--map") ss) ≡ false → flagged (map row_for ss ++ file_rows files) ≡ map row_for ss ++ (file_rows files ++ unset ∷ [])
others_of ss files all none =
    let given : has_row (codes "map") (map row_for ss ++ file_rows files) ≡ false = has_map ss files all ∙ none in
    let base : List Row = map row_for ss ++ file_rows files in
    ap (λ b. cond b base (with_values (codes "map") (reading_by (filled map_rule)) DefaultValue (codes "false" ∷ []) base)) given
    ∙ absent (codes "map") (more_values DefaultValue (codes "false" ∷ [])) (unset ∷ []) base given ∙ append_assoc (map row_for ss) (file_rows files) (unset ∷ [])

kept : (ss : List GivenOption) (files : List Text) → are_options ss ≡ true → is_some (value_of (codes "--map") ss) ≡ true → flagged (map row_for ss ++ file_rows files) ≡ map row_for ss ++ file_rows files
kept ss files all there =
    let base : List Row = map row_for ss ++ file_rows files in
    ap (λ b. cond b base (with_values (codes "map") (reading_by (filled map_rule)) DefaultValue (codes "false" ∷ []) base)) (has_map ss files all ∙ there)

lacks : (name : List ℕ) (files : List Text) → takes_value name ≡ true → (has_row (drop 2 name) (file_rows files) ≡ false) × (has_row (drop 2 name) (file_rows files ++ unset ∷ []) ≡ false)
lacks name [] e = valued_cases (λ word. (has_row (drop 2 word) [] ≡ false) × (has_row (drop 2 word) (unset ∷ []) ≡ false)) name e (refl, refl) (refl, refl) (refl, refl) (refl, refl)
lacks name (file ∷ files) e =
    valued_cases (λ word. (has_row (drop 2 word) (file_rows (file ∷ files)) ≡ false) × (has_row (drop 2 word) (file_rows (file ∷ files) ++ unset ∷ []) ≡ false)) name e (refl, refl) (refl, refl) (refl, refl) (refl, refl)

first_flagged : (name : List ℕ) (ss : List GivenOption) (files : List Text) → takes_value name ≡ true → are_options ss ≡ true → first_of (drop 2 name) (flagged (map row_for ss ++ file_rows files)) ≡ value_of name ss
first_flagged name ss files e all = go (is_some (value_of (codes "--map") ss)) refl
  where
    go : (b : Bool) → is_some (value_of (codes "--map") ss) ≡ b → first_of (drop 2 name) (flagged (map row_for ss ++ file_rows files)) ≡ value_of name ss
    go true there = ap (first_of (drop 2 name)) (kept ss files all there) ∙ first_for name ss (file_rows files) e all (lacks name files e).0
    go false none = ap (first_of (drop 2 name)) (others_of ss files all none) ∙ first_for name ss (file_rows files ++ unset ∷ []) e all (lacks name files e).1

abbrev pub truth : Bool → Text
truth b = cond b (codes "true") (codes "false")

flag_of : (ss : List GivenOption) (files : List Text) → are_options ss ≡ true → one_of (codes "map") (flagged (map row_for ss ++ file_rows files)) ≡ Some (truth (is_some (value_of (codes "--map") ss)))
flag_of ss files all = go (is_some (value_of (codes "--map") ss)) refl ∙ ap (λ b. Some (truth b)) refl
  where
    alone : (fs : List Text) → one_of (codes "map") (file_rows fs ++ unset ∷ []) ≡ Some (codes "false")
    alone [] = refl
    alone (f ∷ fs) = refl

    go : (b : Bool) → is_some (value_of (codes "--map") ss) ≡ b → one_of (codes "map") (flagged (map row_for ss ++ file_rows files)) ≡ Some (truth (is_some (value_of (codes "--map") ss)))
    go true there = ap (one_of (codes "map")) (kept ss files all there) ∙ map_read ss (file_rows files) all there ∙ ap (λ b. Some (truth b)) (sym there)
    go false none = ap (one_of (codes "map")) (others_of ss files all none) ∙ no_map_read ss (file_rows files ++ unset ∷ []) all none ∙ alone files ∙ ap (λ b. Some (truth b)) (sym none)

pub record Finds (m : ArgMatches) (ss : List GivenOption) : Type 0 where
  pub plan : first_value (found_of m) (codes "plan") ≡ value_of (codes "--plan") ss
  pub heap : first_value (found_of m) (codes "heap") ≡ value_of (codes "--heap") ss
  pub workers : first_value (found_of m) (codes "workers") ≡ value_of (codes "--workers") ss
  pub make : first_value (found_of m) (codes "make") ≡ value_of (codes "--make") ss
  pub flag : one_text (found_of m) (codes "map") ≡ Some (truth (is_some (value_of (codes "--map") ss)))

pub finds : (m : ArgMatches) (words : List Text) (l : Line) → rows_of (found_of m) ≡ matches_of reader words → split_line words ≡ Some l → are_single l.settings ≡ true → Finds m l.settings
finds m words l rows e single =
    let read = reads words [] [] None l refl refl single refl e in
    let is : rows_of (found_of m) ≡ flagged (map row_for l.settings ++ file_rows l.files) = rows ∙ defaulted (read_from (resting [] None) words) ∙ ap flagged read.rows in
    let value : (name : List ℕ) → takes_value name ≡ true → first_value (found_of m) (drop 2 name) ≡ value_of name l.settings =
    λ name takes. first_value-rows (found_of m) (drop 2 name) ∙ ap (first_of (drop 2 name)) is ∙ first_flagged name l.settings l.files takes read.options in
    record {
      plan = value (codes "--plan") refl;
      heap = value (codes "--heap") refl;
      workers = value (codes "--workers") refl;
      make = value (codes "--make") refl;
      flag = one_text-rows (found_of m) (codes "map") ∙ ap (one_of (codes "map")) is ∙ flag_of l.settings l.files read.options;
    }
