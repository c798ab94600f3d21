-- The steps of clap on words that are options, each given once, and then files.
use Rattle.std.proofs.Common.{◌≡◌, refl, ◌∙◌, sym, ap, subst, cond, ℕ, Bool, true, false, ◌&&◌, ◌||◌, not, nat_lt, ◌<◌, List, [], ◌∷◌, ◌++◌, map, drop, length, get_or, codes, nat_eq, append_assoc, append-nil, ltb-true, eqb-true}
use Rattle.std.specs.Prelude.{Option, None, Some, is_some, option_map, option_and_then}
use Rattle.std.specs.List.{list_all, fold, position_or_len, before_first, after_first}
use Rattle.std.specs.Str.{bytes_eq}
use Rattle.std.proofs.lemmas.Bool.Decides.{same_from_decides}
use Rattle.std.proofs.lemmas.Slice.Eq.{bytes_eq-Decides}
use Rattle.std.proofs.lemmas.List.{map-append}
use Rattle.std.proofs.lemmas.List.Sums.{split_at_first, passes_at_first}
use Rattle.clap.specs.Walk.{Rule, Row, Text, Walk, has_row, idle, more_values, positional, reading_by, settled_rows, used, walked}
use Rattle.clap.specs.Simple.{built, is_simple, filled}
use Rattle.clap.specs.declared.parser.matches.ValueSource.TheVariants.{CommandLine}
use Rattle.clap.proofs.OnLiterals.{clap_on_literals}
use Rattle.command_line.specs.Words.{GivenOption, Line, at_equals, are_single, split_line, has_dash, if_takes_value, in_one_word, in_two_words, is_equals, is_file, only_files, setting_or, takes_value, value_of, with_setting}
use Rattle.command_line.specs.Reader.{reader, files_rule}
use Rattle.command_line.proofs.Options.{absent, are_options, has_row_for, is_map, is_option, no_files_row, option_cases, row_for, same_bytes, used_by, used_new, valued_cases}

abbrev pub rules : List Rule
rules = (built reader).top.rules

pub simple : is_simple reader ≡ true
simple = refl

abbrev pub Pending : Type 0
Pending = Option (Text × List Text)

-- the state between two settings
abbrev pub resting : List Row → Pending → Walk
resting rows pending = record { held = record { rows = rows; pending = pending; skip = 0 }; waiting = idle; position = 1; is_trailing = false; stopped = None }

-- the state after a file
abbrev pub filing : List Row → List Text → Walk
filing rows files = record { held = record { rows = rows; pending = Some (codes "files", files); skip = 0 }; waiting = positional; position = 1; is_trailing = false; stopped = None }

abbrev pub step : Walk → Text → Walk
step w word = walked rules [] w word

-- the word `--name=value`
joined : (name value : List ℕ) (rows : List Row) (pending : Pending) → takes_value name ≡ true
    → step (resting rows pending) (name ++ 61 ∷ value) ≡ resting (used_by (record { name = name; value = value }) (settled_rows rules pending rows)) None
unfolding clap_on_literals
joined name value rows pending e =
    let P : List ℕ → Type 0 = λ word. step (resting rows pending) (word ++ 61 ∷ value) ≡ resting (used_by (record { name = word; value = value }) (settled_rows rules pending rows)) None in
    valued_cases P name e refl refl refl refl

flag : (rows : List Row) (pending : Pending) → step (resting rows pending) (codes "--map") ≡ resting (used_by (record { name = codes "--map"; value = [] }) (settled_rows rules pending rows)) None
unfolding clap_on_literals
flag rows pending = refl

-- the words `--name value`
abbrev apart_at : List ℕ → List ℕ → List Row → Pending → Type 0
apart_at value name rows pending = step (step (resting rows pending) name) value ≡ resting (settled_rows rules pending rows) (Some (drop 2 name, value ∷ []))

apart : (name value : List ℕ) (rows : List Row) (pending : Pending) → takes_value name ≡ true → has_dash value ≡ false → apart_at value name rows pending
unfolding clap_on_literals
apart name [] rows pending e plain = valued_cases (λ word. apart_at [] word rows pending) name e refl refl refl refl
apart name (b ∷ bs) rows pending e plain =
    let dash : nat_eq b 45 ≡ false = plain in
    valued_cases (λ word. apart_at (b ∷ bs) word rows pending) name e (simp dash) (simp dash) (simp dash) (simp dash)

apart_settled : (name value : List ℕ) (rows : List Row) → takes_value name ≡ true
    → settled_rows rules (Some (drop 2 name, value ∷ [])) rows ≡ used_by (record { name = name; value = value }) rows
apart_settled name value rows e =
    let P : List ℕ → Type 0 = λ word. settled_rows rules (Some (drop 2 word, value ∷ [])) rows ≡ used_by (record { name = word; value = value }) rows in
    valued_cases P name e refl refl refl refl

pub both : (a b : Bool) → (a && b) ≡ true → (a ≡ true) × (b ≡ true)
both true b e = (refl, e)
both false b e = let bad : false ≡ true = e in cc

pub not_false : (b : Bool) → not b ≡ true → b ≡ false
not_false true wrong = let bad : false ≡ true = wrong in cc
not_false false right = refl

-- the pending argument is a file
abbrev pub is_filing : Pending → Bool
is_filing None = false
is_filing (Some p) = bytes_eq p.0 (codes "files")

pub first_file : (file : List ℕ) (rows : List Row) (pending : Pending) → is_file file ≡ true → is_filing pending ≡ false → step (resting rows pending) file ≡ filing (settled_rows rules pending rows) (file ∷ [])
unfolding clap_on_literals
first_file [] rows pending e not_filing = let bad : false ≡ true = e in cc
first_file (b ∷ bs) rows None e not_filing =
    let dash : nat_eq b 45 ≡ false = not_false (nat_eq b 45) (both (nat_lt 0 (length (b ∷ bs))) (not (nat_eq b 45)) e).1 in
    simp dash
first_file (b ∷ bs) rows (Some p) e not_filing =
    let dash : nat_eq b 45 ≡ false = not_false (nat_eq b 45) (both (nat_lt 0 (length (b ∷ bs))) (not (nat_eq b 45)) e).1 in
    let other : bytes_eq p.0 (codes "files") ≡ false = not_filing in
    simp (dash, other)

pub next_file : (file : List ℕ) (rows : List Row) (files : List Text) → is_file file ≡ true → step (filing rows files) file ≡ filing rows (files ++ file ∷ [])
unfolding clap_on_literals
next_file [] rows files e = let bad : false ≡ true = e in cc
next_file (b ∷ bs) rows files e = let dash : nat_eq b 45 ≡ false = not_false (nat_eq b 45) (both (nat_lt 0 (length (b ∷ bs))) (not (nat_eq b 45)) e).1 in simp dash

-- the rows after the words are read
abbrev pub rows_at : Walk → List Row
rows_at w = settled_rows rules w.held.pending w.held.rows

abbrev pub read_from : Walk → List Text → List Row
read_from w words = rows_at (fold (walked rules []) w words)

abbrev pub file_rows : List Text → List Row
file_rows [] = []
file_rows (file ∷ files) = record { id = codes "files"; values = file ∷ files; count = None; source = Some CommandLine; reading = reading_by (filled files_rule) } ∷ []

files_read : (rows : List Row) (file : Text) (files words : List Text) → has_row (codes "files") rows ≡ false → list_all is_file words ≡ true
    → read_from (filing rows (file ∷ files)) words ≡ rows ++ file_rows (file ∷ (files ++ words))
files_read rows file files [] none e = absent (codes "files") (more_values CommandLine (file ∷ files)) _ rows none ∙ ap (λ fs. rows ++ file_rows (file ∷ fs)) (sym (append-nil files))
files_read rows file files (word ∷ words) none e =
    let parts = both (is_file word) (list_all is_file words) e in
    ap (λ w. read_from w words) (next_file word rows (file ∷ files) parts.0) ∙ files_read rows file (files ++ word ∷ []) words none parts.1
    ∙ ap (λ fs. rows ++ file_rows (file ∷ fs)) (append_assoc files (word ∷ []) words)

only_files_read : (rows : List Row) (pending : Pending) (words : List Text) → is_filing pending ≡ false → has_row (codes "files") (settled_rows rules pending rows) ≡ false → list_all is_file words ≡ true
    → read_from (resting rows pending) words ≡ settled_rows rules pending rows ++ file_rows words
only_files_read rows pending [] not_filing none e = sym (append-nil (settled_rows rules pending rows))
only_files_read rows pending (word ∷ words) not_filing none e =
    let parts = both (is_file word) (list_all is_file words) e in
    ap (λ w. read_from w words) (first_file word rows pending parts.0 not_filing) ∙ files_read (settled_rows rules pending rows) word [] words none parts.1

-- a word that is a setting is `--map` or `--name=value`
pub one_word_is : (word : List ℕ) (s : GivenOption) → in_one_word word ≡ Some s → (Q : List ℕ → GivenOption → Type 0) → Q (codes "--map") (record { name = codes "--map"; value = [] })
    → ((name value : List ℕ) → takes_value name ≡ true → Q (name ++ 61 ∷ value) (record { name = name; value = value })) → Q word s
one_word_is word s e Q of_map of_value = go (bytes_eq word (codes "--map")) refl e
  where
    kept : (t : GivenOption) (c : Bool) → takes_value t.name ≡ c → word ≡ t.name ++ 61 ∷ t.value → cond c (Some t) None ≡ Some s → Q word s
    kept t true takes is same =
        let mine : t ≡ s = cc in
        subst (Q word) mine (subst (λ w. Q w t) (sym is) (of_value t.name t.value takes))
    kept t false takes is same = cc

    split : (c : Bool) → nat_lt (position_or_len is_equals word) (length word) ≡ c
        → option_and_then if_takes_value (cond c (Some (record { name = before_first is_equals word; value = after_first is_equals word })) None) ≡ Some s → Q word s
    split true within same =
        let inside : position_or_len is_equals word < length word = ltb-true _ _ within in
        let mark : get_or word (position_or_len is_equals word) 0 ≡ 61 = eqb-true _ _ (passes_at_first is_equals word 0 inside) in
        let whole : word ≡ before_first is_equals word ++ 61 ∷ after_first is_equals word = split_at_first is_equals word 0 inside ∙ ap (λ b. before_first is_equals word ++ b ∷ after_first is_equals word) mark in
        kept (record { name = before_first is_equals word; value = after_first is_equals word }) (takes_value (before_first is_equals word)) refl whole same
    split false within same = cc

    go : (c : Bool) → bytes_eq word (codes "--map") ≡ c → cond c (Some (record { name = word; value = [] })) (option_and_then if_takes_value (at_equals word)) ≡ Some s → Q word s
    go true is same =
        let word_is : word ≡ codes "--map" = same_bytes word (codes "--map") is in
        let mine : record { name = word; value = [] } ≡ s = cc in
        subst (Q word) mine (subst (λ w. Q w (record { name = w; value = [] })) (sym word_is) of_map)
    go false is same = split (nat_lt (position_or_len is_equals word) (length word)) refl same

pub two_words_are : (name value : List ℕ) (s : GivenOption) → in_two_words name value ≡ Some s → (Q : GivenOption → Type 0) → (takes_value name ≡ true → has_dash value ≡ false → Q (record { name = name; value = value })) → Q s
two_words_are name value s e Q of_value = go (takes_value name) (has_dash value) refl refl e
  where
    go : (c d : Bool) → takes_value name ≡ c → has_dash value ≡ d → cond (c && not d) (Some (record { name = name; value = value })) None ≡ Some s → Q s
    go true true takes plain same = cc
    go true false takes plain same =
        let mine : record { name = name; value = value } ≡ s = cc in
        subst Q mine (of_value takes plain)
    go false d takes plain same = cc

-- a setting in one word
pub one_word : (word : List ℕ) (s : GivenOption) (rows : List Row) (pending : Pending) → in_one_word word ≡ Some s
    → (is_option s.name ≡ true) × (step (resting rows pending) word ≡ resting (used_by s (settled_rows rules pending rows)) None)
one_word word s rows pending e =
    let Q : List ℕ → GivenOption → Type 0 = λ w t. (is_option t.name ≡ true) × (step (resting rows pending) w ≡ resting (used_by t (settled_rows rules pending rows)) None) in
    one_word_is word s e Q (refl, flag rows pending) (λ name value takes. (ap (λ b. b || is_map name) takes, joined name value rows pending takes))

-- a setting in two words
pub two_words : (name value : List ℕ) (s : GivenOption) (rows : List Row) (pending : Pending) → in_two_words name value ≡ Some s
    → (is_option s.name ≡ true) × (step (step (resting rows pending) name) value ≡ resting (settled_rows rules pending rows) (Some (drop 2 s.name, s.value ∷ [])))
    × ((more : List Row) → settled_rows rules (Some (drop 2 s.name, s.value ∷ [])) more ≡ used_by s more)
two_words name value s rows pending e =
    let Q : GivenOption → Type 0 = λ t. (is_option t.name ≡ true) × (step (step (resting rows pending) name) value ≡ resting (settled_rows rules pending rows) (Some (drop 2 t.name, t.value ∷ [])))
    × ((more : List Row) → settled_rows rules (Some (drop 2 t.name, t.value ∷ [])) more ≡ used_by t more) in
    two_words_are name value s e Q (λ takes plain. (ap (λ b. b || is_map name) takes, apart name value rows pending takes plain, λ more. apart_settled name value more takes))

bytes_eq-sym : (xs ys : List ℕ) → bytes_eq xs ys ≡ bytes_eq ys xs
bytes_eq-sym xs ys =
    let back = bytes_eq-Decides ys xs in
    same_from_decides (bytes_eq xs ys) (bytes_eq ys xs) (bytes_eq-Decides xs ys) (λ e. sym (back.0 e), λ p. back.1 (sym p))

-- a name without a value is the name of no setting
other_name : (name : List ℕ) (ss : List GivenOption) (s : GivenOption) (rest : List GivenOption) → is_some (value_of name (ss ++ s ∷ rest)) ≡ false → bytes_eq s.name name ≡ false
other_name name [] s rest e = go (bytes_eq s.name name) e
  where
    go : (b : Bool) → is_some (cond b (Some s.value) (value_of name rest)) ≡ false → b ≡ false
    go true wrong = let bad : true ≡ false = wrong in cc
    go false right = refl
other_name name (t ∷ ss) s rest e = go (bytes_eq t.name name) e (λ h. other_name name ss s rest h)
  where
    go : (b : Bool) → is_some (cond b (Some t.value) (value_of name (ss ++ s ∷ rest))) ≡ false → (is_some (value_of name (ss ++ s ∷ rest)) ≡ false → bytes_eq s.name name ≡ false) → bytes_eq s.name name ≡ false
    go true wrong next = let bad : true ≡ false = wrong in cc
    go false right next = next right

single_new : (ss : List GivenOption) (s : GivenOption) (rest : List GivenOption) → are_single (ss ++ s ∷ rest) ≡ true → is_some (value_of s.name ss) ≡ false
single_new [] s rest e = refl
single_new (t ∷ ss) s rest e =
    let parts = both (not (is_some (value_of t.name (ss ++ s ∷ rest)))) (are_single (ss ++ s ∷ rest)) e in
    let other : bytes_eq t.name s.name ≡ false = bytes_eq-sym t.name s.name ∙ other_name t.name ss s rest (not_false _ parts.0) in
    ap (λ b. is_some (cond b (Some t.value) (value_of s.name ss))) other ∙ single_new ss s rest parts.1

pub options_more : (ss : List GivenOption) (s : GivenOption) → are_options ss ≡ true → is_option s.name ≡ true → are_options (ss ++ s ∷ []) ≡ true
options_more [] s all one = ap (λ b. b && true) one
options_more (t ∷ ss) s all one =
    let parts = both (is_option t.name) (are_options ss) all in
    ap (λ b. b && are_options (ss ++ s ∷ [])) parts.0 ∙ options_more ss s parts.1 one

pub is_new : (ss : List GivenOption) (s : GivenOption) (rest : List GivenOption) → is_option s.name ≡ true → are_options ss ≡ true → are_single (ss ++ s ∷ rest) ≡ true → has_row (drop 2 s.name) (map row_for ss) ≡ false
is_new ss s rest one all single = has_row_for s.name ss one all ∙ single_new ss s rest single

pub grown : (ss : List GivenOption) (s : GivenOption) (rest : List GivenOption) → is_option s.name ≡ true → are_options ss ≡ true → are_single (ss ++ s ∷ rest) ≡ true → used_by s (map row_for ss) ≡ map row_for (ss ++ s ∷ [])
grown ss s rest one all single = used_new s (map row_for ss) one (is_new ss s rest one all single) ∙ sym (map-append row_for ss (s ∷ []))

pub record Read (ss : List GivenOption) (from : Walk) (words : List Text) (l : Line) : Type 0 where
  pub options : are_options (ss ++ l.settings) ≡ true
  pub rows : read_from from words ≡ map row_for (ss ++ l.settings) ++ file_rows l.files

abbrev pub Reads : List Text → Type 0
Reads words = (ss : List GivenOption) (rows : List Row) (pending : Pending) (l : Line) → is_filing pending ≡ false → are_options ss ≡ true
    → are_single (ss ++ l.settings) ≡ true → rows_at (resting rows pending) ≡ map row_for ss → split_line words ≡ Some l → Read ss (resting rows pending) words l

ended : (words : List Text) (ss : List GivenOption) (rows : List Row) (pending : Pending) (l : Line) → is_filing pending ≡ false → are_options ss ≡ true
    → rows_at (resting rows pending) ≡ map row_for ss → only_files words ≡ Some l → Read ss (resting rows pending) words l
ended words ss rows pending l not_filing all is e = go (list_all is_file words) refl e
  where
    go : (b : Bool) → list_all is_file words ≡ b → cond b (Some (record { settings = []; files = words })) None ≡ Some l → Read ss (resting rows pending) words l
    go true files same =
        let mine : record { settings = []; files = words } ≡ l = cc in
        let none : has_row (codes "files") (settled_rows rules pending rows) ≡ false = ap (has_row (codes "files")) is ∙ no_files_row ss all in
        let whole : ss ++ [] ≡ ss = append-nil ss in
        subst (Read ss (resting rows pending) words) mine (record {
          options = ap are_options whole ∙ all;
          rows = only_files_read rows pending words not_filing none files ∙ ap (λ rs. rs ++ file_rows words) (is ∙ ap (map row_for) (sym whole));
        })
    go false files same = cc

onward : (words : List Text) → Reads words → (ss : List GivenOption) (old rows : List Row) (pending : Pending) (s : GivenOption) (m : Line) → is_filing pending ≡ false → is_option s.name ≡ true → are_options ss ≡ true
    → are_single (ss ++ s ∷ m.settings) ≡ true → old ≡ map row_for ss → rows_at (resting rows pending) ≡ used_by s old → split_line words ≡ Some m
    → Read ss (resting rows pending) words (with_setting s m)
onward words reads ss old rows pending s m not_filing one all single is used e =
    let more : (ss ++ s ∷ []) ++ m.settings ≡ ss ++ s ∷ m.settings = append_assoc ss (s ∷ []) m.settings in
    let now : rows_at (resting rows pending) ≡ map row_for (ss ++ s ∷ []) = used ∙ ap (used_by s) is ∙ grown ss s m.settings one all single in
    let next = reads (ss ++ s ∷ []) rows pending m not_filing (options_more ss s all one) (ap are_single more ∙ single) now e in
    record {
      options = ap are_options (sym more) ∙ next.options;
      rows = next.rows ∙ ap (λ all_of. map row_for all_of ++ file_rows m.files) more;
    }

-- a command line with a setting comes from the one after the setting
pub line_after : (o : Option Line) (s : GivenOption) (l : Line) → option_map (with_setting s) o ≡ Some l → (m : Line) × (o ≡ Some m) × (with_setting s m ≡ l)
line_after None s l e = cc
line_after (Some m) s l e = (m, refl, cc)

with_one : (word : Text) (words : List Text) → Reads words → (s : GivenOption) → in_one_word word ≡ Some s → (ss : List GivenOption) (rows : List Row) (pending : Pending) (l : Line) → are_options ss ≡ true
    → are_single (ss ++ l.settings) ≡ true → rows_at (resting rows pending) ≡ map row_for ss → option_map (with_setting s) (split_line words) ≡ Some l → Read ss (resting rows pending) (word ∷ words) l
with_one word words reads s given ss rows pending l all single is e =
    let rest = line_after (split_line words) s l e in
    let m : Line = rest.0 in
    let line_is : with_setting s m ≡ l = rest.2 in
    let met = one_word word s rows pending given in
    let next = onward words reads ss (settled_rows rules pending rows) (used_by s (settled_rows rules pending rows)) None s m refl met.0 all (ap (λ k. are_single (ss ++ k.settings)) line_is ∙ single) is refl rest.1 in
    subst (Read ss (resting rows pending) (word ∷ words)) line_is (record { options = next.options; rows = ap (λ w. read_from w words) met.1 ∙ next.rows })

pub no_file_option : (name : List ℕ) → is_option name ≡ true → bytes_eq (drop 2 name) (codes "files") ≡ false
no_file_option name e = option_cases (λ word. bytes_eq (drop 2 word) (codes "files") ≡ false) name e refl refl refl refl refl

with_two : (name value : Text) (words : List Text) → Reads words → (s : GivenOption) → in_two_words name value ≡ Some s → (ss : List GivenOption) (rows : List Row) (pending : Pending) (l : Line) → are_options ss ≡ true
    → are_single (ss ++ l.settings) ≡ true → rows_at (resting rows pending) ≡ map row_for ss → option_map (with_setting s) (split_line words) ≡ Some l → Read ss (resting rows pending) (name ∷ value ∷ words) l
with_two name value words reads s given ss rows pending l all single is e =
    let rest = line_after (split_line words) s l e in
    let m : Line = rest.0 in
    let line_is : with_setting s m ≡ l = rest.2 in
    let met = two_words name value s rows pending given in
    let next = onward words reads ss (settled_rows rules pending rows) (settled_rows rules pending rows) (Some (drop 2 s.name, s.value ∷ [])) s m (no_file_option s.name met.0) met.0 all (ap (λ k. are_single (ss ++ k.settings)) line_is ∙ single) is (met.2 _) rest.1 in
    subst (Read ss (resting rows pending) (name ∷ value ∷ words)) line_is (record { options = next.options; rows = ap (λ w. read_from w words) met.1 ∙ next.rows })

-- clap reads the words as they are split
pub reads : (words : List Text) → Reads words
reads [] ss rows pending l not_filing all single is e = ended [] ss rows pending l not_filing all is e
reads (word ∷ []) ss rows pending l not_filing all single is e = go (in_one_word word) refl e (reads [])
  where
    go : (o : Option GivenOption) → in_one_word word ≡ o → setting_or o (split_line []) (only_files (word ∷ [])) ≡ Some l → Reads [] → Read ss (resting rows pending) (word ∷ []) l
    go (Some s) given same none = with_one word [] none s given ss rows pending l all single is same
    go None given same none = ended (word ∷ []) ss rows pending l not_filing all is same
reads (word ∷ next ∷ words) ss rows pending l not_filing all single is e = go (in_one_word word) refl e (reads (next ∷ words)) (reads words)
  where
    second : (o : Option GivenOption) → in_two_words word next ≡ o → setting_or o (split_line words) (only_files (word ∷ next ∷ words)) ≡ Some l → Reads words → Read ss (resting rows pending) (word ∷ next ∷ words) l
    second (Some s) given same rest = with_two word next words rest s given ss rows pending l all single is same
    second None given same rest = ended (word ∷ next ∷ words) ss rows pending l not_filing all is same

    go : (o : Option GivenOption) → in_one_word word ≡ o → setting_or o (split_line (next ∷ words)) (setting_or (in_two_words word next) (split_line words) (only_files (word ∷ next ∷ words))) ≡ Some l
        → Reads (next ∷ words) → Reads words → Read ss (resting rows pending) (word ∷ next ∷ words) l
    go (Some s) given same others rest = with_one word (next ∷ words) others s given ss rows pending l all single is same
    go None given same others rest = second (in_two_words word next) refl same rest
