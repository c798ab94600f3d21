-- clap accepts words that are options, each given once, and then files.
use Rattle.std.proofs.Common.{◌≡◌, refl, ◌∙◌, sym, ap, subst, cond, arith, ℕ, ◌+◌, ◌≤◌, Bool, true, false, ◌&&◌, not, nat_lt, nat_le, List, [], ◌∷◌, ◌++◌, map, drop, length, codes, nat_eq, append_assoc, length-append, le-leb}
use Rattle.std.specs.Prelude.{Option, None, Some, is_some, option_map}
use Rattle.std.specs.List.{list_all, fold}
use Rattle.std.specs.Str.{bytes_eq}
use Rattle.clap.specs.Walk.{Row, Text, Walk, has_row, settled_rows, walked}
use Rattle.clap.specs.Simple.{Shape, built}
use Rattle.clap.specs.Takes.{settle_passes, takes, turn_passes, walk_passes}
use Rattle.clap.proofs.OnLiterals.{clap_on_literals}
use Rattle.command_line.specs.Words.{GivenOption, Line, are_single, split_line, has_dash, in_one_word, in_two_words, is_file, line_of_words, only_files, setting_or, takes_value, with_setting}
use Rattle.command_line.specs.Reader.{reader}
use Rattle.command_line.proofs.Options.{are_options, row_for, used_by, valued_cases}
use Rattle.command_line.proofs.Settings.{line_parts}
use Rattle.command_line.proofs.Walks.{Pending, line_after, both, not_false, filing, first_file, grown, is_filing, is_new, next_file, no_file_option, one_word, one_word_is, options_more, resting, rows_at, rules, step, two_words, two_words_are}

abbrev top : Shape
top = (built reader).top

abbrev settles : Walk → Bool
settles w = settle_passes rules false w.held

abbrev turns : Walk → Text → Bool
turns w word = turn_passes top [] w word

-- the words are accepted from this state on
pub record Taken (from : Walk) (words : List Text) : Type 0 where
  pub passes : walk_passes top [] from words ≡ true
  pub stopped : (fold (walked rules []) from words).stopped ≡ None
  pub settled : settles (fold (walked rules []) from words) ≡ true

no_words : (w : Walk) → walk_passes top [] w [] ≡ true
unfolding walk_passes
no_words w = refl

one_word_more : (w : Walk) (word : Text) (words : List Text) → turns w word ≡ true → walk_passes top [] (step w word) words ≡ true → walk_passes top [] w (word ∷ words) ≡ true
unfolding walk_passes
one_word_more w word words turn rest = ap (λ b. b && walk_passes top [] (step w word) words) turn ∙ rest

nothing_more : (w : Walk) → w.stopped ≡ None → settles w ≡ true → Taken w []
nothing_more w stopped settled = record { passes = no_words w; stopped = stopped; settled = settled }

one_more : (w : Walk) (word : Text) (words : List Text) → turns w word ≡ true → Taken (step w word) words → Taken w (word ∷ words)
one_more w word words turn rest = record { passes = one_word_more w word words turn rest.passes; stopped = rest.stopped; settled = rest.settled }

joined_turn : (name value : List ℕ) (rows : List Row) (pending : Pending) → takes_value name ≡ true → settles (resting rows pending) ≡ true → has_row (drop 2 name) (settled_rows rules pending rows) ≡ false
    → turns (resting rows pending) (name ++ 61 ∷ value) ≡ true
unfolding clap_on_literals
joined_turn name value rows pending e settled new =
    let P : List ℕ → Type 0 = λ word. has_row (drop 2 word) (settled_rows rules pending rows) ≡ false → turns (resting rows pending) (word ++ 61 ∷ value) ≡ true in
    valued_cases P name e (λ none. simp (settled, none)) (λ none. simp (settled, none)) (λ none. simp (settled, none)) (λ none. simp (settled, none)) new

flag_turn : (rows : List Row) (pending : Pending) → settles (resting rows pending) ≡ true → has_row (codes "map") (settled_rows rules pending rows) ≡ false → turns (resting rows pending) (codes "--map") ≡ true
unfolding clap_on_literals
flag_turn rows pending settled new = simp (settled, new)

name_turn : (name : List ℕ) (rows : List Row) (pending : Pending) → takes_value name ≡ true → settles (resting rows pending) ≡ true → turns (resting rows pending) name ≡ true
unfolding clap_on_literals
name_turn name rows pending e settled =
    let P : List ℕ → Type 0 = λ word. turns (resting rows pending) word ≡ true in
    valued_cases P name e (simp settled) (simp settled) (simp settled) (simp settled)

value_turn : (name value : List ℕ) (rows : List Row) (pending : Pending) → takes_value name ≡ true → has_dash value ≡ false → turns (step (resting rows pending) name) value ≡ true
unfolding clap_on_literals
value_turn name [] rows pending e plain =
    let P : List ℕ → Type 0 = λ word. turns (step (resting rows pending) word) [] ≡ true in
    valued_cases P name e refl refl refl refl
value_turn name (b ∷ bs) rows pending e plain =
    let dash : nat_eq b 45 ≡ false = plain in
    let P : List ℕ → Type 0 = λ word. turns (step (resting rows pending) word) (b ∷ bs) ≡ true in
    valued_cases P name e (simp dash) (simp dash) (simp dash) (simp dash)

apart_settles : (name value : List ℕ) (rows : List Row) → takes_value name ≡ true → has_row (drop 2 name) rows ≡ false → settles (resting rows (Some (drop 2 name, value ∷ []))) ≡ true
apart_settles name value rows e new =
    let P : List ℕ → Type 0 = λ word. has_row (drop 2 word) rows ≡ false → settles (resting rows (Some (drop 2 word, value ∷ []))) ≡ true in
    valued_cases P name e (λ none. simp none) (λ none. simp none) (λ none. simp none) (λ none. simp none) new

first_turn : (file : List ℕ) (rows : List Row) (pending : Pending) → is_file file ≡ true → is_filing pending ≡ false → settles (resting rows pending) ≡ true → turns (resting rows pending) file ≡ true
unfolding clap_on_literals
first_turn [] rows pending e not_filing settled = let bad : false ≡ true = e in cc
first_turn (b ∷ bs) rows None e not_filing settled =
    let dash : nat_eq b 45 ≡ false = not_false (nat_eq b 45) (both (nat_lt 0 (length (b ∷ bs))) (not (nat_eq b 45)) e).1 in
    simp dash
first_turn (b ∷ bs) rows (Some p) e not_filing settled =
    let dash : nat_eq b 45 ≡ false = not_false (nat_eq b 45) (both (nat_lt 0 (length (b ∷ bs))) (not (nat_eq b 45)) e).1 in
    let other : bytes_eq p.0 (codes "files") ≡ false = not_filing in
    simp (dash, other, settled)

next_turn : (file : List ℕ) (rows : List Row) (files : List Text) → is_file file ≡ true → turns (filing rows files) file ≡ true
unfolding clap_on_literals
next_turn [] rows files e = let bad : false ≡ true = e in cc
next_turn (b ∷ bs) rows files e =
    let dash : nat_eq b 45 ≡ false = not_false (nat_eq b 45) (both (nat_lt 0 (length (b ∷ bs))) (not (nat_eq b 45)) e).1 in
    simp dash

every : (files : List Text) → list_all (λ file. true) files ≡ true
every [] = refl
every (file ∷ files) = every files

filing_settles : (rows : List Row) (file : Text) (files : List Text) → length (file ∷ files) ≤ 18446744073709551615 → settles (filing rows (file ∷ files)) ≡ true
filing_settles rows file files few =
    let some : nat_le 1 (length (file ∷ files)) ≡ true = le-leb 1 (length (file ∷ files)) (omega arith) in
    let most : nat_le (length (file ∷ files)) 18446744073709551615 ≡ true = le-leb (length (file ∷ files)) 18446744073709551615 few in
    let all : list_all (λ f. true) files ≡ true = every files in
    simp (some, most, all)

-- the length of a list fits in 64 bits
abbrev IsFew : ℕ → Type 0
IsFew n = n ≤ 18446744073709551615

files_taken : (rows : List Row) (file : Text) (files words : List Text) → list_all is_file words ≡ true → IsFew (length (file ∷ files) + length words) → Taken (filing rows (file ∷ files)) words
files_taken rows file files [] e few = nothing_more (filing rows (file ∷ files)) refl (filing_settles rows file files (omega arith))
files_taken rows file files (word ∷ words) e few =
    let parts = both (is_file word) (list_all is_file words) e in
    let fewer : IsFew (length (file ∷ (files ++ word ∷ [])) + length words) = omega (arith, length-append files (word ∷ [])) in
    one_more (filing rows (file ∷ files)) word words (next_turn word rows (file ∷ files) parts.0)
    (subst (λ w. Taken w words) (sym (next_file word rows (file ∷ files) parts.0)) (files_taken rows file (files ++ word ∷ []) words parts.1 fewer))

only_files_taken : (rows : List Row) (pending : Pending) (words : List Text) → is_filing pending ≡ false → settles (resting rows pending) ≡ true → list_all is_file words ≡ true → IsFew (length words) → Taken (resting rows pending) words
only_files_taken rows pending [] not_filing settled e few = nothing_more (resting rows pending) refl settled
only_files_taken rows pending (word ∷ words) not_filing settled e few =
    let parts = both (is_file word) (list_all is_file words) e in
    let fewer : IsFew (length (word ∷ []) + length words) = omega arith in
    one_more (resting rows pending) word words (first_turn word rows pending parts.0 not_filing settled)
    (subst (λ w. Taken w words) (sym (first_file word rows pending parts.0 not_filing)) (files_taken (settled_rows rules pending rows) word [] words parts.1 fewer))

abbrev Takes : List Text → Type 0
Takes words = (ss : List GivenOption) (rows : List Row) (pending : Pending) (l : Line) → is_filing pending ≡ false → are_options ss ≡ true → are_single (ss ++ l.settings) ≡ true
    → rows_at (resting rows pending) ≡ map row_for ss → settles (resting rows pending) ≡ true → IsFew (length words) → split_line words ≡ Some l → Taken (resting rows pending) words

ended : (words : List Text) (rows : List Row) (pending : Pending) (l : Line) → is_filing pending ≡ false → settles (resting rows pending) ≡ true → IsFew (length words) → only_files words ≡ Some l → Taken (resting rows pending) words
ended words rows pending l not_filing settled few e = go (list_all is_file words) refl e
  where
    go : (b : Bool) → list_all is_file words ≡ b → cond b (Some (record { settings = []; files = words })) None ≡ Some l → Taken (resting rows pending) words
    go true files same = only_files_taken rows pending words not_filing settled files few
    go false files same = cc

one_word_turn : (word : List ℕ) (s : GivenOption) (rows : List Row) (pending : Pending) → in_one_word word ≡ Some s → settles (resting rows pending) ≡ true → has_row (drop 2 s.name) (settled_rows rules pending rows) ≡ false
    → turns (resting rows pending) word ≡ true
one_word_turn word s rows pending e settled new =
    let Q : List ℕ → GivenOption → Type 0 = λ w t. has_row (drop 2 t.name) (settled_rows rules pending rows) ≡ false → turns (resting rows pending) w ≡ true in
    one_word_is word s e Q (λ none. flag_turn rows pending settled none) (λ name value takes none. joined_turn name value rows pending takes settled none) new

with_one : (word : Text) (words : List Text) → Takes words → (s : GivenOption) → in_one_word word ≡ Some s → (ss : List GivenOption) (rows : List Row) (pending : Pending) (l : Line) → are_options ss ≡ true
    → are_single (ss ++ l.settings) ≡ true → rows_at (resting rows pending) ≡ map row_for ss → settles (resting rows pending) ≡ true → IsFew (length (word ∷ words)) → option_map (with_setting s) (split_line words) ≡ Some l
    → Taken (resting rows pending) (word ∷ words)
with_one word words takes_rest s given ss rows pending l all single is settled few e =
    let rest = line_after (split_line words) s l e in
    let m : Line = rest.0 in
    let alone : are_single (ss ++ s ∷ m.settings) ≡ true = ap (λ k. are_single (ss ++ k.settings)) rest.2 ∙ single in
    let met = one_word word s rows pending given in
    let new : has_row (drop 2 s.name) (settled_rows rules pending rows) ≡ false = ap (has_row (drop 2 s.name)) is ∙ is_new ss s m.settings met.0 all alone in
    let now : used_by s (settled_rows rules pending rows) ≡ map row_for (ss ++ s ∷ []) = ap (used_by s) is ∙ grown ss s m.settings met.0 all alone in
    let fewer : IsFew (length words) = omega arith in
    let next : Taken (resting (used_by s (settled_rows rules pending rows)) None) words =
    takes_rest (ss ++ s ∷ []) (used_by s (settled_rows rules pending rows)) None m refl (options_more ss s all met.0) (ap are_single (append_assoc ss (s ∷ []) m.settings) ∙ alone) now refl fewer rest.1 in
    one_more (resting rows pending) word words (one_word_turn word s rows pending given settled new) (subst (λ w. Taken w words) (sym met.1) next)

with_two : (name value : Text) (words : List Text) → Takes words → (s : GivenOption) → in_two_words name value ≡ Some s → (ss : List GivenOption) (rows : List Row) (pending : Pending) (l : Line) → are_options ss ≡ true
    → are_single (ss ++ l.settings) ≡ true → rows_at (resting rows pending) ≡ map row_for ss → settles (resting rows pending) ≡ true → IsFew (length (name ∷ value ∷ words)) → option_map (with_setting s) (split_line words) ≡ Some l
    → Taken (resting rows pending) (name ∷ value ∷ words)
with_two name value words takes_rest s given ss rows pending l all single is settled few e =
    let rest = line_after (split_line words) s l e in
    let m : Line = rest.0 in
    let alone : are_single (ss ++ s ∷ m.settings) ≡ true = ap (λ k. are_single (ss ++ k.settings)) rest.2 ∙ single in
    let met = two_words name value s rows pending given in
    let new : has_row (drop 2 s.name) (settled_rows rules pending rows) ≡ false = ap (has_row (drop 2 s.name)) is ∙ is_new ss s m.settings met.0 all alone in
    let now : settled_rows rules (Some (drop 2 s.name, s.value ∷ [])) (settled_rows rules pending rows) ≡ map row_for (ss ++ s ∷ []) = met.2 _ ∙ ap (used_by s) is ∙ grown ss s m.settings met.0 all alone in
    let fewer : IsFew (length words) = omega arith in
    let S : GivenOption → Type 0 = λ t. has_row (drop 2 t.name) (settled_rows rules pending rows) ≡ false → settles (resting (settled_rows rules pending rows) (Some (drop 2 t.name, t.value ∷ []))) ≡ true in
    let settled_next = two_words_are name value s given S (λ takes plain none. apart_settles name value (settled_rows rules pending rows) takes none) new in
    let next : Taken (resting (settled_rows rules pending rows) (Some (drop 2 s.name, s.value ∷ []))) words =
    takes_rest (ss ++ s ∷ []) (settled_rows rules pending rows) (Some (drop 2 s.name, s.value ∷ [])) m (no_file_option s.name met.0) (options_more ss s all met.0)
    (ap are_single (append_assoc ss (s ∷ []) m.settings) ∙ alone) now settled_next fewer rest.1 in
    let first : turns (resting rows pending) name ≡ true = two_words_are name value s given (λ t. turns (resting rows pending) name ≡ true) (λ takes plain. name_turn name rows pending takes settled) in
    let second : turns (step (resting rows pending) name) value ≡ true = two_words_are name value s given (λ t. turns (step (resting rows pending) name) value ≡ true) (λ takes plain. value_turn name value rows pending takes plain) in
    one_more (resting rows pending) name (value ∷ words) first (one_more (step (resting rows pending) name) value words second (subst (λ w. Taken w words) (sym met.1) next))

all_taken : (words : List Text) → Takes words
all_taken [] ss rows pending l not_filing all single is settled few e = ended [] rows pending l not_filing settled few e
all_taken (word ∷ []) ss rows pending l not_filing all single is settled few e = go (in_one_word word) refl e (all_taken [])
  where
    go : (o : Option GivenOption) → in_one_word word ≡ o → setting_or o (split_line []) (only_files (word ∷ [])) ≡ Some l → Takes [] → Taken (resting rows pending) (word ∷ [])
    go (Some s) given same none = with_one word [] none s given ss rows pending l all single is settled few same
    go None given same none = ended (word ∷ []) rows pending l not_filing settled few same
all_taken (word ∷ next ∷ words) ss rows pending l not_filing all single is settled few e = go (in_one_word word) refl e (all_taken (next ∷ words)) (all_taken words)
  where
    second : (o : Option GivenOption) → in_two_words word next ≡ o → setting_or o (split_line words) (only_files (word ∷ next ∷ words)) ≡ Some l → Takes words → Taken (resting rows pending) (word ∷ next ∷ words)
    second (Some s) given same rest = with_two word next words rest s given ss rows pending l all single is settled few same
    second None given same rest = ended (word ∷ next ∷ words) rows pending l not_filing settled few same

    go : (o : Option GivenOption) → in_one_word word ≡ o → setting_or o (split_line (next ∷ words)) (setting_or (in_two_words word next) (split_line words) (only_files (word ∷ next ∷ words))) ≡ Some l
        → Takes (next ∷ words) → Takes words → Taken (resting rows pending) (word ∷ next ∷ words)
    go (Some s) given same others rest = with_one word (next ∷ words) others s given ss rows pending l all single is settled few same
    go None given same others rest = second (in_two_words word next) refl same rest

split_taken : (words : List Text) (l : Line) → split_line words ≡ Some l → are_single l.settings ≡ true → IsFew (length words) → takes reader words ≡ true
split_taken words l e single few =
    let all = all_taken words [] [] None l refl refl single refl refl few e in
    let stopped : (fold (walked rules []) (resting [] None) words).stopped ≡ None = all.stopped in
    let passes : walk_passes top [] (resting [] None) words ≡ true = all.passes in
    let settled : settle_passes rules false (fold (walked rules []) (resting [] None) words).held ≡ true = all.settled in
    simp (stopped, passes, settled)

-- words that are options, each given once, and then files are accepted
pub taken : (words : List Text) → is_some (line_of_words words) ≡ true → IsFew (length words) → takes reader words ≡ true
taken words e few = go (line_of_words words) refl e
  where
    go : (o : Option Line) → line_of_words words ≡ o → is_some o ≡ true → takes reader words ≡ true
    go None is there = let bad : false ≡ true = there in cc
    go (Some l) is there =
        let parts = line_parts words l is in
        split_taken words l parts.0 parts.1 few
