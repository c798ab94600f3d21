-- Words are split into the settings and files that they spell.
use Rattle.std.proofs.Common.{◌≡◌, refl, ◌∙◌, sym, ap, ap₂, subst, cond, ℕ, Bool, true, false, ◌&&◌, not, nat_lt, List, [], ◌∷◌, ◌++◌, length, codes, inl, inr, arith, lt-ltb}
use Rattle.std.specs.Prelude.{Option, None, Some, option_map, option_and_then}
use Rattle.std.specs.List.{list_all}
use Rattle.command_line.specs.Words.{GivenOption, Line, split_line, has_dash, if_takes_value, in_one_word, in_two_words, is_file, only_files, setting_or, takes_value, with_setting}
use Rattle.command_line.specs.Spelling.{Spells, SpellsLine}
use Rattle.command_line.proofs.Options.{valued_cases}
use Rattle.command_line.proofs.Walks.{line_after, both, not_false, one_word_is, two_words_are}

-- ---- words that are split spell the result

spelled_one : (word : List ℕ) (s : GivenOption) → in_one_word word ≡ Some s → Spells s (word ∷ [])
spelled_one word s e =
    one_word_is word s e (λ w t. Spells t (w ∷ [])) (inl (record { name = refl; value = refl; words_are = refl }))
    (λ name value takes. inr (inl (record { name = takes; words_are = refl })))

spelled_two : (name value : List ℕ) (s : GivenOption) → in_two_words name value ≡ Some s → Spells s (name ∷ value ∷ [])
spelled_two name value s e = two_words_are name value s e (λ t. Spells t (name ∷ value ∷ [])) (λ takes plain. inr (inr (record { name = takes; value = plain; words_are = refl })))

abbrev IsSpelled : Line → List (List ℕ) → Type 0
IsSpelled l words = SpellsLine l.settings l.files words

spelled_files : (words : List (List ℕ)) (l : Line) → only_files words ≡ Some l → IsSpelled l words
spelled_files words l e = go (list_all is_file words) refl e
  where
    go : (b : Bool) → list_all is_file words ≡ b → cond b (Some (record { settings = []; files = words })) None ≡ Some l → IsSpelled l words
    go true files same =
        let mine : record { settings = []; files = words } ≡ l = cc in
        subst (λ k. IsSpelled k words) mine (refl, files)
    go false files same = cc

spelled_first : (first rest : List (List ℕ)) (s : GivenOption) (l : Line) → Spells s first → option_map (with_setting s) (split_line rest) ≡ Some l → ((m : Line) → split_line rest ≡ Some m → IsSpelled m rest) → IsSpelled l (first ++ rest)
spelled_first first rest s l spells e next =
    let found = line_after (split_line rest) s l e in
    let m : Line = found.0 in
    subst (λ k. IsSpelled k (first ++ rest)) found.2 (first, rest, spells, next m found.1, refl)

pub spelled : (words : List (List ℕ)) (l : Line) → split_line words ≡ Some l → IsSpelled l words
spelled [] l e = spelled_files [] l e
spelled (word ∷ []) l e = go (in_one_word word) refl e (spelled [])
  where
    go : (o : Option GivenOption) → in_one_word word ≡ o → setting_or o (split_line []) (only_files (word ∷ [])) ≡ Some l → ((m : Line) → split_line [] ≡ Some m → IsSpelled m []) → IsSpelled l (word ∷ [])
    go (Some s) given same none = spelled_first (word ∷ []) [] s l (spelled_one word s given) same none
    go None given same none = spelled_files (word ∷ []) l same
spelled (word ∷ next ∷ words) l e = go (in_one_word word) refl e (spelled (next ∷ words)) (spelled words)
  where
    second : (o : Option GivenOption) → in_two_words word next ≡ o → setting_or o (split_line words) (only_files (word ∷ next ∷ words)) ≡ Some l → ((m : Line) → split_line words ≡ Some m → IsSpelled m words) → IsSpelled l (word ∷ next ∷ words)
    second (Some s) given same rest = spelled_first (word ∷ next ∷ []) words s l (spelled_two word next s given) same rest
    second None given same rest = spelled_files (word ∷ next ∷ words) l same

    go : (o : Option GivenOption) → in_one_word word ≡ o → setting_or o (split_line (next ∷ words)) (setting_or (in_two_words word next) (split_line words) (only_files (word ∷ next ∷ words))) ≡ Some l
        → ((m : Line) → split_line (next ∷ words) ≡ Some m → IsSpelled m (next ∷ words)) → ((m : Line) → split_line words ≡ Some m → IsSpelled m words) → IsSpelled l (word ∷ next ∷ words)
    go (Some s) given same others rest = spelled_first (word ∷ []) (next ∷ words) s l (spelled_one word s given) same others
    go None given same others rest = second (in_two_words word next) refl same rest

-- ---- words that spell settings and files are split into them

dashed_name : (name : List ℕ) → takes_value name ≡ true → has_dash name ≡ true
dashed_name name e = valued_cases (λ word. has_dash word ≡ true) name e refl refl refl refl

dashed_one : (word : List ℕ) (s : GivenOption) → in_one_word word ≡ Some s → has_dash word ≡ true
dashed_one word s e =
    one_word_is word s e (λ w t. has_dash w ≡ true) refl (λ name value takes. valued_cases (λ w. has_dash (w ++ 61 ∷ value) ≡ true) name takes refl refl refl refl)

plain_file : (word : List ℕ) → is_file word ≡ true → has_dash word ≡ false
plain_file word e = not_false (has_dash word) (both (nat_lt 0 (length word)) (not (has_dash word)) e).1

no_one_word : (word : List ℕ) → has_dash word ≡ false → in_one_word word ≡ None
no_one_word word plain = go (in_one_word word) refl
  where
    go : (o : Option GivenOption) → in_one_word word ≡ o → o ≡ None
    go None is = refl
    go (Some s) is = let bad : true ≡ false = sym (dashed_one word s is) ∙ plain in cc

no_two_words : (name value : List ℕ) → has_dash name ≡ false → in_two_words name value ≡ None
no_two_words name value plain = go (in_two_words name value) refl
  where
    go : (o : Option GivenOption) → in_two_words name value ≡ o → o ≡ None
    go None is = refl
    go (Some s) is =
        let dash : has_dash name ≡ true = two_words_are name value s is (λ t. has_dash name ≡ true) (λ takes no_dash. dashed_name name takes) in
        let bad : true ≡ false = sym dash ∙ plain in cc

files_split : (words : List (List ℕ)) → list_all is_file words ≡ true → split_line words ≡ Some (record { settings = []; files = words })
files_split [] all = refl
files_split (word ∷ []) all =
    let plain = plain_file word (both (is_file word) true all).0 in
    ap (λ o. setting_or o (split_line []) (only_files (word ∷ []))) (no_one_word word plain) ∙ ap (λ b. cond b (Some (record { settings = []; files = word ∷ [] })) None) all
files_split (word ∷ next ∷ words) all =
    let plain = plain_file word (both (is_file word) (list_all is_file (next ∷ words)) all).0 in
    ap (λ o. setting_or o (split_line (next ∷ words)) (setting_or (in_two_words word next) (split_line words) (only_files (word ∷ next ∷ words)))) (no_one_word word plain)
    ∙ ap (λ o. setting_or o (split_line words) (only_files (word ∷ next ∷ words))) (no_two_words word next plain)
    ∙ ap (λ b. cond b (Some (record { settings = []; files = word ∷ next ∷ words })) None) all

one_split : (word : List ℕ) (rest : List (List ℕ)) (s : GivenOption) → in_one_word word ≡ Some s → split_line (word ∷ rest) ≡ option_map (with_setting s) (split_line rest)
one_split word [] s e = ap (λ o. setting_or o (split_line []) (only_files (word ∷ []))) e
one_split word (next ∷ words) s e = ap (λ o. setting_or o (split_line (next ∷ words)) (setting_or (in_two_words word next) (split_line words) (only_files (word ∷ next ∷ words)))) e

two_split : (name value : List ℕ) (words : List (List ℕ)) → takes_value name ≡ true → has_dash value ≡ false → split_line (name ∷ value ∷ words) ≡ option_map (with_setting (record { name = name; value = value })) (split_line words)
two_split name value words takes plain =
    let none : in_one_word name ≡ None = valued_cases (λ w. in_one_word w ≡ None) name takes refl refl refl refl in
    let some : in_two_words name value ≡ Some (record { name = name; value = value }) =
    ap (λ b. cond (b && not (has_dash value)) (Some (record { name = name; value = value })) None) takes ∙ ap (λ b. cond (not b) (Some (record { name = name; value = value })) None) plain in
    ap (λ o. setting_or o (split_line (value ∷ words)) (setting_or (in_two_words name value) (split_line words) (only_files (name ∷ value ∷ words)))) none
    ∙ ap (λ o. setting_or o (split_line words) (only_files (name ∷ value ∷ words))) some

joined_read : (name value : List ℕ) → takes_value name ≡ true → in_one_word (name ++ 61 ∷ value) ≡ Some (record { name = name; value = value })
joined_read name value e =
    let P : List ℕ → Type 0 = λ w. in_one_word (w ++ 61 ∷ value) ≡ Some (record { name = w; value = value }) in
    let at : (w : List ℕ) → Bool → Option GivenOption = λ w b. option_and_then if_takes_value (cond b (Some (record { name = w; value = value })) None) in
    let over_six : nat_lt 6 (length (codes "--plan" ++ 61 ∷ value)) ≡ true = lt-ltb 6 (length (codes "--plan" ++ 61 ∷ value)) (omega arith) in
    let over_nine : nat_lt 9 (length (codes "--workers" ++ 61 ∷ value)) ≡ true = lt-ltb 9 (length (codes "--workers" ++ 61 ∷ value)) (omega arith) in
    valued_cases P name e (ap (at (codes "--plan")) over_six) (ap (at (codes "--heap")) over_six) (ap (at (codes "--workers")) over_nine) (ap (at (codes "--make")) over_six)

first_split : (first rest : List (List ℕ)) (s : GivenOption) → Spells s first → split_line (first ++ rest) ≡ option_map (with_setting s) (split_line rest)
first_split first rest s (inl flag) =
    let of_map : split_line (codes "--map" ∷ rest) ≡ option_map (with_setting (record { name = codes "--map"; value = [] })) (split_line rest) = one_split (codes "--map") rest (record { name = codes "--map"; value = [] }) refl in
    let made : List ℕ → List ℕ → GivenOption = λ name value. record { name = name; value = value } in
    let same : made (codes "--map") [] ≡ made s.name s.value = ap₂ made (sym flag.name) (sym flag.value) in
    ap (λ f. split_line (f ++ rest)) flag.words_are ∙ of_map ∙ ap (λ t. option_map (with_setting t) (split_line rest)) same
first_split first rest s (inr (inl one)) =
    ap (λ f. split_line (f ++ rest)) one.words_are ∙ one_split (s.name ++ 61 ∷ s.value) rest s (joined_read s.name s.value one.name)
first_split first rest s (inr (inr two)) = ap (λ f. split_line (f ++ rest)) two.words_are ∙ two_split s.name s.value rest two.name two.value

pub split_of_spelled : (ss : List GivenOption) (files words : List (List ℕ)) → SpellsLine ss files words → split_line words ≡ Some (record { settings = ss; files = files })
split_of_spelled [] files words spells = ap split_line spells.0 ∙ files_split files spells.1
split_of_spelled (s ∷ ss) files words spells =
    ap split_line spells.4 ∙ first_split spells.0 spells.1 s spells.2 ∙ ap (option_map (with_setting s)) (split_of_spelled ss files spells.1 spells.3)
