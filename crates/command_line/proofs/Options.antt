-- The options, and the row that clap stores for each.
use Rattle.std.proofs.Common.{◌≡◌, refl, ◌∙◌, sym, ap, subst, cond, ℕ, Bool, true, false, ◌&&◌, ◌||◌, List, [], ◌∷◌, ◌++◌, map, drop, codes, append-nil}
use Rattle.std.specs.Prelude.{Option, None, Some, is_some, option_and_then, slice_get}
use Rattle.std.specs.List.{list_all, find}
use Rattle.std.specs.Str.{bytes_eq}
use Rattle.std.proofs.lemmas.Slice.Eq.{bytes_eq-Decides}
use Rattle.clap.specs.Walk.{Rule, Row, Text, at_row, first_of, has_row, more_values, one_of, reading_by, used}
use Rattle.clap.specs.Simple.{filled}
use Rattle.clap.specs.declared.parser.matches.ValueSource.TheVariants.{CommandLine}
use Rattle.command_line.specs.Words.{GivenOption, takes_value, value_of}
use Rattle.command_line.specs.Reader.{option_rule, map_rule}

pub same_bytes : (xs ys : List ℕ) → bytes_eq xs ys ≡ true → xs ≡ ys
same_bytes xs ys e = (bytes_eq-Decides xs ys).0 e

abbrev pub is_map : List ℕ → Bool
is_map name = bytes_eq name (codes "--map")

abbrev pub is_option : List ℕ → Bool
is_option name = takes_value name || is_map name

abbrev pub are_options : List GivenOption → Bool
are_options ss = list_all (λ s. is_option s.name) ss

either : (a b : Bool) (C : Type 0) → (a || b) ≡ true → (a ≡ true → C) → (b ≡ true → C) → C
either true b C e f g = f refl
either false b C e f g = g e

pub valued_cases : (P : List ℕ → Type 0) (name : List ℕ) → takes_value name ≡ true → P (codes "--plan") → P (codes "--heap") → P (codes "--workers") → P (codes "--make") → P name
valued_cases P name e plan heap workers make =
    let at : (word : List ℕ) → P word → bytes_eq name word ≡ true → P name = λ word p same. subst P (sym (same_bytes name word same)) p in
    either _ _ (P name) e
    (λ front. either _ _ (P name) front (λ first. either _ _ (P name) first (at _ plan) (at _ heap)) (at _ workers))
    (at _ make)

pub option_cases : (P : List ℕ → Type 0) (name : List ℕ) → is_option name ≡ true → P (codes "--plan") → P (codes "--heap") → P (codes "--workers") → P (codes "--make") → P (codes "--map") → P name
option_cases P name e plan heap workers make the_map =
    either (takes_value name) (is_map name) (P name) e
    (λ valued. valued_cases P name valued plan heap workers make)
    (λ is. subst P (sym (same_bytes name (codes "--map") is)) the_map)

-- the row of a setting
abbrev rule_for : List ℕ → Rule
rule_for name = cond (is_map name) (filled map_rule) (filled (option_rule (drop 2 name)))

abbrev given_for : GivenOption → List Text
given_for s = cond (is_map s.name) [] (s.value ∷ [])

abbrev pub row_for : GivenOption → Row
row_for s = record { id = drop 2 s.name; values = cond (is_map s.name) (codes "true") s.value ∷ []; count = None; source = Some CommandLine; reading = reading_by (rule_for s.name) }

abbrev pub used_by : GivenOption → List Row → List Row
used_by s rows = used (rule_for s.name) (given_for s) rows

pub absent : (id : Text) (change : Row → List Row) (missing rows : List Row) → has_row id rows ≡ false → at_row id change missing rows ≡ rows ++ missing
absent id change missing [] e = refl
absent id change missing (r ∷ rs) e = go (bytes_eq r.id id) e (λ none. absent id change missing rs none)
  where
    go : (b : Bool) → (b || has_row id rs) ≡ false → (has_row id rs ≡ false → at_row id change missing rs ≡ rs ++ missing) → cond b (change r ++ rs) (r ∷ at_row id change missing rs) ≡ r ∷ (rs ++ missing)
    go true wrong next = let bad : true ≡ false = wrong in cc
    go false none next = ap (λ rest. r ∷ rest) (next none)

-- the row of a new setting comes last
pub used_new : (s : GivenOption) (rows : List Row) → is_option s.name ≡ true → has_row (drop 2 s.name) rows ≡ false → used_by s rows ≡ rows ++ row_for s ∷ []
used_new s rows e new =
    let P : List ℕ → Type 0 = λ name. has_row (drop 2 name) rows ≡ false → used_by (record { name = name; value = s.value }) rows ≡ rows ++ row_for (record { name = name; value = s.value }) ∷ [] in
    let at : (id : Text) (change : Row → List Row) (missing : List Row) → has_row id rows ≡ false → at_row id change missing (at_row id (λ _. []) [] rows) ≡ rows ++ missing =
    λ id change missing none. ap (at_row id change missing) (absent id (λ _. []) [] rows none ∙ append-nil rows) ∙ absent id change missing rows none in
    let valued : Row → List Row = more_values CommandLine (s.value ∷ []) in
    option_cases P s.name e (at _ valued _) (at _ valued _) (at _ valued _) (at _ valued _) (at _ (more_values CommandLine (codes "true" ∷ [])) _) new

-- two options have the same name if and only if they have the same id
same_ids : (a b : List ℕ) → is_option a ≡ true → is_option b ≡ true → bytes_eq (drop 2 a) (drop 2 b) ≡ bytes_eq a b
same_ids a b e f =
    let Q : List ℕ → List ℕ → Type 0 = λ x y. bytes_eq (drop 2 x) (drop 2 y) ≡ bytes_eq x y in
    option_cases (λ x. Q x b) a e
    (option_cases (Q (codes "--plan")) b f refl refl refl refl refl)
    (option_cases (Q (codes "--heap")) b f refl refl refl refl refl)
    (option_cases (Q (codes "--workers")) b f refl refl refl refl refl)
    (option_cases (Q (codes "--make")) b f refl refl refl refl refl)
    (option_cases (Q (codes "--map")) b f refl refl refl refl refl)

both : (a b : Bool) → (a && b) ≡ true → (a ≡ true) × (b ≡ true)
both true b e = (refl, e)
both false b e = let bad : false ≡ true = e in cc

-- an option has a row if and only if it has a value
pub has_row_for : (name : List ℕ) (ss : List GivenOption) → is_option name ≡ true → are_options ss ≡ true → has_row (drop 2 name) (map row_for ss) ≡ is_some (value_of name ss)
has_row_for name [] e all = refl
has_row_for name (s ∷ ss) e all =
    let parts = both (is_option s.name) (are_options ss) all in
    ap (λ b. b || has_row (drop 2 name) (map row_for ss)) (same_ids s.name name parts.0 e) ∙ go (bytes_eq s.name name) (has_row_for name ss e parts.1)
  where
    go : (b : Bool) → has_row (drop 2 name) (map row_for ss) ≡ is_some (value_of name ss) → (b || has_row (drop 2 name) (map row_for ss)) ≡ is_some (cond b (Some s.value) (value_of name ss))
    go true h = refl
    go false h = h

pub no_files_row : (ss : List GivenOption) → are_options ss ≡ true → has_row (codes "files") (map row_for ss) ≡ false
no_files_row [] all = refl
no_files_row (s ∷ ss) all =
    let parts = both (is_option s.name) (are_options ss) all in
    let other : bytes_eq (drop 2 s.name) (codes "files") ≡ false = option_cases (λ name. bytes_eq (drop 2 name) (codes "files") ≡ false) s.name parts.0 refl refl refl refl refl in
    ap (λ b. b || has_row (codes "files") (map row_for ss)) other ∙ no_files_row ss parts.1

no_row_found : (id : Text) (rows : List Row) → has_row id rows ≡ false → find (λ r. bytes_eq r.id id) rows ≡ None
no_row_found id [] e = refl
no_row_found id (r ∷ rs) e = go (bytes_eq r.id id) e (λ none. no_row_found id rs none)
  where
    go : (b : Bool) → (b || has_row id rs) ≡ false → (has_row id rs ≡ false → find (λ x. bytes_eq x.id id) rs ≡ None) → cond b (Some r) (find (λ x. bytes_eq x.id id) rs) ≡ None
    go true wrong next = let bad : true ≡ false = wrong in cc
    go false none next = next none

-- the first value of an option is that of its row
pub first_for : (name : List ℕ) (ss : List GivenOption) (others : List Row) → takes_value name ≡ true → are_options ss ≡ true → has_row (drop 2 name) others ≡ false
    → first_of (drop 2 name) (map row_for ss ++ others) ≡ value_of name ss
first_for name [] others e all none = ap (option_and_then (λ (r : Row). slice_get r.values 0)) (no_row_found (drop 2 name) others none)
first_for name (s ∷ ss) others e all none =
    let parts = both (is_option s.name) (are_options ss) all in
    let mine : is_option name ≡ true = ap (λ b. b || is_map name) e in
    let not_map : is_map name ≡ false = valued_cases (λ x. is_map x ≡ false) name e refl refl refl refl in
    let F : Bool → Option Text = λ b. option_and_then (λ (r : Row). slice_get r.values 0) (cond b (Some (row_for s)) (find (λ r. bytes_eq r.id (drop 2 name)) (map row_for ss ++ others))) in
    let go : (b : Bool) → bytes_eq s.name name ≡ b → F b ≡ cond b (Some s.value) (value_of name ss) = λ b is. elim b as (λ c. bytes_eq s.name name ≡ c → F c ≡ cond c (Some s.value) (value_of name ss)) [
      | true ↦ λ same. ap (λ m. Some (cond m (codes "true") s.value)) (ap is_map (same_bytes s.name name same) ∙ not_map)
      | false ↦ λ other. first_for name ss others e parts.1 none
    ] is in
    ap F (same_ids s.name name parts.0 mine) ∙ go (bytes_eq s.name name) refl

-- `--map` reads as true
pub map_read : (ss : List GivenOption) (others : List Row) → are_options ss ≡ true → is_some (value_of (codes "--map") ss) ≡ true → one_of (codes "map") (map row_for ss ++ others) ≡ Some (codes "true")
map_read [] others all there = let bad : false ≡ true = there in cc
map_read (s ∷ ss) others all there =
    let parts = both (is_option s.name) (are_options ss) all in
    let P : List ℕ → Type 0 = λ name. is_some (cond (is_map name) (Some s.value) (value_of (codes "--map") ss)) ≡ true → one_of (codes "map") (row_for (record { name = name; value = s.value }) ∷ (map row_for ss ++ others)) ≡ Some (codes "true") in
    let rest : is_some (value_of (codes "--map") ss) ≡ true → one_of (codes "map") (map row_for ss ++ others) ≡ Some (codes "true") = λ h. map_read ss others parts.1 h in
    option_cases P s.name parts.0 rest rest rest rest (λ h. refl) there

pub no_map_read : (ss : List GivenOption) (others : List Row) → are_options ss ≡ true → is_some (value_of (codes "--map") ss) ≡ false → one_of (codes "map") (map row_for ss ++ others) ≡ one_of (codes "map") others
no_map_read [] others all none = refl
no_map_read (s ∷ ss) others all none =
    let parts = both (is_option s.name) (are_options ss) all in
    let P : List ℕ → Type 0 = λ name. is_some (cond (is_map name) (Some s.value) (value_of (codes "--map") ss)) ≡ false → one_of (codes "map") (row_for (record { name = name; value = s.value }) ∷ (map row_for ss ++ others)) ≡ one_of (codes "map") others in
    let rest : is_some (value_of (codes "--map") ss) ≡ false → one_of (codes "map") (map row_for ss ++ others) ≡ one_of (codes "map") others = λ h. no_map_read ss others parts.1 h in
    option_cases P s.name parts.0 rest rest rest rest (λ h. let bad : true ≡ false = h in cc) none
