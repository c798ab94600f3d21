-- Settings, followed by the rest of the command line.
use Rattle.std.proofs.Common.{◌≡◌, refl, ◌∙◌, sym, ap, cond, ℕ, Bool, true, false, List, [], ◌∷◌, ◌++◌, append_assoc}
use Rattle.std.specs.Prelude.{Option, None, Some, option_map, option_and_then}
use Rattle.command_line.specs.Words.{GivenOption, Line, are_single, split_line, job_of, if_single, job_in, line_of_words, with_setting}

abbrev pub with_all : List GivenOption → Line → Line
with_all ss line = record line { settings = ss ++ line.settings }

pub with_more : (ss : List GivenOption) (s : GivenOption) (rest : Option Line) → option_map (with_all (ss ++ s ∷ [])) rest ≡ option_map (with_all ss) (option_map (with_setting s) rest)
with_more ss s None = refl
with_more ss s (Some line) = ap (λ all. Some (record line { settings = all })) (append_assoc ss (s ∷ []) line.settings)

pub line_made : (words : List (List ℕ)) (l : Line) → split_line words ≡ Some l → are_single l.settings ≡ true → line_of_words words ≡ Some l
line_made words l e single = ap (option_and_then if_single) e ∙ ap (λ b. cond b (Some l) None) single

pub line_parts : (words : List (List ℕ)) (l : Line) → line_of_words words ≡ Some l → (split_line words ≡ Some l) × (are_single l.settings ≡ true)
line_parts words l e = go (split_line words) e
  where
    kept : (m : Line) (b : Bool) → are_single m.settings ≡ b → cond b (Some m) None ≡ Some l → (Some m ≡ Some l) × (are_single l.settings ≡ true)
    kept m true single same =
        let mine : m ≡ l = cc in
        (same, ap (λ k. are_single k.settings) (sym mine) ∙ single)
    kept m false single same = cc

    go : (o : Option Line) → option_and_then if_single o ≡ Some l → (o ≡ Some l) × (are_single l.settings ≡ true)
    go None same = cc
    go (Some m) same = kept m (are_single m.settings) refl same

pub job_made : (words : List (List ℕ)) (l : Line) → line_of_words words ≡ Some l → job_of words ≡ job_in l
unfolding job_of
job_made words l e = ap (option_and_then job_in) e
