-- The spelling of settings and files as words.
use Rattle.std.specs.Prelude.{◌≡◌, ◌⊎◌, ◌++◌, ℕ, List, [], ◌∷◌, true, false, codes}
use Rattle.std.specs.List.{list_all}
use Rattle.command_line.specs.Words.{GivenOption, has_dash, is_file, takes_value}

-- `--map`
pub record IsFlag (s : GivenOption) (words : List (List ℕ)) : Type 0 where
  pub name : s.name ≡ codes "--map"
  pub value : s.value ≡ []
  pub words_are : words ≡ codes "--map" ∷ []

-- `--name=value`
pub record IsJoined (s : GivenOption) (words : List (List ℕ)) : Type 0 where
  pub name : takes_value s.name ≡ true
  pub words_are : words ≡ (s.name ++ 61 ∷ s.value) ∷ []

-- `--name value`
pub record IsApart (s : GivenOption) (words : List (List ℕ)) : Type 0 where
  pub name : takes_value s.name ≡ true
  pub value : has_dash s.value ≡ false
  pub words_are : words ≡ s.name ∷ s.value ∷ []

-- the words spell the setting in one of the three ways
abbrev pub Spells : GivenOption → List (List ℕ) → Type 0
Spells s words = IsFlag s words ⊎ (IsJoined s words ⊎ IsApart s words)

-- the words spell the settings in their order, and after them the files
abbrev pub SpellsLine : List GivenOption → List (List ℕ) → List (List ℕ) → Type 0
SpellsLine [] files words = (words ≡ files) × (list_all is_file files ≡ true)
SpellsLine (s ∷ ss) files words = (first : List (List ℕ)) × (rest : List (List ℕ))
    × (Spells s first)
    × (SpellsLine ss files rest) × (words ≡ first ++ rest)
