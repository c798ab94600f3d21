-- The state of sources in memory that never fail.
use Rattle.std.specs.Prelude.{ℕ, List, map, Option, Some}
use Rattle.outside.specs.declared.memory_sources.SureSources.{SureSources}
use Rattle.outside.specs.Outside.{Asked, SourceState}
use Rattle.outside.specs.AskedNames.{names_in}
use Rattle.outside.specs.Files.{file_of, left_in, content_in, sure_content}

-- the names and contents of the files
abbrev pub files_of : SureSources → List (List ℕ × List ℕ)
files_of s = map file_of s.shelf.files.items

-- the content of every name
abbrev pub content_of : SureSources → List ℕ → Option (List ℕ)
content_of s name = sure_content (content_in (files_of s) name)

-- the bytes left of the open file
abbrev pub left_of : SureSources → List ℕ
left_of s = left_in (files_of s) s.shelf.place s.shelf.read

-- the names asked for
abbrev pub asked_of : SureSources → Asked
asked_of s = names_in s.asked.items

abbrev pub sources_state : SureSources → SourceState
sources_state s = record {
  content = content_of s;
  left = Some (left_of s);
  asked = asked_of s;
  faults = 0;
}
