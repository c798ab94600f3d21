-- The state of sources in memory, and the calls that fail.
use Rattle.std.specs.Prelude.{ℕ, List, map, Bool, Some, is_some}
use Rattle.outside.specs.declared.memory_sources.MemSources.{MemSources}
use Rattle.outside.specs.Outside.{Asked, SourceState}
use Rattle.outside.specs.AskedNames.{names_in}
use Rattle.outside.specs.Files.{file_of, left_in, content_in}

-- the names and contents of the files
abbrev pub files_of : MemSources → List (List ℕ × List ℕ)
files_of s = map file_of s.shelf.files.items

-- the bytes left of the open file
abbrev pub left_of : MemSources → List ℕ
left_of s = left_in (files_of s) s.shelf.place s.shelf.read

-- the names asked for
abbrev pub asked_of : MemSources → Asked
asked_of s = names_in s.asked.items

-- a file is open
abbrev pub is_open : MemSources → Bool
is_open s = is_some s.shelf.place

-- the count of faults
abbrev pub faults_of : MemSources → ℕ
faults_of s = s.count

-- the count of calls
abbrev pub calls_of : MemSources → ℕ
calls_of s = s.calls

-- the numbers of the calls that fail
abbrev pub fails_of : MemSources → List ℕ
fails_of s = s.fails.items

abbrev pub sources_state : MemSources → SourceState
sources_state s = record {
  content = content_in (files_of s);
  left = Some (left_of s);
  asked = asked_of s;
  faults = faults_of s;
}
