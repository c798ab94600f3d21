-- Files in memory, by name.
use Rattle.std.specs.Prelude.{ℕ, List, [], ◌∷◌, drop, Option, Some, None, String, Vec, string_bytes, slice_index_or}
use Rattle.std.specs.Prelude.{if◌then◌else◌}
use Rattle.std.specs.Str.{bytes_eq}
use Rattle.std.specs.declared.alloc.Global.{Global}

-- the name and the content of a file
abbrev pub file_of : String Global × Vec ℕ Global → List ℕ × List ℕ
file_of f = (string_bytes f.0, f.1.items)

-- the content of the first file with this name; None if there is none
abbrev pub content_in : List (List ℕ × List ℕ) → List ℕ → Option (List ℕ)
content_in [] name = None
content_in (f ∷ fs) name = if bytes_eq f.0 name then Some f.1 else content_in fs name

-- the content, and no bytes if there is no such file
abbrev pub sure_content : Option (List ℕ) → Option (List ℕ)
sure_content None = Some []
sure_content (Some bytes) = Some bytes

-- the content of the file with index k, and no bytes if there is none
abbrev pub content_at : List (List ℕ × List ℕ) → ℕ → List ℕ
content_at files k = (slice_index_or files k ([], [])).1

-- the bytes left of the open file, which is given by its index, after `read` bytes were read
abbrev pub left_in : List (List ℕ × List ℕ) → Option ℕ → ℕ → List ℕ
left_in files None read = []
left_in files (Some k) read = drop read (content_at files k)
