use Rattle.std.proofs.Common.{◌≡◌, drop, map}
use Rattle.outside.specs.Files.{file_of, content_in}
use Rattle.outside.proofs.files.place_of.Given as goal

-- the content found in the rest is the content found in the whole
abbrev pub invariant-loop-i : goal.invariant-loop-i
invariant-loop-i l = content_in (map file_of (drop l.i l.files)) l.name ≡ content_in (map file_of l.files) l.name
