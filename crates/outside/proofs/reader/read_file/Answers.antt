use Rattle.std.proofs.Common.{◌≡◌, ◌+◌, ◌<◌, length, drop, List, ℕ}
use Rattle.std.specs.Prelude.{Some}
use Rattle.outside.specs.declared.reader.TheConstants.{MAX_FILE_BYTES}
use Rattle.outside.proofs.TakenPieces.{of_content, takes_content}
use Rattle.outside.proofs.reader.read_file.Goals as goal

pub returns-clause-taken : goal.returns-clause-taken
returns-clause-taken g c =
    let t = g.C.Consumer in
    takes_content c.read_rest.result (t.has_taken c.args.consumer.now) (t.has_taken c.read_rest.new.consumer) _ _ c.in-Ok.ensures.opened c.read_rest.ensures.taken

pub returns-clause-too_long : goal.returns-clause-too_long
returns-clause-too_long g c is = of_content (λ (bytes : List ℕ). MAX_FILE_BYTES < length bytes) _ _ c.in-Ok.ensures.opened (c.read_rest.ensures.too_long is)

pub returns-clause-stops : goal.returns-clause-stops
returns-clause-stops g c is =
    let s = g.S.Sources in
    of_content (λ (bytes : List ℕ). (s.state c.read_rest.new.sources).left ≡ Some (drop (MAX_FILE_BYTES + 1) bytes)) _ _ c.in-Ok.ensures.opened (c.read_rest.ensures.stops is)
