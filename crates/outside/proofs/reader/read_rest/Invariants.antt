use Rattle.std.proofs.Common.{◌≡◌, ◌≤◌, ◌+◌, ◌-◌}
use Rattle.outside.specs.declared.reader.TheConstants.{MAX_FILE_BYTES}
use Rattle.outside.specs.Reading.{TakesMore}
use Rattle.outside.proofs.TakenPieces.{HasMoved}
use Rattle.outside.proofs.reader.read_rest.Given as goal

abbrev pub invariant-loop-total : goal.invariant-loop-total
invariant-loop-total g l =
    let s = g.S.Sources in
    let t = g.C.Consumer in record {
      within : l.total ≤ MAX_FILE_BYTES + 1;
      moved : HasMoved l.total (s.state l.fn.sources).left (s.state l.sources).left;
      taken : TakesMore (t.has_taken l.fn.consumer) (t.has_taken l.consumer) l.total (s.state l.fn.sources).left;
      later : (s.state l.fn.sources).faults ≤ (s.state l.sources).faults;
      asked : (s.state l.sources).asked ≡ (s.state l.fn.sources).asked;
      same : (s.state l.sources).content ≡ (s.state l.fn.sources).content;
    }

abbrev pub decreases-loop-total : goal.decreases-loop-total
decreases-loop-total g l = MAX_FILE_BYTES + 1 - l.total
