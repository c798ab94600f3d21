use Rattle.std.proofs.Common.{◌≡◌, ◌≤◌, ◌+◌, ◌-◌, length}
use Rattle.heap_picture.specs.declared.text_files.TheConstants.{MAX_TEXT_BYTES}
use Rattle.outside.specs.declared.traits.TheConstants.{PIECE_BYTES}
use Rattle.heap_picture.proofs.ReadTexts.{HasRead}
use Rattle.heap_picture.proofs.text_files.read_rest.Given as goal

abbrev pub invariant-loop-total : goal.invariant-loop-total
invariant-loop-total g l =
    let s = g.S.Sources in record {
      within : l.total ≤ MAX_TEXT_BYTES + PIECE_BYTES;
      read : HasRead l.total l.fn.text.items l.text.items (s.state l.fn.sources).left (s.state l.sources).left;
      longer : length l.text.items ≡ length l.fn.text.items + l.total;
      buffer : length l.buf ≡ length l.fn.buf;
      later : (s.state l.fn.sources).faults ≤ (s.state l.sources).faults;
    }

abbrev pub decreases-loop-total : goal.decreases-loop-total
decreases-loop-total g l = MAX_TEXT_BYTES + 1 - l.total
