use Rattle.std.proofs.Common.{◌≡◌, ◌+◌, ◌≤◌, All, vec_len, vec_capacity}
use Rattle.trace_core.specs.Machine.{ByRoot}
use Rattle.trace_table.specs.Seats.{setup_at, IsSeat, IsGrey, IsScanning, ScansNoOther, Scans, MarksNoLine}
use Rattle.trace_table.proofs.table.TraceTable.scan_object.Given as goal

abbrev pub ghosts-scan_field : goal.ghosts-scan_field
ghosts-scan_field a = record { setup = setup_at a.self.now; cause = ByRoot; object = a.x; target = a.target; index = a.k; worker = 0 }

abbrev pub invariant-loop-k : goal.invariant-loop-k
invariant-loop-k l = record {
  seat : IsSeat l.self l.seat;
  scanning : IsScanning (setup_at l.self) l.object l.target l.k l.seat.seat.me.0;
  scans : Scans 1 l.fn.seat.seat.me.0 l.seat.seat.me.0 l.fn.out.items l.out.items;
  others : ScansNoOther l.object l.fn.seat.seat.me.0 l.seat.seat.me.0;
  unmarked : MarksNoLine l.fn.seat.seat.me.0 l.seat.seat.me.0;
  tokens : All (IsGrey l.self) l.out.items;
  room : vec_len l.out ≤ vec_len l.fn.out + l.k;
  capacity : vec_capacity l.out ≡ vec_capacity l.fn.out;
}
