use Rattle.std.proofs.Common.{◌≡◌, ◌≤◌, All, [], map, vec_len, vec_capacity}
use Rattle.std.specs.List.{range_with_len}
use Rattle.heap_layout.specs.declared.layout.TheConstants.{GLOBALS}
use Rattle.trace_core.specs.Machine.{ByRoot}
use Rattle.trace_table.specs.Seats.{setup_at, IsTable, IsGlobalRoot}
use Rattle.trace_table.specs.Ends.{left_share, SameTable}
use Rattle.trace_table.proofs.TokensTaken.{gives_globals}
use Rattle.trace_table.proofs.table.TraceTable.take_globals.Given as goal

abbrev pub ghosts-global_root : goal.ghosts-global_root
ghosts-global_root a = record { setup = setup_at a.self.now; cause = ByRoot; object = 0; target = 0; index = a.global; worker = 0 }

abbrev pub invariant-loop-global : goal.invariant-loop-global
invariant-loop-global l = record {
  table : IsTable l.self;
  same : SameTable l.fn.self l.self;
  keeper : l.self.keeper.me ≡ (gives_globals l.global (left_share l.fn.self), []);
  numbers : map (λ root. root.global) l.roots.items ≡ range_with_len 0 l.global;
  rights : All (IsGlobalRoot l.self) l.roots.items;
  room : vec_len l.roots ≡ l.global;
  capacity : GLOBALS ≤ vec_capacity l.roots;
}
