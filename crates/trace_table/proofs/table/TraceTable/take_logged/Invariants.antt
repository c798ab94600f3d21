use Rattle.std.proofs.Common.{◌≡◌, ◌≤◌, All, [], map, take, vec_len, vec_capacity}
use Rattle.trace_core.specs.Machine.{ByRoot}
use Rattle.trace_table.specs.Seats.{setup_at, IsTable, IsGrey}
use Rattle.trace_table.specs.Ends.{left_share, SameTable}
use Rattle.trace_table.proofs.TokensTaken.{gives_logged}
use Rattle.trace_table.proofs.table.TraceTable.take_logged.Given as goal

abbrev pub ghosts-logged_token : goal.ghosts-logged_token
ghosts-logged_token a = record { setup = setup_at a.self.now; cause = ByRoot; object = a.x; target = a.x; index = 0; worker = 0 }

abbrev pub invariant-loop-place : goal.invariant-loop-place
invariant-loop-place l = record {
  table : IsTable l.self;
  same : SameTable l.fn.self l.self;
  keeper : l.self.keeper.me ≡ (gives_logged l.place l.fn.self.run.logged.items (left_share l.fn.self), []);
  objects : map (λ token. token.object) l.tokens.items ≡ take l.place l.fn.self.run.logged.items;
  rights : All (IsGrey l.self) l.tokens.items;
  room : vec_len l.tokens ≡ l.place;
  capacity : l.count ≤ vec_capacity l.tokens;
}
