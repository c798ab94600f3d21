use Rattle.std.proofs.Common.{ℕ, ◌+◌, subst}
use Rattle.trace_core.specs.Setups.{Setup, size}
use Rattle.trace_table.specs.Seats.{setup_at, Copying}
use Rattle.trace_table.proofs.SeatShares.{share-is}
use Rattle.trace_table.proofs.Copyings.{may-copy, copies-next}
use Rattle.trace_table.proofs.table.TraceTable.copy_object.Goals as goal

pub set_unlog-requires-clause-may : goal.set_unlog-requires-clause-may
set_unlog-requires-clause-may c = let p : Setup = setup_at c.args.self.now in let x : ℕ = c.args.won.now.object in
    may-copy p c.args.seat.now.me.0 c.args.won.now c.requires.won (size p x) _ (subst (λ n. Copying x n c.args.seat.now.me.0 c.copy_words.new.seat.me.0) c.requires.won.shape.size c.copy_words.ensures.share)

pub set_start-requires-clause-may : goal.set_start-requires-clause-may
set_start-requires-clause-may c = let p : Setup = setup_at c.args.self.now in let x : ℕ = c.args.won.now.object in
    may-copy p c.args.seat.now.me.0 c.args.won.now c.requires.won (size p x + 1) _ (copies-next x (size p x) c.args.seat.now.me.0 _ _
    (subst (λ n. Copying x n c.args.seat.now.me.0 c.copy_words.new.seat.me.0) c.requires.won.shape.size c.copy_words.ensures.share) (share-is _ _ c.set_unlog.ensures.share))

pub returns-clause-share : goal.returns-clause-share
returns-clause-share c = let p : Setup = setup_at c.args.self.now in let x : ℕ = c.args.won.now.object in record {
  steps = size p x + 1;
  before = c.set_unlog.new.seat.me.0;
  copying = copies-next x (size p x) c.args.seat.now.me.0 _ _
      (subst (λ n. Copying x n c.args.seat.now.me.0 c.copy_words.new.seat.me.0) c.requires.won.shape.size c.copy_words.ensures.share) (share-is _ _ c.set_unlog.ensures.share);
  after = share-is _ _ c.set_start.ensures.share;
}
