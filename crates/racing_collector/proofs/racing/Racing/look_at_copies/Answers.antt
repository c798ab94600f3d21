use Rattle.std.proofs.Common.{sym, subst}
use Rattle.trace_words.specs.declared.share.Share.{Share}
use Rattle.trace_words.specs.Steps.{IsDone}
use Rattle.trace_table.specs.Seats.{setup_at, Keeps}
use Rattle.trace_table.proofs.SeatShares.{share-is, keeps-not}
use Rattle.racing_collector.proofs.Accounting.{racer-on}
use Rattle.racing_collector.proofs.HeldObjects.{few-copied}
use Rattle.racing_collector.proofs.racing.Racing.look_at_copies.Goals as goal

pub returns-clause-racer : goal.returns-clause-racer
returns-clause-racer c = let v : Share = c.args.seat.now.seat.me.0 in let same = share-is _ _ c.look_at_copies.ensures.same in
    racer-on c.args.self.now c.args.seat.now c.look_at_copies.new.seat c.requires.racer c.look_at_copies.ensures.seat
    (subst (IsDone (setup_at c.args.self.now.table)) (sym same) c.requires.racer.done) (subst (Keeps v) (sym same) (keeps-not v))

pub returns-clause-few : goal.returns-clause-few
returns-clause-few c = few-copied (setup_at c.args.self.now.table) c.args.seat.now.seat.me.0 c.look_at_copies.ensures.copies
