use Rattle.std.proofs.Common.{All, length, sym, subst, arith}
use Rattle.std.proofs.lemmas.List.{nil_from_length}
use Rattle.trace_words.specs.declared.share.Share.{Share}
use Rattle.trace_table.proofs.SeatShares.{share-is}
use Rattle.racing_collector.specs.declared.racing.Racing.{Racing}
use Rattle.racing_collector.specs.declared.tally.Tally.{Tally}
use Rattle.racing_collector.specs.Accounts.{CountsMore}
use Rattle.racing_collector.specs.Items.{IsPacketOf}
use Rattle.racing_collector.specs.Working.{RunsPacket, worked}
use Rattle.racing_collector.proofs.Running.{served-more, runs-packet, left-falls, scans-of, scans-later}
use Rattle.racing_collector.proofs.worker.RacingWorkerPacketWorkerRaceItem.run.Goals as goal

pub loop-item-preserved : goal.loop-item-preserved
loop-item-preserved g c = let is = c.loop-item.invariant in let s = c.in_ok-serve.ensures in record {
  same = is.same;
  tally = is.tally;
  served = served-more c.loop-item.self.racing.now c.args.self.now.seat.seat.me.0 c.loop-item.self.seat.seat.me.0 c.serve.new.seat.seat.me.0 c.args.self.now.served.items c.loop-item.self.served.items c.serve.new.served.items
      c.args.p.items.items c.loop-item.items.items c.pop.new.self.items c.in-Some.item c.loop-item.won.items c.serve.new.won.items is.served c.in-Some.ensures.items s.greys s.took s.gave s.copied s.places s.accounts;
}

pub returns-clause-step : goal.returns-clause-step
returns-clause-step g c = let is = c.loop-item.invariant in let h = c.in_ok-hand_on.ensures in (
  is.same,
  subst (λ (r : Racing). RunsPacket r (worked c.args.self.now.seat.seat.me.0 c.args.self.now.served.items c.args.self.now.tally) c.args.p c.hand_on.new.pushed.items
      (worked c.look_at_copies.new.seat.seat.me.0 c.loop-item.self.served.items c.hand_on.new.tally)) is.same
      (subst (λ (v : Share). RunsPacket c.loop-item.self.racing.now (worked c.args.self.now.seat.seat.me.0 c.args.self.now.served.items c.args.self.now.tally) c.args.p c.hand_on.new.pushed.items
      (worked v c.loop-item.self.served.items c.hand_on.new.tally)) (sym (share-is _ _ c.look_at_copies.ensures.same))
      (runs-packet c.loop-item.self.racing.now c.args.self.now.seat.seat.me.0 c.loop-item.self.seat.seat.me.0 c.args.self.now.served.items c.loop-item.self.served.items c.args.self.now.tally c.hand_on.new.tally c.args.p c.hand_on.new.pushed.items
      c.loop-item.items.items c.loop-item.won.items is.served (nil_from_length c.loop-item.items.items (omega (arith, c.loop-item.items.ok.0, c.in_default.ensures.cases.0)))
      (subst (λ (t : Tally). CountsMore t c.hand_on.new.tally c.loop-item.won.items) is.tally h.counts) (h.scans c.loop-item.self.racing.now.table is.served.greys) h.all h.cut)),
)

pub returns-clause-left : goal.returns-clause-left
returns-clause-left g c = let is = c.loop-item.invariant in
    left-falls c.args.self.now.racing.now c.loop-item.self.racing.now c.args.self.now.seat.seat.me.0 c.loop-item.self.seat.seat.me.0 c.look_at_copies.new.seat.seat.me.0 (length c.hand_on.new.pushed.items) (length c.loop-item.won.items)
    is.same (share-is _ _ c.look_at_copies.ensures.same) c.look_at_copies.ensures.few is.served.copied c.in_ok-hand_on.ensures.few

pub returns-clause-takes : goal.returns-clause-takes
returns-clause-takes g c = let is = c.loop-item.invariant in
    subst (λ (r : Racing). All (IsPacketOf r) c.hand_on.new.pushed.items) is.same
    (scans-of c.loop-item.self.racing.now c.hand_on.new.pushed.items (c.in_ok-hand_on.ensures.scans c.loop-item.self.racing.now.table is.served.greys))

pub returns-clause-order : goal.returns-clause-order
returns-clause-order g c = scans-later c.loop-item.self.racing.now.table c.args.p.bucket c.requires.takes.bucket c.hand_on.new.pushed.items
    (c.in_ok-hand_on.ensures.scans c.loop-item.self.racing.now.table c.loop-item.invariant.served.greys)
