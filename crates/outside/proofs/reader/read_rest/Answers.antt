use Rattle.std.proofs.Common.{rules, arith}
use Rattle.outside.proofs.TakenPieces.{moved_more, takes_more, takes_all, left_after}
use Rattle.outside.proofs.reader.read_rest.Goals as goal

pub returns-then-n-eq0-clause-taken : goal.returns-then-n-eq0-clause-taken
returns-then-n-eq0-clause-taken g c =
    let s = g.S.Sources in
    let t = g.C.Consumer in
    let first = (s.state c.args.sources.now).left in
    let left = (s.state c.loop-total.sources).left in
    takes_all (t.has_taken c.args.consumer.now) (t.has_taken c.take_piece.new.consumer) c.loop-total.total c.in_ok-n.n first left (s.state c.take_piece.new.sources).left c.loop-total-test.true c.if-n-eq0.true c.loop-total.invariant.moved c.in_ok-n.ensures.moved
    (takes_more (t.has_taken c.args.consumer.now) (t.has_taken c.loop-total.consumer) (t.has_taken c.take_piece.new.consumer) c.loop-total.total c.in_ok-n.n first left c.loop-total.invariant.moved c.loop-total.invariant.taken c.in_ok-n.ensures.taken)

pub loop-total-preserved : goal.loop-total-preserved
loop-total-preserved g c =
    let s = g.S.Sources in
    let t = g.C.Consumer in
    let first = (s.state c.args.sources.now).left in
    let left = (s.state c.loop-total.sources).left in record {
      within = search rules;
      moved = moved_more c.loop-total.total c.in_ok-n.n first left (s.state c.take_piece.new.sources).left c.loop-total.invariant.moved c.in_ok-n.ensures.moved;
      taken = takes_more (t.has_taken c.args.consumer.now) (t.has_taken c.loop-total.consumer) (t.has_taken c.take_piece.new.consumer) c.loop-total.total c.in_ok-n.n first left c.loop-total.invariant.moved c.loop-total.invariant.taken c.in_ok-n.ensures.taken;
      later = search rules;
      asked = search rules;
      same = search rules;
    }

pub returns-clause-stops : goal.returns-clause-stops
returns-clause-stops g c is = left_after c.loop-total.total _ _ (grind arith) c.loop-total.invariant.moved
