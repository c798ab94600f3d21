use Rattle.std.proofs.Common.{◌<◌, ◌∙◌, Some, sym, ap, subst, arith}
use Rattle.std.proofs.lemmas.List.Elements.{All-pop}
use Rattle.trace_core.specs.Setups.{blocks}
use Rattle.trace_words.specs.declared.share.Share.{Share}
use Rattle.trace_table.specs.Seats.{setup_at, IsSeat}
use Rattle.trace_table.specs.Ends.{shares_of, joined}
use Rattle.trace_table.proofs.SeatShares.{share-is}
use Rattle.trace_table.proofs.SeatEnds.{joined-seats}
use Rattle.trace_table.proofs.table.TraceTable.close.Goals as goal

pub take_in-requires-clause-own : goal.take_in-requires-clause-own
take_in-requires-clause-own c = (c.loop-worker.invariant.own, (let words = c.requires.table.words in omega arith))

pub take_in-requires-clause-other : goal.take_in-requires-clause-other
take_in-requires-clause-other c = (All-pop (IsSeat c.args.self) _ _ (Some c.in-Some.worker) c.in-Some.ensures.items c.loop-worker.invariant.seats).1.table

pub loop-worker-preserved : goal.loop-worker-preserved
loop-worker-preserved c = let all = All-pop (IsSeat c.args.self) _ _ (Some c.in-Some.worker) c.in-Some.ensures.items c.loop-worker.invariant.seats in
    let is = share-is _ _ c.take_in.ensures.share in record {
      own = c.take_in.ensures.own ∙ c.loop-worker.invariant.own;
      live = subst (λ (v : Share). 0 < v.parts) (sym is) (let live = c.loop-worker.invariant.live in omega arith);
      seats = all.0;
      share = ap (λ (v : Share). joined (shares_of c.pop.new.self.items) v) is
          ∙ sym (joined-seats c.loop-worker.seats.items c.pop.new.self.items c.in-Some.worker c.loop-worker.keeper.me.0 c.in-Some.ensures.items) ∙ c.loop-worker.invariant.share;
    }

pub returns-clause-heap : goal.returns-clause-heap
returns-clause-heap c = let is = c.requires.table in let words = c.take_row_back-words.result in
    ap (λ n. record { words = words; blocks = n; number = c.args.self.number; base = c.args.self.base }) is.layout
    ∙ ap (λ n. record { words = words; blocks = blocks (setup_at c.args.self); number = n; base = c.args.self.base }) is.number
    ∙ ap (λ n. record { words = words; blocks = blocks (setup_at c.args.self); number = (setup_at c.args.self).before.number; base = n }) is.base
