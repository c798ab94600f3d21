use Rattle.std.proofs.Common.{◌≡◌, ℕ, ◌<◌, ◌≤◌, ◌+◌, ◌∙◌, [], length, sym, ap, subst, arith}
use Rattle.object_model.specs.Times.{times}
use Rattle.trace_core.specs.Setups.{Setup}
use Rattle.trace_words.specs.declared.share.Share.{Share}
use Rattle.trace_words.specs.Rule.{SeatShare}
use Rattle.trace_words.specs.Shares.{gives_parts, worker_share}
use Rattle.trace_table.specs.Ends.{kept_share}
use Rattle.trace_table.proofs.SeatShares.{share-is}
use Rattle.trace_table.proofs.SeatEnds.{next-number, kept-next}
use Rattle.trace_table.proofs.table.TraceTable.next_seat.Goals as goal

pub give_parts-seat-requires-clause-parts : goal.give_parts-seat-requires-clause-parts
give_parts-seat-requires-clause-parts g c = let w : ℕ = g.C.About.setup.workers in let index = c.requires.about.1 in let few = c.requires.few in
    (omega arith, subst (λ (v : Share). length v.last + g.C.About.index < v.parts) (sym (share-is _ _ c.requires.keeper)) (omega arith))

pub give_parts-seat-requires-clause-number : goal.give_parts-seat-requires-clause-number
give_parts-seat-requires-clause-number g c = let w : ℕ = g.C.About.setup.workers in
    subst (λ (v : Share). 0 < times g.C.About.worker v.numbers) (sym (share-is _ _ c.requires.keeper))
    (subst (λ n. 0 < times n (kept_share c.args.self.now.run w c.args.k).numbers) (sym c.requires.about.2) (next-number c.args.self.now.run w c.args.k c.requires.few))

next-keeper : (a b : SeatShare) → a ≡ b → (0 < b.0.parts) → 0 < a.0.parts
next-keeper a b is some = subst (λ (m : SeatShare). 0 < m.0.parts) (sym is) some

pub returns-clause-keeper : goal.returns-clause-keeper
returns-clause-keeper g c = let w : ℕ = g.C.About.setup.workers in let run = c.args.self.now.run in
    c.give_parts-seat.ensures.own.1 ∙ ap (λ (m : SeatShare). (gives_parts g.C.About.index g.C.About.worker m.0, m.1)) c.requires.keeper
    ∙ ap (λ n. (gives_parts n g.C.About.worker (kept_share run w c.args.k), [])) c.requires.about.1
    ∙ ap (λ n. (gives_parts 1 n (kept_share run w c.args.k), [])) c.requires.about.2 ∙ ap (λ (s : Share). (s, [])) (kept-next run w c.args.k c.requires.few)

pub returns-clause-table : goal.returns-clause-table
returns-clause-table g c = let few = c.requires.few in record {
  words = c.requires.table.words;
  layout = c.requires.table.layout;
  ready = c.requires.table.ready;
  run = c.requires.table.run;
  number = c.requires.table.number;
  base = c.requires.table.base;
  keeper = c.give_parts-seat.ensures.own.0 ∙ c.requires.table.keeper;
  live = next-keeper _ _ (returns-clause-keeper g c) (omega arith);
}

pub returns-clause-seat : goal.returns-clause-seat
returns-clause-seat g c = let is = share-is _ _ c.give_parts-seat.ensures.worker.1 in let some-part = c.requires.about.1 in let number = c.requires.about.2 in record {
  table = c.give_parts-seat.ensures.worker.0 ∙ c.requires.table.keeper;
  live = subst (λ (v : Share). 0 < v.parts) (sym is) (omega arith);
  worker = sym number ∙ sym (ap (λ (v : Share). v.worker) is);
  some = omega arith;
  few = subst (λ (q : Setup). c.args.k + 1 ≤ q.workers) (sym c.requires.about.0) (let few = c.requires.few in omega arith);
  front = sym (ap (λ (v : Share). v.front) is);
  limit = sym (ap (λ (v : Share). v.limit) is);
  order = omega arith;
  from = λ below. absurd (omega arith);
  within = omega arith;
  filling = λ b has. absurd (let none : times b c.give_parts-seat.result.me.0.filling ≡ 0 = ap (λ (v : Share). times b v.filling) is in omega arith);
  seen = λ b below. absurd (omega arith);
  next = omega arith;
}

pub returns-clause-share : goal.returns-clause-share
returns-clause-share g c = share-is _ _ c.give_parts-seat.ensures.worker.1 ∙ ap (λ n. worker_share n g.C.About.worker) c.requires.about.1 ∙ ap (worker_share 1) c.requires.about.2
