use Rattle.std.proofs.Common.{rules, ◌≡◌, ◌≤◌, ◌∙◌, sym, subst, length, arith}
use Rattle.steal_pool.proofs.Joined.{of-home, several-await}
use Rattle.steal_pool.proofs.steal.run_steal.Goals as goal

pub steal_among-requires-clause-takes : goal.steal_among-requires-clause-takes
steal_among-requires-clause-takes g c κs within =
    let home = g.W.PacketWorker.home in let takes = g.W.PacketWorker.takes in
    let h = c.requires.takes.0 in let own = c.requires.takes.1 in (
      h,
      own,
      c.requires.takes.2,
      record {
        in_bucket = λ p f. f.0;
        sized = λ p f. f.1;
        taken = λ p f. of-home home takes h p c.args.workers.items c.requires.some own f.2;
        fit = λ p e s t. (e, s, λ k d lt. subst (λ k. takes k p) (sym (own k d lt)) t);
      },
    )

pub steal_among-requires-clause-awaits : goal.steal_among-requires-clause-awaits
steal_among-requires-clause-awaits g c κs within = several-await g.W.PacketWorker.awaits c.args.workers.items c.args.first.items (let may = c.if-may_steal.ensures.0 in let count : c.len.result ≡ c.args.workers.len = c.len.ensures in let many : c.args.workers.len ≡ length c.args.workers.items = search rules in omega arith) c.requires.awaits

pub steal_among-requires-clause-several : goal.steal_among-requires-clause-several
steal_among-requires-clause-several g c κs within = (let may = c.if-may_steal.ensures.0 in let count : c.len.result ≡ c.args.workers.len = c.len.ensures in let many : c.args.workers.len ≡ length c.args.workers.items = search rules in omega arith)

pub steal_among-requires-clause-few : goal.steal_among-requires-clause-few
steal_among-requires-clause-few g c κs within = let may : c.len.result ≤ 16 = c.if-may_steal.ensures.1 in let count : c.len.result ≡ c.args.workers.len = c.len.ensures in let many : c.args.workers.len ≡ length c.args.workers.items = search rules in subst (λ n. n ≤ 16) (count ∙ many) may
