use Rattle.std.proofs.Common.{All, sym, subst, inr}
use Rattle.std.proofs.lemmas.List.Elements.{All-append}
use Rattle.work_packets.specs.Packets.{HasItems}
use Rattle.work_packets.specs.Steps.{RunsBucket}
use Rattle.steal_pool.proofs.Joined.{one-home}
use Rattle.steal_pool.proofs.Totals.{part-goes-on, both_logs, bucket_work}
use Rattle.steal_pool.proofs.steal.run_rest.Goals as goal

pub run_plain_split-requires-clause-awaits : goal.run_plain_split-requires-clause-awaits
run_plain_split-requires-clause-awaits g c κs within = inr c.requires.awaits

pub returns-then-len-eq0-clause-takes : goal.returns-then-len-eq0-clause-takes
returns-then-len-eq0-clause-takes g c = λ h own. subst (λ k. All (g.W.PacketWorker.takes k) c.args.gathered.later.items) (one-home g.W.PacketWorker.home c.args.gathered.workers.items c.requires.takes.0 h c.requires.some c.requires.takes.1 own) c.requires.takes.3

pub returns-clause-items : goal.returns-clause-items
returns-clause-items g c = subst (All HasItems) (sym c.in_ok-append.ensures.items) (All-append HasItems _ _ c.requires.items.1 c.in_ok-plain.ensures.items)

pub returns-clause-takes : goal.returns-clause-takes
returns-clause-takes g c = λ h own.
    let takes = g.W.PacketWorker.takes in
    subst (All (takes h)) (sym c.in_ok-append.ensures.items) (All-append (takes h) _ _
    (subst (λ k. All (takes k) c.args.gathered.later.items) (one-home g.W.PacketWorker.home c.args.gathered.workers.items c.requires.takes.0 h c.requires.some c.requires.takes.1 own) c.requires.takes.3) (c.in_ok-plain.ensures.takes h own))

pub returns-clause-once : goal.returns-clause-once
returns-clause-once g c = λ ws first logs r.
    let steps = g.W.PacketWorker.steps in let b = c.args.b in let p = c.in_ok-plain.ensures.once in (
      both_logs logs p.0,
      subst (λ l. RunsBucket steps (bucket_work steps b ws first (both_logs logs p.0) c.in_ok-plain.plain.0.items l)) (sym c.in_ok-append.ensures.items)
          (part-goes-on steps b ws first logs c.args.gathered.workers.items c.args.gathered.rest.items c.args.gathered.later.items p.0 c.in_ok-plain.plain.0.items c.in_ok-plain.plain.1.items r p.1),
    )
