use Rattle.std.proofs.Common.{◌<◌, refl, sym, ◌∙◌, subst, [], ◌++◌}
use Rattle.std.proofs.lemmas.List.{append-nil}
use Rattle.steal_pool.specs.Ends.{puts, takings}
use Rattle.steal_pool.specs.Served.{IsFitting}
use Rattle.steal_pool.proofs.Services.{goes-nowhere, goes-next, goes-end}
use Rattle.steal_pool.proofs.desk.drain.Goals as goal

pub work-init : goal.work-init
work-init g c = record {
  owner = c.requires.owner;
  keeps = (refl, refl, refl, refl);
  none = c.requires.none;
  home = refl;
  fit = c.requires.fit;
  served = ([], sym (append-nil _), goes-nowhere g.W.PacketWorker.home g.W.PacketWorker.takes g.W.PacketWorker.steps c.args.b _ _ _ _);
}

pub run_one-requires-clause-fitting : goal.run_one-requires-clause-fitting
run_one-requires-clause-fitting g c κs within = subst (IsFitting g.K.Fits.fits c.args.b g.W.PacketWorker.takes) (sym c.work.invariant.home) c.requires.fitting

pub work-preserved : goal.work-preserved
work-preserved g c =
    let i = c.work.invariant in let n = c.in-Some.ensures.keeps.0 in let o = c.in_ok-run_one-in-Some.ensures in let r = o.keeps.0 in
    let m = goes-next g.W.PacketWorker.home g.W.PacketWorker.takes g.W.PacketWorker.steps c.args.b c.args.desk.now.worker (puts c.args.desk.now.own) c.args.desk.now.backlog.items c.args.desk.now.later.items c.work.desk.worker (puts c.work.desk.own) (puts c.next.new.own) c.work.desk.backlog.items c.next.new.backlog.items c.work.desk.later.items (takings c.args.desk.now.own) (takings c.work.desk.own) (takings c.next.new.own) c.in-Some.p
    c.in-Some.ensures.keeps.1 c.in-Some.ensures.found.1 i.served in
    record {
      owner = (r.1 ∙ n.1 ∙ i.owner.0, r.2 ∙ n.2 ∙ i.owner.1, subst (λ n. 0 < n) (sym (r.3 ∙ n.3)) i.owner.2);
      keeps = (r.0 ∙ n.0 ∙ i.keeps.0, r.1 ∙ n.1 ∙ i.keeps.1, r.2 ∙ n.2 ∙ i.keeps.2, r.3 ∙ n.3 ∙ i.keeps.3);
      none = o.none;
      home = o.home ∙ i.home;
      fit = o.fit;
      served = (m.0, o.keeps.1 ∙ m.1, λ w first got s. o.served w first (got ++ m.0) (m.2 w first got s));
    }

pub returns-in-None-clause-served : goal.returns-in-None-clause-served
returns-in-None-clause-served g c =
    let f = c.in-None.ensures.found in
    goes-end g.W.PacketWorker.home g.W.PacketWorker.takes g.W.PacketWorker.steps c.args.b c.args.desk.now.worker (puts c.args.desk.now.own) c.args.desk.now.backlog.items c.args.desk.now.later.items c.work.desk.worker (puts c.work.desk.own) (puts c.next.new.own) c.work.desk.backlog.items c.work.desk.later.items (takings c.args.desk.now.own) (takings c.work.desk.own) (takings c.next.new.own)
    c.in-None.ensures.keeps.1 f.0 f.2 c.work.invariant.served
