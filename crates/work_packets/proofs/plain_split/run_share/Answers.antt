use Rattle.std.proofs.Common.{rules, ◌≡◌, List, [], ◌∷◌, ◌++◌, All, ◌∙◌, sym, refl, subst, Some}
use Rattle.std.proofs.lemmas.List.{append-nil}
use Rattle.std.proofs.lemmas.List.Elements.{All-nil, All-pop, All-append, All-filter}
use Rattle.std.proofs.lemmas.List.Sorted.{All-permutation}
use Rattle.work_packets.specs.declared.packet.Packet.{Packet}
use Rattle.work_packets.specs.Awaiting.{AwaitsAll}
use Rattle.work_packets.specs.Buckets.{IsSameOrLater}
use Rattle.work_packets.specs.Packets.{HasItems, packets_of, packets_after}
use Rattle.work_packets.specs.Steps.{Step, RunsShare}
use Rattle.work_packets.proofs.Logs.{did, share-begins, share-goes-on, in-bucket}
use Rattle.work_packets.proofs.AwaitedPackets.{next-first, sorted-out}
use Rattle.work_packets.proofs.plain_split.run_share.Goals as goal

pub loop-p-init : goal.loop-p-init
loop-p-init g c =
    let none = sym c.new-later.ensures.items in
    record {
      same_home = refl;
      in_bucket = c.requires.in_bucket;
      sized = c.requires.sized;
      taken = c.requires.taken;
      later_sized = subst (All HasItems) none (All-nil HasItems);
      later_taken = subst (All (g.W.PacketWorker.takes (g.W.PacketWorker.home c.args.share.worker))) none (All-nil _);
      none_pushed = c.new-pushed.ensures.items;
      log = [];
      awaited = λ start h. subst (λ l. AwaitsAll g.W.PacketWorker.awaits start c.args.share.worker (c.args.share.packets.items ++ l)) none
          (subst (AwaitsAll g.W.PacketWorker.awaits start c.args.share.worker) (sym (append-nil c.args.share.packets.items)) h);
      runs = subst (λ l. RunsShare g.W.PacketWorker.steps (did c.args.b c.args.share.worker c.args.share.packets.items [] c.args.share.worker c.args.share.packets.items l)) none
          (share-begins g.W.PacketWorker.steps c.args.b c.args.share.worker c.args.share.packets.items);
    }

pub run-requires-clause-takes : goal.run-requires-clause-takes
run-requires-clause-takes g c =
    subst (λ h. g.W.PacketWorker.takes h c.in-Some.p) (sym c.loop-p.invariant.same_home)
    (All-pop (g.W.PacketWorker.takes (g.W.PacketWorker.home c.args.share.worker)) _ _ (Some c.in-Some.p) c.in-Some.ensures.items c.loop-p.invariant.taken).1

pub run-requires-clause-items : goal.run-requires-clause-items
run-requires-clause-items g c = (All-pop HasItems _ _ (Some c.in-Some.p) c.in-Some.ensures.items c.loop-p.invariant.sized).1

pub run-requires-clause-awaited : goal.run-requires-clause-awaited
run-requires-clause-awaited g c =
    let awaits = g.W.PacketWorker.awaits in let start = c.requires.awaited.0 in (
      start,
      c.pop.new.self.items ++ c.loop-p.later.items,
      next-first awaits start c.loop-p.worker c.pop.new.self.items c.loop-p.later.items c.in-Some.p
          (subst (λ l. AwaitsAll awaits start c.loop-p.worker (l ++ c.loop-p.later.items)) c.in-Some.ensures.items (c.loop-p.invariant.awaited start c.requires.awaited.1)),
    )

pub sort_out-requires : goal.sort_out-requires
sort_out-requires g c =
    subst (λ k. All (λ q. IsSameOrLater k q.bucket) c.run.new.pushed.items)
    (All-pop (λ p. p.bucket ≡ c.args.b) _ _ (Some c.in-Some.p) c.in-Some.ensures.items c.loop-p.invariant.in_bucket).1 c.in_ok-run.ensures.order

pub loop-p-preserved : goal.loop-p-preserved
loop-p-preserved g c =
    let T = g.row.T.Denot in
    let pushed : List (Packet T) = c.run.new.pushed.items in
    let s : Step g.row.W.Denot T = record { packet = c.in-Some.p; pushed = pushed; worker = c.run.new.self } in
    let takes : Packet T → Type 0 = g.W.PacketWorker.takes (g.W.PacketWorker.home c.args.share.worker) in
    let in_b : Packet T → Type 0 = λ p. p.bucket ≡ c.args.b in
    let fit : All takes pushed = subst (λ h. All (g.W.PacketWorker.takes h) pushed) c.loop-p.invariant.same_home c.in_ok-run.ensures.takes in
    let now = c.in_ok-sort_out.ensures.todo in let after = c.in_ok-sort_out.ensures.later in
    let todo : List (Packet T) = c.pop.new.self.items in let todo' : List (Packet T) = c.sort_out.new.todo.items in
    let later : List (Packet T) = c.loop-p.later.items in let later' : List (Packet T) = c.sort_out.new.later.items in
    let b = c.args.b in
    let awaits = g.W.PacketWorker.awaits in
    let order : All (λ q. IsSameOrLater b q.bucket) pushed = subst (λ k. All (λ q. IsSameOrLater k q.bucket) pushed) (All-pop in_b c.loop-p.todo.items todo (Some c.in-Some.p) c.in-Some.ensures.items c.loop-p.invariant.in_bucket).1 c.in_ok-run.ensures.order in
    record {
      same_home = c.in_ok-run.ensures.home ∙ c.loop-p.invariant.same_home;
      in_bucket = All-permutation in_b (todo ++ packets_of b pushed) todo' now (All-append in_b todo (packets_of b pushed) (All-pop in_b c.loop-p.todo.items todo (Some c.in-Some.p) c.in-Some.ensures.items c.loop-p.invariant.in_bucket).0 (in-bucket c.args.b pushed));
      sized = All-permutation HasItems (todo ++ packets_of b pushed) todo' now (All-append HasItems todo (packets_of b pushed) (All-pop HasItems c.loop-p.todo.items todo (Some c.in-Some.p) c.in-Some.ensures.items c.loop-p.invariant.sized).0 (All-filter _ HasItems pushed c.in_ok-run.ensures.items));
      taken = All-permutation takes (todo ++ packets_of b pushed) todo' now (All-append takes todo (packets_of b pushed) (All-pop takes c.loop-p.todo.items todo (Some c.in-Some.p) c.in-Some.ensures.items c.loop-p.invariant.taken).0 (All-filter _ takes pushed fit));
      later_sized = All-permutation HasItems (later ++ packets_after b pushed) later' after (All-append HasItems later (packets_after b pushed) c.loop-p.invariant.later_sized (All-filter _ HasItems pushed c.in_ok-run.ensures.items));
      later_taken = All-permutation takes (later ++ packets_after b pushed) later' after (All-append takes later (packets_after b pushed) c.loop-p.invariant.later_taken (All-filter _ takes pushed fit));
      none_pushed = c.in_ok-sort_out.ensures.empty;
      log = c.loop-p.invariant.log ++ s ∷ [];
      runs = share-goes-on g.W.PacketWorker.steps c.args.b c.args.share.worker c.args.share.packets.items c.loop-p.invariant.log c.loop-p.worker s todo todo' later later'
          (subst (λ l. RunsShare g.W.PacketWorker.steps (did c.args.b c.args.share.worker c.args.share.packets.items c.loop-p.invariant.log c.loop-p.worker l c.loop-p.later.items)) c.in-Some.ensures.items c.loop-p.invariant.runs)
          c.in_ok-run.ensures.step now after order;
      awaited = λ start h. sorted-out awaits b start c.run.new.self todo later pushed todo' later' order now after
          (c.in_ok-run.ensures.awaits start (todo ++ later) (next-first awaits start c.loop-p.worker todo later c.in-Some.p
          (subst (λ l. AwaitsAll awaits start c.loop-p.worker (l ++ later)) c.in-Some.ensures.items (c.loop-p.invariant.awaited start h))));
    }

pub returns : goal.returns
returns g c =
    let i = c.loop-p.invariant in let steps = g.W.PacketWorker.steps in let awaits = g.W.PacketWorker.awaits in
    let none : c.loop-p.todo.items ≡ [] = search rules in
    record {
      same_home = i.same_home;
      sized = i.later_sized;
      taken = i.later_taken;
      log = i.log;
      runs = subst (λ l. RunsShare steps (did c.args.b c.args.share.worker c.args.share.packets.items i.log c.loop-p.worker l c.loop-p.later.items)) none i.runs;
      awaits_later = λ start h. subst (λ l. AwaitsAll awaits start c.loop-p.worker (l ++ c.loop-p.later.items)) none (i.awaited start h);
    }
