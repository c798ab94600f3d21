use Rattle.std.proofs.Common.{rules, ◌≡◌, ◌<◌, ◌∙◌, List, ◌++◌, take, drop, All, map, sym, ap, subst, IfOk, length}
use Rattle.std.proofs.lemmas.List.{append-nil, take-append-drop}
use Rattle.std.proofs.lemmas.List.Elements.{All-get_or, All-append, All-take, All-drop}
use Rattle.std.proofs.lemmas.List.Sorted.{All-permutation, IsPermutation-trans, IsPermutation-append_left}
use Rattle.work_packets.specs.declared.share.Share.{Share}
use Rattle.work_packets.specs.Awaiting.{AwaitsAll, MayAwait}
use Rattle.work_packets.specs.Packets.{HasItems, packets_of, packets_after}
use Rattle.work_packets.specs.Shares.{IsRunnable, Finishes}
use Rattle.std.specs.List.Sorted.{IsPermutation}
use Rattle.work_packets.specs.Steps.{AllReach, RunsBucket, pushed_by_all}
use Rattle.work_packets.proofs.Ends.{runnable, bucket-runs, homes-stay, later-taken, later-sized, zipped, all-finish}
use Rattle.work_packets.proofs.AwaitedPackets.{dealt-awaited, each-awaits, one-awaits, reordered}
use Rattle.work_packets.proofs.Idle.{worked, idle_logs, with-idle, one-taken, none-dropped, taken-await, some-busy}
use Rattle.work_packets.proofs.plain_split.run_plain_split.Goals as goal

pub map_in_threads-requires-after_bounds : goal.map_in_threads-requires-after_bounds
map_in_threads-requires-after_bounds g c κs within =
    let home = g.W.PacketWorker.home in let takes = g.W.PacketWorker.takes in let awaits = g.W.PacketWorker.awaits in let h = c.requires.takes.0 in
    let shares : List (Share g.row.T.Denot g.row.W.Denot) = c.in_ok-shares.shares.items in
    let dealt = c.in_ok-shares.ensures.packets in let active = c.split_off.new.self.items in let n = c.busy_count-busy.result in
    let few : active ≡ take n c.args.workers.items = c.in_ok-idle.ensures.items in
    let count : c.len.result ≡ length c.args.workers.items = search rules in
    let some : 0 < n = subst (λ k. 0 < k) (sym c.busy_count-busy.ensures) (some-busy c.len.result c.len-2.result (subst (λ k. 0 < k) (sym count) c.requires.some)) in
    let awaited : MayAwait awaits active c.args.first.items = subst (λ ws. MayAwait awaits ws c.args.first.items) (sym few) (taken-await awaits n c.args.workers.items c.args.first.items some c.requires.awaits) in
    let own : All (λ w. home w ≡ h) active = subst (All (λ w. home w ≡ h)) (sym few) (All-take (λ w. home w ≡ h) n c.args.workers.items c.requires.takes.1) in
    let each : All (IsRunnable home takes awaits c.args.b) shares = runnable home takes awaits c.args.b h shares
    (subst (All (λ w. home w ≡ h)) (sym c.in_ok-shares.ensures.workers) own)
    (All-permutation (λ p. p.bucket ≡ c.args.b) _ _ dealt c.requires.bucket) (All-permutation HasItems _ _ dealt c.requires.items) (All-permutation (takes h) _ _ dealt c.requires.takes.2)
    (each-awaits awaits shares (dealt-awaited awaits _ _ _ _ c.in_ok-shares.ensures.workers dealt awaited)) in
    λ i x lt is. ((search rules, search rules, search rules, subst (IsRunnable home takes awaits c.args.b) (sym is) (All-get_or (IsRunnable home takes awaits c.args.b) shares i x lt each)), (search rules, search rules, search rules))

pub returns-clause-home : goal.returns-clause-home
returns-clause-home g c = λ h own.
    let home = g.W.PacketWorker.home in let takes = g.W.PacketWorker.takes in let awaits = g.W.PacketWorker.awaits in let steps = g.W.PacketWorker.steps in
    let shares = c.in_ok-shares.shares.items in let results = c.in_ok-results.results.items in let q = c.in_ok-gathered.ensures in let n = c.busy_count-busy.result in
    let same : length results ≡ length shares = search (rules, c.in_ok-results.ensures.len) in
    let z = zipped (λ s r. IfOk r (Finishes home takes awaits c.args.b steps s)) shares results same (λ i d lt. let k = c.in_ok-results.ensures.each i d lt in (k.1.job, k.1.job_is, k.1.call.met)) in
    let before : All (λ w. home w ≡ h) (map (λ s. s.worker) shares) = subst (All (λ w. home w ≡ h)) (sym (c.in_ok-shares.ensures.workers ∙ c.in_ok-idle.ensures.items)) (All-take (λ w. home w ≡ h) n c.args.workers.items own) in
    let busy = subst (All (λ w. home w ≡ h)) (sym q.2) (homes-stay home takes awaits c.args.b steps h shares q.0 (all-finish _ shares results c.in_ok-gathered.gathered z q) before) in
    let idle = subst (All (λ w. home w ≡ h)) (sym c.in_ok-idle.ensures.tail) (All-drop (λ w. home w ≡ h) n c.args.workers.items own) in
    subst (All (λ w. home w ≡ h)) (sym c.in_ok-append.ensures.items) (All-append (λ w. home w ≡ h) _ _ busy idle)

pub returns-clause-items : goal.returns-clause-items
returns-clause-items g c =
    let home = g.W.PacketWorker.home in let takes = g.W.PacketWorker.takes in let awaits = g.W.PacketWorker.awaits in let steps = g.W.PacketWorker.steps in
    let shares = c.in_ok-shares.shares.items in let results = c.in_ok-results.results.items in let q = c.in_ok-gathered.ensures in
    let same : length results ≡ length shares = search (rules, c.in_ok-results.ensures.len) in
    let z = zipped (λ s r. IfOk r (Finishes home takes awaits c.args.b steps s)) shares results same (λ i d lt. let k = c.in_ok-results.ensures.each i d lt in (k.1.job, k.1.job_is, k.1.call.met)) in
    subst (All HasItems) (sym q.3) (later-sized home takes awaits c.args.b steps shares q.0 (all-finish _ shares results c.in_ok-gathered.gathered z q))

pub returns-clause-takes : goal.returns-clause-takes
returns-clause-takes g c = λ h own.
    let home = g.W.PacketWorker.home in let takes = g.W.PacketWorker.takes in let awaits = g.W.PacketWorker.awaits in let steps = g.W.PacketWorker.steps in
    let shares = c.in_ok-shares.shares.items in let results = c.in_ok-results.results.items in let q = c.in_ok-gathered.ensures in
    let same : length results ≡ length shares = search (rules, c.in_ok-results.ensures.len) in
    let z = zipped (λ s r. IfOk r (Finishes home takes awaits c.args.b steps s)) shares results same (λ i d lt. let k = c.in_ok-results.ensures.each i d lt in (k.1.job, k.1.job_is, k.1.call.met)) in
    let before : All (λ w. home w ≡ h) (map (λ s. s.worker) shares) = subst (All (λ w. home w ≡ h)) (sym (c.in_ok-shares.ensures.workers ∙ c.in_ok-idle.ensures.items)) (All-take (λ w. home w ≡ h) c.busy_count-busy.result c.args.workers.items own) in
    subst (All (takes h)) (sym q.3) (later-taken home takes awaits c.args.b steps h shares q.0 (all-finish _ shares results c.in_ok-gathered.gathered z q) before)

pub returns-clause-once : goal.returns-clause-once
returns-clause-once g c =
    let home = g.W.PacketWorker.home in let takes = g.W.PacketWorker.takes in let awaits = g.W.PacketWorker.awaits in let steps = g.W.PacketWorker.steps in let b = c.args.b in
    let shares = c.in_ok-shares.shares.items in let results = c.in_ok-results.results.items in let q = c.in_ok-gathered.ensures in let n = c.busy_count-busy.result in
    let same : length results ≡ length shares = search (rules, c.in_ok-results.ensures.len) in
    let z = zipped (λ s r. IfOk r (Finishes home takes awaits b steps s)) shares results same (λ i d lt. let k = c.in_ok-results.ensures.each i d lt in (k.1.job, k.1.job_is, k.1.call.met)) in
    let o = bucket-runs home takes awaits b steps shares q.0 (all-finish _ shares results c.in_ok-gathered.gathered z q) in
    let active = take n c.args.workers.items in let done = c.in_ok-gathered.gathered.0.items in let idle = drop n c.args.workers.items in let later = c.in_ok-gathered.gathered.1.items in
    let busy : RunsBucket steps (worked b active c.args.first.items o.0 done later) = record {
      reached = subst (λ ws. AllReach steps ws o.0 done) (c.in_ok-shares.ensures.workers ∙ c.in_ok-idle.ensures.items) (subst (λ vs. AllReach steps (map (λ s. s.worker) shares) o.0 vs) (sym q.2) o.1.reached);
      once = IsPermutation-trans _ _ _ (IsPermutation-append_left (packets_of b (pushed_by_all o.0)) _ _ c.in_ok-shares.ensures.packets) o.1.once;
      left = subst (IsPermutation (packets_after b (pushed_by_all o.0))) (sym q.3) o.1.left;
      order = o.1.order;
    } in (
      o.0 ++ idle_logs idle,
      subst (λ ws. RunsBucket steps (worked b ws c.args.first.items (o.0 ++ idle_logs idle) c.append.new.self.items later)) (take-append-drop n c.args.workers.items)
          (subst (λ vs. RunsBucket steps (worked b (active ++ idle) c.args.first.items (o.0 ++ idle_logs idle) vs later)) (sym (c.in_ok-append.ensures.items ∙ ap (λ l. done ++ l) c.in_ok-idle.ensures.tail))
          (with-idle steps b active c.args.first.items o.0 done later idle busy)),
    )

pub returns-clause-awaits : goal.returns-clause-awaits
returns-clause-awaits g c = λ start w one h.
    let home = g.W.PacketWorker.home in let takes = g.W.PacketWorker.takes in let awaits = g.W.PacketWorker.awaits in let steps = g.W.PacketWorker.steps in
    let shares = c.in_ok-shares.shares.items in let results = c.in_ok-results.results.items in let q = c.in_ok-gathered.ensures in let n = c.busy_count-busy.result in
    let same : length results ≡ length shares = search (rules, c.in_ok-results.ensures.len) in
    let z = zipped (λ s r. IfOk r (Finishes home takes awaits c.args.b steps s)) shares results same (λ i d lt. let k = c.in_ok-results.ensures.each i d lt in (k.1.job, k.1.job_is, k.1.call.met)) in
    let count : c.len.result ≡ length c.args.workers.items = search rules in
    let some : 0 < n = subst (λ k. 0 < k) (sym c.busy_count-busy.ensures) (some-busy c.len.result c.len-2.result (subst (λ k. 0 < k) (sym count) c.requires.some)) in
    let o = one-awaits home takes awaits c.args.b steps shares q.0 (all-finish _ shares results c.in_ok-gathered.gathered z q) start w (c.in_ok-shares.ensures.workers ∙ (c.in_ok-idle.ensures.items ∙ one-taken n w c.args.workers.items one some)) (reordered awaits start w _ _ c.in_ok-shares.ensures.packets h) in
    let none = c.in_ok-idle.ensures.tail ∙ none-dropped n w c.args.workers.items one some in
    (o.0, c.in_ok-append.ensures.items ∙ (ap (λ l. c.in_ok-gathered.gathered.0.items ++ l) none ∙ (append-nil _ ∙ (q.2 ∙ o.1))), subst (AwaitsAll awaits start o.0) (sym q.3) o.2)
