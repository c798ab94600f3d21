-- The last job and those before it are all.
use Rattle.std.proofs.Common.{rules, ◌≡◌, vec_len, length}
use Rattle.std.proofs.lemmas.Result.{IfOk-at_ok}
use Rattle.std.specs.Fork.{GivesJobs}
use Rattle.work_packets.proofs.Jobs as jobs
use Rattle.work_packets.proofs.threads.+starts.Goals as goal

pub returns-clause-each : goal.returns-clause-each
returns-clause-each g t c =
    let f = c.args.f.now in
    let cut = c.in_ok-last.ensures in
    let first = IfOk-at_ok (λ v. (vec_len v ≡ vec_len c.split_off.new.self) × GivesJobs g.F.Fn f c.split_off.new.self.items v.items) c.in_ok-all.was c.join-b.ensures.second in
    let last = IfOk-at_ok (λ v. (vec_len v ≡ vec_len c.in_ok-last.last) × GivesJobs g.F.Fn f c.in_ok-last.last.items v.items) c.in_ok-rest.was c.join-b.ensures.first in
    let len : length c.in_ok-all.all.items ≡ length c.split_off.new.self.items = (let same = first.0 in search rules) in
    jobs.gives-all g.F.Fn f c.args.jobs.items c.split_off.new.self.items c.in_ok-last.last.items _ c.in_ok-all.all.items c.in_ok-rest.rest.items c.append.new.self.items cut.items cut.tail len c.in_ok-append.ensures.items first.1 last.1
