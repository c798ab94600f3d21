use Rattle.std.proofs.Common.{◌≡◌, ◌+◌, ◌∙◌, length, arith}
use Rattle.std.proofs.lemmas.List.{length-append}
use Rattle.std.proofs.lemmas.List.Sorted.{length_permutation}
use Rattle.work_packets.specs.Packets.{packets_of, packets_after}
use Rattle.work_packets.specs.Steps.{ran_by_all, pushed_by_all}
use Rattle.work_packets.proofs.Logs.{AllReach-lengths}
use Rattle.work_packets.proofs.Reached.{now-or-later}
use Rattle.work_packets.proofs.laws.runs_lose_nothing.Goals as goal

pub returns-clause-workers : goal.returns-clause-workers
returns-clause-workers g c = λ work h. AllReach-lengths g.W.PacketWorker.steps work.before work.logs work.after h.reached

pub returns-clause-run : goal.returns-clause-run
returns-clause-run g c = λ work h. length_permutation _ _ h.once ∙ length-append work.first (packets_of work.bucket (pushed_by_all work.logs))

pub returns-clause-left : goal.returns-clause-left
returns-clause-left g c = λ work h. length_permutation _ _ h.left

pub returns-clause-all : goal.returns-clause-all
returns-clause-all g c = λ work h.
    let run : length (ran_by_all work.logs) ≡ length work.first + length (packets_of work.bucket (pushed_by_all work.logs)) = length_permutation _ _ h.once ∙ length-append work.first (packets_of work.bucket (pushed_by_all work.logs)) in
    let left : length work.later ≡ length (packets_after work.bucket (pushed_by_all work.logs)) = length_permutation _ _ h.left in
    let both : length (pushed_by_all work.logs) ≡ length (packets_of work.bucket (pushed_by_all work.logs)) + length (packets_after work.bucket (pushed_by_all work.logs)) = now-or-later work.bucket (pushed_by_all work.logs) h.order in
    omega arith
