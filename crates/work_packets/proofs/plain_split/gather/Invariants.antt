use Rattle.std.proofs.Common.{◌≡◌, map, List, Ok}
use Rattle.std.specs.List.{flat_map}
use Rattle.work_packets.specs.declared.plain_split.Finished.{Finished}
use Rattle.work_packets.proofs.plain_split.gather.Given as goal

abbrev pub invariant-loop-result : goal.invariant-loop-result
invariant-loop-result g l = (fs : List (Finished g.row.T.Denot g.row.W.Denot)) × (l.yielded ≡ map (λ f. Ok f) fs) × (l.workers.items ≡ map (λ f. f.worker) fs) × (l.packets.items ≡ flat_map (λ f. f.later.items) fs)
