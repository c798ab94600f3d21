use Rattle.managed_value.proofs.Runs as runs
use Rattle.managed_value.proofs.laws.managed_heaps_follow_ideal_heaps.Goals as goal

pub returns-clause-run : goal.returns-clause-run
returns-clause-run g c = λ rules es has. runs.entries-run rules c.args.heap.now es has

pub returns-clause-represents : goal.returns-clause-represents
returns-clause-represents g c = λ rules es w has here. runs.entries-represent rules c.args.heap.now es w has here
