use Rattle.std.proofs.Common.{refl}
use Rattle.command_line.specs.Words.{job_of}
use Rattle.command_line.proofs.laws.worked_command_lines.Goals as goal

pub returns-clause-words : goal.returns-clause-words
unfolding job_of
returns-clause-words c = refl

pub returns-clause-joined : goal.returns-clause-joined
unfolding job_of
returns-clause-joined c = refl

pub returns-clause-mixed : goal.returns-clause-mixed
unfolding job_of
returns-clause-mixed c = refl

pub returns-clause-made : goal.returns-clause-made
unfolding job_of
returns-clause-made c = refl

pub returns-clause-nothing : goal.returns-clause-nothing
unfolding job_of
returns-clause-nothing c = refl

pub returns-clause-help : goal.returns-clause-help
unfolding job_of
returns-clause-help c = refl

pub returns-clause-no_plan : goal.returns-clause-no_plan
unfolding job_of
returns-clause-no_plan c = refl

pub returns-clause-other_plan : goal.returns-clause-other_plan
unfolding job_of
returns-clause-other_plan c = refl

pub returns-clause-no_file : goal.returns-clause-no_file
unfolding job_of
returns-clause-no_file c = refl

pub returns-clause-small_heap : goal.returns-clause-small_heap
unfolding job_of
returns-clause-small_heap c = refl

pub returns-clause-twice : goal.returns-clause-twice
unfolding job_of
returns-clause-twice c = refl

pub returns-clause-both : goal.returns-clause-both
unfolding job_of
returns-clause-both c = refl

pub returns-clause-after_a_file : goal.returns-clause-after_a_file
unfolding job_of
returns-clause-after_a_file c = refl

pub returns-clause-empty_word : goal.returns-clause-empty_word
unfolding job_of
returns-clause-empty_word c = refl

pub returns-clause-two_workers : goal.returns-clause-two_workers
unfolding job_of
returns-clause-two_workers c = refl

pub returns-clause-no_worker : goal.returns-clause-no_worker
unfolding job_of
returns-clause-no_worker c = refl

pub returns-clause-many_workers : goal.returns-clause-many_workers
unfolding job_of
returns-clause-many_workers c = refl

pub returns-clause-leading_zero : goal.returns-clause-leading_zero
unfolding job_of
returns-clause-leading_zero c = refl

pub returns-clause-workers_twice : goal.returns-clause-workers_twice
unfolding job_of
returns-clause-workers_twice c = refl

pub returns-clause-stickyimmix : goal.returns-clause-stickyimmix
unfolding job_of
returns-clause-stickyimmix c = refl

pub returns-clause-marksweep : goal.returns-clause-marksweep
unfolding job_of
returns-clause-marksweep c = refl

pub returns-clause-immix : goal.returns-clause-immix
unfolding job_of
returns-clause-immix c = refl

pub returns-clause-semispace : goal.returns-clause-semispace
unfolding job_of
returns-clause-semispace c = refl

pub returns-clause-gencopy : goal.returns-clause-gencopy
unfolding job_of
returns-clause-gencopy c = refl

pub returns-clause-one_worker : goal.returns-clause-one_worker
unfolding job_of
returns-clause-one_worker c = refl

pub returns-clause-mapped : goal.returns-clause-mapped
unfolding job_of
returns-clause-mapped c = refl

pub returns-clause-made_runs : goal.returns-clause-made_runs
unfolding job_of
returns-clause-made_runs c = refl
