use Rattle.std.proofs.Common.{refl, []}
use Rattle.ideal_heap.specs.declared.reply.Reply.TheVariants as reply
use Rattle.ideal_heap.specs.Ideal.{empty}
use Rattle.ideal_heap.specs.Runs.{heap_after_run}
use Rattle.managed_value.proofs.Programs as programs
use Rattle.managed_value.proofs.laws.ideal_heaps_go_on.Goals as goal

pub returns-clause-begins : goal.returns-clause-begins
returns-clause-begins g c = λ rules heap has. programs.stands-after rules heap [] has

pub returns-clause-reply : goal.returns-clause-reply
returns-clause-reply g c = λ rules old new m command r i adds answered stands. programs.reply-next rules old new m command r i adds stands answered

pub returns-clause-step : goal.returns-clause-step
returns-clause-step g c = λ rules old new m command r i adds answered stands. programs.stands-next rules old new m command r i adds stands answered

pub returns-clause-commands : goal.returns-clause-commands
returns-clause-commands g c = λ rules old new m command r i commands adds answered stands. programs.stands-commands rules old new m command r i commands adds answered stands

pub returns-clause-refused : goal.returns-clause-refused
returns-clause-refused g c = λ rules old new m command i adds stands. programs.stands-refused rules old new m command reply.Full i adds stands refl

pub returns-clause-kept : goal.returns-clause-kept
returns-clause-kept g c = λ rules old new i keeps stands. programs.stands-still rules old new i keeps stands

pub returns-clause-some : goal.returns-clause-some
returns-clause-some g c = λ rules heap usable. (heap_after_run empty usable.entries, programs.stands-after rules heap usable.entries usable.has)

pub returns-clause-grown : goal.returns-clause-grown
returns-clause-grown g c = λ rules heap i stands. programs.stands-grown rules heap i stands

pub returns-clause-represents : goal.returns-clause-represents
returns-clause-represents g c = λ rules heap i w stands here. programs.stands-represented rules heap i w stands here
