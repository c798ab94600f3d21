use Rattle.std.proofs.Common.{◌++◌, sym, ◌∙◌, ap, arith, add-zero}
use Rattle.ideal_heap.specs.Names.{name_of}
use Rattle.object_model.specs.Objects.{word_at}
use Rattle.mutator_core.specs.Machine.{first_machine}
use Rattle.mutator_core.specs.Logs.{heap_after}
use Rattle.mutator_core.proofs.Regions.{stays-later, history-append}
use Rattle.mutator_core.proofs.laws.objects_stay.Goals as goal

pub returns-clause-held : goal.returns-clause-held
returns-clause-held c p i log more is a holds = (stays-later p i log more is a holds).0

pub returns-clause-header : goal.returns-clause-header
returns-clause-header c p i log more is a j holds few = (stays-later p i log more is a holds).1 j few

pub returns-clause-name : goal.returns-clause-name
returns-clause-name c p i log more is a holds =
    ap name_of (ap (word_at (heap_after p (log ++ more))) (sym (add-zero a)) ∙ (stays-later p i log more is a holds).1 0 (omega arith) ∙ ap (word_at (heap_after p log)) (add-zero a))

pub returns-clause-history : goal.returns-clause-history
returns-clause-history c p log more = history-append p (first_machine p) log more
