-- The stored traces are the same.
use Rattle.std.proofs.Common.{◌≡◌, sym, ◌∙◌, ap, subst, List}
use Rattle.std.specs.Prelude.{All}
use Rattle.std.proofs.lemmas.Result.{IfOk-weaker}
use Rattle.ideal_heap.specs.declared.command.Command.{Command}
use Rattle.mm_runtime.specs.Managers.{IsRunnableTrace}
use Rattle.stored_commands.specs.Lists.{lists_of}
use Rattle.mm_runtime.proofs.manager.Manager.begin.Goals as goal

pub begin_stored-requires-clause-runnable : goal.begin_stored-requires-clause-runnable
begin_stored-requires-clause-runnable g c =
    let same : c.in_ok-stored.stored.items ≡ lists_of c.args.traces.items = c.in_ok-stored.ensures.same ∙ ap lists_of c.deref.ensures.value in
    subst (λ (ts : List (List Command)). All IsRunnableTrace ts) (sym same) c.requires.runnable

pub returns-clause-closes : goal.returns-clause-closes
returns-clause-closes g c =
    let same : c.in_ok-stored.stored.items ≡ lists_of c.args.traces.items = c.in_ok-stored.ensures.same ∙ ap lists_of c.deref.ensures.value in
    IfOk-weaker c.begin_stored.result _ _ (λ m closes t rules blocks workers traces. closes t rules blocks workers (traces ∙ sym same)) c.begin_stored.ensures.closes
