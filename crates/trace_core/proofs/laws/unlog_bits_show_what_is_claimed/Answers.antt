use Rattle.std.proofs.Common.{sym, ◌∙◌, inl, inr, IsTrue}
use Rattle.std.proofs.lemmas.Bool.{cases_Bool}
use Rattle.object_model.specs.Objects.{is_unlogged}
use Rattle.trace_core.specs.Traces.{heap_after}
use Rattle.trace_core.proofs.Objects.{None-not-Some}
use Rattle.trace_core.proofs.DecidingBits.{marked, unmarked}
use Rattle.trace_core.proofs.laws.unlog_bits_show_what_is_claimed.Goals as goal

pub returns-clause-marked : goal.returns-clause-marked
returns-clause-marked c p es trace x there set = marked p es trace x there set

pub returns-clause-stays : goal.returns-clause-stays
returns-clause-stays c p es v trace holds x stays = (
  (λ set. marked p es trace x stays.held set),
  (λ claimed. elim (cases_Bool (is_unlogged (heap_after p es) x)) as (λ _. IsTrue (is_unlogged (heap_after p es) x)) [
    | inl set ↦ set
    | inr bare ↦ absurd (None-not-Some x (sym (unmarked p es trace v holds x stays bare) ∙ claimed))
  ]),
)
