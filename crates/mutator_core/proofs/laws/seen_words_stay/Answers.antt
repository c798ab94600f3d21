use Rattle.std.proofs.Common.{◌≡◌, ◌⊎◌, inl, inr}
use Rattle.object_model.specs.Objects.{word_at}
use Rattle.mutator_core.specs.Logs.{heap_after, HasRaisedStop}
use Rattle.mutator_core.proofs.EpochEnds.{log-seen}
use Rattle.mutator_core.proofs.laws.seen_words_stay.Goals as goal

pub returns-clause-stop : goal.returns-clause-stop
returns-clause-stop c p i log is = elim (log-seen p i log is).stop as (λ _. (word_at (heap_after p log) 0 ≡ 0) ⊎ HasRaisedStop p log (word_at (heap_after p log) 0)) [
  | inl none ↦ inl none
  | inr some ↦ inr (record { known = some.0; raised = some.1 })
]

pub returns-clause-polled : goal.returns-clause-polled
returns-clause-polled c p i log is = (log-seen p i log is).polled

pub returns-clause-blocks : goal.returns-clause-blocks
returns-clause-blocks c p i log is = (log-seen p i log is).blocks
