use Rattle.mutator_core.specs.Logs.{machine_after, heap_after}
use Rattle.mutator_core.proofs.Beginnings.{log-ends}
use Rattle.mutator_core.proofs.EpochEnds.{log-loaded}
use Rattle.mutator_core.proofs.LoadedWords.{unowned-word}
use Rattle.mutator_core.proofs.Regions.{unowned-starts}
use Rattle.mutator_core.proofs.laws.loaded_words_stay.Goals as goal

pub returns-clause-words : goal.returns-clause-words
returns-clause-words c p i log is = (log-loaded p i log is).words

pub returns-clause-unowned : goal.returns-clause-unowned
returns-clause-unowned c p i log is m a x known there at nobody =
    let end = log-ends p i log is.ready is.represents is.steps in
    unowned-word p (heap_after p log) x a ((log-loaded p i log is).words m x known) there at
    (λ k. unowned-starts p is.ready (machine_after p log) end.moment.epoch a k there nobody end.moment.models.order.row.words)
