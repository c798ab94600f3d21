use Rattle.std.proofs.lemmas.Bool.{le-ltb}
use Rattle.std.proofs.Common.{refl}
use Rattle.sessions.proofs.EpochParts as parts
use Rattle.std.specs.Prelude.{nat_lt}
use Rattle.ideal_heap.specs.Commands.{is_gc, is_meet, size_wanted}
use Rattle.ideal_heap.specs.Runs.{is_full}
use Rattle.sessions.proofs.epoch_laws.parts_have_plain_entries.Goals as goal

pub returns-clause-gcs : goal.returns-clause-gcs
returns-clause-gcs c = parts.none-more (λ e. is_gc e.command) (λ e of_part. of_part.gc)

pub returns-clause-meets : goal.returns-clause-meets
returns-clause-meets c = parts.none-more (λ e. is_meet e.command) (λ e of_part. of_part.meet)

pub returns-clause-refusals : goal.returns-clause-refusals
returns-clause-refusals c = parts.none-more (λ e. is_full e.reply) (λ e of_part. of_part.full)

pub returns-clause-large : goal.returns-clause-large
returns-clause-large c = parts.none-more (λ e. nat_lt 2048 (size_wanted e.command)) (λ e of_part. le-ltb 2048 (size_wanted e.command) of_part.small)

pub returns-clause-medium : goal.returns-clause-medium
returns-clause-medium c m d refs nums n small = record { gc = refl; meet = refl; full = refl; small = small }
