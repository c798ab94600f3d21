use Rattle.std.proofs.Common.{refl, sym, ◌∙◌, arith, true≢false}
use Rattle.collector.proofs.Offered.{full-offered, first-offered, still-offered, kept-offered}
use Rattle.collector.proofs.laws.offered_collections.Goals as goal

pub returns-clause-full : goal.returns-clause-full
returns-clause-full c = full-offered

pub returns-clause-first : goal.returns-clause-first
returns-clause-first c = first-offered

pub returns-clause-none : goal.returns-clause-none
returns-clause-none c r s old offered = true≢false (sym (offered.young refl) ∙ old)

pub returns-clause-begins : goal.returns-clause-begins
returns-clause-begins c r s none offered = absurd (let some = offered.base refl in omega (arith, none, some))

pub returns-clause-after : goal.returns-clause-after
returns-clause-after c = still-offered

pub returns-clause-kept : goal.returns-clause-kept
returns-clause-kept c = kept-offered
