use Rattle.std.proofs.Common.{◌<◌, inl, inr}
use Rattle.std.proofs.lemmas.Bool.{cases_lt}
use Rattle.sessions.proofs.WorkedFits as worked
use Rattle.sessions.proofs.fitting_laws.fits_by_size.Goals as goal

pub returns-clause-hole : goal.returns-clause-hole
returns-clause-hole c r s k at size small hole = worked.from-small r s size small (inl (record { block = k; offset = at; hole = hole }))

pub returns-clause-grant : goal.returns-clause-grant
returns-clause-grant c r s size small grant = worked.from-small r s size small (inr grant)

pub returns-clause-run : goal.returns-clause-run
returns-clause-run c r s k size large run grant = worked.from-large r s size large (record { granted = grant; block = k; run = run })

pub returns-clause-neither : goal.returns-clause-neither
returns-clause-neither c r s size fits no_hole no_grant = elim (cases_lt 2048 size) as (λ _. 2048 < size) [
  | inl large ↦ large
  | inr small ↦ elim (worked.to-small r s size small fits) as (λ _. 2048 < size) [ inl hole ↦ absurd (no_hole hole.block hole.offset hole.hole) | inr grant ↦ absurd (no_grant grant) ]
]

pub returns-clause-large : goal.returns-clause-large
returns-clause-large c r s size large fits = (let found = worked.to-large r s size large fits in (found.granted, (found.block, found.run)))

pub returns-clause-full : goal.returns-clause-full
returns-clause-full c = worked.full-none
