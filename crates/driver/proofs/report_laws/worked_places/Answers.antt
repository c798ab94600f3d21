use Rattle.std.proofs.Common.{arith}
use Rattle.driver.proofs.report_laws.worked_places.Goals as goal

pub returns-clause-apart : goal.returns-clause-apart
returns-clause-apart c i one two = omega (arith, one.below, two.from)

pub returns-clause-shared : goal.returns-clause-shared
returns-clause-shared c apart = apart 8 (record { from = omega arith; below = omega arith }) (record { from = omega arith; below = omega arith })

pub returns-clause-across : goal.returns-clause-across
returns-clause-across c apart = apart 4099 (record { from = omega arith; below = omega arith }) (record { from = omega arith; below = omega arith })

pub returns-clause-last : goal.returns-clause-last
returns-clause-last c = record {
  inside = λ i has. omega (arith, has.below);
  medium = λ small. omega arith;
  large = λ large. absurd (omega (arith, large));
}

pub returns-clause-run : goal.returns-clause-run
returns-clause-run c = record {
  inside = λ i has. omega (arith, has.below);
  medium = λ small. absurd (omega (arith, small));
  large = λ large. omega arith;
}

pub returns-clause-past : goal.returns-clause-past
returns-clause-past c lies = omega (arith, lies.inside 20480 (record { from = omega arith; below = omega arith }))

pub returns-clause-outside : goal.returns-clause-outside
returns-clause-outside c lies = omega (arith, lies.inside 20480 (record { from = omega arith; below = omega arith }))

pub returns-clause-split : goal.returns-clause-split
returns-clause-split c lies = omega (arith, lies.medium (omega arith))

pub returns-clause-inner : goal.returns-clause-inner
returns-clause-inner c lies = omega (arith, lies.large (omega arith))
