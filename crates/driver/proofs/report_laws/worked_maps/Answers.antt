use Rattle.std.proofs.Common.{◌≡◌, refl, inl, inr, arith}
use Rattle.std.proofs.lemmas.List.Elements.{All-from_recursion}
use Rattle.ideal_heap.specs.Names.{IsBefore, name}
use Rattle.ideal_heap.specs.Ideal.{record_of}
use Rattle.driver.specs.LiveNames.{record_size}
use Rattle.driver.specs.Texts.{MapPlace}
use Rattle.driver.specs.MapPlaces.{LiesInBlocks, AreDisjoint}
use Rattle.driver.specs.WorkedReach.{worked_ideal, worked_map, place_at}
use Rattle.driver.proofs.WorkedReach.{live, pairs-of-three}
use Rattle.driver.proofs.report_laws.worked_maps.Goals as goal

abbrev no_place : MapPlace
no_place = place_at 0 0 0

abbrev HasRecordSize : MapPlace → Type 0
HasRecordSize p = p.size ≡ record_size (record_of worked_ideal p.name)

large-inside : LiesInBlocks 5 (record { name = name 1 2; block = 2; word = 0; size = 2049 })
large-inside = record { inside = λ i has. omega (arith, has.below); medium = λ small. absurd (omega (arith, small)); large = λ large. refl }

shared-inside : LiesInBlocks 5 (place_at 3 16 7)
shared-inside = record { inside = λ i has. omega (arith, has.below); medium = λ small. omega arith; large = λ large. absurd (omega (arith, large)) }

second-inside : LiesInBlocks 5 (record { name = name 2 1; block = 0; word = 5; size = 4 })
second-inside = record { inside = λ i has. omega (arith, has.below); medium = λ small. omega arith; large = λ large. absurd (omega (arith, large)) }

pub returns-clause-places : goal.returns-clause-places
returns-clause-places c = refl

pub returns-clause-is : goal.returns-clause-is
returns-clause-is c = record {
  names = live;
  sizes = All-from_recursion HasRecordSize (worked_map (place_at 3 16 7)) (refl, (refl, (refl, tt)));
  inside = All-from_recursion (LiesInBlocks 5) (worked_map (place_at 3 16 7)) (large-inside, (shared-inside, (second-inside, tt)));
  apart = pairs-of-three AreDisjoint (record { name = name 1 2; block = 2; word = 0; size = 2049 }) (place_at 3 16 7) (record { name = name 2 1; block = 0; word = 5; size = 4 })
      (λ i one two. omega (arith, one.below, two.from)) (λ i one two. omega (arith, one.from, two.below)) (λ i one two. omega (arith, one.from, two.below));
}

pub returns-clause-dead : goal.returns-clause-dead
returns-clause-dead c is =
    let before : IsBefore (name 1 2) (name 1 1) = is.names.rise 0 1 (name 1 1) (omega arith) (omega arith) in
    elim before as (λ _. ⊥) [ inl less ↦ omega (arith, less) | inr both ↦ omega (arith, both.1) ]

pub returns-clause-larger : goal.returns-clause-larger
returns-clause-larger c is = let wrong : 8 ≡ 7 = is.sizes 1 no_place (omega arith) in omega (arith, wrong)

pub returns-clause-outside : goal.returns-clause-outside
returns-clause-outside c is =
    let lies : LiesInBlocks 5 (place_at 5 16 7) = is.inside 1 no_place (omega arith) in
    omega (arith, lies.inside 20500 (record { from = omega arith; below = omega arith }))

pub returns-clause-overlapping : goal.returns-clause-overlapping
returns-clause-overlapping c is =
    let apart : AreDisjoint (place_at 0 8 7) (record { name = name 2 1; block = 0; word = 5; size = 4 }) = is.apart 1 2 no_place (omega arith) (omega arith) in
    apart 8 (record { from = omega arith; below = omega arith }) (record { from = omega arith; below = omega arith })
