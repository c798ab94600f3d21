-- Places that lie in the heap's blocks, by the test.
use Rattle.std.proofs.Common.{◌≡◌, refl, ℕ, ◌+◌, ◌-◌, ◌*◌, ◌/◌, ◌<◌, ◌≤◌, arith, inl, inr, Bool, true, false, ◌&&◌, nat_eq, nat_lt, nat_le}
use Rattle.std.specs.Prelude.{if◌then◌else◌}
use Rattle.std.proofs.lemmas.Bool.{and_from, and_parts, cases_lt, eq-eqb, eqb-true, le-leb, leb-true, leb-false, lt-ltb, ltb-true}
use Rattle.driver.specs.MapPlaces.{LiesInBlocks}
use Rattle.heap_picture.specs.declared.forms.Place.{Place}
use Rattle.heap_picture.specs.Bars.{map_place}
use Rattle.heap_picture.specs.Reading.{lies_in}

abbrev small_test : ℕ → Place → Bool
small_test blocks p = nat_lt p.block blocks && nat_lt p.word 4096 && nat_le (p.word + p.size) 4096

abbrev large_test : ℕ → Place → Bool
large_test blocks p = nat_lt p.block blocks && nat_eq p.word 0 && nat_le p.size 61027 && nat_le ((p.size + 4095) / 4096) (blocks - p.block)

lies_by : (b : Bool) (blocks : ℕ) (p : Place) → nat_le p.size 2048 ≡ b → (if b then small_test blocks p else large_test blocks p) ≡ true
    → LiesInBlocks blocks (map_place p) × (p.size ≤ 61027)
lies_by true blocks p is holds =
    let parts = and_parts (nat_lt p.block blocks && nat_lt p.word 4096) _ holds in
    let front = and_parts (nat_lt p.block blocks) _ parts.0 in
    let block : p.block < blocks = ltb-true _ _ front.0 in
    let end : p.word + p.size ≤ 4096 = leb-true _ _ parts.1 in
    let size : p.size ≤ 2048 = leb-true _ _ is in (
      record {
        inside = λ i h. omega (arith, block, end, h.below);
        medium = λ _. end;
        large = λ more. absurd (omega (arith, size, more));
      },
      omega (arith, size),
    )
lies_by false blocks p is holds =
    let parts = and_parts (nat_lt p.block blocks && nat_eq p.word 0 && nat_le p.size 61027) _ holds in
    let middle = and_parts (nat_lt p.block blocks && nat_eq p.word 0) _ parts.0 in
    let front = and_parts (nat_lt p.block blocks) _ middle.0 in
    let block : p.block < blocks = ltb-true _ _ front.0 in
    let at : p.word ≡ 0 = eqb-true _ _ front.1 in
    let room : (p.size + 4095) / 4096 ≤ blocks - p.block = leb-true _ _ parts.1 in
    let size : 2048 < p.size = leb-false _ _ is in (
      record {
        inside = λ i h. omega (arith, block, at, room, h.below);
        medium = λ less. absurd (omega (arith, size, less));
        large = λ _. at;
      },
      leb-true _ _ middle.1,
    )

pub place_lies : (blocks : ℕ) (p : Place) → lies_in blocks p ≡ true → LiesInBlocks blocks (map_place p) × (p.size ≤ 61027)
place_lies blocks p holds = lies_by (nat_le p.size 2048) blocks p refl holds

-- the converse, of an object that has a header
large_room : (blocks block size : ℕ) → 2048 < size → 4096 * block + size ≤ 4096 * blocks → (size + 4095) / 4096 ≤ blocks - block
large_room blocks block size large within = omega (arith, large, within)

module _ (blocks : ℕ) (p : Place) (header : 3 ≤ p.size) (short : p.size ≤ 61027) (lies : LiesInBlocks blocks (map_place p)) where
  pub ends_within : 4096 * p.block + p.word + p.size ≤ 4096 * blocks
  ends_within = let last : 4096 * p.block + p.word + p.size - 1 < 4096 * blocks = lies.inside (4096 * p.block + p.word + p.size - 1) (record { from = omega (arith, header); below = omega (arith, header) }) in omega (arith, last, header)

  test_by : (b : Bool) → nat_le p.size 2048 ≡ b → (if b then small_test blocks p else large_test blocks p) ≡ true
  test_by true is =
      let size : p.size ≤ 2048 = leb-true _ _ is in
      let end : p.word + p.size ≤ 4096 = lies.medium size in
      and_from _ _ (and_from _ _ (lt-ltb p.block blocks (omega (arith, ends_within, header))) (lt-ltb p.word 4096 (omega (arith, end, header)))) (le-leb (p.word + p.size) 4096 end)
  test_by false is =
      let size : 2048 < p.size = leb-false _ _ is in
      let at : p.word ≡ 0 = lies.large size in
      and_from _ _ (and_from _ _ (and_from _ _ (lt-ltb p.block blocks (omega (arith, ends_within, header))) (eq-eqb p.word 0 at)) (le-leb p.size 61027 short))
      (le-leb ((p.size + 4095) / 4096) (blocks - p.block) (large_room blocks p.block p.size size (omega (arith, ends_within, at))))

  pub lies_again : lies_in blocks p ≡ true
  lies_again = test_by (nat_le p.size 2048) refl

  pub word_few : p.word ≤ 4096
  word_few = elim (cases_lt 2048 p.size) as (λ _. p.word ≤ 4096) [
    | inl large ↦ (let at : p.word ≡ 0 = lies.large large in omega (arith, at))
    | inr small ↦ (let end : p.word + p.size ≤ 4096 = lies.medium small in omega (arith, end))
  ]
