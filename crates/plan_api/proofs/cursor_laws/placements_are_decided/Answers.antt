use Rattle.std.proofs.Common.{refl, ◌⊎◌, inl, inr, ℕ, ◌+◌, ◌<◌, ◌≤◌, arith}
use Rattle.std.proofs.lemmas.Bool.{cases_lt}
use Rattle.plan_api.specs.declared.cursors.Cursors.{Cursors}
use Rattle.plan_api.specs.Cursors.{PlacesInRegion, LacksRoom, region_after}
use Rattle.plan_api.proofs.cursor_laws.placements_are_decided.Goals as goal

-- a region lacks room, so it has none
no-room : (a b : ℕ) → b < a → a ≤ b → ⊥
no-room a b less most = omega arith

abbrev Answered : Cursors → ℕ → Type 0
Answered cursors size = LacksRoom cursors size ⊎ ((new : Cursors) × (k : ℕ) × (at : ℕ) × PlacesInRegion cursors new size k at)

-- the hole region lacks room
in-overflow : (cursors : Cursors) (size : ℕ) → cursors.hole.end < cursors.hole.next + size → Answered cursors size
in-overflow cursors size short =
    let full = no-room (cursors.hole.next + size) cursors.hole.end short in
    elim (cases_lt 16 size) as (λ _. Answered cursors size) [
      | inr line ↦ inl (record { hole = full; over = λ tried room. no-room size 16 tried.above line })
      | inl above ↦ elim (cases_lt cursors.over.end (cursors.over.next + size)) as (λ _. Answered cursors size) [
        | inl less ↦ inl (record { hole = full; over = λ tried. no-room (cursors.over.next + size) cursors.over.end less })
        | inr room ↦ inr (
          record cursors { over = region_after cursors.over size },
          cursors.over_block,
          cursors.over.next,
          inr (record {
            tried = record { above = above; full = full };
            room = room;
            block = refl;
            offset = refl;
            after = refl;
          }),
        )
      ]
    ]

pub returns-clause-either : goal.returns-clause-either
returns-clause-either c = λ cursors size. elim (cases_lt cursors.hole.end (cursors.hole.next + size)) as (λ _. Answered cursors size) [
  | inl less ↦ in-overflow cursors size less
  | inr room ↦ inr (
    record cursors { hole = region_after cursors.hole size },
    cursors.hole_block,
    cursors.hole.next,
    inl (record {
      room = room;
      block = refl;
      offset = refl;
      after = refl;
    }),
  )
]
