use Rattle.std.proofs.Common.{◌≡◌, refl, sym, subst, ℕ, ◌+◌, ◌*◌, ◌≤◌, inl, inr, lit<, arith, true, IsTrue}
use Rattle.std.proofs.lemmas.Bool.{cases_lt}
use Rattle.heap_layout.specs.Zones.{block_start}
use Rattle.object_model.specs.Objects.{is_start}
use Rattle.sessions.specs.Fitting.{IsFreeCell}
use Rattle.sessions.specs.WorkedFits.{mixed_heap}
use Rattle.sessions.proofs.WorkedFits as worked
use Rattle.block_regions.specs.Regions.{free, full}
use Rattle.block_regions.proofs.region_laws.regions_of_worked_heaps.Goals as goal

-- an object begins at this offset of block k
not-free : (k at : ℕ) → is_start mixed_heap (block_start 8 k + at) ≡ true → (x : ℕ) → x ≡ at → IsFreeCell mixed_heap k x → ⊥
not-free k at set x same cell = cell.free (subst (λ (n : ℕ). IsTrue (is_start mixed_heap (block_start 8 k + n))) (sym same) set)

later : (x : ℕ) → IsFreeCell mixed_heap 2 x → 2048 ≤ x
later x cell =
    let start : x ≡ cell.index * 2048 = cell.start in
    elim (cases_lt 0 cell.index) as (λ _. 2048 ≤ x) [
      | inl some ↦ omega arith
      | inr none ↦ absurd (not-free 2 0 refl x (omega arith) cell)
    ]

none-later : (x : ℕ) → 1536 ≤ x → IsFreeCell mixed_heap 3 x → ⊥
none-later x from cell =
    let start : x ≡ cell.index * 1536 = cell.start in
    let inside : x + 1536 ≤ 4096 = cell.inside in
    not-free 3 1536 refl x (omega arith) cell

pub returns-clause-tail : goal.returns-clause-tail
returns-clause-tail c = record { tail = worked.mixed-tail; inside = lit< tt; end = refl }

pub returns-clause-young : goal.returns-clause-young
returns-clause-young c = record { tail = worked.mixed-young; inside = lit< tt; end = refl }

pub returns-clause-first_cell : goal.returns-clause-first_cell
returns-clause-first_cell c = free (record {
  cell = record { index = 0; start = refl; inside = lit< tt; free = worked.wrong };
  after = omega arith;
  first = λ x from cell. from;
}) refl

pub returns-clause-later_cell : goal.returns-clause-later_cell
returns-clause-later_cell c = free (record { cell = worked.mixed-cell; after = omega arith; first = λ x from cell. later x cell }) refl

pub returns-clause-next_cell : goal.returns-clause-next_cell
returns-clause-next_cell c = free (record {
  cell = record { index = 1; start = refl; inside = lit< tt; free = worked.wrong };
  after = omega arith;
  first = λ x from cell. from;
}) refl

pub returns-clause-last_cell : goal.returns-clause-last_cell
returns-clause-last_cell c = full none-later refl refl

pub returns-clause-tail_after : goal.returns-clause-tail_after
returns-clause-tail_after c = refl
