use Rattle.std.proofs.Common.{◌≡◌, refl, ap, ℕ, zero, suc, ◌+◌, ◌*◌, ◌≤◌, lit<, arith, IsTrue}
use Rattle.std.specs.Prelude.{unwrap_or, max}
use Rattle.heap_layout.specs.Zones.{block_start}
use Rattle.object_model.specs.Objects.{is_start}
use Rattle.sessions.specs.Fitting.{IsFreeCell, IsLineHole, IsTail}
use Rattle.sessions.specs.WorkedFits.{mixed_heap}
use Rattle.sessions.proofs.Tails.{tail-unique}
use Rattle.sessions.proofs.WorkedFits as worked
use Rattle.plan_api.proofs.worked_laws.first_parts_of_a_worked_heap.Goals as goal

-- the tail of block 0 begins at offset 15
tail-at : (at : ℕ) → IsTail mixed_heap 0 at → at ≡ 15
tail-at at tail = tail-unique mixed_heap 0 at 15 tail worked.mixed-tail

-- lines 0 and 1 of block 1 are marked, so no hole begins there
line-from : (line len : ℕ) → IsLineHole mixed_heap 1 line len → 2 ≤ line
line-from zero len hole = absurd (hole.clear 0 (omega arith) (let some : 1 ≤ len = hole.some in omega arith) refl)
line-from (suc zero) len hole = absurd (hole.clear 1 (omega arith) (let some : 1 ≤ len = hole.some in omega arith) refl)
line-from (suc (suc line)) len hole = omega arith

-- the first cell of block 2 is taken
cell-from : (at : ℕ) → IsFreeCell mixed_heap 2 at → at ≡ 2048
cell-from at cell = by-index cell.index cell.start cell.inside cell.free
  where
    by-index : (index : ℕ) → at ≡ index * 2048 → at + 2048 ≤ 4096 → (IsTrue (is_start mixed_heap (block_start 8 2 + at)) → ⊥) → at ≡ 2048
    by-index zero start inside free = absurd (free (ap (λ x. is_start mixed_heap (block_start 8 2 + x)) start))
    by-index (suc zero) start inside free = start
    by-index (suc (suc index)) start inside free = absurd (omega (arith, start, inside))

pub returns-clause-tail : goal.returns-clause-tail
returns-clause-tail c = record {
  hole = record { part = (refl, record { begin = 15; tail = worked.mixed-tail; starts = refl; ends = refl }); room = lit< tt };
  first = λ next end found. (let at = tail-at found.part.1.begin found.part.1.tail in let starts : next ≡ max found.part.1.begin 0 = found.part.1.starts in omega (arith, at));
}

pub returns-clause-late : goal.returns-clause-late
returns-clause-late c = record {
  hole = record { part = (refl, record { begin = 15; tail = worked.mixed-tail; starts = refl; ends = refl }); room = lit< tt };
  first = λ next end found. (let starts : next ≡ max found.part.1.begin 20 = found.part.1.starts in omega arith);
}

pub returns-clause-lines : goal.returns-clause-lines
returns-clause-lines c = record {
  hole = record { part = (refl, record { line = 2; len = 8; hole = worked.mixed-lines; starts = refl; ends = refl }); room = lit< tt };
  first = λ next end found. (let low : 2 ≤ found.part.1.line = line-from found.part.1.line found.part.1.len found.part.1.hole in
      let starts : next ≡ 16 * max found.part.1.line 0 = found.part.1.starts in omega arith);
}

pub returns-clause-rest : goal.returns-clause-rest
returns-clause-rest c = record {
  hole = record { part = (refl, record { line = 2; len = 8; hole = worked.mixed-lines; starts = refl; ends = refl }); room = lit< tt };
  first = λ next end found. (let starts : next ≡ 16 * max found.part.1.line 3 = found.part.1.starts in omega arith);
}

pub returns-clause-short : goal.returns-clause-short
returns-clause-short c found = (let wrong : 48 + 113 ≤ 160 = found.room in omega arith)

pub returns-clause-cell : goal.returns-clause-cell
returns-clause-cell c = record {
  hole = record { part = (refl, record { class = refl; cell = worked.mixed-cell; after = omega arith; ends = refl }); room = lit< tt };
  first = λ next end found. (let at : next ≡ 2048 = cell-from next found.part.1.cell in omega arith);
}

pub returns-clause-later : goal.returns-clause-later
returns-clause-later c = λ next end found. (let at : next ≡ 2048 = cell-from next found.part.1.cell in let after : 2049 ≤ next = found.part.1.after in omega arith)

pub returns-clause-class : goal.returns-clause-class
returns-clause-class c = λ next end found. (let wrong : ◌≡◌ {A = ℕ} 17 18 = ap (λ o. unwrap_or o 0) found.part.1.class in omega arith)
