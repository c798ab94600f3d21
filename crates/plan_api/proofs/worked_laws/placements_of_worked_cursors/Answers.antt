use Rattle.std.proofs.Common.{refl, ℕ, ◌+◌, ◌<◌, ◌≤◌, lit<, arith}
use Rattle.plan_api.proofs.worked_laws.placements_of_worked_cursors.Goals as goal

-- the hole region has ten words
not-ten : (size : ℕ) → 10 < size → 20 + size ≤ 30 → ⊥
not-ten size more room = omega arith

pub returns-clause-hole : goal.returns-clause-hole
returns-clause-hole c = record { room = lit< tt; block = refl; offset = refl; after = refl }

pub returns-clause-over : goal.returns-clause-over
returns-clause-over c = record {
  tried = record { above = lit< tt; full = not-ten 17 (lit< tt) };
  room = lit< tt;
  block = refl;
  offset = refl;
  after = refl;
}

pub returns-clause-line : goal.returns-clause-line
returns-clause-line c = record {
  hole = not-ten 11 (lit< tt);
  over = λ tried room. (let wrong : 16 < 11 = tried.above in omega arith);
}

pub returns-clause-large : goal.returns-clause-large
returns-clause-large c = record {
  hole = not-ten 101 (lit< tt);
  over = λ tried room. (let wrong : 100 + 101 ≤ 200 = room in omega arith);
}
