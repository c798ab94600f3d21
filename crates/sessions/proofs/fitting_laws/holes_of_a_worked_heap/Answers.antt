use Rattle.std.proofs.Common.{refl, ◌≡◌, ◌*◌, ◌≤◌, ℕ, ap, lit<, Option, arith}
use Rattle.std.specs.Prelude.{unwrap_or}
use Rattle.sessions.specs.WorkedFits.{mixed_heap}
use Rattle.sessions.proofs.Tails.{tail-unique}
use Rattle.sessions.proofs.WorkedFits as worked
use Rattle.sessions.proofs.fitting_laws.holes_of_a_worked_heap.Goals as goal

pub returns-clause-bump : goal.returns-clause-bump
returns-clause-bump c = (refl, worked.mixed-tail, lit< tt)

pub returns-clause-young : goal.returns-clause-young
returns-clause-young c = (refl, worked.mixed-young, lit< tt)

pub returns-clause-tail : goal.returns-clause-tail
returns-clause-tail c at tail = tail-unique mixed_heap 0 at 15 tail worked.mixed-tail

pub returns-clause-lines : goal.returns-clause-lines
returns-clause-lines c = (refl, record { line = 2; len = 8; start = refl; hole = worked.mixed-lines; room = lit< tt })

pub returns-clause-one_line : goal.returns-clause-one_line
returns-clause-one_line c = (refl, record { line = 11; len = 1; start = refl; hole = worked.mixed-one; room = lit< tt })

pub returns-clause-last_lines : goal.returns-clause-last_lines
returns-clause-last_lines c = (refl, record { line = 13; len = 243; start = refl; hole = worked.mixed-last; room = lit< tt })

pub returns-clause-more_lines : goal.returns-clause-more_lines
returns-clause-more_lines c hole = worked.too-long hole.1

pub returns-clause-marked_line : goal.returns-clause-marked_line
returns-clause-marked_line c hole = worked.not-marked hole.1

pub returns-clause-later_line : goal.returns-clause-later_line
returns-clause-later_line c hole = worked.not-later hole.1

pub returns-clause-within_a_line : goal.returns-clause-within_a_line
returns-clause-within_a_line c hole = (let e : 33 ≡ 16 * hole.1.line = hole.1.start in omega arith)

pub returns-clause-no_line : goal.returns-clause-no_line
returns-clause-no_line c line hole = (let some : 1 ≤ 0 = hole.some in omega arith)

pub returns-clause-cell : goal.returns-clause-cell
returns-clause-cell c = ((refl, worked.mixed-cell, refl), (refl, worked.mixed-cell, refl))

pub returns-clause-first_cell : goal.returns-clause-first_cell
returns-clause-first_cell c = (refl, record { index = 0; start = refl; inside = lit< tt; free = worked.wrong }, refl)

pub returns-clause-other_class : goal.returns-clause-other_class
returns-clause-other_class c hole = worked.differ 17 18 (lit< tt) (ap (λ (o : Option ℕ). unwrap_or o 0) hole.2)

pub returns-clause-taken_cell : goal.returns-clause-taken_cell
returns-clause-taken_cell c hole = hole.1.free refl

pub returns-clause-within_a_cell : goal.returns-clause-within_a_cell
returns-clause-within_a_cell c hole = (let e : 8 ≡ hole.1.index * 1536 = hole.1.start in omega arith)

pub returns-clause-past_the_block : goal.returns-clause-past_the_block
returns-clause-past_the_block c hole = (let over : 4608 ≤ 4096 = hole.1.inside in omega arith)

pub returns-clause-any_cell : goal.returns-clause-any_cell
returns-clause-any_cell c cells = record { kind = refl; class = refl; index = 0; start = refl }
