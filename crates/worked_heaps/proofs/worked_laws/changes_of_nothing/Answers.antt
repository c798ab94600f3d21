use Rattle.std.proofs.Common.{◌≡◌, refl, sym, subst, ℕ, ◌+◌, ◌*◌, ◌<◌, arith}
use Rattle.heap_layout.specs.Zones.{LineWords, bit_of}
use Rattle.object_model.specs.Objects.{block_word}
use Rattle.worked_heaps.specs.WorkedKinds.{kinds_heap}
use Rattle.worked_heaps.proofs.KindsRepresent.{lawful}
use Rattle.object_model.proofs.LawfulTests.{below}
use Rattle.worked_heaps.proofs.worked_laws.changes_of_nothing.Goals as goal

pub returns-clause-lines : goal.returns-clause-lines
returns-clause-lines c = record {
  blocks = refl;
  number = refl;
  base = refl;
  extent = refl;
  words = lawful.but_lines.order.row.words;
  marked = λ line touches. let from : 1200 + 16 * line < 1218 = touches.from in below (λ l. bit_of 6 LineWords kinds_heap.words l) 2 refl line (omega arith);
  others = λ line less apart. refl;
  rest = λ i apart. refl;
}

pub returns-clause-run : goal.returns-clause-run
returns-clause-run c = record {
  blocks = refl;
  number = refl;
  base = refl;
  extent = refl;
  head = refl;
  tails = λ j more less. let e : j ≡ 1 = omega arith in subst (λ (k : ℕ). block_word kinds_heap (2 + k) ≡ 7) (sym e) refl;
  others = λ i apart. refl;
}

pub returns-clause-log : goal.returns-clause-log
returns-clause-log c = record {
  blocks = refl;
  number = refl;
  base = refl;
  extent = refl;
  words = lawful.but_lines.order.row.words;
  clear = refl;
  others = λ x apart. refl;
  rest = λ i apart. refl;
}
