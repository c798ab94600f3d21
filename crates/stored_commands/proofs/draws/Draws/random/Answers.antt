-- The tables give what the row draws.
use Rattle.std.proofs.Common.{◌∙◌, ap, ◌/◌, ◌%◌, ◌^◌, ℕ, arith}
use Rattle.stored_commands.specs.Made.{in_row}
use Rattle.stored_commands.proofs.Drawing.{rows-drawn}
use Rattle.stored_commands.proofs.draws.Draws.random.Goals as goal

pub returns : goal.returns
returns c =
    let x : ℕ = c.next-row_state.result in
    rw (
      c.number-2.ensures.number,
      c.number-3.ensures.number,
      c.number-4.ensures.number,
      c.number-5.ensures.number,
      c.next.ensures,
      c.next-third.ensures,
      c.next-second.ensures,
      c.next-first.ensures,
    )
    (rows-drawn (c.number.result % 16) x (omega arith) ∙ ap (λ n. in_row (n % 16) x) c.number.ensures.number ∙ ap (λ y. in_row (y / 2 ^ 33 % 16) y) c.next-row_state.ensures)
