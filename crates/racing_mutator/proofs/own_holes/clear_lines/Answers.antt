use Rattle.std.proofs.Common.{◌≡◌, ◌+◌, ◌/◌, ℕ, refl, subst, arith}
use Rattle.line_marks.specs.Bits.{IsFirstClearRun, HasNoClearRun}
use Rattle.racing_mutator.proofs.own_holes.clear_lines.Goals as goal

pub returns-in_default : goal.returns-in_default
returns-in_default c =
    let first : c.div_ceil-first.result ≡ (c.args.from + 15) / 16 = omega (arith, c.div_ceil-first.ensures) in
    let needed : c.div_ceil.result ≡ (c.args.size + 15) / 16 = omega (arith, c.div_ceil.ensures) in
    subst (λ (n : ℕ). HasNoClearRun c.args.lines.now n ((c.args.size + 15) / 16)) first (subst (λ (n : ℕ). HasNoClearRun c.args.lines.now c.div_ceil-first.result n) needed c.in_default.ensures)

pub returns : goal.returns
returns c =
    let first : c.div_ceil-first.result ≡ (c.args.from + 15) / 16 = omega (arith, c.div_ceil-first.ensures) in
    let needed : c.div_ceil.result ≡ (c.args.size + 15) / 16 = omega (arith, c.div_ceil.ensures) in (
      c.in-Some.run'.start,
      c.in-Some.run'.end,
      refl,
      refl,
      subst (λ (n : ℕ). IsFirstClearRun c.args.lines.now n ((c.args.size + 15) / 16) c.in-Some.run'.start c.in-Some.run'.end) first
          (subst (λ (n : ℕ). IsFirstClearRun c.args.lines.now c.div_ceil-first.result n c.in-Some.run'.start c.in-Some.run'.end) needed c.in-Some.ensures),
    )
