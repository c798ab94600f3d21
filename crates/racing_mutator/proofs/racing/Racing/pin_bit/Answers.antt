use Rattle.std.proofs.Common.{◌+◌, ◌-◌, ◌/◌, ◌%◌, ◌≤◌, ap, sym, subst, ◌∙◌, arith, rules}
use Rattle.heap_layout.specs.Zones.{PinBits, heap_of}
use Rattle.racing_mutator.proofs.Pinned.{from-heap, bit-of}
use Rattle.racing_mutator.proofs.racing.Racing.pin_bit.Goals as goal

pub bit_at-requires : goal.bit_at-requires
bit_at-requires g c = subst (λ x. heap_of c.args.self.now.row.now.layout.blocks ≤ x) (sym c.register.ensures) (from-heap g.P.Plan.rules c.args.self.now c.requires.ready c.args.s c.requires.register c.requires.some)

pub returns : goal.returns
returns g c = bit-of g.P.Plan.rules c.args.self.now c.requires.ready PinBits c.pin_base.result c.args.s _ _ c.requires.register c.requires.some (omega arith) (search rules)
    (c.bit_at.ensures.word ∙ ap (λ n. c.pin_base.result + (n - heap_of c.args.self.now.row.now.layout.blocks) / 64) c.register.ensures)
    (c.bit_at.ensures.bit ∙ ap (λ n. (n - heap_of c.args.self.now.row.now.layout.blocks) % 64) c.register.ensures)
