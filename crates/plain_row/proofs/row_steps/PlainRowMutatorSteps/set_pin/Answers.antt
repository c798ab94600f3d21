use Rattle.std.proofs.Common.{◌+◌, ◌-◌, ◌/◌, ◌<◌, ◌∙◌, ◌%◌, ap, sym, subst, arith, length}
use Rattle.heap_layout.specs.Zones.{PinBits, first, heap_of, IsAddress}
use Rattle.plain_row.proofs.StoreSteps as storing
use Rattle.plain_row.proofs.row_steps.PlainRowMutatorSteps.set_pin.Goals as goal

pub bit_at-at-requires-clause-address : goal.bit_at-at-requires-clause-address
bit_at-at-requires-clause-address c = subst (IsAddress c.args.self.now.row.layout.blocks) (sym c.register.ensures) (storing.held-in c.args.self.now c.requires.ready c.args.s c.requires.register c.requires.some).address

pub test_bit-pinned-requires-clause-word : goal.test_bit-pinned-requires-clause-word
test_bit-pinned-requires-clause-word c = subst (λ n. n < length c.args.self.now.row.words) (sym
    (c.bit_at-at.ensures.word ∙ ap (λ n. n + (c.register.result - heap_of c.args.self.now.row.layout.blocks) / 64) c.pin_base.ensures
    ∙ ap (λ n. first c.args.self.now.row.layout.blocks PinBits + (n - heap_of c.args.self.now.row.layout.blocks) / 64) c.register.ensures))
    (storing.bit-inside c.args.self.now c.requires.ready c.args.s (first c.args.self.now.row.layout.blocks PinBits) c.requires.register c.requires.some (omega arith))

pub set_bit-requires-clause-word : goal.set_bit-requires-clause-word
set_bit-requires-clause-word c = subst (λ n. n < length c.args.self.now.row.words) (sym
    (c.bit_at-at.ensures.word ∙ ap (λ n. n + (c.register.result - heap_of c.args.self.now.row.layout.blocks) / 64) c.pin_base.ensures
    ∙ ap (λ n. first c.args.self.now.row.layout.blocks PinBits + (n - heap_of c.args.self.now.row.layout.blocks) / 64) c.register.ensures))
    (storing.bit-inside c.args.self.now c.requires.ready c.args.s (first c.args.self.now.row.layout.blocks PinBits) c.requires.register c.requires.some (omega arith))

pub returns-clause-ready : goal.returns-clause-ready
returns-clause-ready c = (storing.pins-there c.args.self.now c.set_bit.new.self c.requires.ready c.args.s c.requires.register c.requires.some c.test_bit-pinned.result c.bit_at-at.result.0 c.bit_at-at.result.1
    (c.bit_at-at.ensures.word ∙ ap (λ n. n + (c.register.result - heap_of c.args.self.now.row.layout.blocks) / 64) c.pin_base.ensures
    ∙ ap (λ n. first c.args.self.now.row.layout.blocks PinBits + (n - heap_of c.args.self.now.row.layout.blocks) / 64) c.register.ensures)
    (c.bit_at-at.ensures.bit ∙ ap (λ n. (n - heap_of c.args.self.now.row.layout.blocks) % 64) c.register.ensures) c.test_bit-pinned.ensures c.set_bit.ensures).ready

pub returns-clause-goes : goal.returns-clause-goes
returns-clause-goes c = (storing.pins-there c.args.self.now c.set_bit.new.self c.requires.ready c.args.s c.requires.register c.requires.some c.test_bit-pinned.result c.bit_at-at.result.0 c.bit_at-at.result.1
    (c.bit_at-at.ensures.word ∙ ap (λ n. n + (c.register.result - heap_of c.args.self.now.row.layout.blocks) / 64) c.pin_base.ensures
    ∙ ap (λ n. first c.args.self.now.row.layout.blocks PinBits + (n - heap_of c.args.self.now.row.layout.blocks) / 64) c.register.ensures)
    (c.bit_at-at.ensures.bit ∙ ap (λ n. (n - heap_of c.args.self.now.row.layout.blocks) % 64) c.register.ensures) c.test_bit-pinned.ensures c.set_bit.ensures).goes
