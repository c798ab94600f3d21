use Rattle.std.proofs.Common.{◌+◌, ◌<◌, ◌%◌, ◌^◌, refl, sym, subst, arith, length}
use Rattle.plain_row.specs.Changes.{StoresWord}
use Rattle.plain_row.proofs.StoreSteps as storing
use Rattle.plain_row.proofs.row_steps.PlainRowMutatorSteps.add_number.Goals as goal

pub get-number-requires : goal.get-number-requires
get-number-requires c =
    let there : c.number_word-at.result < length c.args.self.now.row.words =
    subst (λ n. n < length c.args.self.now.row.words) (sym c.number_word-at.ensures)
    (storing.number-inside c.args.self.now c.requires.ready c.args.s c.args.j c.args.shape.now c.requires.register c.requires.shape c.requires.number) in
    omega arith

pub store-requires : goal.store-requires
store-requires c = subst (λ n. n < length c.args.self.now.row.words) (sym c.number_word-at.ensures)
    (storing.number-inside c.args.self.now c.requires.ready c.args.s c.args.j c.args.shape.now c.requires.register c.requires.shape c.requires.number)

pub returns-clause-ready : goal.returns-clause-ready
returns-clause-ready c = (storing.adds-number c.args.self.now c.store.new.self c.requires.ready c.args.s c.args.j c.args.shape.now c.requires.register c.requires.shape c.requires.number ((c.get-number.result + c.args.n) % 2 ^ 64)
    (subst (λ n. StoresWord c.args.self.now c.store.new.self n ((c.get-number.result + c.args.n) % 2 ^ 64)) c.number_word-at.ensures c.store.ensures) c.get-number.result c.args.n c.ranges.n.fits
    (storing.read-word c.args.self.now c.number_word-at.result _ c.get-number.result c.number_word-at.ensures c.get-number.ensures) refl).ready

pub returns-clause-goes : goal.returns-clause-goes
returns-clause-goes c = (storing.adds-number c.args.self.now c.store.new.self c.requires.ready c.args.s c.args.j c.args.shape.now c.requires.register c.requires.shape c.requires.number ((c.get-number.result + c.args.n) % 2 ^ 64)
    (subst (λ n. StoresWord c.args.self.now c.store.new.self n ((c.get-number.result + c.args.n) % 2 ^ 64)) c.number_word-at.ensures c.store.ensures) c.get-number.result c.args.n c.ranges.n.fits
    (storing.read-word c.args.self.now c.number_word-at.result _ c.get-number.result c.number_word-at.ensures c.get-number.ensures) refl).goes
