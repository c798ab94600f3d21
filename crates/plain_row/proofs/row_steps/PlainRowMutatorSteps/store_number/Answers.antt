use Rattle.std.proofs.Common.{◌<◌, sym, subst, length}
use Rattle.plain_row.specs.Changes.{StoresWord}
use Rattle.plain_row.proofs.StoreSteps as storing
use Rattle.plain_row.proofs.row_steps.PlainRowMutatorSteps.store_number.Goals as goal

pub store-requires : goal.store-requires
store-requires c = subst (λ n. n < length c.args.self.now.row.words) (sym c.number_word-at.ensures)
    (storing.number-inside c.args.self.now c.requires.ready c.args.s c.args.j c.args.shape.now c.requires.register c.requires.shape c.requires.number)

pub returns-clause-ready : goal.returns-clause-ready
returns-clause-ready c = (storing.writes-number c.args.self.now c.store.new.self c.requires.ready c.args.s c.args.j c.args.shape.now c.requires.register c.requires.shape c.requires.number c.args.n
    (subst (λ n. StoresWord c.args.self.now c.store.new.self n c.args.n) c.number_word-at.ensures c.store.ensures) c.ranges.n.fits).ready

pub returns-clause-goes : goal.returns-clause-goes
returns-clause-goes c = (storing.writes-number c.args.self.now c.store.new.self c.requires.ready c.args.s c.args.j c.args.shape.now c.requires.register c.requires.shape c.requires.number c.args.n
    (subst (λ n. StoresWord c.args.self.now c.store.new.self n c.args.n) c.number_word-at.ensures c.store.ensures) c.ranges.n.fits).goes
