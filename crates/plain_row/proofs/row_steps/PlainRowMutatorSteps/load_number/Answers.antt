use Rattle.std.proofs.Common.{◌<◌, refl, sym, subst, arith, length}
use Rattle.plain_row.proofs.StoreSteps as storing
use Rattle.plain_row.proofs.row_steps.PlainRowMutatorSteps.load_number.Goals as goal

pub get-requires : goal.get-requires
get-requires c =
    let there : c.number_word-at.result < length c.args.self.now.row.words =
    subst (λ n. n < length c.args.self.now.row.words) (sym c.number_word-at.ensures)
    (storing.number-inside c.args.self.now c.requires.ready c.args.s c.args.j c.args.shape.now c.requires.register c.requires.shape c.requires.number) in
    omega arith

pub returns-clause-goes : goal.returns-clause-goes
returns-clause-goes c = (storing.reads-number c.args.self.now c.args.self.now c.requires.ready c.args.s c.args.j c.args.shape.now c.requires.register c.requires.shape c.requires.number _ (storing.reads c.args.self.now _) c.get.result
    (storing.read-word c.args.self.now c.number_word-at.result _ c.get.result c.number_word-at.ensures c.get.ensures) refl).goes
