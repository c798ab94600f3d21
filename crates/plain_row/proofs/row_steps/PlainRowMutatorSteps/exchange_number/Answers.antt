use Rattle.std.proofs.Common.{◌<◌, ◌∙◌, refl, sym, subst, arith, length}
use Rattle.plain_row.specs.Changes.{StoresWord}
use Rattle.plain_row.proofs.StoreSteps as storing
use Rattle.plain_row.proofs.row_steps.PlainRowMutatorSteps.exchange_number.Goals as goal

pub get-requires : goal.get-requires
get-requires c =
    let there : c.number_word-at.result < length c.args.self.now.row.words =
    subst (λ n. n < length c.args.self.now.row.words) (sym c.number_word-at.ensures)
    (storing.number-inside c.args.self.now c.requires.ready c.args.s c.args.j c.args.shape.now c.requires.register c.requires.shape c.requires.number) in
    omega arith

pub store-requires : goal.store-requires
store-requires c = subst (λ n. n < length c.args.self.now.row.words) (sym c.number_word-at.ensures)
    (storing.number-inside c.args.self.now c.requires.ready c.args.s c.args.j c.args.shape.now c.requires.register c.requires.shape c.requires.number)

pub returns-then-get-was-clause-goes : goal.returns-then-get-was-clause-goes
returns-then-get-was-clause-goes c = (storing.keeps-number c.args.self.now c.args.self.now c.requires.ready c.args.s c.args.j c.args.shape.now c.requires.register c.requires.shape c.requires.number _ (storing.reads c.args.self.now _) c.args.was c.args.next c.ranges.next.fits
    (λ same. c.if-get-was.true ((storing.read-word c.args.self.now c.number_word-at.result _ c.get.result c.number_word-at.ensures c.get.ensures) ∙ same)) refl).goes

pub returns-clause-ready : goal.returns-clause-ready
returns-clause-ready c = (storing.swaps-number c.args.self.now c.store.new.self c.requires.ready c.args.s c.args.j c.args.shape.now c.requires.register c.requires.shape c.requires.number c.args.next
    (subst (λ n. StoresWord c.args.self.now c.store.new.self n c.args.next) c.number_word-at.ensures c.store.ensures) c.args.was c.ranges.next.fits
    (sym (storing.read-word c.args.self.now c.number_word-at.result _ c.get.result c.number_word-at.ensures c.get.ensures) ∙ c.if-get-was.false)).ready

pub returns-clause-goes : goal.returns-clause-goes
returns-clause-goes c = (storing.swaps-number c.args.self.now c.store.new.self c.requires.ready c.args.s c.args.j c.args.shape.now c.requires.register c.requires.shape c.requires.number c.args.next
    (subst (λ n. StoresWord c.args.self.now c.store.new.self n c.args.next) c.number_word-at.ensures c.store.ensures) c.args.was c.ranges.next.fits
    (sym (storing.read-word c.args.self.now c.number_word-at.result _ c.get.result c.number_word-at.ensures c.get.ensures) ∙ c.if-get-was.false)).goes
