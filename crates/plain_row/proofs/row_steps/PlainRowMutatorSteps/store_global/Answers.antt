use Rattle.std.proofs.Common.{◌<◌, sym, subst, length}
use Rattle.plain_row.specs.Rows.{address_at}
use Rattle.plain_row.specs.Changes.{StoresWord}
use Rattle.plain_row.proofs.StoreSteps as storing
use Rattle.plain_row.proofs.row_steps.PlainRowMutatorSteps.store_global.Goals as goal

pub store-requires : goal.store-requires
store-requires c = subst (λ n. n < length c.args.self.now.row.words) (sym c.global_at-at.ensures) (storing.global-inside c.args.self.now c.requires.ready c.args.g c.requires.global)

pub returns-clause-ready : goal.returns-clause-ready
returns-clause-ready c = (storing.shares c.args.self.now c.store.new.self c.requires.ready c.args.g c.args.s c.requires.global c.requires.register
    (subst (λ n. StoresWord c.args.self.now c.store.new.self n (address_at c.args.self.now c.args.s)) c.global_at-at.ensures
    (subst (λ v. StoresWord c.args.self.now c.store.new.self c.global_at-at.result v) c.register-address.ensures c.store.ensures))).ready

pub returns-clause-goes : goal.returns-clause-goes
returns-clause-goes c = (storing.shares c.args.self.now c.store.new.self c.requires.ready c.args.g c.args.s c.requires.global c.requires.register
    (subst (λ n. StoresWord c.args.self.now c.store.new.self n (address_at c.args.self.now c.args.s)) c.global_at-at.ensures
    (subst (λ v. StoresWord c.args.self.now c.store.new.self c.global_at-at.result v) c.register-address.ensures c.store.ensures))).goes
