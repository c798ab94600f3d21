use Rattle.std.proofs.Common.{◌<◌, sym, subst, length}
use Rattle.plain_row.specs.Rows.{address_at}
use Rattle.plain_row.specs.Changes.{StoresWord}
use Rattle.plain_row.proofs.StoreSteps as storing
use Rattle.plain_row.proofs.row_steps.PlainRowMutatorSteps.store_field.Goals as goal

pub store-requires : goal.store-requires
store-requires c = subst (λ n. n < length c.args.self.now.row.words) (sym c.field-at.ensures)
    (storing.field-inside c.args.self.now c.requires.ready c.args.s c.args.i c.args._shape.now c.requires.target c.requires.shape c.requires.field)

pub returns-clause-ready : goal.returns-clause-ready
returns-clause-ready c = (storing.puts c.args.self.now c.store.new.self c.requires.ready c.args.s c.args.i c.args.v c.args._shape.now c.requires.target c.requires.source c.requires.shape c.requires.field
    (subst (λ n. StoresWord c.args.self.now c.store.new.self n (address_at c.args.self.now c.args.v)) c.field-at.ensures
    (subst (λ v. StoresWord c.args.self.now c.store.new.self c.field-at.result v) c.register-address.ensures c.store.ensures)) c.requires.barred).ready

pub returns-clause-goes : goal.returns-clause-goes
returns-clause-goes c = (storing.puts c.args.self.now c.store.new.self c.requires.ready c.args.s c.args.i c.args.v c.args._shape.now c.requires.target c.requires.source c.requires.shape c.requires.field
    (subst (λ n. StoresWord c.args.self.now c.store.new.self n (address_at c.args.self.now c.args.v)) c.field-at.ensures
    (subst (λ v. StoresWord c.args.self.now c.store.new.self c.field-at.result v) c.register-address.ensures c.store.ensures)) c.requires.barred).goes
