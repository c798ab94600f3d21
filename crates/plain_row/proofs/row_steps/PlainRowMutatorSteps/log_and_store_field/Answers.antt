use Rattle.std.proofs.Common.{sym, subst}
use Rattle.heap_layout.specs.Zones.{block_at, IsAddress}
use Rattle.plain_row.specs.Changes.{SetsFlag}
use Rattle.plain_row.proofs.LoadSteps.{order}
use Rattle.plain_row.proofs.StoreSteps as storing
use Rattle.plain_row.proofs.LoggedStores as stores
use Rattle.plain_row.proofs.FlaggedBlocks as flags
use Rattle.plain_row.proofs.FlaggedStores.{Cleared, ready-stored, goes-stored}
use Rattle.plain_row.proofs.row_steps.PlainRowMutatorSteps.log_and_store_field.Goals as goal

pub flag_block-requires-clause-address : goal.flag_block-requires-clause-address
flag_block-requires-clause-address c = subst (IsAddress c.args.self.now.row.layout.blocks) (sym c.register-object.ensures)
    (storing.held-in c.args.self.now c.requires.ready c.args.s c.requires.target c.requires.shape.some).address

pub flag_block-requires-clause-flags : goal.flag_block-requires-clause-flags
flag_block-requires-clause-flags c = flags.flags-many c.args.self.now c.requires.ready

pub clear_unlog-requires-clause-extent : goal.clear_unlog-requires-clause-extent
clear_unlog-requires-clause-extent c =
    (order c.flag_block.new.self (flags.ready-flagged c.args.self.now c.flag_block.new.self _ c.flag_block.ensures c.requires.ready)).row.extent

pub clear_unlog-requires-clause-address : goal.clear_unlog-requires-clause-address
clear_unlog-requires-clause-address c =
    subst (λ n. IsAddress n c.register-object.result) (sym (flags.blocks-flagged c.args.self.now c.flag_block.new.self _ c.flag_block.ensures))
    (subst (IsAddress c.args.self.now.row.layout.blocks) (sym c.register-object.ensures)
    (storing.held-in c.args.self.now c.requires.ready c.args.s c.requires.target c.requires.shape.some).address)

pub store-requires : goal.store-requires
store-requires c = stores.field-inside-then c.flag_block.new.self c.clear_unlog.new.self
    (flags.ready-flagged c.args.self.now c.flag_block.new.self _ c.flag_block.ensures c.requires.ready) c.args.s c.args.i c.args._shape.now c.requires.target
    (flags.shape-flagged c.args.self.now c.flag_block.new.self _ c.flag_block.ensures c.args.s c.args._shape.now c.requires.shape) c.requires.field
    _ _ c.field-at.result c.clear_unlog.ensures c.field-at.ensures

pub returns-clause-ready : goal.returns-clause-ready
returns-clause-ready c = ready-stored c.args.self.now c.flag_block.new.self c.requires.ready c.args.s c.requires.target c.args._shape.now c.requires.shape
    (subst (λ n. SetsFlag c.args.self.now c.flag_block.new.self (block_at c.args.self.now.row.layout.blocks n)) c.register-object.ensures c.flag_block.ensures)
    c.clear_unlog.new.self c.store.new.self c.args.i c.args.v c.requires.source c.requires.field
    (subst (Cleared c.flag_block.new.self c.clear_unlog.new.self) c.register-object.ensures c.clear_unlog.ensures)
    (stores.stores-there c.flag_block.new.self c.clear_unlog.new.self c.store.new.self c.args.s c.args.i c.args.v _ _ c.field-at.result c.register-address.result c.clear_unlog.ensures
    c.field-at.ensures c.register-address.ensures c.store.ensures)

pub returns-clause-goes : goal.returns-clause-goes
returns-clause-goes c = goes-stored c.args.self.now c.flag_block.new.self c.requires.ready c.args.s c.requires.target c.args._shape.now c.requires.shape
    (subst (λ n. SetsFlag c.args.self.now c.flag_block.new.self (block_at c.args.self.now.row.layout.blocks n)) c.register-object.ensures c.flag_block.ensures)
    c.clear_unlog.new.self c.store.new.self c.args.i c.args.v c.requires.source c.requires.field
    (subst (Cleared c.flag_block.new.self c.clear_unlog.new.self) c.register-object.ensures c.clear_unlog.ensures)
    (stores.stores-there c.flag_block.new.self c.clear_unlog.new.self c.store.new.self c.args.s c.args.i c.args.v _ _ c.field-at.result c.register-address.result c.clear_unlog.ensures
    c.field-at.ensures c.register-address.ensures c.store.ensures)
