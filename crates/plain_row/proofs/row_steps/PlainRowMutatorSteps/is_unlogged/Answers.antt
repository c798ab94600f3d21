-- The object's unlog bit is in the row.
use Rattle.std.proofs.Common.{sym, ◌∙◌, ap, subst, ℕ, inr}
use Rattle.heap_layout.specs.Zones.{IsAddress}
use Rattle.object_model.specs.Objects.{state_of, is_unlogged}
use Rattle.plain_row.proofs.LoadSteps.{address, order}
use Rattle.plain_row.proofs.row_steps.PlainRowMutatorSteps.is_unlogged.Goals as goal

pub is_unlogged-requires-clause-extent : goal.is_unlogged-requires-clause-extent
is_unlogged-requires-clause-extent c = (order c.args.self.now c.requires.ready).row.extent

pub is_unlogged-requires-clause-address : goal.is_unlogged-requires-clause-address
is_unlogged-requires-clause-address c = subst (λ (n : ℕ). IsAddress c.args.self.now.row.layout.blocks n) (sym c.register-address.ensures)
    (address c.args.self.now c.requires.ready c.args.register c.requires.register c.requires.some)

pub returns-clause-marked : goal.returns-clause-marked
returns-clause-marked c set =
    ap (is_unlogged (state_of c.args.self.now.row)) (sym c.register-address.ensures)
    ∙ sym (c.is_unlogged.ensures c.args.self.now.row.number c.args.self.now.row.base) ∙ set

pub returns-clause-logged : goal.returns-clause-logged
returns-clause-logged c clear =
    inr (inr (ap (is_unlogged (state_of c.args.self.now.row)) (sym c.register-address.ensures)
    ∙ sym (c.is_unlogged.ensures c.args.self.now.row.number c.args.self.now.row.base) ∙ clear))
