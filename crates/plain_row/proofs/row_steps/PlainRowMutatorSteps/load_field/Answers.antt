-- The machine loads the shape word, and then the field into the register.
use Rattle.std.proofs.Common.{sym, ◌∙◌, ap, subst, ℕ}
use Rattle.object_model.specs.Objects.{state_of, ref_at, IsHeld}
use Rattle.plain_row.proofs.LoadSteps.{order, held, loads-field, finds, reply_to}
use Rattle.plain_row.proofs.row_steps.PlainRowMutatorSteps.load_field.Goals as goal

pub ref_at-address-requires-clause-order : goal.ref_at-address-requires-clause-order
ref_at-address-requires-clause-order c = order c.args.self.now c.requires.ready

pub ref_at-address-requires-clause-held : goal.ref_at-address-requires-clause-held
ref_at-address-requires-clause-held c = subst (λ (n : ℕ). IsHeld (state_of c.args.self.now.row) n) (sym c.register.ensures)
    (held c.args.self.now c.requires.ready c.args.s c.requires.source c.requires.shape.some)

pub returns-clause-ready : goal.returns-clause-ready
returns-clause-ready c = (loads-field c.args.self.now c.requires.ready c.set_register.new.self c.args.d c.ref_at-address.result c.set_register.ensures
    c.args.s c.args.i c.args._shape.now c.requires.target c.requires.source c.requires.shape c.requires.field
    (c.ref_at-address.ensures.value ∙ ap (λ (n : ℕ). ref_at (state_of c.args.self.now.row) n c.args.i) c.register.ensures)).after

pub returns-clause-goes : goal.returns-clause-goes
returns-clause-goes c = (
  reply_to (state_of c.args.self.now.row) c.ref_at-address.result,
  (loads-field c.args.self.now c.requires.ready c.set_register.new.self c.args.d c.ref_at-address.result c.set_register.ensures
      c.args.s c.args.i c.args._shape.now c.requires.target c.requires.source c.requires.shape c.requires.field
      (c.ref_at-address.ensures.value ∙ ap (λ (n : ℕ). ref_at (state_of c.args.self.now.row) n c.args.i) c.register.ensures)).goes,
  finds c.args.self.now c.requires.ready c.set_register.new.self c.args.d c.ref_at-address.result c.set_register.ensures c.requires.target,
)
