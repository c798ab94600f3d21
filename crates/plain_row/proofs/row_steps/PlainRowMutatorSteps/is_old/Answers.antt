-- The collector word of the object is in the row.
use Rattle.std.proofs.Common.{◌≡◌, sym, ◌∙◌, ap, subst, ℕ, ◌+◌, ◌^◌, ◌<◌, inl, inr, arith, length}
use Rattle.heap_layout.specs.Zones.{row_words}
use Rattle.object_model.specs.Objects.{state_of}
use Rattle.object_model.specs.Ages.{is_old}
use Rattle.plain_row.specs.declared.plain_row.PlainRow.{PlainRow}
use Rattle.plain_row.specs.Rows.{address_at}
use Rattle.plain_row.proofs.LoadSteps.{collector-word, readable}
use Rattle.plain_row.proofs.row_steps.PlainRowMutatorSteps.is_old.Goals as goal

pub is_old-requires-clause-word : goal.is_old-requires-clause-word
is_old-requires-clause-word c = subst (λ (n : ℕ). n + 2 < length c.args.self.now.row.words) (sym c.register-address.ensures)
    (collector-word c.args.self.now c.requires.ready c.args.register c.requires.register c.requires.some)

pub is_old-requires-clause-index : goal.is_old-requires-clause-index
is_old-requires-clause-index c =
    let w : PlainRow = c.args.self.now in
    let there : address_at w c.args.register + 2 < length w.row.words = collector-word w c.requires.ready c.args.register c.requires.register c.requires.some in
    let extent : length w.row.words ≡ row_words w.row.layout.blocks = (readable w c.requires.ready c.args.register c.requires.register c.requires.some).extent in
    let most = w.row.layout.most in
    subst (λ (n : ℕ). n + 2 < 2 ^ 32) (sym c.register-address.ensures) (omega (arith, there, extent, most))

pub returns-clause-aged : goal.returns-clause-aged
returns-clause-aged c old =
    let w : PlainRow = c.args.self.now in record {
      register = c.requires.register;
      some = c.requires.some;
      old = ap (is_old (state_of w.row)) (sym c.register-address.ensures) ∙ sym (c.is_old.ensures w.row.layout w.row.number) ∙ old;
    }

pub returns-clause-young : goal.returns-clause-young
returns-clause-young c young =
    let w : PlainRow = c.args.self.now in
    inr (inl (ap (is_old (state_of w.row)) (sym c.register-address.ensures) ∙ sym (c.is_old.ensures w.row.layout w.row.number) ∙ young))
