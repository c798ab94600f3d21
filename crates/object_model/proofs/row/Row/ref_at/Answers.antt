use Rattle.std.proofs.Common.{◌≡◌, sym, subst}
use Rattle.object_model.specs.Objects.{HeapState, state_of, ref_at}
use Rattle.object_model.specs.Lawful.{IsRefField}
use Rattle.object_model.proofs.row.Row.ref_at.Goals as goal

pub returns-clause-reference : goal.returns-clause-reference
returns-clause-reference c =
    let s : HeapState = state_of c.args.self.now in
    let value : c.get.result ≡ ref_at s c.args.address c.args.index = c.get.ensures in
    subst (IsRefField s) (sym value) (c.requires.order.objects.references c.args.address c.args.index c.requires.held c.requires.field)
