use Rattle.std.proofs.Common.{◌≡◌, ℕ, ◌+◌, sym, ap, ◌∙◌, subst}
use Rattle.object_model.specs.Objects.{HeapState, state_over, size_at}
use Rattle.sessions.specs.Fitting.{IsTail}
use Rattle.copy_space.proofs.LastObjects.{object, is-tail}
use Rattle.copy_space.proofs.tails.objects_end.Goals as goal

pub returns-in-Some-clause-tail : goal.returns-in-Some-clause-tail
returns-in-Some-clause-tail g c =
    let s : HeapState = state_over (g.W.Words.words c.args.words.now) c.args.layout.now 0 0 in
    let size : c.object_size.result ≡ size_at s (object s c.args.block c.in-Some.offset c.requires.block c.in-Some.ensures) = c.object_size.ensures ∙ ap (size_at s) c.address.ensures in
    subst (λ (n : ℕ). IsTail s c.args.block (c.in-Some.offset + n)) (sym size) (is-tail s c.args.block c.in-Some.offset c.requires.block c.in-Some.ensures c.requires.head c.requires.apart)
