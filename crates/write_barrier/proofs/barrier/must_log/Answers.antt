use Rattle.std.proofs.Common.{sym, ◌∙◌, ap, ◌&&◌}
use Rattle.object_model.specs.Objects.{HeapState, state_over, is_unlogged}
use Rattle.write_barrier.proofs.barrier.must_log.Goals as goal

pub returns-then-is_old : goal.returns-then-is_old
returns-then-is_old g c = λ number.
    (let s : HeapState = state_over (g.W.Words.words c.args.words.now) c.args.layout.now number c.args.base in
    c.is_unlogged.ensures number c.args.base ∙ sym (ap (λ old. old && is_unlogged s c.args.address) (sym (c.is_old.ensures c.args.layout.now number) ∙ c.if-is_old.true)))

pub returns-else-is_old : goal.returns-else-is_old
returns-else-is_old g c = λ number.
    (let s : HeapState = state_over (g.W.Words.words c.args.words.now) c.args.layout.now number c.args.base in
    c.if-is_old.false ∙ sym (ap (λ old. old && is_unlogged s c.args.address) (sym (c.is_old.ensures c.args.layout.now number) ∙ c.if-is_old.false)))
