use Rattle.std.proofs.Common.{sym, ap, ◌∙◌, ℕ, ◌*◌, ◌≤◌, subst}
use Rattle.object_model.specs.Objects.{HeapState, state_over}
use Rattle.immix_space.proofs.CandidateSums.{few-all, chosen-all, as-many}
use Rattle.immix_space.proofs.candidate_blocks.candidates.Goals as goal

pub lines_above-requires-clause-blocks : goal.lines_above-requires-clause-blocks
lines_above-requires-clause-blocks g c =
    let s : HeapState = state_over (g.W.Words.words c.args.words.now) c.args.layout.now 0 0 in
    subst (λ (n : ℕ). n ≤ 1024) (sym (as-many s c.deref.result.now (c.deref.ensures.value ∙ c.in_ok-counts.ensures))) c.args.layout.now.most

pub lines_above-requires-clause-few : goal.lines_above-requires-clause-few
lines_above-requires-clause-few g c =
    few-all (state_over (g.W.Words.words c.args.words.now) c.args.layout.now 0 0) c.deref.result.now (c.deref.ensures.value ∙ c.in_ok-counts.ensures)

pub choose-requires-clause-blocks : goal.choose-requires-clause-blocks
choose-requires-clause-blocks g c =
    let s : HeapState = state_over (g.W.Words.words c.args.words.now) c.args.layout.now 0 0 in
    subst (λ (n : ℕ). n ≤ 1024) (sym (as-many s c.deref-2.result.now (c.deref-2.ensures.value ∙ c.in_ok-counts.ensures))) c.args.layout.now.most

pub choose-requires-clause-few : goal.choose-requires-clause-few
choose-requires-clause-few g c =
    few-all (state_over (g.W.Words.words c.args.words.now) c.args.layout.now 0 0) c.deref-2.result.now (c.deref-2.ensures.value ∙ c.in_ok-counts.ensures)

pub returns : goal.returns
returns g c =
    let s : HeapState = state_over (g.W.Words.words c.args.words.now) c.args.layout.now 0 0 in
    chosen-all s c.deref-2.result.now (256 * c.free_blocks-room.result) c.in_ok-chosen.chosen.items (c.deref-2.ensures.value ∙ c.in_ok-counts.ensures)
    (ap (λ (n : ℕ). 256 * n) c.free_blocks-room.ensures.value) c.in_ok-chosen.ensures
