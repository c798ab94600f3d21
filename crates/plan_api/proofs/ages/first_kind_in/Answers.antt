use Rattle.std.proofs.Common.{◌≡◌, ap, sym, ◌∙◌, subst, arith, ◌<◌, ◌≤◌, ◌*◌, ℕ}
use Rattle.object_model.specs.Objects.{HeapState, state_over, block_count}
use Rattle.sessions.specs.Grants.{used_in}
use Rattle.sessions.specs.Fitting.{used_of}
use Rattle.plan_api.proofs.FirstCollections.{is_counted, first-of-all, none-young, few-young, many-young}
use Rattle.plan_api.proofs.ages.first_kind_in.Goals as goal

pub returns-then-base-eq0 : goal.returns-then-base-eq0
returns-then-base-eq0 g c = λ r number young remembers.
    first-of-all r (state_over (g.W.Words.words c.args.words.now) c.args.layout.now number c.args.base) young remembers c.if-base-eq0.true

pub returns-then-not-some : goal.returns-then-not-some
returns-then-not-some g c = λ r number young remembers.
    none-young r (state_over (g.W.Words.words c.args.words.now) c.args.layout.now number c.args.base) young remembers (sym c.young_blocks-some.ensures.some ∙ c.if-not-some.true)

pub returns-then-used-young : goal.returns-then-used-young
returns-then-used-young g c = λ r number young remembers.
    let s : HeapState = state_over (g.W.Words.words c.args.words.now) c.args.layout.now number c.args.base in
    let used : c.used.result ≡ used_of s = c.used.ensures ∙ ap used_in c.block_counts_in.ensures in
    let count : c.young_blocks-some.result.1 ≡ block_count s (is_counted s) = c.young_blocks-some.ensures.count in
    let few : 4 * c.young_blocks-some.result.1 < c.used.result = c.if-used-young.true in
    few-young r s young remembers (subst (λ (n : ℕ). 4 * n < used_of s) count (subst (λ (n : ℕ). 4 * c.young_blocks-some.result.1 < n) used few))

pub returns : goal.returns
returns g c = λ r number young remembers.
    let s : HeapState = state_over (g.W.Words.words c.args.words.now) c.args.layout.now number c.args.base in
    let used : c.used.result ≡ used_of s = c.used.ensures ∙ ap used_in c.block_counts_in.ensures in
    let count : c.young_blocks-some.result.1 ≡ block_count s (is_counted s) = c.young_blocks-some.ensures.count in
    let many : c.used.result ≤ 4 * c.young_blocks-some.result.1 = c.if-used-young.false in
    let base : 0 < c.args.base = omega (arith, c.if-base-eq0.false) in
    many-young r s young remembers base (sym c.young_blocks-some.ensures.some ∙ c.if-not-some.false)
    (subst (λ (n : ℕ). used_of s ≤ 4 * n) count (subst (λ (n : ℕ). n ≤ 4 * c.young_blocks-some.result.1) used many))
