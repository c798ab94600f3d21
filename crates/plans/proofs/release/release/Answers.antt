use Rattle.std.proofs.Common.{◌≡◌, refl, sym, ap, ◌∙◌, subst, inl, inr, ℕ}
use Rattle.std.proofs.lemmas.Bool.{cases_Bool, true≢false}
use Rattle.heap_layout.specs.Zones.{block_start}
use Rattle.heap_layout.specs.Blocks.{kind_code}
use Rattle.heap_layout.specs.declared.block.Kind.{Kind}
use Rattle.heap_layout.specs.declared.block.Kind.TheVariants as kinds
use Rattle.object_model.specs.Objects.{state_over, HasKind}
use Rattle.object_model.specs.Ages.{Lives, is_survivor}
use Rattle.object_model.proofs.OneKind.{kind-from}
use Rattle.block_sweeps.proofs.RunSpans.{only-object, object-span, object-lives}
use Rattle.plan_api.specs.Releasing.{Releases}
use Rattle.plan_api.proofs.EvacuationLaws.{kind-kept}
use Rattle.plan_api.proofs.Tallies.{kind-of-word}
use Rattle.plan_api.proofs.ReleasedBlocks as blocks
use Rattle.plans.proofs.release.release.Goals as goal

pub returns-in-Free : goal.returns-in-Free
returns-in-Free g c = λ r collect kept.
    let l = c.args.layout.now in
    let k : ℕ = c.args.block in
    let old = g.W.Words.words c.args.words.now in
    let s = state_over old l 0 0 in
    let has : (kind : Kind) → c.args.word.now.kind ≡ kind → HasKind s k kind =
    λ kind e. kind-from s k kind c.requires.block (kind-of-word s k c.args.word.now c.requires.block c.requires.valid c.requires.code ∙ ap kind_code e) in
    elim c.in-Free.is as (λ _. Releases r collect c.args.base s s k) [
      | inl e ↦ blocks.free l r collect c.args.base k old c.requires.releasable (has kinds.Free e)
      | inr e ↦ blocks.tail l r collect c.args.base k old (has kinds.LargeTail e)
    ]

pub returns-then-not-sweep_large : goal.returns-then-not-sweep_large
returns-then-not-sweep_large g c = λ r collect kept.
    let l = c.args.layout.now in
    let k : ℕ = c.args.block in
    let old = g.W.Words.words c.args.words.now in
    let s = state_over old l 0 0 in
    let head : HasKind s k kinds.LargeHead = kind-from s k kinds.LargeHead c.requires.block (kind-of-word s k c.args.word.now c.requires.block c.requires.valid c.requires.code ∙ ap kind_code c.in-LargeHead.is) in
    let object : ℕ = block_start l.blocks k in
    let lives : Lives c.args.base s object = elim (cases_Bool (is_survivor s c.args.base object)) as (λ _. Lives c.args.base s object) [
      | inl survives ↦ object-lives s k c.requires.releasable head c.args.base survives
      | inr dead ↦ absurd (true≢false (sym (c.sweep_large.ensures.freed.1 (λ lives. true≢false (sym lives.survives ∙ dead))) ∙ c.if-not-sweep_large.true))
    ] in
    blocks.living-run l r collect c.args.base k object old (g.W.Words.words c.sweep_large.new.words) (g.W.Words.words c.unlog_block.new.words) c.requires.releasable head
    (object-span s k c.requires.releasable head) lives c.sweep_large.ensures.swept c.unlog_block.ensures

pub returns-else-not-sweep_large : goal.returns-else-not-sweep_large
returns-else-not-sweep_large g c = λ r collect kept.
    let l = c.args.layout.now in
    let k : ℕ = c.args.block in
    let old = g.W.Words.words c.args.words.now in
    let s = state_over old l 0 0 in
    let head : HasKind s k kinds.LargeHead = kind-from s k kinds.LargeHead c.requires.block (kind-of-word s k c.args.word.now c.requires.block c.requires.valid c.requires.code ∙ ap kind_code c.in-LargeHead.is) in
    blocks.freed-run l r collect c.args.base k old (g.W.Words.words c.sweep_large.new.words)
    (λ is. kind-kept s k kinds.LargeHead kinds.LargeTail head is refl)
    (λ a span lives. c.sweep_large.ensures.freed.0 c.if-not-sweep_large.false (subst (Lives c.args.base s) (only-object s k c.requires.releasable head a span lives.held) lives))
    c.sweep_large.ensures.swept
