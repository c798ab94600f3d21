use Rattle.std.proofs.Common.{ℕ, ◌+◌, ◌*◌, ◌⊎◌, ◌∙◌, sym, subst, inl, inr, arith, true≢false}
use Rattle.std.proofs.lemmas.Bool.{cases_eq}
use Rattle.heap_layout.specs.declared.block.Kind.TheVariants as kinds
use Rattle.object_model.specs.Objects.{HeapState, state_over, shown, HasKind}
use Rattle.object_model.proofs.OneKind.{kind-from}
use Rattle.plan_api.specs.Ages.{BeginsYoungIn}
use Rattle.plan_api.proofs.Tallies.{kind-of-word}
use Rattle.plan_api.proofs.YoungBits.{none-there, young-in-block, none-in-block}
use Rattle.plan_api.proofs.ages.begins_young.Goals as goal
use Rattle.plan_api.proofs.ages.begins_young.Goals.{in-Free, in_default}

pub returns-then-matches : goal.returns-then-matches
returns-then-matches g c =
    let words = g.W.Words.words c.args.words.now in
    let l = c.args.layout.now in
    let s : HeapState = shown words l in
    let k : ℕ = c.args.block in
    let word = c.block_word_in in
    let has : HasKind s k word.result.kind = kind-from s k word.result.kind c.requires.block (kind-of-word s k word.result c.requires.block word.ensures.valid word.ensures.code) in
    let none : HasKind s k kinds.Free ⊎ HasKind s k kinds.LargeTail = elim c.match-matches.branch as (λ _. HasKind s k kinds.Free ⊎ HasKind s k kinds.LargeTail) [
      | in-Free w ↦ (elim w.in-Free.is as (λ _. HasKind s k kinds.Free ⊎ HasKind s k kinds.LargeTail) [
        | inl free ↦ inl (subst (HasKind s k) free has)
        | inr tail ↦ inr (subst (HasKind s k) tail has)
      ])
      | in_default w ↦ absurd (true≢false (sym c.if-matches.true ∙ w.matches-is))
    ] in
    sym (none-there words l c.requires.readable c.args.base k none)

pub loop-word-preserved : goal.loop-word-preserved
loop-word-preserved g c = λ i below young. elim (cases_eq i c.loop-word.word) as (λ _. ⊥) [
  | inl same ↦ true≢false (sym (c.begins_young_in.ensures.1 (subst (λ (n : ℕ). BeginsYoungIn (state_over (g.W.Words.words c.args.words.now) c.args.layout.now 0 c.args.base) (64 * c.args.block + n)) same young)) ∙ c.if-begins_young_in.false)
  | inr other ↦ c.loop-word.invariant i (omega (arith, below, other)) young
]

pub returns-then-begins_young_in : goal.returns-then-begins_young_in
returns-then-begins_young_in g c =
    sym (young-in-block (state_over (g.W.Words.words c.args.words.now) c.args.layout.now 0 c.args.base) c.args.block c.loop-word.word (omega arith) (c.begins_young_in.ensures.0 c.if-begins_young_in.true))

pub returns : goal.returns
returns g c =
    sym (none-in-block (state_over (g.W.Words.words c.args.words.now) c.args.layout.now 0 c.args.base) c.args.block (λ i small young.
    c.loop-word.invariant i (let end = c.loop-word-test.false in omega (arith, small, end)) young))
