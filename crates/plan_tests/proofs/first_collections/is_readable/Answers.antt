use Rattle.std.proofs.Common.{◌≡◌, ℕ, ◌<◌, sym, subst, inl, inr, arith, length}
use Rattle.std.proofs.lemmas.Bool.{cases_eq}
use Rattle.heap_layout.specs.Zones.{row_words}
use Rattle.object_model.specs.Objects.{HeapState, shown}
use Rattle.object_model.specs.Lawful.{IsReadableBlock}
use Rattle.object_model.specs.Releasing.{IsReleasable}
use Rattle.plan_tests.proofs.first_collections.is_readable.Goals as goal

-- a block that may be released can be read
readable : (s : HeapState) (k : ℕ) → length s.words ≡ row_words s.blocks → k < s.blocks → IsReleasable s k → IsReadableBlock s k
readable s k extent there block = record {
  extent = extent;
  block = there;
  code = block.code;
  objects = λ a holds here. block.objects a (record { address = holds.address; block = inl here }) holds;
}

pub loop-block-preserved : goal.loop-block-preserved
loop-block-preserved c = λ k below. elim (cases_eq k c.loop-block.block) as (λ _. IsReadableBlock (shown c.args.words.now.items c.args.layout.now) k) [
  | inl same ↦ subst (IsReadableBlock (shown c.args.words.now.items c.args.layout.now)) (sym same)
      (let ok = c.args.words.now.ok.0 in
      readable (shown c.args.words.now.items c.args.layout.now) c.loop-block.block (omega (arith, ok, c.len.ensures, c.if-len-words.false, c.words.ensures)) (omega arith)
      (c.is_releasable.ensures.0 c.if-not-is_releasable.false))
  | inr other ↦ c.loop-block.invariant k (omega (arith, below, other))
]

pub returns-clause-row : goal.returns-clause-row
returns-clause-row c = λ is. let ok = c.args.words.now.ok.0 in omega (arith, ok, c.len.ensures, c.if-len-words.false, c.words.ensures)

pub returns-clause-readable : goal.returns-clause-readable
returns-clause-readable c = λ is k below. c.loop-block.invariant k (let end = c.loop-block-test.false in let all = c.blocks-block-end.ensures in omega (arith, below, end, all))
