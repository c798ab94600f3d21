use Rattle.std.proofs.Common.{refl, subst, ◌<◌, arith}
use Rattle.object_model.specs.Objects.{state_over}
use Rattle.block_release.specs.Knowing.{ShowsRelease}
use Rattle.block_release.proofs.ReleaseLoop.{going-first, going-on, extent, releasable, flag-there, flag-read, shown, lawful-after, at-end}
use Rattle.block_release.proofs.releasing.release_by.Goals as goal

pub loop-block-init : goal.loop-block-init
loop-block-init g c = going-first g.P.Plan.rules c.args.traced.run.collect c.args.traced.run.base c.args.traced.row

pub release_next-requires-clause-extent : goal.release_next-requires-clause-extent
release_next-requires-clause-extent g c =
    let t = c.args.traced in let is = c.requires in
    extent g.P.Plan.rules t.run.collect t.run.base t.row is.0 is.1 is.2 is.3 is.4 is.5.base c.loop-block.words c.loop-block.block c.loop-block.invariant

pub release_next-requires-clause-releasable : goal.release_next-requires-clause-releasable
release_next-requires-clause-releasable g c =
    let t = c.args.traced in let is = c.requires in
    releasable g.P.Plan.rules t.run.collect t.run.base t.row is.0 is.1 is.2 is.3 is.4 is.5.base c.loop-block.words c.loop-block.block c.loop-block.invariant (subst (λ n. c.loop-block.block < n) c.blocks-block-end.ensures c.loop-block-test.true)

pub index-evacuated-requires : goal.index-evacuated-requires
index-evacuated-requires g c =
    let t = c.args.traced in let is = c.requires in
    let few = t.run.from.ok.0 in
    let inside = flag-there g.P.Plan.rules t.run.collect t.run.base t.row is.0 is.1 is.2 is.3 is.4 is.5.base c.loop-block.words c.loop-block.block c.loop-block.invariant t.run is.5 (subst (λ n. c.loop-block.block < n) c.blocks-block-end.ensures c.loop-block-test.true) in
    omega (arith, few, inside)

pub release_next-requires-clause-shows : goal.release_next-requires-clause-shows
release_next-requires-clause-shows g c =
    let t = c.args.traced in let is = c.requires in
    let there = subst (λ n. c.loop-block.block < n) c.blocks-block-end.ensures c.loop-block-test.true in
    subst (ShowsRelease c.args.known g.P.Plan.rules t.run.collect t.run.base (state_over c.loop-block.words t.row.layout 0 0) c.loop-block.block)
    (flag-read g.P.Plan.rules t.run.collect t.run.base t.row is.0 is.1 is.2 is.3 is.4 is.5.base c.loop-block.words c.loop-block.block c.loop-block.invariant t.run is.5 there c.index-evacuated.result.now c.index-evacuated.ensures)
    (shown g.P.Plan.rules t.run.collect t.run.base t.row is.0 is.1 is.2 is.3 is.4 is.5.base c.loop-block.words c.loop-block.block c.loop-block.invariant t.run refl c.args.known is.6 there)

pub loop-block-preserved : goal.loop-block-preserved
loop-block-preserved g c =
    let t = c.args.traced in
    going-on g.P.Plan.rules t.run.collect t.run.base t.row c.loop-block.words c.release_next.new.words c.loop-block.block c.loop-block.invariant (subst (λ n. c.loop-block.block < n) c.blocks-block-end.ensures c.loop-block-test.true) c.release_next.ensures

pub from_row-requires : goal.from_row-requires
from_row-requires g c =
    let t = c.args.traced in let is = c.requires in
    lawful-after g.P.Plan.rules t.run.collect t.run.base t.row is.0 is.1 is.2 is.3 is.4 is.5.base c.loop-block.words
    (at-end g.P.Plan.rules t.run.collect t.run.base t.row c.loop-block.words c.loop-block.block
    (omega (arith, c.loop-block-test.false, c.loop-block.auto.block-end, c.blocks-block-end.ensures)) c.loop-block.invariant)
    c.words_fit.ensures t.run.number is.5.number

pub returns : goal.returns
returns g c = (
  state_over c.loop-block.words c.args.traced.row.layout c.args.traced.row.number c.args.traced.row.base,
  at-end g.P.Plan.rules c.args.traced.run.collect c.args.traced.run.base c.args.traced.row c.loop-block.words c.loop-block.block
      (omega (arith, c.loop-block-test.false, c.loop-block.auto.block-end, c.blocks-block-end.ensures)) c.loop-block.invariant,
  c.from_row.ensures,
)
