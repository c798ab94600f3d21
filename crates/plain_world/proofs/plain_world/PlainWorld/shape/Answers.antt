-- The register of the mutator at the place holds the address of a held object.
use Rattle.std.proofs.Common.{sym, ◌∙◌, ap, subst, Option}
use Rattle.std.specs.Prelude.{slice_index}
use Rattle.object_model.specs.Objects.{IsHeld, nums_at, refs_at, state_of}
use Rattle.mutator_calls.specs.declared.need.Mutator.{Mutator}
use Rattle.block_regions.proofs.Elements.{read-some}
use Rattle.plain_row.specs.Rows.{registers_of}
use Rattle.plain_row.proofs.EpochFacts as facts
use Rattle.plain_world.proofs.HeldRegisters.{register-root}
use Rattle.plain_world.proofs.plain_world.PlainWorld.shape.Goals as goal

pub shape_at-requires : goal.shape_at-requires
shape_at-requires g c =
    let w = c.args.self.now.row in
    let is = c.requires.open.between_calls.some in
    let u = c.index-mutator.result.now in
    let there = read-some w.mutators.items c.args.place u c.requires.place c.index-mutator.ensures in
    facts.readable-object is.epoch is.ideal is.log w is.at (slice_index u.registers c.args.s)
    (register-root w is c.args.place c.args.s u there c.requires.register c.if-address-eq0.false)

pub returns-clause-held : goal.returns-clause-held
returns-clause-held g c =
    let w = c.args.self.now.row in
    let u = c.index-mutator.result.now in
    let there = read-some w.mutators.items c.args.place u c.requires.place c.index-mutator.ensures in
    subst (IsHeld (state_of w.row)) (ap (λ (o : Option Mutator). slice_index (registers_of o) c.args.s) (sym there))
    (register-root w c.requires.open.between_calls.some c.args.place c.args.s u there c.requires.register c.if-address-eq0.false)

pub returns-clause-refs : goal.returns-clause-refs
returns-clause-refs g c =
    let w = c.args.self.now.row in
    let there = read-some w.mutators.items c.args.place c.index-mutator.result.now c.requires.place c.index-mutator.ensures in
    c.shape_at.ensures.refs ∙ ap (λ (o : Option Mutator). refs_at (state_of w.row) (slice_index (registers_of o) c.args.s)) (sym there)

pub returns-clause-nums : goal.returns-clause-nums
returns-clause-nums g c =
    let w = c.args.self.now.row in
    let there = read-some w.mutators.items c.args.place c.index-mutator.result.now c.requires.place c.index-mutator.ensures in
    c.shape_at.ensures.nums ∙ ap (λ (o : Option Mutator). nums_at (state_of w.row) (slice_index (registers_of o) c.args.s)) (sym there)
