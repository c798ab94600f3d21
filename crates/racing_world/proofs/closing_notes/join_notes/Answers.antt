use Rattle.std.proofs.Common.{◌≡◌, ◌∙◌, ◌<◌, ◌+◌, ap, sym, subst, arith, length, Vec}
use Rattle.std.specs.Prelude.{Some, slice_get}
use Rattle.std.specs.declared.alloc.Global.{Global}
use Rattle.block_regions.specs.declared.block_notes.BlockNote.{BlockNote}
use Rattle.block_regions.specs.declared.block_notes.BlockNote.TheVariants.{Unowned}
use Rattle.block_regions.proofs.Elements.{read-some, set-changes}
use Rattle.racing_world.proofs.LeastNoted.{JoinsBelow, joins-none, joins-past, joins-next, joins-all}
use Rattle.racing_world.proofs.closing_notes.join_notes.Goals as goal
use Rattle.racing_world.proofs.closing_notes.join_notes.Goals.{in-Unowned, in_default}

pub loop-block-init : goal.loop-block-init
loop-block-init c = joins-none c.args.fill c.args.seats.now.items c.args.notes.now.items

pub least_of-least-requires : goal.least_of-least-requires
least_of-least-requires c = c.requires.seats c.loop-block.block (omega arith)

pub loop-block-preserved : goal.loop-block-preserved
loop-block-preserved c =
    let now = c.loop-block.notes.items in
    let n = c.loop-block.block in
    let there : n < length now = (let a = c.loop-block.invariant.len in let b = c.requires.blocks in omega arith) in
    let note : slice_get now n ≡ Some c.index.result.now = read-some now n c.index.result.now there c.index.ensures in
    elim c.match-index.branch [
      | in-Unowned w ↦ subst (λ (v : Vec BlockNote Global). JoinsBelow c.args.fill c.args.seats.now.items c.args.notes.now.items v.items (n + 1)) (sym w.notes-is)
          (joins-next c.args.fill c.args.seats.now.items c.args.notes.now.items now _ n w.in-Unowned.known w.least_of-least.result
          (note ∙ ap (λ (x : BlockNote). Some x) w.in-Unowned.is) w.least_of-least.ensures (set-changes now n (Unowned w.least_of-least.result) there) c.loop-block.invariant)
      | in_default w ↦ subst (λ (v : Vec BlockNote Global). JoinsBelow c.args.fill c.args.seats.now.items c.args.notes.now.items v.items (n + 1)) (sym w.notes-is)
          (joins-past c.args.fill c.args.seats.now.items c.args.notes.now.items now n w.in_default.field-0 w.in_default.field-1
          (note ∙ ap (λ (x : BlockNote). Some x) w.in_default.is) c.loop-block.invariant)
    ]

pub returns-clause-joins : goal.returns-clause-joins
returns-clause-joins c = joins-all c.args.fill c.args.seats.now.items c.args.notes.now.items c.loop-block.notes.items c.loop-block.block (let b = c.requires.blocks in omega arith) c.loop-block.invariant

pub returns-clause-unowned : goal.returns-clause-unowned
returns-clause-unowned c none k owner region is = none k owner region (c.loop-block.invariant.owned k owner region is)
