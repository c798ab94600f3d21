use Rattle.std.proofs.Common.{◌≡◌, sym, subst, ℕ, ◌≤◌, arith}
use Rattle.heap_layout.specs.Zones.{block_at, block_start}
use Rattle.object_model.specs.Objects.{size_of, blocks_for}
use Rattle.sessions.specs.Fitting.{IsFreeRun}
use Rattle.sessions.proofs.PlacedLargeObjects as placing
use Rattle.sessions.proofs.placement_laws.large_objects_are_placed.Goals as goal

pub returns-clause-place : goal.returns-clause-place
returns-clause-place c s k refs nums n room lowest =
    let block : block_at s.blocks (block_start s.blocks k) ≡ k = omega arith in
    record {
      start = omega arith;
      run = subst (λ (q : ℕ). IsFreeRun s q (blocks_for (size_of refs nums))) (sym block) (record { inside = room.inside; free = room.free });
      lowest = λ j is. let least : k ≤ j = lowest j is in omega arith;
    }

pub returns-clause-object : goal.returns-clause-object
returns-clause-object c s new k refs nums n order room writes = placing.placed-adds s writes.between new k refs nums n order room writes.run writes.object

pub returns-clause-run : goal.returns-clause-run
returns-clause-run c s new k refs nums n order room writes = placing.placed-uses s writes.between new k refs nums n order room writes.run writes.object

pub returns-clause-changes : goal.returns-clause-changes
returns-clause-changes c s new k refs nums n order room writes = placing.placed-changes s writes.between new k refs nums n order room writes.run writes.object
