-- One part after another.
use Rattle.std.proofs.Common.{◌≡◌, ◌+◌, ◌<◌, [], ◌∷◌, ◌++◌, length, arith}
use Rattle.std.specs.Prelude.{slice_set}
use Rattle.managed_heap.specs.Worlds.{mutator_number_at}
use Rattle.block_regions.proofs.Elements.{read-some}
use Rattle.mm_runtime.proofs.PartsInTurn.{parts-none, parts-more, parts-ends}
use Rattle.mm_runtime.proofs.epoch.run_parts.Goals as goal

pub loop-m-init : goal.loop-m-init
loop-m-init g c = record {
  runs = parts-ends c.args.world.now c.args.world.now c.args.progress.now.items c.args.progress.now.items 0 [] c.in_ok-ends.ends.items c.in_ok-ends.ensures.items
      (parts-none c.args.world.now c.args.progress.now.items c.requires.open c.requires.calm c.requires.each c.requires.births);
  room = let capacity = c.in_ok-ends.ensures.capacity in let items = c.args.progress.now.ok.0 in let many = c.len.ensures in omega arith;
}

pub run_part-requires-clause-progress : goal.run_part-requires-clause-progress
run_part-requires-clause-progress g c κs within =
    c.loop-m.invariant.runs.each c.loop-m.m c.index_mut.result.now
    (read-some c.loop-m.progress.items c.loop-m.m c.index_mut.result.now
    (let test = c.loop-m-test.true in let many = c.len-m-end.ensures in let items = c.args.progress.now.ok.0 in let count = c.loop-m.invariant.runs.count in omega arith)
    c.index_mut.ensures.value)

pub run_part-requires-clause-births : goal.run_part-requires-clause-births
run_part-requires-clause-births g c κs within =
    c.loop-m.invariant.runs.births c.loop-m.m c.index_mut.result.now
    (read-some c.loop-m.progress.items c.loop-m.m c.index_mut.result.now
    (let test = c.loop-m-test.true in let many = c.len-m-end.ensures in let items = c.args.progress.now.ok.0 in let count = c.loop-m.invariant.runs.count in omega arith)
    c.index_mut.ensures.value)

pub loop-m-preserved : goal.loop-m-preserved
loop-m-preserved g c =
    let runs = c.loop-m.invariant.runs in
    let below : c.loop-m.m < length c.loop-m.progress.items =
    (let test = c.loop-m-test.true in let many = c.len-m-end.ensures in let items = c.args.progress.now.ok.0 in let count = c.loop-m.invariant.runs.count in omega arith) in
    let there = read-some c.loop-m.progress.items c.loop-m.m c.index_mut.result.now below c.index_mut.ensures.value in
    let part = c.run_part.ensures in
    let number : mutator_number_at c.args.world.now c.loop-m.m ≡ c.loop-m.m + 1 =
    c.requires.numbers c.loop-m.m (let places = c.requires.places in let count = c.loop-m.invariant.runs.count in omega arith) in record {
      runs = parts-ends c.args.world.now c.run_part.new.world c.args.progress.now.items (slice_set c.loop-m.progress.items c.loop-m.m c.run_part.new.progress) (c.loop-m.m + 1)
          (c.loop-m.ends.items ++ c.run_part.result ∷ []) c.push_reserved.new.self.items c.push_reserved.ensures.items
          (parts-more c.args.world.now c.loop-m.world c.run_part.new.world c.args.progress.now.items c.loop-m.progress.items c.loop-m.m c.loop-m.ends.items c.index_mut.result.now
          c.run_part.new.progress c.run_part.result runs there number part.runs part.progress part.births part.end);
      room = let room = c.loop-m.invariant.room in let capacity = c.push_reserved.ensures.capacity in omega arith;
    }
