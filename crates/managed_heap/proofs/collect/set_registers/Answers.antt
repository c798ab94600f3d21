use Rattle.std.proofs.Common.{◌≡◌, ◌*◌, ◌<◌, arith, length}
use Rattle.block_regions.proofs.Elements.{read-some}
use Rattle.managed_heap.proofs.SetRegisters as registers
use Rattle.managed_heap.proofs.collect.set_registers.Goals as goal

pub loop-m-init : goal.loop-m-init
loop-m-init c = registers.sets-none c.args.roots.now c.args.mutators.now.items

pub loop-m-preserved : goal.loop-m-preserved
loop-m-preserved c =
    let many : length c.loop-m.mutators.items ≡ length c.args.mutators.now.items = c.loop-m.invariant.count in
    let end : c.len-m-end.result ≡ length c.args.mutators.now.items = omega (arith, c.len-m-end.ensures, c.args.mutators.now.ok.0) in
    let below : c.loop-m.m < length c.loop-m.mutators.items = omega arith in
    registers.sets-more c.loop-m.m c.args.roots.now c.args.mutators.now.items c.loop-m.mutators.items c.index_mut.result.now c.copy_from_slice.new.self c.loop-m.invariant
    (read-some c.loop-m.mutators.items c.loop-m.m c.index_mut.result.now below c.index_mut.ensures.value)
    (registers.share-from c.args.roots.now c.copy_from_slice.new.self c.loop-m.m (c.loop-m.m * 16) (omega arith) c.copy_from_slice.ensures.after)

pub returns-clause-roots : goal.returns-clause-roots
returns-clause-roots c =
    let end : c.len-m-end.result ≡ length c.args.mutators.now.items = omega (arith, c.len-m-end.ensures, c.args.mutators.now.ok.0) in
    let all : c.loop-m.m ≡ length c.args.mutators.now.items = omega arith in
    (registers.sets-all c.loop-m.m c.args.roots.now c.args.mutators.now.items c.loop-m.mutators.items c.loop-m.invariant all c.requires).0

pub returns-clause-registers : goal.returns-clause-registers
returns-clause-registers c =
    let end : c.len-m-end.result ≡ length c.args.mutators.now.items = omega (arith, c.len-m-end.ensures, c.args.mutators.now.ok.0) in
    let all : c.loop-m.m ≡ length c.args.mutators.now.items = omega arith in
    (registers.sets-all c.loop-m.m c.args.roots.now c.args.mutators.now.items c.loop-m.mutators.items c.loop-m.invariant all c.requires).1
