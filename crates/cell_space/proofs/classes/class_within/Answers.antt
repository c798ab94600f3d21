use Rattle.std.proofs.Common.{◌≡◌, ◌-◌, max, arith}
use Rattle.cell_space.proofs.ClassTable as table
use Rattle.cell_space.proofs.classes.class_within.Goals as goal

pub overflow_sub-second : goal.overflow_sub-second
overflow_sub-second c = table.high c.args.size (c.max-last.result - 1) c.requires (let e : c.max-last.result - 1 ≡ max c.args.size 4 - 1 = omega arith in e)

pub overflow_sub-result : goal.overflow_sub-result
overflow_sub-result c = table.least c.args.size (c.max-last.result - 1) c.requires (let e : c.max-last.result - 1 ≡ max c.args.size 4 - 1 = omega arith in e)

pub returns-clause-class : goal.returns-clause-class
returns-clause-class c = table.class-is c.args.size (c.max-last.result - 1) c.requires (let e : c.max-last.result - 1 ≡ max c.args.size 4 - 1 = omega arith in e)

pub returns-clause-most : goal.returns-clause-most
returns-clause-most c = table.class-most c.args.size (c.max-last.result - 1) c.requires (let e : c.max-last.result - 1 ≡ max c.args.size 4 - 1 = omega arith in e)
