use Rattle.managed_heap.proofs.spot.note_placed.Goals as goal

pub returns-clause-large : goal.returns-clause-large
returns-clause-large c = λ some fill old a refs nums fills are placed. c.placed_run.ensures.notes fill old a refs nums c.args.spot.now.block fills are placed

pub returns-clause-large_flags : goal.returns-clause-large_flags
returns-clause-large_flags c = λ some rules old a refs nums cover placed base. c.placed_run.ensures.flags rules old a refs nums c.args.spot.now.block cover placed base
