-- Both styles have the clauses of a bucket.
use Rattle.pools.proofs.pool.Pool.run_bucket.Goals as goal

pub run_plain_split-requires-clause-some : goal.run_plain_split-requires-clause-some
run_plain_split-requires-clause-some g c κs within = c.requires.some

pub run_plain_split-requires-clause-bucket : goal.run_plain_split-requires-clause-bucket
run_plain_split-requires-clause-bucket g c κs within = c.requires.bucket

pub run_plain_split-requires-clause-items : goal.run_plain_split-requires-clause-items
run_plain_split-requires-clause-items g c κs within = c.requires.items

pub run_plain_split-requires-clause-takes : goal.run_plain_split-requires-clause-takes
run_plain_split-requires-clause-takes g c κs within = c.requires.takes

pub run_plain_split-requires-clause-awaits : goal.run_plain_split-requires-clause-awaits
run_plain_split-requires-clause-awaits g c κs within = c.requires.awaits

pub run_steal-requires-clause-some : goal.run_steal-requires-clause-some
run_steal-requires-clause-some g c κs within = c.requires.some

pub run_steal-requires-clause-bucket : goal.run_steal-requires-clause-bucket
run_steal-requires-clause-bucket g c κs within = c.requires.bucket

pub run_steal-requires-clause-items : goal.run_steal-requires-clause-items
run_steal-requires-clause-items g c κs within = c.requires.items

pub run_steal-requires-clause-takes : goal.run_steal-requires-clause-takes
run_steal-requires-clause-takes g c κs within = c.requires.takes

pub run_steal-requires-clause-awaits : goal.run_steal-requires-clause-awaits
run_steal-requires-clause-awaits g c κs within = c.requires.awaits

pub returns-in-Plain-clause-home : goal.returns-in-Plain-clause-home
returns-in-Plain-clause-home g c = c.run_plain_split.ensures.home

pub returns-in-Plain-clause-items : goal.returns-in-Plain-clause-items
returns-in-Plain-clause-items g c = c.run_plain_split.ensures.items

pub returns-in-Plain-clause-takes : goal.returns-in-Plain-clause-takes
returns-in-Plain-clause-takes g c = c.run_plain_split.ensures.takes

pub returns-in-Plain-clause-once : goal.returns-in-Plain-clause-once
returns-in-Plain-clause-once g c = c.run_plain_split.ensures.once

pub returns-in-Plain-clause-awaits : goal.returns-in-Plain-clause-awaits
returns-in-Plain-clause-awaits g c = c.run_plain_split.ensures.awaits

pub returns-in-Steal-clause-home : goal.returns-in-Steal-clause-home
returns-in-Steal-clause-home g c = c.run_steal.ensures.home

pub returns-in-Steal-clause-items : goal.returns-in-Steal-clause-items
returns-in-Steal-clause-items g c = c.run_steal.ensures.items

pub returns-in-Steal-clause-takes : goal.returns-in-Steal-clause-takes
returns-in-Steal-clause-takes g c = c.run_steal.ensures.takes

pub returns-in-Steal-clause-once : goal.returns-in-Steal-clause-once
returns-in-Steal-clause-once g c = c.run_steal.ensures.once

pub returns-in-Steal-clause-awaits : goal.returns-in-Steal-clause-awaits
returns-in-Steal-clause-awaits g c = c.run_steal.ensures.awaits
