use Rattle.std.proofs.Common.{subst, sym, [], List, ℕ}
use Rattle.atomic_table.specs.Table.{opening}
use Rattle.trace_words.proofs.TraceEnds.{begins}
use Rattle.trace_words.specs.Rule.{setup_in, KeepsTrace}
use Rattle.trace_words.specs.Shares.{first_share}
use Rattle.trace_words.proofs.ends.share_row.Goals as goal

pub share-requires : goal.share-requires
share-requires c = subst (λ (ws : List ℕ). KeepsTrace (setup_in c.args.key.now) (opening ws [] (first_share c.args.key.now.run c.args.key.now.workers))) (sym c.requires.words) (begins (setup_in c.args.key.now) c.args.key.now.run c.requires.ready c.requires.logged)
