use Rattle.large_space.proofs.PlacedRuns.{makes-run}
use Rattle.large_space.proofs.placing.place_large.Goals as goal

pub returns : goal.returns
returns g c = λ number base. makes-run (g.W.Words.words c.args.words.now) (g.W.Words.words c.make_head.new.words) (g.W.Words.words c.make_tails.new.words) c.args.layout.now c.args.block c.args.count number base
    c.requires.least c.make_head.ensures c.make_tails.ensures
