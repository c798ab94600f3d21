use Rattle.stored_commands.proofs.made_commands.far_state.Goals as goal

pub returns-then-k-stretch : goal.returns-then-k-stretch
returns-then-k-stretch c = c.state_after.ensures c.args.stretch.now.count c.from.ensures

pub returns : goal.returns
returns c = c.state_after-2.ensures c.args.stretch.now.count c.requires.state
