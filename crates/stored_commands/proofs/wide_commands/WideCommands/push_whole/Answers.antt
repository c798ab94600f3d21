use Rattle.std.proofs.Common.{◌≡◌, arith, length}
use Rattle.stored_commands.proofs.Beside.{long-pushed}
use Rattle.stored_commands.proofs.wide_commands.WideCommands.push_whole.Goals as goal

pub returns-clause-added : goal.returns-clause-added
returns-clause-added c =
    let at : c.in-Ok.index ≡ length c.self.inside.others.items = grind arith in
    rw (c.in_ok-push-2.ensures.items, c.in_ok-push.ensures.items, ← c.self.view_is, at) (long-pushed c.self.inside.others.items c.args.command c.self.inside.forms.items c.self.invariant)
