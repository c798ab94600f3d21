-- All wait, and each `meet` gets its reply, or some mutator does not wait.
use Rattle.std.proofs.Common.{refl}
use Rattle.std.proofs.lemmas.Bool.{false≢true}
use Rattle.mm_runtime.proofs.MeetStops as stops
use Rattle.mm_runtime.proofs.manager.Manager.meet.Goals as goal

pub returns-then-all_wait-clause-order : goal.returns-then-all_wait-clause-order
returns-then-all_wait-clause-order g c = stops.in-order g.P.Plan.rules c.args.self.now c.reply_to_meets.new.progress c.reply_to_meets.ensures c.requires.stop

pub returns-then-all_wait-clause-meets : goal.returns-then-all_wait-clause-meets
returns-then-all_wait-clause-meets g c =
    stops.meets g.P.Plan.rules c.args.self.now c.reply_to_meets.new.progress c.reply_to_meets.ensures (c.if-all_wait.ensures.0 refl)

pub returns-then-all_wait-clause-replied : goal.returns-then-all_wait-clause-replied
returns-then-all_wait-clause-replied g c = stops.replied-kept g.P.Plan.rules c.args.self.now c.reply_to_meets.new.progress c.reply_to_meets.ensures c.requires.stop

pub returns-else-all_wait-clause-meets : goal.returns-else-all_wait-clause-meets
returns-else-all_wait-clause-meets g c t now at =
    stops.no-meet g.P.Plan.rules c.args.self.now t now at (λ all. false≢true (c.if-all_wait.ensures.1 all))
