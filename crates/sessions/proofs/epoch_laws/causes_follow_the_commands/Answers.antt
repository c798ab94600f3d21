use Rattle.std.proofs.Common.{refl, ap, inl, inr}
use Rattle.sessions.specs.Sessions.{is_at_gc, is_at_need}
use Rattle.sessions.proofs.EpochParts as parts
use Rattle.sessions.proofs.epoch_laws.causes_follow_the_commands.Goals as goal

pub returns-clause-gc : goal.returns-clause-gc
returns-clause-gc c t before now ends m part is = parts.ends-gc t before now ends m part is

pub returns-clause-meet : goal.returns-clause-meet
returns-clause-meet c t before now ends m part is = parts.ends-meet t before now ends m part is

pub returns-clause-end : goal.returns-clause-end
returns-clause-end c t before now ends m part is = parts.ends-end t before now ends m part is

pub returns-clause-need : goal.returns-clause-need
returns-clause-need c t before now ends m d refs nums part is = parts.ends-new t before now ends m part is d refs nums

pub returns-clause-others : goal.returns-clause-others
returns-clause-others c t before now ends m command part is = parts.ends-other t before now ends m part is command

pub returns-clause-raised : goal.returns-clause-raised
returns-clause-raised c t before now ends m by part is = parts.ends-raised t before now ends m part is by

pub returns-clause-raises : goal.returns-clause-raises
returns-clause-raises c t now ends m by some is (inl gc) = (some, is, inl (ap is_at_gc gc))
returns-clause-raises c t now ends m by some is (inr need) = (some, is, inr (ap is_at_need need))

pub returns-clause-at_gc : goal.returns-clause-at_gc
returns-clause-at_gc c = refl

pub returns-clause-at_need : goal.returns-clause-at_need
returns-clause-at_need c = refl
