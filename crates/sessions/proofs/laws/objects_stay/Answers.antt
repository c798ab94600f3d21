use Rattle.std.proofs.Common.{inl, inr}
use Rattle.sessions.proofs.CollectionLaws.{stays}
use Rattle.sessions.proofs.laws.objects_stay.Goals as goal

pub returns-clause-pinned : goal.returns-clause-pinned
returns-clause-pinned c rules workers kind old new roots after k a kept pinned = stays rules workers kind old new roots after k a kept (inr (inr (inl pinned)))

pub returns-clause-large : goal.returns-clause-large
returns-clause-large c rules workers kind old new roots after k a kept large = stays rules workers kind old new roots after k a kept (inr (inr (inr large)))

pub returns-clause-elsewhere : goal.returns-clause-elsewhere
returns-clause-elsewhere c rules workers kind old new roots after k a kept elsewhere = stays rules workers kind old new roots after k a kept (inr (inl elsewhere))

pub returns-clause-unmoved : goal.returns-clause-unmoved
returns-clause-unmoved c rules workers kind old new roots after k a kept still = stays rules workers kind old new roots after k a kept (inl still)
