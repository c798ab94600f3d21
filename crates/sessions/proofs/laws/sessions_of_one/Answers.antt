use Rattle.sessions.proofs.Histories as histories
use Rattle.sessions.proofs.laws.sessions_of_one.Goals as goal

pub returns-clause-replies : goal.returns-clause-replies
returns-clause-replies c = histories.replies-alone

pub returns-clause-same : goal.returns-clause-same
returns-clause-same c = histories.replies-same
