use Rattle.programs.proofs.ListLemmas as lists
use Rattle.programs.proofs.lists.lists_are_passed_on.Goals as goal

pub returns-clause-share : goal.returns-clause-share
returns-clause-share c = lists.share

pub returns-clause-load : goal.returns-clause-load
returns-clause-load c = lists.load

pub returns-clause-copy : goal.returns-clause-copy
returns-clause-copy c = lists.copy
