use Rattle.programs.proofs.ListLemmas as lists
use Rattle.programs.proofs.lists.elements_are_linked.Goals as goal

pub returns-clause-linked : goal.returns-clause-linked
returns-clause-linked c = lists.link

pub returns-clause-rest : goal.returns-clause-rest
returns-clause-rest c = lists.link-rest
