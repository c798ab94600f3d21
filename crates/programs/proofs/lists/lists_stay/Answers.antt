use Rattle.programs.proofs.ListLemmas as lists
use Rattle.programs.proofs.lists.lists_stay.Goals as goal

pub returns-clause-one : goal.returns-clause-one
returns-clause-one c = lists.determined

pub returns-clause-elsewhere : goal.returns-clause-elsewhere
returns-clause-elsewhere c = lists.elsewhere

pub returns-clause-unchanged : goal.returns-clause-unchanged
returns-clause-unchanged c = lists.unchanged

pub returns-clause-new : goal.returns-clause-new
returns-clause-new c = lists.new-keeps

pub returns-clause-held : goal.returns-clause-held
returns-clause-held c = lists.held
