use Rattle.programs.proofs.AccessLemmas as accesses
use Rattle.programs.proofs.ListLemmas as lists
use Rattle.programs.proofs.lists.pops_and_pushes.Goals as goal

pub returns-clause-push : goal.returns-clause-push
returns-clause-push c = lists.push

pub returns-clause-push_keeps : goal.returns-clause-push_keeps
returns-clause-push_keeps c = lists.push-keeps

pub returns-clause-push_leaves : goal.returns-clause-push_leaves
returns-clause-push_leaves c = lists.push-leaves

pub returns-clause-pop : goal.returns-clause-pop
returns-clause-pop c = lists.pop

pub returns-clause-popped : goal.returns-clause-popped
returns-clause-popped c = lists.popped

pub returns-clause-pop_keeps : goal.returns-clause-pop_keeps
returns-clause-pop_keeps c = lists.pop-keeps

pub returns-clause-pop_leaves : goal.returns-clause-pop_leaves
returns-clause-pop_leaves c = lists.pop-leaves

pub returns-clause-empty : goal.returns-clause-empty
returns-clause-empty c h m s list = accesses.read-nil h m s 0 list

pub returns-clause-push_numbers : goal.returns-clause-push_numbers
returns-clause-push_numbers c = lists.push-numbers

pub returns-clause-pop_numbers : goal.returns-clause-pop_numbers
returns-clause-pop_numbers c = lists.pop-numbers

pub returns-clause-pop_empty : goal.returns-clause-pop_empty
returns-clause-pop_empty c = lists.pop-empty
