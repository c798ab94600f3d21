use Rattle.programs.proofs.AccessLemmas as accesses
use Rattle.programs.proofs.accesses.new_objects.Goals as goal

pub returns-clause-reply : goal.returns-clause-reply
returns-clause-reply c = accesses.made-reply

pub returns-clause-register : goal.returns-clause-register
returns-clause-register c = accesses.made-register

pub returns-clause-numbers : goal.returns-clause-numbers
returns-clause-numbers c = accesses.made-zero

pub returns-clause-no_number : goal.returns-clause-no_number
returns-clause-no_number c = accesses.made-no-number

pub returns-clause-fields : goal.returns-clause-fields
returns-clause-fields c = accesses.made-nil

pub returns-clause-no_field : goal.returns-clause-no_field
returns-clause-no_field c = accesses.made-no-field
