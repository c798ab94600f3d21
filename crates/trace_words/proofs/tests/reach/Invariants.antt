use Rattle.trace_core.specs.Machine.{ByGlobal}
use Rattle.trace_core.specs.WorkedTraces.{shared_setup}
use Rattle.trace_words.proofs.tests.reach.Given as goal

abbrev pub ghosts-look_at_bit : goal.ghosts-look_at_bit
ghosts-look_at_bit a = record { setup = shared_setup; cause = ByGlobal 0; object = 806; target = 806; index = 4; worker = 1 }

abbrev pub ghosts-look_at_claim : goal.ghosts-look_at_claim
ghosts-look_at_claim a = record { setup = shared_setup; cause = ByGlobal 0; object = 806; target = 806; index = 4; worker = 1 }

abbrev pub ghosts-claim_in_place : goal.ghosts-claim_in_place
ghosts-claim_in_place a = record { setup = shared_setup; cause = ByGlobal 0; object = 806; target = 806; index = 4; worker = 1 }

abbrev pub ghosts-set_unlog_in_place : goal.ghosts-set_unlog_in_place
ghosts-set_unlog_in_place a = record { setup = shared_setup; cause = ByGlobal 0; object = 806; target = 806; index = 4; worker = 1 }
