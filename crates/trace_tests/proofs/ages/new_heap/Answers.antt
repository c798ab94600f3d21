use Rattle.std.proofs.Common.{sym, subst}
use Rattle.object_model.specs.Ages.{RemembersYoung}
use Rattle.object_model.proofs.Zeros.{remembers}
use Rattle.trace_tests.proofs.ages.new_heap.Goals as goal

pub remembering-requires : goal.remembering-requires
remembering-requires c = record { remembers = subst RemembersYoung (sym c.in_ok-heap.ensures) (remembers c.in_ok-new.field-0.blocks) }
