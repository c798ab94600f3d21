use Rattle.std.proofs.Common.{sym, subst, map}
use Rattle.object_model.specs.Objects.{HeapState}
use Rattle.heap_users.specs.Users.{mutator_state}
use Rattle.heap_users.specs.Beginnings.{MayUse}
use Rattle.object_model.specs.Ages.{RemembersYoung}
use Rattle.object_model.proofs.Zeros.{remembers}
use Rattle.racing_tests.proofs.worlds.plain_world.Goals as goal

pub begin-requires-clause-users : goal.begin-requires-clause-users
begin-requires-clause-users g c =
    let Q : HeapState → Type 0 = λ h. MayUse h (map mutator_state c.in_ok-new_mutators.field-0.items) in
    let layout = c.in_ok-new.field-0 in
    subst Q (sym c.in_ok-heap.ensures) (c.in_ok-new_mutators.ensures.users layout.blocks layout.least layout.most)

pub begin-requires-clause-remembers : goal.begin-requires-clause-remembers
begin-requires-clause-remembers g c = λ young. subst RemembersYoung (sym c.in_ok-heap.ensures) (remembers c.in_ok-new.field-0.blocks)
